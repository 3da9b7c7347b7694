-- `contains` meets its contract: a segment is in the set where its bit is 1.
use Rattle.call_open_set.proofs.OpenSetLaws.{bit_open, bit_past}
use Rattle.call_open_set.proofs.contains.Goals as goal

pub returns-then-s-ge8192 : goal.returns-then-s-ge8192
returns-then-s-ge8192 c = bit_past c.args.held.now c.args.s c.requires c.if-s-ge8192.true

pub returns : goal.returns
returns c = bit_open c.args.held.now c.args.s c.requires c.if-s-ge8192.false
