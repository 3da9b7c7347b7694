-- `closed` meets its contract: past the last segment nothing changes, else the bit of s is 0 and all others are as they were.
use Rattle.call_open_set.proofs.OpenSetLaws.{set_at_segment, set_past}
use Rattle.call_open_set.proofs.closed.Goals as goal

pub returns-then-s-ge8192 : goal.returns-then-s-ge8192
returns-then-s-ge8192 c = set_past _ _ 0 c.well_formed.0.1.0.1 c.if-s-ge8192.true

pub returns : goal.returns
returns c = set_at_segment _ _ _ 0 c.well_formed.0.1.0.1 c.if-s-ge8192.false c.without_bit.ensures
