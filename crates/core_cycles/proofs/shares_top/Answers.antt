-- `shares_top` meets its contract. The answer stands here so that a wrong test of the classes below is refused as false.
use native.Mathlib.Omega.{arith}
use Rattle.core_cycles.proofs.NodeLaws.{shares_members}
use Rattle.core_words.proofs.LinkLaws.{link_none}
use Rattle.core_cycles.proofs.shares_top.Goals as goal

pub returns : goal.returns
returns c =
    shares_members c.requires.0 _ c.link.ensures.0 (link_none _ c.is_some.ensures c.if-is_some.false) c.get-p.ensures.0
    c.link-2.ensures.0 (link_none _ c.is_some-2.ensures c.if-is_some-2.false) c.get-c.ensures.0 (omega arith) c.get-r.ensures.0
