-- The word of what is read is the one that stands there. Rattle would find this by itself; it stands here so that a wrong reading is refused as such.
-- Assumes nothing.
use Rattle.std.proofs.Common.{arith, ◌∙◌}
use Rattle.core_words.proofs.LinkLaws.{link_less}
use Rattle.core_words.proofs.link.Goals as goal

pub returns : goal.returns
returns c =
    let e = link_less _ c.checked_sub.ensures in
    (e ∙ c.get.ensures.0, omega (arith, e, c.get.ensures.1))
