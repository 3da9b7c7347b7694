use native.Mathlib.Omega.{arith}
use Rattle.core_branches.proofs.NumberLaws.{actives_more, actives_none}
use Rattle.core_branches.proofs.number_actives.Goals as goal

pub loop-i-init : goal.loop-i-init
loop-i-init c = (omega arith, actives_none c.requires)

pub loop-i-preserved : goal.loop-i-preserved
loop-i-preserved c =
    (omega arith, actives_more c.requires c.loop-i.invariant.1 (omega arith) c.get-v.ensures.0 c.number_active-h.ensures)
