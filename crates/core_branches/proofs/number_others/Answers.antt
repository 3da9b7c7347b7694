use native.Mathlib.Omega.{arith}
use Rattle.core_branches.proofs.NumberLaws.{others_more}
use Rattle.core_branches.proofs.number_others.Goals as goal

pub loop-v-preserved : goal.loop-v-preserved
loop-v-preserved c =
    (omega arith, others_more c.requires c.loop-v.invariant.1 (omega arith) c.number_other-r.ensures)
