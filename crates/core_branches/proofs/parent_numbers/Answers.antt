use native.Mathlib.Omega.{arith}
use Rattle.core_branches.proofs.WayLaws.{parents_more}
use Rattle.core_branches.proofs.parent_numbers.Goals as goal

pub loop-x-preserved : goal.loop-x-preserved
loop-x-preserved c =
    (omega arith, parents_more c.requires c.loop-x.invariant.1 (omega arith) c.parent_number.ensures)
