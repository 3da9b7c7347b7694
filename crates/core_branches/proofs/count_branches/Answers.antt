use Prim.Native.Nat.{◌-◌}
use native.Mathlib.Omega.{arith}
use Rattle.core_branches.proofs.BranchCountLaws.{counting_down, counting_more}
use Rattle.core_branches.proofs.count_branches.Goals as goal

pub loop-i-preserved : goal.loop-i-preserved
loop-i-preserved c =
    counting_more (c.loop-i.i - 1) c.requires (counting_down c.loop-i-test.true c.loop-i.invariant)
    (omega arith) c.get-v.ensures.0 c.report_branch.ensures
