use native.Mathlib.Omega.{arith}
use Rattle.core_forest.proofs.SearchLaws.{grown_less}
use Rattle.core_forest.proofs.grow_tree.Goals as goal

pub loop-done-smaller : goal.loop-done-smaller
loop-done-smaller c =
    omega (arith, grown_less c.loop-done.invariant)
