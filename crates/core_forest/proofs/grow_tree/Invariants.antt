-- `grow_tree` meets its contract. The loop's invariant: the search of the tree of r goes on, with `done` nodes finished.
use Prim.Native.Nat.{◌-◌}
use Rattle.core_forest.specs.Search.{Grown}
use Rattle.core_forest.proofs.grow_tree.Given as goal

abbrev pub invariant-loop-done : goal.invariant-loop-done
invariant-loop-done l = Grown l.n l.m l.initial.work l.work l.done l.seen l.r

abbrev pub decreases-loop-done : goal.decreases-loop-done
decreases-loop-done l = l.n - l.done
