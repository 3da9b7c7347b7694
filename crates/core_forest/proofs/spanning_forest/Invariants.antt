-- `spanning_forest` meets its contract. The loop's invariant: the first j active nodes are seen.
use Prim.Native.Nat.{◌≤◌}
use Rattle.core_forest.specs.Search.{BetweenTrees, SearchKeeps}
use Rattle.core_forest.proofs.spanning_forest.Given as goal

abbrev pub invariant-loop-j : goal.invariant-loop-j
invariant-loop-j l = (l.j ≤ l.k) × SearchKeeps l.n l.initial.work l.work × BetweenTrees l.n l.m l.k l.work l.seen l.j
