-- `link_edges` meets its contract. The loop's invariant: the first e edges are linked.
use Prim.Native.Nat.{◌*◌, ◌≤◌}
use Rattle.core_forest.specs.AdjacencyLists.{Linking}
use Rattle.core_forest.proofs.link_edges.Given as goal

abbrev pub invariant-loop-e : goal.invariant-loop-e
invariant-loop-e l = (l.e ≤ l.m) × Linking l.n l.m l.initial.work l.work (2 * l.e)
