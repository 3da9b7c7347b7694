-- `name_edges` meets its contract. The loop's invariant: the first j edges have their names.
use Prim.Native.Nat.{◌≤◌}
use Rattle.core_names.specs.EdgeNames.{NamingEdges}
use Rattle.core_names.proofs.name_edges.Given as goal

abbrev pub invariant-loop-j : goal.invariant-loop-j
invariant-loop-j l = (l.j ≤ l.e) × NamingEdges l.n l.initial.work l.j l.work
