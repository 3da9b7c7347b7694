-- `put_edges` meets its contract. The loop's invariant: the first s edges are stored, with their names.
use Prim.Native.Nat.{◌≤◌}
use Rattle.contraction_tables.specs.Transfer.{Edges}
use Rattle.contraction_tables.proofs.put_edges.Given as goal

abbrev pub invariant-loop-s : goal.invariant-loop-s
invariant-loop-s l = (l.s ≤ l.m) × Edges l.n l.m l.from l.to l.names l.initial.work l.work l.s
