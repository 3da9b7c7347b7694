-- `edge_list::write_rows` meets its contract. The loop's invariant: the edges with a smaller end below s are written.
use Prim.Native.Nat.{◌+◌, ◌≤◌}
use Rattle.core_reduce.specs.EdgeList.{Writing}
use Rattle.core_reduce.proofs.edge_list.write_rows.Given as goal

abbrev pub invariant-loop-s : goal.invariant-loop-s
invariant-loop-s l = (l.s ≤ l.h) × Writing l.n l.h l.initial.work l.work l.m l.s (l.s + 1)
