-- `merge_edges` meets its contract. The loop's invariant: the first e edges are merged.
use Prim.Native.Nat.{◌≤◌}
use Rattle.core_blocks.specs.Classes.{EdgesMerged}
use Rattle.core_blocks.proofs.merge_edges.Given as goal

abbrev pub invariant-loop-e : goal.invariant-loop-e
invariant-loop-e l = (l.e ≤ l.m) × EdgesMerged l.n l.initial.work l.e l.work
