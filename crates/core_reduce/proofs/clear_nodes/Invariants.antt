-- `clear_nodes` meets its contract. The loop's invariant: the first v nodes are cleared.
use Rattle.core_words.specs.Clearing.{Cleared}
use Rattle.core_reduce.specs.Core.{start_fields}
use Prim.Native.Nat.{◌≤◌}
use Rattle.core_reduce.proofs.clear_nodes.Given as goal

abbrev pub invariant-loop-v : goal.invariant-loop-v
invariant-loop-v l = (l.v ≤ l.n) × Cleared start_fields l.n l.v l.initial.work l.work
