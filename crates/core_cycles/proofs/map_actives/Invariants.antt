-- `map_actives` meets its contract. The loop's invariant: the first i active nodes have their numbers.
use Rattle.core_cycles.specs.Writing.{Mapping}
use Prim.Native.Nat.{◌≤◌}
use Rattle.core_cycles.proofs.map_actives.Given as goal

abbrev pub invariant-loop-i : goal.invariant-loop-i
invariant-loop-i l = (l.i ≤ l.k) × Mapping l.n l.initial.work l.i l.work
