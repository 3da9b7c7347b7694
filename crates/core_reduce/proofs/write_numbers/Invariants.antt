-- `write_numbers` meets its contract. The loop's invariant: the first i active nodes have their numbers.
use Rattle.core_reduce.specs.Numbers.{WritingNumbers}
use Prim.Native.Nat.{◌≤◌}
use Rattle.core_reduce.proofs.write_numbers.Given as goal

abbrev pub invariant-loop-i : goal.invariant-loop-i
invariant-loop-i l = (l.i ≤ l.k) × WritingNumbers l.n l.initial.work l.i l.work
