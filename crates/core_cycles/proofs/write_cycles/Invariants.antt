-- `write_cycles` meets its contract. The loop's invariant: the edges of the first i nodes are written.
use Prim.Native.Nat.{◌≤◌}
use Rattle.core_cycles.specs.Writing.{Writing}
use Rattle.core_cycles.proofs.write_cycles.Given as goal

abbrev pub invariant-loop-i : goal.invariant-loop-i
invariant-loop-i l = (l.i ≤ l.seen) × Writing l.n l.m l.i l.initial.work l.work l.e
