-- `from_table` meets its contract. The loop's invariant: of the segments before s those are in the set whose entry is 1, and no other is.
use Prim.Native.Nat.{◌≤◌}
use Rattle.call_open_set.proofs.OpenSetLaws.{Filled}
use Rattle.call_open_set.proofs.from_table.Given as goal

abbrev pub invariant-loop-s : goal.invariant-loop-s
invariant-loop-s l = (l.s ≤ l.m) × Filled l.start l.s l.held
