-- `compress_all` meets its contract. The loop's invariant: the first i nodes of the order go straight to their tops.
use Prim.Native.Nat.{◌≤◌}
use Rattle.core_components.specs.Tops.{Compressed}
use Rattle.core_components.proofs.compress_all.Given as goal

abbrev pub invariant-loop-i : goal.invariant-loop-i
invariant-loop-i l = (l.i ≤ l.seen) × Compressed l.n l.i l.initial.work l.work
