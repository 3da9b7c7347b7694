-- `clear_field` meets its contract. The loop's invariant: the field of the first v nodes is 0.
use Rattle.core_words.specs.Clearing.{Cleared}
use mathlib.Core.List.{[], ◌∷◌}
use Prim.Native.Nat.{◌≤◌}
use Rattle.core_words.proofs.clear_field.Given as goal

abbrev pub invariant-loop-v : goal.invariant-loop-v
invariant-loop-v l = (l.v ≤ l.h) × Cleared (l.k ∷ []) l.n l.v l.initial.work l.work
