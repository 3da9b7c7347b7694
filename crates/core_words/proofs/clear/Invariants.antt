-- `clear` meets its contract. The loop's invariant: the first i words are 0.
use Prim.Native.Nat.{◌≤◌}
use mathlib.Core.Path.{◌≡◌}
use Rattle.theory_graph.specs.Lists.{over, table}
use Rattle.core_words.proofs.clear.Given as goal

abbrev pub invariant-loop-i : goal.invariant-loop-i
invariant-loop-i l = (l.i ≤ l.count) × (l.work ≡ over (table (λ _. 0) 0 l.i) l.initial.work)
