-- `fill_map` meets its contract. The loop's invariant: the first i numbers are written.
use Prim.Native.Nat.{◌≤◌}
use mathlib.Core.Path.{◌≡◌}
use lib.ListN.{get_or}
use Rattle.theory_graph.specs.Lists.{over, table}
use Rattle.core_words.specs.Fields.{MAPPED, node}
use Rattle.contraction_tables.proofs.fill_map.Given as goal

abbrev pub invariant-loop-i : goal.invariant-loop-i
invariant-loop-i l = (l.i ≤ l.k) × (l.map ≡ over (table (λ i. node MAPPED l.work (get_or l.active i 0)) 0 l.i) l.initial.map)
