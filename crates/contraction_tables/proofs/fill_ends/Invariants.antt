-- `fill_ends` meets its contract. The loop's invariant: the first i ends are written.
use mathlib.Core.Path.{◌≡◌}
use Rattle.theory_graph.specs.Lists.{over, table}
use Rattle.core_words.specs.Fields.{node}
use Rattle.contraction_tables.proofs.fill_ends.Given as goal

abbrev pub invariant-loop-i : goal.invariant-loop-i
invariant-loop-i l = l.entry-items ≡ over (table (node l.j l.work) 0 l.i) l.initial.entry-items
