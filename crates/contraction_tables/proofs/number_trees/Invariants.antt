-- `number_trees` meets its contract. The loop's invariant: the roots of the first j entries are entered, and the numbers of their trees are written.
use Rattle.contraction_tables.proofs.TreeLaws.{Numbering}
use Rattle.contraction_tables.proofs.number_trees.Given as goal

abbrev pub invariant-loop-j : goal.invariant-loop-j
invariant-loop-j l = Numbering l.n l.k l.active l.initial.work l.initial.pieces l.j l.work l.pieces l.trees
