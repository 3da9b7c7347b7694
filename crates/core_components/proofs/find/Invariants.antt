-- `find` meets its contract. The loop's invariant: `v` is reached from the first v, and the tops are the same.
use Rattle.core_components.proofs.FindLaws.{Finding}
use Rattle.core_words.specs.Fields.{POSITION, node}
use Rattle.core_components.proofs.find.Given as goal

abbrev pub invariant-loop-u : goal.invariant-loop-u
invariant-loop-u l = Finding l.n l.v-2 l.initial.work l.v l.u l.work

abbrev pub decreases-loop-u : goal.decreases-loop-u
decreases-loop-u l = node POSITION l.initial.work l.v
