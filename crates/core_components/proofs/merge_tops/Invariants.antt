-- `merge_tops` meets its contract. The loop's invariant: merging from the first a and b to the present ones leaves a and b to be merged;
-- the later of the two comes earlier at each turn.
use Prim.Native.Nat.{◌+◌}
use Rattle.core_components.proofs.PathLaws.{PathLoop}
use Rattle.core_words.specs.Fields.{POSITION, node}
use Rattle.core_components.proofs.merge_tops.Given as goal

abbrev pub invariant-loop-a : goal.invariant-loop-a
invariant-loop-a l = PathLoop l.n l.a-2 l.b-2 l.initial.work l.a l.b l.work

abbrev pub decreases-loop-a : goal.decreases-loop-a
decreases-loop-a l = node POSITION l.initial.work l.a + node POSITION l.initial.work l.b
