-- `merge_path` meets its contract. The loop's invariant: what is left of merging from the first a and b is merging from the present ones; the later comes earlier at each turn.
use Prim.Native.Nat.{◌+◌}
use Rattle.core_blocks.proofs.PathLaws.{PathLoop}
use Rattle.core_words.specs.Fields.{POSITION, node}
use Rattle.core_blocks.proofs.merge_path.Given as goal

abbrev pub invariant-loop-a : goal.invariant-loop-a
invariant-loop-a l = PathLoop l.n l.initial.work l.s l.a-2 l.b-2 l.a l.b l.work

abbrev pub decreases-loop-a : goal.decreases-loop-a
decreases-loop-a l = node POSITION l.initial.work l.a + node POSITION l.initial.work l.b
