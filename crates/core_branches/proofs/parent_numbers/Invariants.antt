-- `parent_numbers` meets its contract. The loop's invariant: the first x numbers have theirs.
use Prim.Native.Nat.{◌≤◌}
use Rattle.core_branches.specs.Ways.{ParentLoop}
use Rattle.core_branches.proofs.parent_numbers.Given as goal

abbrev pub invariant-loop-x : goal.invariant-loop-x
invariant-loop-x l = (l.x ≤ l.h) × ParentLoop l.n l.initial.work l.x l.work
