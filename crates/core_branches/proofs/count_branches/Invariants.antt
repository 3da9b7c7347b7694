-- `count_branches` meets its contract. The loop's invariant: those after place i have reported.
use Rattle.core_branches.specs.BranchCounts.{Counting}
use Rattle.core_branches.proofs.count_branches.Given as goal

abbrev pub invariant-loop-i : goal.invariant-loop-i
invariant-loop-i l = Counting l.n l.seen l.initial.work l.i l.work
