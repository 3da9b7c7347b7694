-- `number_others` meets its contract. The loop's invariant: the kept classes with a node below v have their numbers.
use Prim.Native.Nat.{◌≤◌}
use Rattle.core_branches.specs.Numbers.{NumberingOthers}
use Rattle.core_branches.proofs.number_others.Given as goal

abbrev pub invariant-loop-v : goal.invariant-loop-v
invariant-loop-v l = (l.v ≤ l.n) × NumberingOthers l.n l.h l.initial.work l.v l.r l.work
