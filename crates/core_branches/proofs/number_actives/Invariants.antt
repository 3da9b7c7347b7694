-- `number_actives` meets its contract. The loop's invariant: the classes of the first i active nodes have their numbers.
use Prim.Native.Nat.{◌≤◌}
use Rattle.core_branches.specs.Numbers.{NumberingActives}
use Rattle.core_branches.proofs.number_actives.Given as goal

abbrev pub invariant-loop-i : goal.invariant-loop-i
invariant-loop-i l = (l.i ≤ l.k) × NumberingActives l.n l.k l.initial.work l.i l.h l.work
