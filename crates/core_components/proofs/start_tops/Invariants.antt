-- `start_tops` meets its contract. The loop's invariant: the first v nodes are their own tops.
use Prim.Native.Nat.{◌≤◌}
use Rattle.core_components.specs.Tops.{OwnTops}
use Rattle.core_components.proofs.start_tops.Given as goal

abbrev pub invariant-loop-v : goal.invariant-loop-v
invariant-loop-v l = (l.v ≤ l.n) × OwnTops l.n l.v l.initial.work l.work
