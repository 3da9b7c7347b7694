-- `number_nodes` meets its contract. The loop's invariant: the first i nodes have their numbers.
use Prim.Native.Nat.{◌≤◌}
use Rattle.core_cycles.specs.Numbering.{Numbering}
use Rattle.core_cycles.proofs.number_nodes.Given as goal

abbrev pub invariant-loop-i : goal.invariant-loop-i
invariant-loop-i l = (l.i ≤ l.seen) × Numbering l.n l.m l.k l.seen l.i l.h l.initial.work l.work
