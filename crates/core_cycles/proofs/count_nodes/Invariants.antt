-- `count_nodes` meets its contract. The loop's invariant: the nodes from place i on are counted.
use Rattle.core_cycles.specs.BlocksIn.{Counting}
use Rattle.core_cycles.proofs.count_nodes.Given as goal

abbrev pub invariant-loop-i : goal.invariant-loop-i
invariant-loop-i l = Counting l.n l.m l.k l.seen l.i l.initial.work l.work
