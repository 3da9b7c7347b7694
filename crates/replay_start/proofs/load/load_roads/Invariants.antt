-- Road by road.
use Rattle.replay_start.specs.Start.{fixed, segment}
use Rattle.replay_step.specs.Load.{AddedBy}
use Rattle.replay_start.proofs.load.load_roads.Given as goal

abbrev pub invariant-loop-j : goal.invariant-loop-j
invariant-loop-j l = AddedBy l.s l.n (fixed l.counts l.initial.work) (segment l.a l.b) 0 l.j 0 l.initial.work l.work l.k
