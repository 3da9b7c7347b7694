-- Event by event.
use Rattle.replay_step.specs.Load.{Added}
use Rattle.replay_step.proofs.beside.add_events.Given as goal

abbrev pub invariant-loop-e : goal.invariant-loop-e
invariant-loop-e l = Added l.w l.part l.i l.e l.m l.initial.work l.work l.k
