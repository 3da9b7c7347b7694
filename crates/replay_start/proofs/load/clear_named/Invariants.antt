-- Event by event.
use Rattle.replay_start.specs.Start.{Cleared}
use Rattle.replay_start.proofs.load.clear_named.Given as goal

abbrev pub invariant-loop-i : goal.invariant-loop-i
invariant-loop-i l = Cleared l.from 0 l.i l.counts l.initial.work l.work
