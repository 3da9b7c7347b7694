-- Event by event.
use Rattle.replay_events.specs.Tagging.{Tagged}
use Rattle.replay_events.proofs.tags.Counts.put_tags.Given as goal

abbrev pub invariant-loop-i : goal.invariant-loop-i
invariant-loop-i l = Tagged l.self.n l.x l.y l.self.names l.self.counts l.initial.work l.work l.i
