-- `link_nexts` meets its contract. The loop's invariant: the events from i on have their words, and `heads` has the first event from i on of each key.
use Rattle.replay_events.proofs.WritingLaws.{Nexts}
use Rattle.replay_events.proofs.link_nexts.Given as goal

abbrev pub invariant-loop-i : goal.invariant-loop-i
invariant-loop-i l = Nexts l.t l.initial.work l.heads l.work l.i
