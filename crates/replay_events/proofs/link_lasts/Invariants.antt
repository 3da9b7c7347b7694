-- `link_lasts` meets its contract. The loop's invariant: the first i events have their words, and `heads` has one more than the last event before i of each key.
use Rattle.replay_events.proofs.WritingLaws.{Lasts}
use Rattle.replay_events.proofs.link_lasts.Given as goal

abbrev pub invariant-loop-i : goal.invariant-loop-i
invariant-loop-i l = Lasts l.t l.initial.work l.heads l.work l.i
