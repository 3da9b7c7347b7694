-- `put_junctions` meets its contract. The loop's invariant: the junctions of the first i events are written.
use Rattle.replay_events.proofs.WritingLaws.{Placed}
use Rattle.replay_events.proofs.put_junctions.Given as goal

abbrev pub invariant-loop-i : goal.invariant-loop-i
invariant-loop-i l = Placed l.n l.a l.b l.x l.y l.initial.work l.work l.i
