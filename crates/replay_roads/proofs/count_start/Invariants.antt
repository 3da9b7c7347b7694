-- Segment by segment.
use Rattle.replay_roads.specs.Counting.{Counting}
use Rattle.replay_roads.proofs.count_start.Given as goal

abbrev pub invariant-loop-s : goal.invariant-loop-s
invariant-loop-s l = Counting l.start l.q l.initial.work l.work l.s
