-- Each edge of the runs is written behind the front.
use Rattle.replay_step.proofs.EdgeLaws.{Copying}
use Rattle.replay_step.proofs.load.copy_edges.Given as goal

abbrev pub invariant-loop-j : goal.invariant-loop-j
invariant-loop-j l = Copying l.from l.q l.m l.s l.n l.initial.work l.work l.j
