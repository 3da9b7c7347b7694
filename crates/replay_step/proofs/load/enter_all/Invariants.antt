-- Each word of the list is entered behind the front.
use Rattle.replay_step.proofs.EnterLaws.{EnteredSoFar}
use Rattle.replay_step.proofs.load.enter_all.Given as goal

abbrev pub invariant-loop-i : goal.invariant-loop-i
invariant-loop-i l = EnteredSoFar l.from l.count l.s l.n l.initial.work l.work l.k l.i
