-- The numbers are written in order; words and fields are read before and behind them.
use Rattle.replay_step.proofs.WordLaws.{Mapped}
use Rattle.replay_step.proofs.area.put_map.Given as goal

abbrev pub invariant-loop-i : goal.invariant-loop-i
invariant-loop-i l = Mapped l.initial.work l.s l.q l.from l.i l.work
