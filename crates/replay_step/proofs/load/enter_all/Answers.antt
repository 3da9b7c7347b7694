use native.Mathlib.Omega.{arith}
use Rattle.replay_step.proofs.EnterLaws.{entering_more}
use Rattle.replay_step.proofs.load.enter_all.Goals as goal

pub loop-i-preserved : goal.loop-i-preserved
loop-i-preserved c =
    entering_more c.requires c.loop-i.invariant (omega arith) c.enter-k.result c.enter-k.new.work c.enter-k.ensures
