use native.Mathlib.Omega.{arith}
use Rattle.replay_step.proofs.WordLaws.{every_step}
use Rattle.replay_step.proofs.area.put_every.Goals as goal

pub loop-i-preserved : goal.loop-i-preserved
loop-i-preserved c =
    let a = c.args in
    every_step a.work.now c.loop-i.work a.from a.step a.q c.loop-i.i c.loop-i.invariant (omega arith)
