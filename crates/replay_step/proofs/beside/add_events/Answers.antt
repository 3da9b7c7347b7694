use native.Mathlib.Omega.{arith}
use Rattle.replay_step.proofs.BesideLaws.{adding_more}
use Rattle.replay_step.proofs.beside.add_events.Goals as goal

pub loop-e-preserved : goal.loop-e-preserved
loop-e-preserved c =
    adding_more c.requires c.loop-e.invariant (omega arith) (omega arith) c.add_event-k.ensures
