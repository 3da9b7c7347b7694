-- The marks are cleared, then the nodes entered.
use native.Mathlib.Omega.{arith}
use Rattle.replay_step.proofs.EnterLaws.{after_clear}
use Rattle.replay_step.proofs.load.enter_places.Goals as goal

pub returns : goal.returns
returns c =
    after_clear c.args.work.now c.clear_field.new.work (omega arith) (omega arith) c.requires.front
    c.enter_all.ensures
