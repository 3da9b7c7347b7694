use native.Mathlib.Omega.{arith}
use Rattle.replay_start.proofs.StartLaws.{clearing_more}
use Rattle.replay_start.proofs.load.clear_named.Goals as goal

pub loop-i-preserved : goal.loop-i-preserved
loop-i-preserved c =
    clearing_more c.requires c.loop-i.invariant (omega arith) c.clear_event.ensures
