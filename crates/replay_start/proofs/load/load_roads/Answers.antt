use native.Mathlib.Omega.{arith}
use Rattle.replay_start.proofs.StartLaws.{loading_more}
use Rattle.replay_start.proofs.load.load_roads.Goals as goal

pub loop-j-preserved : goal.loop-j-preserved
loop-j-preserved c =
    loading_more c.requires c.loop-j.invariant (omega arith) c.load_road-k.ensures
