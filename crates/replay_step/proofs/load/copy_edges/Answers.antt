use native.Mathlib.Omega.{arith}
use Rattle.replay_step.proofs.EdgeLaws.{copying_more}
use Rattle.replay_step.proofs.load.copy_edges.Goals as goal

pub loop-j-preserved : goal.loop-j-preserved
loop-j-preserved c =
    copying_more c.requires c.loop-j.invariant (omega arith) c.put_edge.new.work c.put_edge.ensures
