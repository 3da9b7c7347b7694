use native.Mathlib.Omega.{arith}
use Rattle.core_blocks.proofs.EdgeLaws.{edges_none}
use Rattle.core_blocks.proofs.merge_edges.Goals as goal

pub loop-e-init : goal.loop-e-init
loop-e-init c = (omega arith, edges_none c.requires)
