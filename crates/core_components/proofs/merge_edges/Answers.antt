use native.Mathlib.Omega.{arith}
use Rattle.core_components.proofs.MergeLaws.{merged_can, merged_more}
use Rattle.core_components.proofs.merge_edges.Goals as goal

pub merge_edge-requires : goal.merge_edge-requires
merge_edge-requires c =
    merged_can c.requires c.loop-e.invariant.1 (omega arith)

pub loop-e-preserved : goal.loop-e-preserved
loop-e-preserved c =
    (omega arith, merged_more c.requires c.loop-e.invariant.1 (omega arith) c.merge_edge.ensures)
