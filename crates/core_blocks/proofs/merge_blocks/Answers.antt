-- `merge_blocks` meets its contract.
use Rattle.core_blocks.proofs.EdgeLaws.{blocks_merged}
use Rattle.core_blocks.proofs.merge_blocks.Goals as goal

pub returns : goal.returns
returns c =
    blocks_merged c.requires c.start_tops.ensures c.merge_edges.ensures c.compress_all.ensures
