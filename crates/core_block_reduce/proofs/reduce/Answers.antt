-- `reduce` meets its contract: each pass asks for what those before it ensure.
use Rattle.core_block_reduce.proofs.ReduceLaws.{blocks_reduced, count_can, map_can, number_can}
use Rattle.core_reduce.proofs.ReduceLaws.{can_merge_components, can_search}
use Rattle.core_block_reduce.proofs.reduce.Goals as goal

pub spanning_forest-seen-requires : goal.spanning_forest-seen-requires
spanning_forest-seen-requires c =
    can_search c.requires.loaded c.clear_nodes.ensures c.link_edges.ensures

pub merge_blocks-requires : goal.merge_blocks-requires
merge_blocks-requires c =
    can_merge_components c.requires.loaded c.clear_nodes.ensures c.link_edges.ensures c.spanning_forest-seen.ensures

pub count_nodes-requires : goal.count_nodes-requires
count_nodes-requires c =
    count_can c.requires c.clear_nodes.ensures c.link_edges.ensures c.spanning_forest-seen.ensures c.merge_blocks.ensures

pub number_nodes-nodes-requires : goal.number_nodes-nodes-requires
number_nodes-nodes-requires c =
    number_can c.requires c.clear_nodes.ensures c.link_edges.ensures c.spanning_forest-seen.ensures c.merge_blocks.ensures
    c.count_nodes.ensures

pub map_actives-requires : goal.map_actives-requires
map_actives-requires c =
    map_can c.requires c.clear_nodes.ensures c.link_edges.ensures c.spanning_forest-seen.ensures c.merge_blocks.ensures
    c.count_nodes.ensures c.number_nodes-nodes.ensures c.write_cycles-edges.ensures

pub returns : goal.returns
returns c =
    blocks_reduced c.requires c.clear_nodes.ensures c.link_edges.ensures c.spanning_forest-seen.ensures c.merge_blocks.ensures
    c.count_nodes.ensures c.number_nodes-nodes.ensures c.write_cycles-edges.ensures c.map_actives.ensures
