-- `reduce` meets its contract: each pass asks for what those before it ensure.
use Rattle.core_reduce.proofs.ReduceLaws.{can_merge_components, can_name, can_search, reduced}
use Rattle.core_reduce.proofs.reduce.Goals as goal

pub spanning_forest-seen-requires : goal.spanning_forest-seen-requires
spanning_forest-seen-requires c =
    can_search c.requires c.clear_nodes.ensures c.link_edges.ensures

pub merge_components-requires : goal.merge_components-requires
merge_components-requires c =
    can_merge_components c.requires c.clear_nodes.ensures c.link_edges.ensures c.spanning_forest-seen.ensures

pub name_edges-requires : goal.name_edges-requires
name_edges-requires c =
    can_name c.requires c.clear_nodes.ensures c.link_edges.ensures c.spanning_forest-seen.ensures
    c.merge_components.ensures c.number_classes-nodes.ensures
    c.list_edges-edges.ensures

pub returns : goal.returns
returns c =
    reduced c.requires c.clear_nodes.ensures c.link_edges.ensures c.spanning_forest-seen.ensures
    c.merge_components.ensures c.number_classes-nodes.ensures
    c.list_edges-edges.ensures c.name_edges.ensures c.write_numbers.ensures
