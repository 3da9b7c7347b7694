-- `edge_list::list_edges` meets its contract.
use Rattle.core_reduce.proofs.ListingLaws.{all_listed, pushing_cleared, pushing_then}
use Rattle.core_reduce.proofs.edge_list.list_edges.Goals as goal

pub returns : goal.returns
returns c =
    all_listed (pushing_then (pushing_cleared c.requires c.clear_field.ensures) c.push_children.ensures)
    c.write_rows.ensures
