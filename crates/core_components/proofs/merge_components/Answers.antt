-- `merge_components` meets its contract.
use Rattle.core_components.proofs.JoinLaws.{components}
use Rattle.core_components.proofs.merge_components.Goals as goal

pub returns : goal.returns
returns c =
    components c.requires c.start_tops.ensures c.merge_edges.ensures c.compress_all.ensures
