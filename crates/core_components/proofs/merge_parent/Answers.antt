-- `merge_parent` meets its contract.
use Rattle.core_components.proofs.PathLaws.{merged_up_at}
use Rattle.core_components.proofs.merge_parent.Goals as goal

pub returns : goal.returns
returns c =
    merged_up_at c.requires c.get-p.ensures.0 c.find-q.ensures c.put.ensures
