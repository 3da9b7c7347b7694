-- `merge_path` meets its contract.
use Rattle.core_components.proofs.PathLaws.{merged_path, to_tops}
use Rattle.core_components.proofs.merge_path.Goals as goal

pub merge_tops-requires : goal.merge_tops-requires
merge_tops-requires c =
    to_tops c.requires.0 c.requires.1 c.find-a.ensures c.find-b.ensures

pub returns : goal.returns
returns c =
    merged_path c.requires.0 c.requires.1 c.find-a.ensures c.find-b.ensures c.merge_tops.ensures
