-- `fill_pieces` meets its contract.
use Rattle.contraction_tables.proofs.TreeLaws.{cleared_numbered}
use Rattle.contraction_tables.proofs.fill_pieces.Goals as goal

pub returns : goal.returns
returns c =
    cleared_numbered c.requires c.clear_field.ensures c.number_trees.ensures
