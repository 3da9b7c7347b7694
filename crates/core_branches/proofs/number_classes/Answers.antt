-- `number_classes` meets its contract.
use Rattle.core_branches.proofs.ClassLaws.{can_count, can_parents, class_numbers}
use Rattle.core_branches.proofs.number_classes.Goals as goal

pub count_branches-requires : goal.count_branches-requires
count_branches-requires c =
    can_count c.requires c.number_actives-g.ensures

pub parent_numbers-requires : goal.parent_numbers-requires
parent_numbers-requires c =
    can_parents c.requires c.number_actives-g.ensures c.count_branches.ensures
    c.number_others-h.ensures

pub returns : goal.returns
returns c =
    class_numbers c.requires c.number_actives-g.ensures c.count_branches.ensures
    c.number_others-h.ensures c.parent_numbers.ensures
