-- `merge_class` meets its contract.
use Rattle.core_blocks.proofs.ClassLaws.{class_merged}
use Rattle.core_blocks.proofs.merge_class.Goals as goal

pub returns : goal.returns
returns c =
    class_merged c.requires c.find-p.ensures c.find-q.ensures c.join_tops.ensures c.get.ensures.0
