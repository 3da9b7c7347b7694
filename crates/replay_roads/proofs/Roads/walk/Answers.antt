use borrow.Author.Rules.{rules}
use Rattle.replay_roads.proofs.RoadWordLaws.{along_more}
use Rattle.replay_roads.proofs.Roads.walk.Goals as goal

pub loop-next-preserved : goal.loop-next-preserved
loop-next-preserved c =
    (search rules, (along_more c.loop-next.invariant.1 c.in-Some.is c.name_segment.ensures c.segment_at-next-in-Some.ensures).0)
