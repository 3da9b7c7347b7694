-- The link, then the head.
use Rattle.replay_roads.proofs.RoadWordLaws.{thread_more}
use Rattle.replay_roads.proofs.Roads.thread_segment.Goals as goal

pub returns : goal.returns
returns c =
    thread_more c.requires.0 c.requires.1 c.ends_of-v.ensures.0 c.word-next.ensures.0
    c.put.ensures c.put-2.ensures
