-- The names, and then the counts, which are cleared first.
use Rattle.replay_roads.proofs.CountingLaws.{count_start, roads_counted}
use Rattle.replay_roads.proofs.count_roads.Goals as goal

pub count_start-requires : goal.count_start-requires
count_start-requires c =
    count_start c.requires.0 c.requires.1 c.name.ensures c.fill.ensures

pub returns : goal.returns
returns c =
    roads_counted c.requires.0 c.requires.1 c.name.ensures c.fill.ensures c.count_start.ensures
