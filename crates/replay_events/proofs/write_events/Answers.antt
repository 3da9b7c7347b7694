-- The passes follow one another.
use native.Mathlib.Omega.{arith}
use Rattle.replay_events.proofs.WritingLaws.{events_written, place_need, roads_need, tags_fit, tags_fit_3, tags_need}
use Rattle.replay_events.proofs.write_events.Goals as goal

pub count_roads-requires : goal.count_roads-requires
count_roads-requires c =
    (roads_need c.requires, omega (arith, c.requires.room))

pub put_junctions-requires : goal.put_junctions-requires
put_junctions-requires c =
    place_need c.requires c.count_roads.ensures

pub put_tags-requires : goal.put_tags-requires
put_tags-requires c =
    tags_need c.requires c.count_roads.ensures c.put_junctions.ensures

pub link_lasts-requires : goal.link_lasts-requires
link_lasts-requires c =
    tags_fit c.requires c.count_roads.ensures c.put_junctions.ensures c.put_tags.ensures

pub link_nexts-requires : goal.link_nexts-requires
link_nexts-requires c =
    tags_fit_3 c.requires c.count_roads.ensures c.put_junctions.ensures c.put_tags.ensures c.link_lasts.ensures

pub returns : goal.returns
returns c =
    events_written c.requires c.count_roads.ensures c.put_junctions.ensures c.put_tags.ensures c.link_lasts.ensures
    c.link_nexts.ensures
