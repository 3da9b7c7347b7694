-- Heads and firsts are filled; then the threads, and along them the names.
use borrow.Author.Rules.{rules}
use Rattle.replay_roads.proofs.RoadWordLaws.{roads_named, thread_start}
use Rattle.replay_roads.proofs.Roads.name.Goals as goal

pub thread-requires : goal.thread-requires
thread-requires c = thread_start c.requires.0 c.requires.1 c.fill.ensures

pub returns : goal.returns
returns c = roads_named (search rules) c.walk_all.ensures
