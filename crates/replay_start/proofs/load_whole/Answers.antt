-- The pieces follow one another: the named roads cleared, the active nodes, the roads.
use native.Mathlib.Omega.{arith}
use Rattle.replay_start.proofs.WholeLaws.{whole_loaded}
use Rattle.replay_start.proofs.load_whole.Goals as goal

pub returns : goal.returns
returns c =
    whole_loaded c.requires c.clear_named.ensures c.enter_places-k.ensures (omega arith) c.load_roads-m.ensures
