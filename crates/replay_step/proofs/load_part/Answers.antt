-- The pieces follow one another.
use native.Mathlib.Omega.{arith}
use Rattle.replay_step.proofs.LoadLaws.{part_loaded}
use Rattle.replay_step.proofs.load_part.Goals as goal

pub returns : goal.returns
returns c =
    part_loaded c.requires c.enter_places-k.ensures c.copy_edges.ensures
    c.add_events-m.ensures c.add_events-all.ensures (omega arith) (omega arith)
