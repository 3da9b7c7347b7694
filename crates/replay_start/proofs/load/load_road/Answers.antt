-- Without a count, or loaded.
use native.Mathlib.Omega.{arith}
use Rattle.replay_start.proofs.StartLaws.{load_put}
use Rattle.replay_start.proofs.load.load_road.Goals as goal

pub returns : goal.returns
returns c =
    load_put c.requires (λ z. omega arith) _ c.put_edge.ensures
