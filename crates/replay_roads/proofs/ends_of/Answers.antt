-- The lesser end is the lower one, the greater end the higher.
use native.Mathlib.Omega.{arith}
use Rattle.replay_roads.proofs.RoadWordLaws.{high_at, low_at}
use Rattle.replay_roads.proofs.ends_of.Goals as goal

pub returns : goal.returns
returns c =
    let a = c.args in
    let (k, l) = c.requires in
    (omega (arith, low_at a.a.now a.b.now a.s k l), omega (arith, high_at a.a.now a.b.now a.s k l))
