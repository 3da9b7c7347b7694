-- What stands in the words of the roads, said of the tables and the place that travel together in the code.
-- Assumes nothing: these are definitions.
use Rattle.std.specs.Prelude.{ℕ, List}
use Rattle.replay_roads.specs.Naming.{RoadWords}
use Rattle.replay_roads.specs.declared.Roads.{Roads}

abbrev pub InWords : Roads → List ℕ → ℕ → ℕ → ℕ → Type 0
InWords r w s v k = RoadWords r.n r.a.now r.b.now r.place w s v k
