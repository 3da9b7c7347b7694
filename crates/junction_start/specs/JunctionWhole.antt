-- The whole list of the sibling: what stands in the words before, and its area afterwards.
-- Assumes nothing: these are definitions.
use Rattle.std.specs.Prelude.{ℕ, List}
use Rattle.junction_step.specs.JunctionArea.{JunctionArea, junction_room, junction_words}
use Rattle.replay_start.specs.Whole.{WholeMadeOf, WholeReadyBy}
use Rattle.replay_step.specs.declared.Window.{Window}

-- a list stands in the words as the replay's load takes it, with room for the reduction
abbrev pub JunctionWholeReady : ℕ → ℕ → List ℕ → List ℕ → ℕ → ℕ → List ℕ → Type 0
JunctionWholeReady = WholeReadyBy 29 junction_room

-- a reduced graph of its network stands in its area, for every such list
abbrev pub JunctionWholeMade : ℕ → ℕ → List ℕ → List ℕ → ℕ → ℕ → List ℕ → List ℕ → Window → Type 0
JunctionWholeMade = WholeMadeOf JunctionArea junction_words
