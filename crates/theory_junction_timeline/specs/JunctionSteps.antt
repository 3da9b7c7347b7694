-- Steps down the windows for the sibling: the graph of a part is made out of the graph that was made for the window above it.
-- Assumes nothing: these are definitions.
use Rattle.std.specs.Prelude.{ℕ, List, ◌++◌, map}
use Rattle.theory_graph.specs.Graph.{Edge}
use Rattle.theory_graph.specs.SmallGraph.{image}
use Rattle.theory_names.specs.Names.{plain}
use Rattle.theory_timeline.specs.Steps.{Part, added}
use Rattle.theory_timeline.specs.Windows.{Timeline, Window, active, network, size}
use Rattle.theory_junctions.specs.ReducedGraph.{IsReducedGraph}

-- A graph of n nodes with the edges H, in which junction a stands at σ a, is made for a window:
-- for the whole list out of its network, for a part out of the graph above it and the added roads.
pub data JunctionsMade (g : Timeline) : Window → ℕ → List Edge → (ℕ → ℕ) → Type 0 where
  top : {n : ℕ} {H : List Edge} {σ : ℕ → ℕ} → IsReducedGraph (plain (network g (0, size g))) (active g (0, size g)) n H σ → JunctionsMade g (0, size g) n H σ
  down : {w : Window} {n : ℕ} {H : List Edge} {σ : ℕ → ℕ} {c : Window} {n' : ℕ} {H' : List Edge} {σ' : ℕ → ℕ} → JunctionsMade g w n H σ → Part w c
      → IsReducedGraph (H ++ image σ (plain (added g w c))) (map σ (active g c)) n' H' σ' → JunctionsMade g c n' H' (λ a. σ' (σ a))

-- one is made for a window
abbrev pub HasMade : Timeline → Window → Type 0
HasMade g w = (n : ℕ) × (H : List Edge) × (σ : ℕ → ℕ) × JunctionsMade g w n H σ
