-- What stands in the work table for a window of the sibling, and what its step promises.
-- The area of a window of n events is 29 n words: for each event the nodes of its two junctions (2 n words) and its three words (3 n, theory_timeline's Tags),
-- as in the replay; then the one ends of the edges (8 n), the other ends (8 n), and a word for each edge that nobody reads (8 n), where the replay has names.
-- Assumes nothing: these are definitions.
use Rattle.std.specs.Prelude.{◌*◌, ◌+◌, ◌<◌, ◌≤◌, ℕ, List, drop, get_or, take}
use Rattle.core_reduce.specs.Core.{edges_in}
use Rattle.core_reduce.specs.declared.Counts.{Counts}
use Rattle.theory_graph.specs.Graph.{Edge}
use Rattle.theory_graph.specs.Lists.{pairs}
use Rattle.theory_names.specs.Names.{plain}
use Rattle.theory_timeline.specs.Windows.{Timeline, active, network}
use Rattle.theory_junctions.specs.ReducedGraph.{IsReducedGraph}
use Rattle.replay_step.specs.Area.{AreaOf, IsPartOf, SteppedOf, span}
use Rattle.replay_step.specs.Load.{AreaMadeOf}
use Rattle.replay_step.specs.Reduction.{MakeReadyBy, StepReadyBy}
use Rattle.replay_step.specs.declared.Graph.{Graph}
use Rattle.replay_step.specs.declared.Part.{Part}
use Rattle.replay_step.specs.declared.Window.{Window}

-- the edges of an area of n events
abbrev pub area_graph : ℕ → ℕ → List ℕ → List Edge
area_graph n m v = pairs (take m (drop (5 * n) v)) (take m (drop (13 * n) v))

-- a reduced graph of the window's network, so small as its bound says
pub record ReducedIn (g : Timeline) (w : Window) (v : List ℕ) (σ : ℕ → ℕ) : Type 0 where
  pub reduced : IsReducedGraph (plain (network g (span w))) (active g (span w)) w.nodes (area_graph w.events w.edges v) σ
  pub few : w.edges ≤ 8 * w.events
  pub sixteen : (j : ℕ) → j < w.edges → get_or v (21 * w.events + j) 0 < 65536

abbrev pub JunctionArea : Timeline → Window → List ℕ → Type 0
JunctionArea = AreaOf ReducedIn

-- the words of an area of n events
abbrev pub junction_words : ℕ → ℕ
junction_words n = 29 * n

-- the words that it takes to reduce a graph of n nodes and m edges, for a part of c events
abbrev pub junction_room : ℕ → ℕ → ℕ → ℕ
junction_room n m c = 28 * n + 6 * m + 48 * c

-- ---- the step
abbrev pub JunctionStepReady : Window → ℕ → ℕ → List ℕ → Type 0
JunctionStepReady = StepReadyBy JunctionArea 29 junction_room

abbrev pub JunctionStepped : Window → ℕ → ℕ → List ℕ → List ℕ → Window → Type 0
JunctionStepped = SteppedOf JunctionArea JunctionArea junction_words

abbrev pub IsJunctionPart : Window → Part → Type 0
IsJunctionPart = IsPartOf junction_words

-- ---- the part's area
-- a graph is loaded right behind it, and there is room for the reduction
abbrev pub JunctionMakeReady : Part → Graph → List ℕ → Type 0
JunctionMakeReady = MakeReadyBy 29 junction_room

-- the reduced graph that is made of it
pub record ReducedMade (p : Part) (l : Graph) (w : List ℕ) (r : Counts) (σ : ℕ → ℕ) (u : List ℕ) : Type 0 where
  pub reduced : IsReducedGraph (plain (edges_in l.nodes l.edges (drop p.scratch w))) (take (2 * p.events) (drop p.places w)) r.nodes
      (area_graph p.events r.edges u) σ
  pub few : r.edges ≤ 8 * p.events
  pub sixteen : (j : ℕ) → j < r.edges → get_or u (21 * p.events + j) 0 < 65536

abbrev pub JunctionAreaMade : Part → Graph → List ℕ → List ℕ → Counts → Type 0
JunctionAreaMade p l w z r = AreaMadeOf (ReducedMade p l w r) junction_words p w z
