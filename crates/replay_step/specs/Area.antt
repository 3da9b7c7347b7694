-- What stands in the work table for a window, and what the step promises (docs/algorithm.md, "Windows").
-- The replay's area of a window of n events is 17 n words: for each event the nodes of its two junctions (2 n words) and its three words (3 n, theory_timeline's Tags),
-- then the smaller ends of the edges (4 n), the larger ends (4 n) and the names (4 n).
-- The statements hold for every list of events without a fault whose windows stand in the words, so that no table goes through the recursion.
-- Assumes nothing: these are definitions.
use Rattle.std.specs.Prelude.{◌*◌, ◌+◌, ◌-◌, ◌<◌, ◌≤◌, ℕ, List, map, ◌≡◌, drop, length, take}
use Rattle.theory_graph.specs.Lists.{pairs}
use Rattle.theory_graph.specs.SmallGraph.{different, most_nodes}
use Rattle.theory_names.specs.Names.{Named, Sixteen}
use Rattle.theory_names.specs.NamedSmallGraph.{NamedCarries, NamedRenumbered}
use Rattle.theory_timeline.specs.DemandThree.{Allowed}
use Rattle.theory_timeline.specs.Steps.{Sound}
use Rattle.theory_timeline.specs.Tags.{event_words}
use Rattle.theory_timeline.specs.Windows.{Timeline, active, network, size, small, small_named, stands}
use Rattle.theory_timeline.specs.Windows as Windows
use Rattle.replay_step.specs.declared.Part.{Part}
use Rattle.replay_step.specs.declared.Window.{Window}

-- the window of a list that a struct speaks of
abbrev pub span : Window → Windows.Window
span w = (w.at, w.events)

-- the edges of an area of n events, with their names
abbrev pub area_edges : ℕ → ℕ → List ℕ → Named
area_edges n m v = pairs (pairs (take m (drop (5 * n) v)) (take m (drop (9 * n) v))) (take m (drop (13 * n) v))

-- the words v begin with the nodes at which the junctions of the window's events stand, and with the words of its events
pub record EventsIn (g : Timeline) (w : Windows.Window) (σ : ℕ → ℕ) (v : List ℕ) : Type 0 where
  pub places : take (2 * w.1) v ≡ map σ (active g w)
  pub words : take (3 * w.1) (drop (2 * w.1) v) ≡ event_words g w.0 w.1

-- ---- areas, of both replays
-- The words v hold a graph for the window, in which junction a stands at σ a, and the places and words of the window's events. What graph it is, and what it is
-- to the window's network, is the replay's own: `Graph` is said of a list, a window, the words and σ.
pub record AreaOf (Graph : Timeline → Window → List ℕ → (ℕ → ℕ) → Type 0) (g : Timeline) (w : Window) (v : List ℕ) : Type 0 where
  pub σ : ℕ → ℕ
  pub graph : Graph g w v σ
  pub events : EventsIn g (span w) σ v

-- ---- the step of both replays, from a window at the front of the words to its part of c events from `lo` on. An area A of n events has `words n` words.
pub record StepReadyOf (A : Timeline → Window → List ℕ → Type 0) (words : ℕ → ℕ) (need : ℕ) (w : Window) (lo c : ℕ) (v : List ℕ) : Type 0 where
  pub g : Timeline
  pub sound : Sound g
  pub inside : w.at + w.events ≤ size g
  pub area : A g w (take (words w.events) v)
  pub starts : w.at ≤ lo
  pub ends : lo + c ≤ w.at + w.events
  pub some : 0 < c
  pub room : need ≤ length v
  pub many : w.nodes ≤ 65536
  pub much : w.at + w.events ≤ 4096

-- the window's area A stays, and the part's area B stands behind it
pub record SteppedOf (A B : Timeline → Window → List ℕ → Type 0) (words : ℕ → ℕ) (w : Window) (lo c : ℕ) (v z : List ℕ) (r : Window) : Type 0 where
  pub at : r.at ≡ lo
  pub events : r.events ≡ c
  pub front : take (words w.events) z ≡ take (words w.events) v
  pub made : (g : Timeline) → Sound g → w.at + w.events ≤ size g → A g w (take (words w.events) v) → B g r (take (words c) (drop (words w.events) z))

-- where a step takes the part's places and words from, and where it puts the part's area and what is loaded
pub record IsPartOf (words : ℕ → ℕ) (w : Window) (p : Part) : Type 0 where
  pub places : p.places ≡ 2 * (p.at - w.at)
  pub words_at : p.words ≡ 2 * w.events + 3 * (p.at - w.at)
  pub area : p.area ≡ words w.events
  pub scratch : p.scratch ≡ words w.events + words p.events

-- ---- a window of either replay whose area is at the front of the words. An area A of n events has `words n` words, and its window and all below it `room n`
pub record WindowReadyOf (A : Timeline → Window → List ℕ → Type 0) (words room : ℕ → ℕ) (w : Window) (p : ℕ) (work : List ℕ) : Type 0 where
  pub g : Timeline
  pub sound : Sound g
  pub inside : w.at + w.events ≤ size g
  pub area : A g w (take (words w.events) work)
  pub some : 0 < w.events
  pub much : w.at + w.events ≤ 4096
  pub share : Allowed p
  pub enough : room w.events ≤ length work

-- ---- the replay's area and its step
-- the words of an area of n events
abbrev pub area_words : ℕ → ℕ
area_words n = 17 * n

-- a graph that carries the window's network, with names of 16 bits
pub record CarryingIn (g : Timeline) (w : Window) (v : List ℕ) (σ : ℕ → ℕ) : Type 0 where
  pub ρ : ℕ → ℕ
  pub carries : NamedCarries (network g (span w)) (active g (span w)) w.nodes (area_edges w.events w.edges v) ρ σ
  pub few : w.edges ≤ 4 * w.events
  pub names : Sixteen (area_edges w.events w.edges v)

abbrev pub Area : Timeline → Window → List ℕ → Type 0
Area = AreaOf CarryingIn

-- the window's small graph with its names, where only nodes without an active junction may be numbered otherwise, their edges then being written and ordered by
-- those numbers; and so it has at most 2k - 2 nodes for k active junctions (k where k is below 2)
pub record SmallIn (g : Timeline) (w : Window) (v : List ℕ) (σ : ℕ → ℕ) : Type 0 where
  pub renumbered : NamedRenumbered (active g (span w)) (small g (span w)).nodes (small_named g (span w)) (stands g (span w))
      w.nodes (area_edges w.events w.edges v) σ
  pub bound : w.nodes ≤ most_nodes (different (active g (span w)))

abbrev pub SmallArea : Timeline → Window → List ℕ → Type 0
SmallArea = AreaOf SmallIn

-- the words that the contraction of a graph of n nodes and m edges takes
abbrev pub road_room : ℕ → ℕ → ℕ → ℕ
road_room n m c = 16 * n + 6 * m

abbrev pub StepReady : Window → ℕ → ℕ → List ℕ → Type 0
StepReady w lo c v = StepReadyOf Area area_words (17 * w.events + 17 * c + road_room w.nodes (w.edges + w.events) c) w lo c v

abbrev pub Stepped : Window → ℕ → ℕ → List ℕ → List ℕ → Window → Type 0
Stepped = SteppedOf Area SmallArea area_words

abbrev pub IsPart : Window → Part → Type 0
IsPart = IsPartOf area_words
