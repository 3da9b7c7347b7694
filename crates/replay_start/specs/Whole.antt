-- The whole list of t events over n junctions: the junctions themselves and the words of the events stand at the front, and behind them, from place `counts`
-- on, how many segments of each road are open at the end; the segments by their ends. Assumes nothing: these are definitions.
use Rattle.std.specs.Prelude.{◌*◌, ◌+◌, ◌<◌, ◌≤◌, ℕ, ◌&&◌, not, List, ◌≡◌, ltb, drop, get_or, length, take}
use Rattle.core_reduce.specs.Core.{edges_in}
use Rattle.replay_events.specs.Writing.{CanWriteEvents}
use Rattle.replay_roads.specs.Runs.{run}
use Rattle.replay_start.specs.Start.{ClearReady, named_by}
use Rattle.replay_step.specs.Area.{EventsIn, SmallArea, area_words}
use Rattle.replay_step.specs.Load.{ActiveReady, MakeReady}
use Rattle.replay_step.specs.declared.Graph.{Graph}
use Rattle.replay_step.specs.declared.Part.{Part}
use Rattle.replay_step.specs.declared.Window.{Window}
use Rattle.theory_graph.specs.Lists.{pairs}
use Rattle.theory_timeline.specs.DemandThree.{Allowed}
use Rattle.theory_timeline.specs.Events.{pick}
use Rattle.theory_timeline.specs.Steps.{Sound}
use Rattle.theory_timeline.specs.Tags.{open_count}
use Rattle.theory_timeline.specs.Windows.{Timeline, size}

-- ---- what is loaded
pub record StartReady (n : ℕ) (p : Part) (a b : List ℕ) (counts : ℕ) (v : List ℕ) : Type 0 where
  pub active : ActiveReady p.places (2 * p.events) p.scratch n v
  pub named : ClearReady p.words p.events counts v
  pub places : p.places + 2 * p.events ≤ counts
  pub apart : counts + length a ≤ p.area
  pub behind : p.area ≤ p.scratch
  pub b_long : length b ≡ length a
  pub much : length a ≤ 8192
  pub room : p.scratch + 16 * n + 6 * length a ≤ length v
  pub nodes : (u : ℕ) → u < length a → (get_or a u 0 < n) × (get_or b u 0 < n)

-- all n junctions, and each road that has an open segment and that no event names by its tag, with its name
pub record WholeLoaded (n : ℕ) (p : Part) (a b : List ℕ) (counts : ℕ) (v z : List ℕ) (l : Graph) : Type 0 where
  pub nodes : l.nodes ≡ n
  pub front : take counts z ≡ take counts v
  pub ready : MakeReady p l z
  pub edges : edges_in l.nodes l.edges (drop p.scratch z)
      ≡ pick (λ r. ltb 0 (run counts v r) && not (named_by p.words 0 p.events v r)) 0 (pairs a b)

-- ---- the whole list
-- a list of t events with these segments stands in the words
pub record ListIn (n t : ℕ) (a b : List ℕ) (counts : ℕ) (v : List ℕ) (g : Timeline) : Type 0 where
  pub sound : Sound g
  pub junctions : g.junctions ≡ n
  pub segments : g.segments ≡ pairs a b
  pub all : size g ≡ t
  pub events : EventsIn g (0, t) (λ u. u) (take (5 * t) v)
  pub counted : (r : ℕ) → r < length a → run counts v r ≡ open_count g t r

-- what is loaded stands from `scratch` on, behind the area
pub record WholeReady (n t : ℕ) (a b : List ℕ) (counts area scratch : ℕ) (v : List ℕ) : Type 0 where
  pub g : Timeline
  pub list : ListIn n t a b counts v g
  pub b_long : length b ≡ length a
  pub some : 0 < t
  pub front : 5 * t ≤ counts
  pub apart : counts + length a ≤ area
  pub behind : area ≤ scratch
  pub room : scratch + 16 * n + 6 * length a ≤ length v
  pub much : t ≤ 4096

-- in either replay: behind an area of `words` words an event, and with room to reduce it
pub record WholeReadyBy (words : ℕ) (room : ℕ → ℕ → ℕ → ℕ) (n t : ℕ) (a b : List ℕ) (counts area : ℕ) (v : List ℕ) : Type 0 where
  pub ready : WholeReady n t a b counts area (area + words * t) v
  pub enough : area + words * t + room n (length a) t ≤ length v

-- in either replay: an area A of `words t` words stands from `area` on, for every such list
pub record WholeMadeOf (A : Timeline → Window → List ℕ → Type 0) (words : ℕ → ℕ) (n t : ℕ) (a b : List ℕ) (counts area : ℕ) (v z : List ℕ) (r : Window) : Type 0 where
  pub at : r.at ≡ 0
  pub events : r.events ≡ t
  pub made : (g : Timeline) → ListIn n t a b counts v g → A g r (take (words t) (drop area z))

-- the replay's: its small graph
abbrev pub WholeMade : ℕ → ℕ → List ℕ → List ℕ → ℕ → ℕ → List ℕ → List ℕ → Window → Type 0
WholeMade = WholeMadeOf SmallArea area_words

-- ---- a list without a fault, of either replay: tables of just its sizes, and `need` words
pub record ListReadyOf (need n p : ℕ) (a b start x y answers work : List ℕ) : Type 0 where
  pub events : CanWriteEvents n a b start x y work
  pub share : Allowed p
  pub long : length x ≤ length answers
  pub room : need ≤ length work
