-- What differs between the replay and its sibling, and what each owes so that its step and its whole list are made in one way (docs/algorithm.md, "Windows").
-- For each event of its window an area has `words` words and room for `edges` edges, and a window and all below it take `window` words. To reduce a graph of n
-- nodes and m edges, for a part of c events, takes `room n m c` words.
-- Assumes nothing: these are definitions.
use Rattle.std.specs.Prelude.{◌*◌, ◌+◌, ◌<◌, ◌≤◌, ℕ, List, ◌≡◌, drop, length, take}
use Rattle.core_reduce.specs.Core.{edges_in}
use Rattle.core_reduce.specs.declared.Counts.{Counts}
use Rattle.theory_timeline.specs.Steps.{Sound}
use Rattle.theory_timeline.specs.Tags.{event_words}
use Rattle.theory_timeline.specs.Windows.{Timeline, active, network}
use Rattle.replay_step.specs.Area.{IsPartOf, StepReadyOf, SteppedOf, WindowReadyOf}
use Rattle.replay_step.specs.Load.{BehindOf, LoadReady, MakeReady, PartLoaded}
use Rattle.replay_step.specs.declared.Graph.{Graph}
use Rattle.replay_step.specs.declared.Part.{Part}
use Rattle.replay_step.specs.declared.Window.{Window}

-- the words of an area of n events
abbrev pub words_of : ℕ → ℕ → ℕ
words_of words n = words * n

-- the window of a part, with the counts of its area
abbrev pub window_of : Part → Counts → Window
window_of p r = record { at = p.at; events = p.events; nodes = r.nodes; edges = r.edges }

-- a graph is loaded right behind a part's area, and there is room to reduce it
pub record MakeReadyBy (words : ℕ) (room : ℕ → ℕ → ℕ → ℕ) (p : Part) (l : Graph) (w : List ℕ) : Type 0 where
  pub ready : MakeReady p l w
  pub behind : BehindOf (words_of words) p
  pub enough : p.scratch + room l.nodes l.edges p.events ≤ length w

-- a step takes both areas and what the reduction takes of the window's edges and of those that its events add
abbrev pub StepReadyBy : (Timeline → Window → List ℕ → Type 0) → ℕ → (ℕ → ℕ → ℕ → ℕ) → Window → ℕ → ℕ → List ℕ → Type 0
StepReadyBy A words room w lo c v = StepReadyOf A (words_of words) (words * w.events + words * c + room w.nodes (w.edges + w.events) c) w lo c v

-- What a reduction owes. A step asks of the window's area A, and makes the part's area B; `Made` is what stands in the words when a part's area is made.
pub record Reduces (A B : Timeline → Window → List ℕ → Type 0) (words edges window : ℕ) (room : ℕ → ℕ → ℕ → ℕ) (Made : Part → Graph → List ℕ → List ℕ → Counts → Type 0) : Type 0 where
  -- it takes no less room than the graph does, and fewer edges take no more
  pub least : (n m c : ℕ) → 16 * n + 6 * m ≤ room n m c
  pub fewer : (n m k c : ℕ) → m ≤ k → room n m c ≤ room n k c
  -- the window's area is as what is loaded asks for
  pub loads : (w : Window) (p : Part) (v : List ℕ) → StepReadyBy A words room w p.at p.events v → IsPartOf (words_of words) w p → LoadReady w (edges * w.events) p v
  -- what is made out of the part's graph is its area
  pub steps : (w : Window) (p : Part) (v : List ℕ) → StepReadyBy A words room w p.at p.events v → IsPartOf (words_of words) w p
      → (z : List ℕ) (l : Graph) → PartLoaded w (edges * w.events) p v z l → length z ≡ length v → (y : List ℕ) (r : Counts) → Made p l z y r
      → SteppedOf A B (words_of words) w p.at p.events v y (window_of p r)
  -- and what is made out of a network itself is an area of its window
  pub whole : (g : Timeline) → Sound g → (p : Part) (l : Graph) (z y : List ℕ) (r : Counts) → Made p l z y r
      → edges_in l.nodes l.edges (drop p.scratch z) ≡ network g (p.at, p.events)
      → take (2 * p.events) (drop p.places z) ≡ active g (p.at, p.events)
      → take (3 * p.events) (drop p.words z) ≡ event_words g p.at p.events
      → B g (window_of p r) (take (words * p.events) (drop p.area y))
  -- an area that is made is one of which a step can be made
  pub own : (g : Timeline) → Sound g → (w : Window) → 0 < w.events → (v : List ℕ) → words * w.events ≤ length v → B g w (take (words * w.events) v) → A g w (take (words * w.events) v)
  -- with the words of a window there are enough for its steps
  pub enough : (w : Window) (p : ℕ) (v : List ℕ) → WindowReadyOf B (words_of words) (words_of window) w p v → (lo c : ℕ) (z : List ℕ) → w.at ≤ lo → lo + c ≤ w.at + w.events → 0 < c
      → length z ≡ length v → take (words * w.events) z ≡ take (words * w.events) v → StepReadyBy A words room w lo c z
  -- and for a part, which has at most ten elevenths of the window's events, and all below it
  pub fits : (c n : ℕ) → 11 * c ≤ 10 * n → words * n + window * c ≤ window * n
  -- its graph has few nodes
  pub nodes : (w : Window) (p : ℕ) (v : List ℕ) → WindowReadyOf B (words_of words) (words_of window) w p v → w.nodes ≤ 16384
