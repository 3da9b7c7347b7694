-- Demand 3: one statement about two replays, with its parts (a) to (e). Its proof is proofs/DemandThree.
-- It cites, of Replay: Lent, given, Outcome, replay; of Call: outcome, of Totals or a refusal; of Windows: Timeline, Window, windows, network, active,
-- small, small_named, stands; of Roads: road_answer, the answer of two junctions by the loss of roads, DifferentRoads, Apart; of the crate theory_graph: Edge,
-- answer, the answer of two nodes by the loss of edges, image, the edges of a list with their ends moved, different, the number of different entries, most_nodes,
-- the bound 2k - 2 (k where k is below 2), and sum; of the crate theory_names: Named, a list of edges with names, plain, the edges alone, hangs, the smallest
-- name of an edge whose loss parts two nodes, and image_named, the edges of a list with their ends moved and their names kept.
-- Assumes nothing: these are definitions.
use Rattle.std.specs.Prelude.{◌≤◌, ℕ, true, ◌↔◌, ◌≡◌, Result, take}
use mathlib.Core.List.{List, Memᴰ, ◌++◌, map}
use Rattle.call_sizes.specs.declared.Refusal.{Refusal}
use Rattle.theory_graph.specs.Graph.{Edge, answer}
use Rattle.theory_graph.specs.Lists.{sum}
use Rattle.theory_graph.specs.SmallGraph.{different, image, most_nodes}
use Rattle.theory_names.specs.Names.{Named, hangs, plain}
use Rattle.theory_names.specs.NamedSmallGraph.{image_named}
use Rattle.theory_timeline.specs.Call.{outcome}
use Rattle.theory_timeline.specs.Replay.{Lent, Outcome, given, replay}
use Rattle.theory_timeline.specs.Roads.{Apart, DifferentRoads, road_answer}
use Rattle.theory_timeline.specs.Windows.{Timeline, Window, active, network, small, small_named, stands, windows}
use Rattle.theory_timeline.specs.declared.Totals.{Totals}

-- ---- the words of the statement
-- "The share p is 4 to 12"
abbrev pub Allowed : ℕ → Type 0
Allowed p = (4 ≤ p) × (p ≤ 12)

-- each edge of F joins two junctions of S
abbrev pub Among : List ℕ → List Edge → Type 0
Among S F = (e : Edge) → Memᴰ e F → Memᴰ e.0 S × Memᴰ e.1 S

-- "Edges that demand 3 adds are then of different roads, none in the window's network": F repeats no pair of ends, and has none of a road of E
pub record NewRoads (E F : List Edge) : Type 0 where
  pub different : DifferentRoads F
  pub fresh : (e : Edge) → Memᴰ e E → Apart e F

-- (a), (b): a window's small graph answers as its network does, whatever roads are added between its active junctions, and it is small.
-- In the network the answer is by the loss of roads; "in the small graph each edge, an added one too, counts as a road of its own".
-- And two active junctions hang on the same name in both, the least of an edge whose loss parts them, whatever edges are added with whatever names.
pub record Faithful (g : Timeline) (w : Window) : Type 0 where
  pub answers : (F : List Edge) → Among (active g w) F → NewRoads (plain (network g w)) F → (x y : ℕ) → Memᴰ x (active g w) → Memᴰ y (active g w)
      → road_answer (plain (network g w) ++ F) x y ≡ answer ((small g w).edges ++ image (stands g w) F) (stands g w x) (stands g w y)
  pub names : (F : Named) → Among (active g w) (plain F) → (x y : ℕ) → Memᴰ x (active g w) → Memᴰ y (active g w)
      → hangs (network g w ++ F) x y ≡ hangs (small_named g w ++ image_named (stands g w) F) (stands g w x) (stands g w y)
  pub nodes : (small g w).nodes ≤ most_nodes (different (active g w))

-- lent alike but for the answer table, the name table and the work table. Only these three may have "ignored entries": an accepted replay has none in the
-- tables that it only reads (document 02, No. 7). That M and T are the same follows where both are accepted
pub record Alike (l k : Lent) : Type 0 where
  pub n : l.n ≡ k.n
  pub a : l.a ≡ k.a
  pub b : l.b ≡ k.b
  pub start : l.start ≡ k.start
  pub x : l.x ≡ k.x
  pub y : l.y ≡ k.y

-- ---- the statement: r is the outcome of lending l with the share p, s that of lending k with the share q
pub record Demand3 (l k : Lent) (p q : ℕ) (r s : Outcome) : Type 0 where
  -- (a), (b)
  pub faithful : r.accepted ≡ true → (w : Window) → Memᴰ w (windows p l.t) → Faithful (given l) w
  -- (c)
  pub kept : r.accepted ≡ true → r.kept ≡ sum (map (λ w. (small (given l) w).nodes) (windows p l.t))
  -- (d)
  pub alike : r.accepted ≡ true → s.accepted ≡ true → Alike l k
      → (take l.t r.answers ≡ take l.t s.answers) × (take l.t r.names ≡ take l.t s.names)
      × (r.queries ≡ s.queries) × (r.opened ≡ s.opened)
  -- (e)
  pub tables : l ≡ k → (r.accepted ≡ true ↔ s.accepted ≡ true)
      × (r.accepted ≡ true → (r.answers ≡ s.answers) × (r.names ≡ s.names) × (r.work ≡ s.work))

abbrev pub Demand3Holds : Type 0
Demand3Holds = (l k : Lent) (p q : ℕ) → Allowed p → Allowed q → (r s : Outcome) → r ≡ replay l p → s ≡ replay k q → Demand3 l k p q r s

-- the same of one outcome r of lending l with the share p, beside every lending and every share: what the public call promises of its own outcome
abbrev pub KeepsDemand3 : Lent → ℕ → Outcome → Type 0
KeepsDemand3 l p r = (k : Lent) (q : ℕ) → Allowed p → Allowed q → Demand3 l k p q r (replay k q)

-- ---- the same of calls that were made
-- a call of the public `replay` (crate call_replay): its share, what it was lent, its reply, and the three tables that it may write as they were afterwards
pub record Call : Type 0 where
  pub share : ℕ
  pub lends : Lent
  pub reply : Result Totals Refusal
  pub answers : List ℕ
  pub names : List ℕ
  pub work : List ℕ

-- the call's outcome, and what its own `ensures` says of it
abbrev pub outcome_of : Call → Outcome
outcome_of c = outcome c.reply c.answers c.names c.work

abbrev pub Promised : Call → Type 0
Promised c = outcome_of c ≡ replay c.lends c.share

abbrev pub Demand3OfCalls : Type 0
Demand3OfCalls = (c d : Call) → Allowed c.share → Allowed d.share → Promised c → Promised d
    → Demand3 c.lends d.lends c.share d.share (outcome_of c) (outcome_of d)
