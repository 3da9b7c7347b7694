-- The sibling's demand, as demand 3 is the replay's: "All shares lead to the same replies, and each equals the definition over roads".
-- One statement about two outcomes: the replies in the words of document 02, straight from the open segments; that for each window a reduced graph is made, out
-- of the one above it; and that whichever is made replies as the window's own network does, whatever edges are added between its active junctions, and is small.
-- Its proof is proofs/JunctionDemand.
-- It cites, of theory_timeline: Lent, given, Alike, Allowed, Among, open_before, edges_of, network, active, windows; of theory_graph: joined, image, different; of
-- theory_junctions: reply, most_junctions and most_edges, the bounds 3k - 3 and 4k - 6; and JunctionReplay, JunctionSteps.
-- Assumes nothing: these are definitions.
use Rattle.std.specs.Prelude.{◌<◌, ◌≤◌, ℕ, false, true, ◌↔◌, ◌≡◌, get_or, length, take}
use mathlib.Core.List.{List, Memᴰ, ◌++◌}
use Rattle.theory_graph.specs.Graph.{Edge, joined}
use Rattle.theory_graph.specs.SmallGraph.{different, image}
use Rattle.theory_names.specs.Names.{plain}
use Rattle.theory_junctions.specs.Reply.{reply}
use Rattle.theory_timeline.specs.DemandThree.{Alike, Allowed, Among}
use Rattle.theory_timeline.specs.Events.{SegmentSet}
use Rattle.theory_timeline.specs.Replay.{Lent, given}
use Rattle.theory_timeline.specs.Windows.{Timeline, Window, active, asks_at, edges_of, event, network, open_before, windows}
use Rattle.theory_junction_timeline.specs.JunctionReplay.{JunctionOutcome, replay_junctions, sparing}
use Rattle.theory_junction_timeline.specs.JunctionSteps.{HasMade, JunctionsMade}
use Rattle.theory_junctions.specs.ReducedGraph.{most_edges, most_junctions}

-- ---- the byte of event i, in the words of document 02
-- a route of segments of o runs between the two junctions of event i
abbrev pub JoinedBy : Timeline → ℕ → SegmentSet → Type 0
JoinedBy g i o = joined (plain (edges_of g o)) (event g i).0 (event g i).1 ≡ true

-- the loss of junction c, which takes all open segments that meet it, leaves none
abbrev pub PartedBy : Timeline → ℕ → ℕ → Type 0
PartedBy g i c = joined (plain (edges_of g (sparing g c (open_before g i)))) (event g i).0 (event g i).1 ≡ false

-- c is a third junction
abbrev pub Third : Timeline → ℕ → ℕ → Type 0
Third g i c = ¬ (c ≡ (event g i).0) × ¬ (c ≡ (event g i).1)

-- b is the byte of event i
pub record IsJunctionByte (g : Timeline) (i b : ℕ) : Type 0 where
  pub change : asks_at g i ≡ false → b ≡ 3
  pub zero : asks_at g i ≡ true → (b ≡ 0) ↔ ¬ JoinedBy g i (open_before g i)
  pub one : asks_at g i ≡ true → (b ≡ 1) ↔ (JoinedBy g i (open_before g i) × ((c : ℕ) × Third g i c × PartedBy g i c))
  pub two : asks_at g i ≡ true → (b ≡ 2) ↔ (JoinedBy g i (open_before g i) × ((c : ℕ) → Third g i c → ¬ PartedBy g i c))
  pub some : asks_at g i ≡ true → b ≤ 2

-- ---- a graph of n nodes with the edges H, in which junction a stands at σ a, serves for a window
pub record JunctionsFaithful (g : Timeline) (w : Window) (n : ℕ) (H : List Edge) (σ : ℕ → ℕ) : Type 0 where
  -- whatever edges are added between active junctions
  pub replies : (F : List Edge) → Among (active g w) F → (x y : ℕ) → Memᴰ x (active g w) → Memᴰ y (active g w)
      → reply (plain (network g w) ++ F) x y ≡ reply (H ++ image σ F) (σ x) (σ y)
  pub nodes : n ≤ most_junctions (different (active g w))
  pub edges : length H ≤ most_edges (different (active g w))

-- ---- the statement: r is the outcome of lending l with the share p, s that of lending k with the share q
pub record JunctionDemand (l k : Lent) (p q : ℕ) (r s : JunctionOutcome) : Type 0 where
  -- each byte is the one of the documents
  pub bytes : r.accepted ≡ true → (i : ℕ) → i < l.t → IsJunctionByte (given l) i (get_or r.answers i 0)
  -- for each window a reduced graph is made, out of the one above it and not out of the network,
  pub made : r.accepted ≡ true → (w : Window) → Memᴰ w (windows p l.t) → HasMade (given l) w
  -- and whichever is made replies as the window's network does, and is small
  pub faithful : r.accepted ≡ true → (w : Window) → Memᴰ w (windows p l.t) → (n : ℕ) (H : List Edge) (σ : ℕ → ℕ) → JunctionsMade (given l) w n H σ
      → JunctionsFaithful (given l) w n H σ
  -- lent alike but for the tables that are written: the same replies and numbers
  pub alike : r.accepted ≡ true → s.accepted ≡ true → Alike l k
      → (take l.t r.answers ≡ take l.t s.answers) × (r.queries ≡ s.queries) × (r.opened ≡ s.opened)
  -- lent the same: accepted alike, and then every table alike
  pub tables : l ≡ k → (r.accepted ≡ true ↔ s.accepted ≡ true) × (r.accepted ≡ true → (r.answers ≡ s.answers) × (r.work ≡ s.work))

abbrev pub JunctionDemandHolds : Type 0
JunctionDemandHolds = (l k : Lent) (p q : ℕ) → Allowed p → Allowed q → (r s : JunctionOutcome) → r ≡ replay_junctions l p → s ≡ replay_junctions k q → JunctionDemand l k p q r s

-- the same of one outcome r of lending l with the share p, beside every lending and every share: what the public call promises of its own outcome
abbrev pub KeepsJunctionDemand : Lent → ℕ → JunctionOutcome → Type 0
KeepsJunctionDemand l p r = (k : Lent) (q : ℕ) → Allowed p → Allowed q → JunctionDemand l k p q r (replay_junctions k q)
