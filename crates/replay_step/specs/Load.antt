-- What the pieces of a step do to the words: a front that they only read, and the contraction's words behind it, from `scratch` on.
-- First the active nodes, then the edges of the window's graph, then those of the events beside the part; then the part's area is written out of the
-- contraction's result.
-- Assumes nothing: these are definitions.
use Rattle.std.specs.Prelude.{◌*◌, ◌+◌, ◌-◌, ◌<◌, ◌≤◌, ℕ, Bool, List, ◌++◌, map, ◌≡◌, drop, get_or, length, take}
use Rattle.core_loading.specs.Loading.{Entered}
use Rattle.core_reduce.specs.Core.{edges_in}
use Rattle.core_reduce.specs.declared.Counts.{Counts}
use Rattle.core_words.specs.Fields.{ACTIVE, MARK, NAME, TO, half, node}
use Rattle.theory_graph.specs.Lists.{table}
use Rattle.theory_names.specs.Names.{Entry}
use Rattle.theory_names.specs.NamedSmallGraph.{IsNamedSmallGraph}
use Rattle.theory_timeline.specs.Tags.{adds, key_of, pick_events}
use Rattle.replay_step.specs.Area.{area_edges, area_words, span}
use Rattle.replay_step.specs.declared.Graph.{Graph}
use Rattle.replay_step.specs.declared.Part.{Part}
use Rattle.replay_step.specs.declared.Window.{Window}

-- the words of the graph that is loaded begin right behind the part's area
abbrev pub BehindOf : (ℕ → ℕ) → Part → Type 0
BehindOf words p = p.scratch ≡ p.area + words p.events

abbrev pub Behind : Part → Type 0
Behind = BehindOf area_words

-- ---- active nodes
-- the nodes at the `count` words from `from` on, before s, are nodes of a graph that has n and whose words stand from s on
pub record ActiveReady (from count s n : ℕ) (w : List ℕ) : Type 0 where
  pub front : from + count ≤ s
  pub room : s + 16 * n ≤ length w
  pub many : n ≤ 65536
  pub nodes : (i : ℕ) → i < count → get_or w (from + i) 0 < n

-- those at the `count` words from `from` on are entered
pub record Actives (from count s n : ℕ) (w z : List ℕ) (k : ℕ) : Type 0 where
  pub front : take s z ≡ take s w
  pub entered : Entered n (take count (drop from w)) k (node MARK (drop s z)) (node ACTIVE (drop s z))

-- ---- edges
-- edge j of three runs of words, each q words behind the one before: the smaller ends, the larger ends, the names
abbrev pub edge_at : ℕ → ℕ → List ℕ → ℕ → Entry
edge_at from q v j = ((get_or v (from + j) 0, get_or v (from + q + j) 0), get_or v (from + 2 * q + j) 0)

-- m such edges, before s, join nodes below n and have names of 16 bits
pub record EdgesReady (from q m s n : ℕ) (w : List ℕ) : Type 0 where
  pub front : from + 3 * q ≤ s
  pub room : s + 16 * n + 6 * m ≤ length w
  pub few : m ≤ q
  pub much : m ≤ 32768
  pub many : n ≤ 65536
  pub nodes : (j : ℕ) → j < m → (get_or w (from + j) 0 < n) × (get_or w (from + q + j) 0 < n) × (get_or w (from + 2 * q + j) 0 < 65536)

-- m edges are loaded; the nodes' fields are as they were
pub record Edged (s n m : ℕ) (w z : List ℕ) : Type 0 where
  pub front : take s z ≡ take s w
  pub nodes : (j : ℕ) → j < 16 → (v : ℕ) → v < n → node j (drop s z) v ≡ node j (drop s w) v
  pub ends : (h : ℕ) → h < 2 * m → half n TO (drop s z) h < n
  pub names : (j : ℕ) → j < m → half n NAME (drop s z) (2 * j) < 65536

-- from v to z, of the numbers from i up to j those that pass have their edges loaded behind the m that are there: r edges then
pub record AddedBy (s n : ℕ) (f : ℕ → Bool) (E : ℕ → Entry) (i j m : ℕ) (v z : List ℕ) (r : ℕ) : Type 0 where
  pub long : length z ≡ length v
  pub edged : Edged s n r v z
  pub more : edges_in n r (drop s z) ≡ edges_in n m (drop s v) ++ pick_events f E i (j - i)
  pub most : r ≤ m + (j - i)

-- those of three runs
pub record Copied (from q m s n : ℕ) (w z : List ℕ) : Type 0 where
  pub edged : Edged s n m w z
  pub same : edges_in n m (drop s z) ≡ table (edge_at from q w) 0 m

-- ---- the events beside the part
-- event i of the window adds its key, by the words of the area
abbrev pub adds_in : Window → Part → List ℕ → ℕ → Bool
adds_in w p v i =
    adds (span w) (p.at, p.events) (w.at + i)
    (get_or v (2 * w.events + 3 * i) 0) (get_or v (2 * w.events + 3 * i + 1) 0) (get_or v (2 * w.events + 3 * i + 2) 0)

-- the edge between its two nodes, with its key as the name
abbrev pub entry_in : ℕ → List ℕ → ℕ → Entry
entry_in e v i = ((get_or v (2 * i) 0, get_or v (2 * i + 1) 0), key_of (get_or v (2 * e + 3 * i) 0))

-- m edges are loaded, and the window's places and words, with keys of 16 bits, stand before the contraction's words; the events from i up to j are to be added
pub record AddReady (w : Window) (p : Part) (i j m : ℕ) (v : List ℕ) : Type 0 where
  pub order : i ≤ j
  pub inside : j ≤ w.events
  pub much : w.at + w.events ≤ 4096
  pub part : p.at + p.events ≤ 4096
  pub front : 5 * w.events ≤ p.scratch
  pub room : p.scratch + 16 * w.nodes + 6 * (m + (j - i)) ≤ length v
  pub few : m + (j - i) ≤ 32768
  pub many : w.nodes ≤ 65536
  pub nodes : (k : ℕ) → k < 2 * w.events → get_or v k 0 < w.nodes
  pub keys : (k : ℕ) → k < w.events → key_of (get_or v (2 * w.events + 3 * k) 0) < 65536
  pub ends : (h : ℕ) → h < 2 * m → half w.nodes TO (drop p.scratch v) h < w.nodes
  pub names : (k : ℕ) → k < m → half w.nodes NAME (drop p.scratch v) (2 * k) < 65536

abbrev pub Added : Window → Part → ℕ → ℕ → ℕ → List ℕ → List ℕ → ℕ → Type 0
Added w p i j m v z r = AddedBy p.scratch w.nodes (adds_in w p v) (entry_in w.events v) i j m v z r

-- ---- the part's area
-- A graph is loaded: its active nodes are those at the part's places, each once.
pub record MakeReady (p : Part) (l : Graph) (w : List ℕ) : Type 0 where
  pub places : p.places + 2 * p.events ≤ p.area
  pub words : p.words + 3 * p.events ≤ p.area
  pub room : p.scratch + 16 * l.nodes + 6 * l.edges ≤ length w
  pub much : p.events ≤ 4096
  pub many : l.nodes ≤ 65536
  pub few : l.edges ≤ 32768
  pub nodes : (i : ℕ) → i < 2 * p.events → get_or w (p.places + i) 0 < l.nodes
  pub entered : Entered l.nodes (take (2 * p.events) (drop p.places w)) l.active (node MARK (drop p.scratch w)) (node ACTIVE (drop p.scratch w))
  pub ends : (h : ℕ) → h < 2 * l.edges → half l.nodes TO (drop p.scratch w) h < l.nodes
  pub names : (j : ℕ) → j < l.edges → half l.nodes NAME (drop p.scratch w) (2 * j) < 65536

-- In either replay: a graph made of it stands in the part's area of `words` words, with the part's events; before the area nothing changes. `Made` says of σ, by
-- which active nodes are renumbered, and of the area's words what graph it is.
pub record AreaMadeOf (Made : (ℕ → ℕ) → List ℕ → Type 0) (words : ℕ → ℕ) (p : Part) (w z : List ℕ) : Type 0 where
  pub front : take p.area z ≡ take p.area w
  pub σ : ℕ → ℕ
  pub graph : Made σ (take (words p.events) (drop p.area z))
  pub places : take (2 * p.events) (take (words p.events) (drop p.area z)) ≡ map σ (take (2 * p.events) (drop p.places w))
  pub events : take (3 * p.events) (drop (2 * p.events) (take (words p.events) (drop p.area z))) ≡ take (3 * p.events) (drop p.words w)

-- the replay's: its small graph, by the contraction
pub record SmallMade (p : Part) (l : Graph) (w : List ℕ) (r : Counts) (σ : ℕ → ℕ) (u : List ℕ) : Type 0 where
  pub ρ : ℕ → ℕ
  pub small : IsNamedSmallGraph (edges_in l.nodes l.edges (drop p.scratch w)) (take (2 * p.events) (drop p.places w)) r.nodes
      (area_edges p.events r.edges u) ρ σ

abbrev pub AreaMade : Part → Graph → List ℕ → List ℕ → Counts → Type 0
AreaMade p l w z r = AreaMadeOf (SmallMade p l w r) area_words p w z

-- ---- what is loaded
-- the places, the words and the graph of a window stand in the words, with room for `most` edges; of what they say no more is asked than this
pub record LoadReady (w : Window) (most : ℕ) (p : Part) (v : List ℕ) : Type 0 where
  pub starts : w.at ≤ p.at
  pub ends : p.at + p.events ≤ w.at + w.events
  pub much : w.at + w.events ≤ 4096
  pub many : w.nodes ≤ 65536
  pub few : w.edges ≤ most
  pub light : w.edges + w.events ≤ 32768
  pub places : p.places ≡ 2 * (p.at - w.at)
  pub words : p.words ≡ 2 * w.events + 3 * (p.at - w.at)
  pub front : 5 * w.events + 3 * most ≤ p.area
  pub behind : p.area ≤ p.scratch
  pub room : p.scratch + 16 * w.nodes + 6 * (w.edges + w.events) ≤ length v
  pub nodes : (i : ℕ) → i < 2 * w.events → get_or v i 0 < w.nodes
  pub keys : (k : ℕ) → k < w.events → key_of (get_or v (2 * w.events + 3 * k) 0) < 65536
  pub edges : (j : ℕ) → j < w.edges
      → (get_or v (5 * w.events + j) 0 < w.nodes) × (get_or v (5 * w.events + most + j) 0 < w.nodes) × (get_or v (5 * w.events + 2 * most + j) 0 < 65536)

pub record PartLoaded (w : Window) (most : ℕ) (p : Part) (v z : List ℕ) (l : Graph) : Type 0 where
  pub nodes : l.nodes ≡ w.nodes
  pub front : take p.scratch z ≡ take p.scratch v
  pub ready : MakeReady p l z
  pub most_edges : l.edges ≤ w.edges + w.events
  pub edges : edges_in l.nodes l.edges (drop p.scratch z)
      ≡ table (edge_at (5 * w.events) most v) 0 w.edges
      ++ (pick_events (adds_in w p v) (entry_in w.events v) 0 (p.at - w.at)
      ++ pick_events (adds_in w p v) (entry_in w.events v) (p.at - w.at + p.events) (w.events - (p.at - w.at + p.events)))
