-- The edges out: for each node in order the edge of its cycle that leads to it, and where it is the first of a class with two relevant nodes at least, the edge that
-- closes the class's cycle. They stand behind the m edges in.
-- Assumes nothing: these are definitions.
use Rattle.std.specs.Prelude.{◌*◌, ◌+◌, ◌-◌, ◌<◌, ◌≤◌, suc, zero, ℕ, cond, List, [], ◌++◌, ◌∷◌, ◌≡◌, eqb, ltb, length}
use Rattle.theory_graph.specs.Graph.{Edge}
use Rattle.theory_graph.specs.Lists.{table}
use Rattle.core_words.specs.Changes.{OnlyFields}
use Rattle.core_words.specs.Fields.{ACTIVE, EDGE, MAPPED, NUMBER, ORDER, PARENT, TO, TOP, half, node}
use Rattle.core_loading.specs.Loading.{Past}
use Rattle.core_cycles.specs.BlocksIn.{FROM, LAST, MEMBERS}
use Rattle.core_cycles.specs.Numbering.{NumbersAt}

-- the edges out: e of them, behind the m edges in
abbrev pub edges_behind : ℕ → ℕ → ℕ → List ℕ → List Edge
edges_behind n m e w = table (λ j. (half n TO w (2 * (m + j)), half n TO w (2 * (m + j) + 1))) 0 e

-- the edge of a - 1 and b, where a is not 0
abbrev pub edge_if : ℕ → ℕ → List Edge
edge_if a b = cond (eqb a 0) [] ((a - 1, b) ∷ [])

-- one more than the number that the closing edge of v's class comes from, where v is its first node and there are two relevant ones; else 0
abbrev pub closing_by : (ℕ → ℕ) → (ℕ → ℕ) → (ℕ → ℕ) → (ℕ → ℕ) → ℕ → ℕ
closing_by te top members last v = cond (eqb (te v) 0) 0 (cond (eqb (top v) v) (cond (ltb (members v) 2) 0 (last v)) 0)

abbrev pub closing_at : List ℕ → ℕ → ℕ
closing_at w v = closing_by (node EDGE w) (node TOP w) (node MEMBERS w) (node LAST w) v

-- the edges that are written at v
abbrev pub edges_by : (ℕ → ℕ) → (ℕ → ℕ) → (ℕ → ℕ) → (ℕ → ℕ) → (ℕ → ℕ) → (ℕ → ℕ) → (ℕ → ℕ) → ℕ → List Edge
edges_by te par top members number last from v = edge_if (from v) (number v) ++ edge_if (closing_by te top members last v) (number (par v))

-- those of the first i nodes
abbrev pub edges_up_to : (ℕ → ℕ) → (ℕ → ℕ) → (ℕ → ℕ) → (ℕ → ℕ) → (ℕ → ℕ) → (ℕ → ℕ) → (ℕ → ℕ) → (ℕ → ℕ) → ℕ → List Edge
edges_up_to ord te par top members number last from zero = []
edges_up_to ord te par top members number last from (suc i) = edges_up_to ord te par top members number last from i ++ edges_by te par top members number last from (ord i)

abbrev pub edges_at : List ℕ → ℕ → List Edge
edges_at w v = edges_by (node EDGE w) (node PARENT w) (node TOP w) (node MEMBERS w) (node NUMBER w) (node LAST w) (node FROM w) v

abbrev pub edges_to : List ℕ → ℕ → List Edge
edges_to w i = edges_up_to (node ORDER w) (node EDGE w) (node PARENT w) (node TOP w) (node MEMBERS w) (node NUMBER w) (node LAST w) (node FROM w) i

-- ---- one edge
pub record CanWriteEdge (n m e a b : ℕ) (w : List ℕ) : Type 0 where
  pub few : n ≤ 65536
  pub much : m ≤ 32768
  pub less : e ≤ 131072
  pub room : 16 * n + 6 * (m + e) + 6 ≤ length w
  pub first : a ≤ 65536
  pub second : ¬ (a ≡ 0) → b < 65536

-- from w to w' the edges G are written behind the e edges that are there, r in all; only words of these edges change
pub record Written (n m e : ℕ) (G : List Edge) (w w' : List ℕ) (r : ℕ) : Type 0 where
  pub same : length w' ≡ length w
  pub nodes : (j : ℕ) → j < 16 → (v : ℕ) → v < n → node j w' v ≡ node j w v
  pub past : Past (16 * n + 6 * (m + r)) w w'
  pub count : r ≡ e + length G
  pub edges : edges_behind n m r w' ≡ edges_behind n m e w ++ G

-- ---- one node
pub record CanWriteNode (n m e : ℕ) (w : List ℕ) (v : ℕ) : Type 0 where
  pub few : n ≤ 65536
  pub much : m ≤ 32768
  pub less : e + 1 ≤ 131072
  pub room : 16 * n + 6 * (m + e) + 12 ≤ length w
  pub fit : v < n
  pub parent_fit : node PARENT w v < n
  pub from_low : node FROM w v ≤ 65536
  pub from_number : ¬ (node FROM w v ≡ 0) → node NUMBER w v < 65536
  pub closing_low : closing_at w v ≤ 65536
  pub closing_number : ¬ (closing_at w v ≡ 0) → node NUMBER w (node PARENT w v) < 65536

-- ---- all nodes
pub record CanWriteCycles (n m k seen h : ℕ) (w : List ℕ) : Type 0 where
  pub few : n ≤ 65536
  pub much : m ≤ 32768
  pub room : 28 * n + 6 * m ≤ length w
  pub numbers : NumbersAt n m k seen seen h w

-- the edges of the first i nodes, e of them
pub record Writing (n m i : ℕ) (a w : List ℕ) (e : ℕ) : Type 0 where
  pub same : length w ≡ length a
  pub nodes : (j : ℕ) → j < 16 → (v : ℕ) → v < n → node j w v ≡ node j a v
  pub past : Past (28 * n + 6 * m) a w
  pub most : e ≤ 2 * i
  pub edges : edges_behind n m e w ≡ edges_to a i

-- ---- the numbers of the active nodes, as the caller finds them
pub record CanMap (n k : ℕ) (w : List ℕ) : Type 0 where
  pub few : n ≤ 65536
  pub room : 16 * n ≤ length w
  pub less : k ≤ n
  pub active : (i : ℕ) → i < k → node ACTIVE w i < n

-- the first i active nodes have their numbers
pub record Mapping (n : ℕ) (a : List ℕ) (i : ℕ) (w : List ℕ) : Type 0 where
  pub rest : OnlyFields (MAPPED ∷ []) n a w
  pub numbers : (j : ℕ) → j < i → node MAPPED w (node ACTIVE a j) ≡ node NUMBER a (node ACTIVE a j)
