-- The classes of tree edges while blocks are merged. A tree edge is named by its lower end, a node with a parent. `t` takes a node to an earlier node of its class;
-- following it leads to the first node of the class, which it takes to itself. What is found is theory_junctions' `first_after`.
-- Assumes nothing: these are definitions.
use Rattle.std.specs.Prelude.{◌*◌, ◌+◌, ◌<◌, ◌≤◌, ℕ, List, ◌⊎◌, ◌≡◌, length}
use Rattle.theory_junctions.specs.PathMerging.{first_after, merge_on, unite}
use Rattle.core_words.specs.Fields.{PARENT, POSITION, EDGE, ROOT, TO, TOP, Put, half, node}
use Rattle.core_forest.specs.Forest.{ForestAt, edges_below}
use Rattle.core_components.specs.Tops.{OnlyTops, Tops}
use Rattle.core_blocks.specs.SearchSets.{seen_by}

-- t leads from each node to its first
pub record Leads (n : ℕ) (pos t first : ℕ → ℕ) : Type 0 where
  pub tops : Tops n pos t
  pub along : (u : ℕ) → u < n → first (t u) ≡ first u
  pub fit : (u : ℕ) → u < n → first u < n
  pub stop : (u : ℕ) → u < n → t (first u) ≡ first u
  pub own : (u : ℕ) → u < n → t u ≡ u → first u ≡ u

-- u was seen and is no root
abbrev pub IsChild : ℕ → (ℕ → ℕ) → (ℕ → ℕ) → ℕ → Type 0
IsChild n pos te u = (u < n) × (0 < pos u) × ¬ (te u ≡ 0)

-- the first node of a class is a child, of the same tree, and no later than the others
pub record InTrees (n : ℕ) (pos te root first : ℕ → ℕ) : Type 0 where
  pub child : (u : ℕ) → IsChild n pos te u → IsChild n pos te (first u)
  pub tree : (u : ℕ) → IsChild n pos te u → root (first u) ≡ root u
  pub low : (u : ℕ) → IsChild n pos te u → pos (first u) ≤ pos u

-- of p and q the later goes under the earlier
abbrev pub TopsJoined : ℕ → ℕ → List ℕ → List ℕ → Type 0
TopsJoined p q w w' = ((node POSITION w p < node POSITION w q) × Put TOP q p w w') ⊎ ((node POSITION w q ≤ node POSITION w p) × Put TOP p q w w')

pub record CanMergeClass (n : ℕ) (w : List ℕ) (s a : ℕ) : Type 0 where
  pub few : n ≤ 65536
  pub room : 16 * n ≤ length w
  pub fit : s < n
  pub fit' : a < n
  pub tops : Tops n (node POSITION w) (node TOP w)

-- the classes of s and a are one; r is the parent of the first node that a had
pub record ClassMerged (n : ℕ) (w : List ℕ) (s a : ℕ) (w' : List ℕ) (r : ℕ) : Type 0 where
  pub rest : OnlyTops n w w'
  pub up : (first : ℕ → ℕ) → Leads n (node POSITION w) (node TOP w) first → r ≡ node PARENT w (first a)
  pub leads : (first : ℕ → ℕ) → Leads n (node POSITION w) (node TOP w) first
      → (node POSITION w (first s) ≡ node POSITION w (first a) → first s ≡ first a)
      → Leads n (node POSITION w) (node TOP w') (unite (node POSITION w) first (first s) (first a))

-- a seen node of the tree of s
pub record InTreeOf (n : ℕ) (w : List ℕ) (s a : ℕ) : Type 0 where
  pub fit : a < n
  pub seen : 0 < node POSITION w a
  pub same : node ROOT w a ≡ node ROOT w s

abbrev pub InTreesAt : ℕ → List ℕ → (ℕ → ℕ) → Type 0
InTreesAt n w first = InTrees n (node POSITION w) (node EDGE w) (node ROOT w) first

pub record CanMergePath (n m : ℕ) (w : List ℕ) (s a b : ℕ) : Type 0 where
  pub few : n ≤ 65536
  pub room : 16 * n ≤ length w
  pub forest : ForestAt n m w
  pub first : ℕ → ℕ
  pub leads : Leads n (node POSITION w) (node TOP w) first
  pub trees : InTreesAt n w first
  pub child : IsChild n (node POSITION w) (node EDGE w) s
  pub left : InTreeOf n w s a
  pub right : InTreeOf n w s b

-- the classes on the way from a and b up to where they meet are merged with that of s
pub record PathMerged (n : ℕ) (w : List ℕ) (s a b : ℕ) (w' : List ℕ) : Type 0 where
  pub rest : OnlyTops n w w'
  pub leads : (first : ℕ → ℕ) → Leads n (node POSITION w) (node TOP w) first → InTreesAt n w first
      → (f : ℕ) → node POSITION w a + node POSITION w b < f
      → Leads n (node POSITION w) (node TOP w') (merge_on (node PARENT w) (node POSITION w) f first a b s)

-- the first node of each class after the first i edges
abbrev pub firsts_below : ℕ → List ℕ → ℕ → ℕ → ℕ
firsts_below n w i = first_after (seen_by n (node POSITION w)) (node PARENT w) (node POSITION w) (edges_below (half n TO w) i)

-- the first i edges are merged
pub record EdgesMerged (n : ℕ) (w₀ : List ℕ) (i : ℕ) (w : List ℕ) : Type 0 where
  pub rest : OnlyTops n w₀ w
  pub leads : Leads n (node POSITION w₀) (node TOP w) (firsts_below n w₀ i)

pub record CanMergeEdge (n m e : ℕ) (w : List ℕ) : Type 0 where
  pub few : n ≤ 65536
  pub less : e < m
  pub room : 16 * n + 6 * m ≤ length w
  pub forest : ForestAt n m w
  pub leads : Leads n (node POSITION w) (node TOP w) (firsts_below n w e)

-- before: each node is its own top
pub record CanMerge (n m : ℕ) (w : List ℕ) : Type 0 where
  pub few : n ≤ 65536
  pub room : 16 * n + 6 * m ≤ length w
  pub forest : ForestAt n m w
  pub self : (u : ℕ) → u < n → node TOP w u ≡ u

-- from a to w: TOP of a node is the first node of its class
pub record BlocksMerged (n m : ℕ) (a w : List ℕ) : Type 0 where
  pub rest : OnlyTops n a w
  pub firsts : (u : ℕ) → u < n → node TOP w u ≡ firsts_below n a m u
