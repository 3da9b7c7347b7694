-- Merging along the tree path between the ends of each edge that is no tree edge.
-- Assumes nothing: these are definitions.
use Rattle.std.specs.Prelude.{◌*◌, ◌+◌, ◌<◌, ◌≤◌, ℕ, List, ◌⊎◌, ◌≡◌, length}
use Rattle.core_components.specs.Tops.{FollowsParents, MergedPath, OnlyTops, Stable, Tops}
use Rattle.core_forest.specs.Forest.{ForestAt, edges_below}
use Rattle.theory_graph.specs.Cut.{cut}
use Rattle.theory_graph.specs.Graph.{NodeSet}
use Rattle.core_words.specs.Fields.{EDGE, PARENT, POSITION, TO, TOP, half, node}

-- a seen edge that is no tree edge
pub record NonTreeEdge (to pos te : ℕ → ℕ) (e : ℕ) : Type 0 where
  pub seen : 0 < pos (to (2 * e))
  pub first : te (to (2 * e)) ≡ e + 1 → ⊥
  pub second : te (to (2 * e + 1)) ≡ e + 1 → ⊥

pub record CanMergeEdge (n m e : ℕ) (w : List ℕ) : Type 0 where
  pub few : n ≤ 65536
  pub less : e < m
  pub room : 16 * n + 6 * m ≤ length w
  pub forest : ForestAt n m w
  pub tops : Tops n (node POSITION w) (node TOP w)
  pub full : (D : NodeSet) → FollowsParents n (node PARENT w) (node TOP w) D → Stable n (node TOP w) D

-- the tree path of edge e is merged where it is no tree edge
abbrev pub EdgeMerged : ℕ → ℕ → List ℕ → List ℕ → Type 0
EdgeMerged n e w w' = ((w' ≡ w) × (NonTreeEdge (half n TO w) (node POSITION w) (node EDGE w) e → ⊥))
    ⊎ (MergedPath n w (half n TO w (2 * e)) (half n TO w (2 * e + 1)) w' × NonTreeEdge (half n TO w) (node POSITION w) (node EDGE w) e)

-- the same of the first i edges
pub record EdgesMerged (n m : ℕ) (w₀ : List ℕ) (i : ℕ) (w : List ℕ) : Type 0 where
  pub rest : OnlyTops n w₀ w
  pub tops : Tops n (node POSITION w₀) (node TOP w)
  pub sound : (U : NodeSet) → cut U (edges_below (half n TO w₀) m) ≤ 1 → Stable n (node TOP w) U
  pub full : (D : NodeSet) → FollowsParents n (node PARENT w₀) (node TOP w) D → Stable n (node TOP w) D
  pub done : (D : NodeSet) → FollowsParents n (node PARENT w₀) (node TOP w) D → (e : ℕ) → e < i → NonTreeEdge (half n TO w₀) (node POSITION w₀) (node EDGE w₀) e
      → D (half n TO w₀ (2 * e)) ≡ D (half n TO w₀ (2 * e + 1))

-- before: each node is its own top
pub record CanMerge (n m : ℕ) (w : List ℕ) : Type 0 where
  pub few : n ≤ 65536
  pub much : m ≤ 65536
  pub room : 16 * n + 6 * m ≤ length w
  pub forest : ForestAt n m w
  pub self : (u : ℕ) → u < n → node TOP w u ≡ u

-- the tops after merging: each node goes straight to its top, sound and complete
pub record FinalTops (n m : ℕ) (to pos par te : ℕ → ℕ) (t : ℕ → ℕ) : Type 0 where
  pub tops : Tops n pos t
  pub flat : (u : ℕ) → u < n → t (t u) ≡ t u
  pub seen : (u : ℕ) → u < n → 0 < pos u → 0 < pos (t u)
  pub sound : (U : NodeSet) → cut U (edges_below to m) ≤ 1 → Stable n t U
  pub full : (D : NodeSet) → FollowsParents n par t D → Stable n t D
  pub done : (D : NodeSet) → FollowsParents n par t D → (e : ℕ) → e < m → NonTreeEdge to pos te e → D (to (2 * e)) ≡ D (to (2 * e + 1))
