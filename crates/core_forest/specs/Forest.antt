-- The edges in the half-edges' far ends, and a spanning forest of them: each node that was seen is a root, or has a parent that was seen before it by a
-- tree edge.
-- Functions of a node: `pos` one more than its place in the search (0 unseen), `par` the parent, `te` one more than the tree edge (0 for none), `root` the
-- root of its tree.
-- Assumes nothing: these are definitions.
use Rattle.std.specs.Prelude.{◌*◌, ◌+◌, ◌<◌, ◌≤◌, suc, zero, ℕ, List, [], ◌∷◌, ◌⊎◌, ◌≡◌}
use Rattle.theory_graph.specs.Graph.{Edge}
use Rattle.core_words.specs.Fields.{EDGE, PARENT, POSITION, ROOT, TO, half, node}

-- edge e joins to (2 e) and to (2 e + 1); the order of the list does not matter
abbrev pub edges_below : (ℕ → ℕ) → ℕ → List Edge
edges_below to zero = []
edges_below to (suc e) = (to (2 * e), to (2 * e + 1)) ∷ edges_below to e

-- edge e joins u and v
abbrev pub Joins : (ℕ → ℕ) → ℕ → ℕ → ℕ → Type 0
Joins to e u v = ((to (2 * e) ≡ u) × (to (2 * e + 1) ≡ v)) ⊎ ((to (2 * e) ≡ v) × (to (2 * e + 1) ≡ u))

pub record Root (par te root : ℕ → ℕ) (u : ℕ) : Type 0 where
  pub top : root u ≡ u
  pub self : par u ≡ u
  pub none : te u ≡ 0

pub record HasParent (n m : ℕ) (to pos par te root : ℕ → ℕ) (u : ℕ) : Type 0 where
  pub edge : ℕ
  pub is : te u ≡ edge + 1
  pub less : edge < m
  pub join : Joins to edge u (par u)
  pub fit : par u < n
  pub seen : 0 < pos (par u)
  pub up : pos (par u) < pos u
  pub same : root (par u) ≡ root u

pub record Forest (n m : ℕ) (to pos par te root : ℕ → ℕ) : Type 0 where
  pub ends : (h : ℕ) → h < 2 * m → to h < n
  pub one : (u v : ℕ) → u < n → v < n → 0 < pos u → pos u ≡ pos v → u ≡ v
  pub kind : (u : ℕ) → u < n → 0 < pos u → Root par te root u ⊎ HasParent n m to pos par te root u
  pub first : (u : ℕ) → u < n → 0 < pos u → pos (root u) ≤ pos u
  pub over : (e : ℕ) → e < m → 0 < pos (to (2 * e)) → (0 < pos (to (2 * e + 1))) × (root (to (2 * e)) ≡ root (to (2 * e + 1)))
  pub back : (e : ℕ) → e < m → 0 < pos (to (2 * e + 1)) → 0 < pos (to (2 * e))

-- the forest in the words
abbrev pub ForestAt : ℕ → ℕ → List ℕ → Type 0
ForestAt n m w = Forest n m (half n TO w) (node POSITION w) (node PARENT w) (node EDGE w) (node ROOT w)
