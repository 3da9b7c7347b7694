-- The blocks of a graph on a spanning forest, and the reduced graph (document 000, section 3.2, with Lemma 7 mended): each block becomes a cycle through its relevant
-- junctions, an edge where there is one beside its top; then junctions of idle chains are merged into their tops. The reduced graph has the same colourings at the
-- active junctions (proofs/Reduction).
-- A tree edge is named by its lower end, a junction with a parent. A class is a set of such junctions; its block is the class and its top, the parent of its first member.
-- Assumes nothing: these are definitions.
use Rattle.std.specs.Prelude.{◌<◌, ◌≤◌, ℕ, cond, false, true, ◌⊎◌, ◌≡◌, eqb}
use mathlib.Core.List.{List, Memᴰ, [], ◌++◌, ◌∷◌}
use Rattle.theory_graph.specs.Graph.{Edge, NodeSet}
use Rattle.theory_graph.specs.Lists.{Distinct}
use Rattle.theory_junctions.specs.Colouring.{Colouring, lost}

-- ---- blocks on a forest
-- u lies in the block of the class whose first member is c
abbrev pub InBlock : NodeSet → (ℕ → ℕ) → (ℕ → ℕ) → ℕ → ℕ → Type 0
InBlock child par first c u = ((child u ≡ true) × (first u ≡ c)) ⊎ (u ≡ par c)

pub record Blocks (E : List Edge) : Type 0 where
  pub seen : NodeSet
  -- the junctions that were seen and are no root
  pub child : NodeSet
  pub par : ℕ → ℕ
  -- the place in the order of the search
  pub pos : ℕ → ℕ
  -- the first member of a child's class
  pub first : ℕ → ℕ
  pub child_seen : (v : ℕ) → child v ≡ true → seen v ≡ true
  pub par_seen : (v : ℕ) → child v ≡ true → seen (par v) ≡ true
  pub par_pos : (v : ℕ) → child v ≡ true → pos (par v) < pos v
  pub first_child : (v : ℕ) → child v ≡ true → child (first v) ≡ true
  pub first_first : (v : ℕ) → child v ≡ true → first (first v) ≡ first v
  pub first_pos : (v : ℕ) → child v ≡ true → pos (first v) ≤ pos v
  -- each edge is a loop, or of two junctions that were not seen, or lies in one block
  pub edge_block : (p q : ℕ) → Memᴰ (p, q) E → ¬ (p ≡ q)
      → ((seen p ≡ false) × (seen q ≡ false)) ⊎ ((v : ℕ) × (child v ≡ true) × InBlock child par first (first v) p × InBlock child par first (first v) q)
  -- no loss of one junction splits a block
  pub whole : (φ : Colouring E) (v p q : ℕ) → child v ≡ true → InBlock child par first (first v) p → InBlock child par first (first v) q
      → lost φ.loss p ≡ false → lost φ.loss q ≡ false → φ.side p ≡ φ.side q

-- the top of a child's block
abbrev pub top_of : {E : List Edge} → Blocks E → ℕ → ℕ
top_of B v = B.par (B.first v)

-- ---- cycles
-- t, then the entries of the list, each joined to the one before it
abbrev pub chain : ℕ → List ℕ → List Edge
chain t [] = []
chain t (u ∷ us) = (t, u) ∷ chain u us

abbrev pub last_of : ℕ → List ℕ → ℕ
last_of t [] = t
last_of t (u ∷ us) = last_of u us

-- the last joined to t, where there are two at least
abbrev pub closing : ℕ → List ℕ → List Edge
closing t [] = []
closing t (u ∷ []) = []
closing t (u ∷ w ∷ us) = (last_of w us, t) ∷ []

abbrev pub cycle : ℕ → List ℕ → List Edge
cycle t us = chain t us ++ closing t us

-- ---- the graph of cycles
-- H has, for each class, a cycle through its top and its relevant members, listed by ring; K are the active junctions
pub record Rings (E : List Edge) (B : Blocks E) (K : NodeSet) (H : List Edge) : Type 0 where
  pub relevant : NodeSet
  pub ring : ℕ → List ℕ
  pub active : (k : ℕ) → K k ≡ true → relevant k ≡ true
  pub relevant_seen : (v : ℕ) → relevant v ≡ true → B.seen v ≡ true
  pub relevant_top : (v : ℕ) → relevant v ≡ true → B.child v ≡ true → relevant (top_of B v) ≡ true
  pub ring_member : (v u : ℕ) → B.child v ≡ true → Memᴰ u (ring (B.first v)) → (relevant u ≡ true) × (B.child u ≡ true) × (B.first u ≡ B.first v)
  pub member_ring : (u : ℕ) → B.child u ≡ true → relevant u ≡ true → Memᴰ u (ring (B.first u))
  pub ring_once : (v : ℕ) → B.child v ≡ true → Distinct (ring (B.first v))
  pub ring_edge : (v p q : ℕ) → B.child v ≡ true → Memᴰ (p, q) (cycle (top_of B v) (ring (B.first v))) → Memᴰ (p, q) H
  pub edge_ring : (p q : ℕ) → Memᴰ (p, q) H → (v : ℕ) × (B.child v ≡ true) × Memᴰ (p, q) (cycle (top_of B v) (ring (B.first v)))

-- ---- merging
-- v is merged into t
abbrev pub onto : ℕ → ℕ → ℕ → ℕ
onto t v u = cond (eqb u v) t u

-- v may be merged into its top: both are idle, v is the one relevant member of its class, and v is the top of one class with relevant members
pub record Mergeable (E : List Edge) (B : Blocks E) (K : NodeSet) (H : List Edge) (R : Rings E B K H) (v : ℕ) : Type 0 where
  pub is_child : B.child v ≡ true
  pub idle : K v ≡ false
  pub top_idle : K (top_of B v) ≡ false
  pub alone : R.ring (B.first v) ≡ v ∷ []
  pub below : ℕ
  pub one_below : (u : ℕ) → B.child u ≡ true → R.relevant u ≡ true → top_of B u ≡ v → B.first u ≡ below

-- the junctions of a list merged into their tops, the last entry first
abbrev pub merged_to : {E : List Edge} → Blocks E → List ℕ → ℕ → ℕ
merged_to B [] u = u
merged_to B (v ∷ vs) u = onto (merged_to B vs (top_of B v)) v (merged_to B vs u)

-- each entry comes later in the search than those after it, and may be merged
abbrev pub AllMergeable : (E : List Edge) (B : Blocks E) (K : NodeSet) (H : List Edge) → Rings E B K H → List ℕ → Type 0
AllMergeable E B K H R [] = Unit {0}
AllMergeable E B K H R (v ∷ vs) = Mergeable E B K H R v × ((w : ℕ) → Memᴰ w vs → B.pos w < B.pos v) × AllMergeable E B K H R vs
