-- The predicate "is a small graph of": what every contraction of a graph to an active list has, with the numbers of the nodes without an active node left open.
-- The step inside the replay promises it; the public contraction promises the one small graph that is numbered as document 01 says.
-- Then what it means for two small graphs to differ only in those numbers, and for a graph to carry the cuts of another.
-- Assumes nothing: these are definitions.
use Rattle.std.specs.Prelude.{◌*◌, ◌-◌, ◌<◌, ◌≤◌, max, min, suc, ℕ, Bool, ◌&&◌, ◌||◌, cond, false, true, ◌↔◌, ◌⊎◌, ◌≡◌, eqb, ltb, length}
use mathlib.Core.List.{List, Memᴰ, [], ◌∷◌, map}
use Rattle.theory_graph.specs.Contraction.{kept, linked}
use Rattle.theory_graph.specs.Cut.{TwoEdgeConnected, cut}
use Rattle.theory_graph.specs.Graph.{Edge, NodeSet, two_edge}
use Rattle.theory_graph.specs.Lists.{firsts}

-- ---- words
-- by first end, then by second
abbrev pub EdgeLess : Edge → Edge → Type 0
EdgeLess e f = (e.0 < f.0) ⊎ ((e.0 ≡ f.0) × (e.1 < f.1))

abbrev pub LessAll : Edge → List Edge → Type 0
LessAll e [] = Unit {0}
LessAll e (f ∷ H) = EdgeLess e f × LessAll e H

-- each edge is less than every later one
abbrev pub Ascends : List Edge → Type 0
Ascends [] = Unit {0}
Ascends (e ∷ H) = LessAll e H × Ascends H

-- the numbers come in order of first appearance: each is below n, the count of those that came before, or n itself
abbrev pub in_order : ℕ → List ℕ → Bool
in_order n [] = true
in_order n (x ∷ xs) = ltb x n && in_order n xs || eqb x n && in_order (suc n) xs

-- the edges of F with the ends moved by ρ
abbrev pub image : (ℕ → ℕ) → List Edge → List Edge
image ρ [] = []
image ρ (e ∷ F) = (ρ e.0, ρ e.1) ∷ image ρ F

-- both ends of each edge are in N
abbrev pub ends_in : NodeSet → List Edge → Bool
ends_in N [] = true
ends_in N (e ∷ F) = N e.0 && (N e.1 && ends_in N F)

-- the number of different entries of an active list
abbrev pub different : List ℕ → ℕ
different S = length (firsts eqb S)

-- the bound on the nodes, for k different active nodes: 2k - 2, or k where k is below 2
abbrev pub most_nodes : ℕ → ℕ
most_nodes k = cond (ltb k 2) k (2 * k - 2)

-- ---- small graphs
-- The graph H on the nodes 0 to h - 1 is a small graph of (E, S). ρ i is a node of the class with the number i, σ a the number of a's class.
pub record IsSmallGraph (E : List Edge) (S : List ℕ) (h : ℕ) (H : List Edge) (ρ σ : ℕ → ℕ) : Type 0 where
  -- each number is that of a kept class, and each kept class has just one
  pub node : (i : ℕ) → i < h → kept E S (ρ i) ≡ true
  pub once : (i j : ℕ) → i < h → j < h → two_edge E (ρ i) (ρ j) ≡ true → i ≡ j
  pub all : (z : ℕ) → kept E S z ≡ true → (i : ℕ) × (i < h) × (two_edge E z (ρ i) ≡ true)
  -- an active node stands at the number of its class, and these come first, in order of first appearance
  pub place : (a : ℕ) → Memᴰ a S → (σ a < h) × (two_edge E a (ρ (σ a)) ≡ true)
  pub order : in_order 0 (map σ S) ≡ true
  -- the edges ascend, smaller number first, and are just the linked pairs
  pub ascends : Ascends H
  pub edge : (i j : ℕ) → Memᴰ (i, j) H → (i < j) × (j < h) × (linked E S (ρ i) (ρ j) ≡ true)
  pub edge_all : (i j : ℕ) → i < j → j < h → linked E S (ρ i) (ρ j) ≡ true → Memᴰ (i, j) H

-- no active node has the number i
abbrev pub Idle : List ℕ → (ℕ → ℕ) → ℕ → Type 0
Idle S σ i = (a : ℕ) → Memᴰ a S → ¬ (σ a ≡ i)

-- Document 01's numbering of the other classes: each by its smallest node, ascending. With IsSmallGraph it determines the graph.
pub record Canonical (E : List Edge) (S : List ℕ) (h : ℕ) (ρ σ : ℕ → ℕ) : Type 0 where
  pub least : (i z : ℕ) → i < h → Idle S σ i → TwoEdgeConnected E z (ρ i) → ρ i ≤ z
  pub rises : (i j : ℕ) → i < j → j < h → Idle S σ i → Idle S σ j → ρ i < ρ j

-- the answer of the two entries of an active list, read off a small graph with h nodes and the edges H: one node 2, two joined 1, two not joined 0
abbrev pub no_edge : List Edge → Bool
no_edge [] = true
no_edge (e ∷ E) = false

abbrev pub read_off : ℕ → List Edge → ℕ
read_off h H = cond (eqb h 1) 2 (cond (no_edge H) 0 1)

-- The graph (h', H', σ') is (h, H, σ) with each number i written as π i, where no active node's number changes; π⁻ takes the new numbers back.
-- Its edges are written and ordered by the new numbers: smaller number first, ascending.
pub record Renumbered (S : List ℕ) (h : ℕ) (H : List Edge) (σ : ℕ → ℕ) (h' : ℕ) (H' : List Edge) (σ' : ℕ → ℕ) : Type 0 where
  pub nodes : h ≡ h'
  pub places : map σ S ≡ map σ' S
  pub π : ℕ → ℕ
  pub π⁻ : ℕ → ℕ
  pub below : (i : ℕ) → i < h → (π i < h') × (π⁻ (π i) ≡ i)
  pub back : (j : ℕ) → j < h' → (π⁻ j < h) × (π (π⁻ j) ≡ j)
  pub active : (a : ℕ) → Memᴰ a S → π (σ a) ≡ σ a
  pub edge : (i j : ℕ) → i < j → j < h → Memᴰ (i, j) H ↔ Memᴰ (min (π i) (π j), max (π i) (π j)) H'
  pub written : (i j : ℕ) → Memᴰ (i, j) H' → (i < j) × (j < h')
  pub ascends : Ascends H'

-- ---- graphs with the same small cuts
infixl 60 ◌∘◌
abbrev pub ◌∘◌ : NodeSet → (ℕ → ℕ) → NodeSet
◌∘◌ U ρ = λ v. U (ρ v)

-- The sets that at most one edge leaves are the same in G and in H, whose nodes are those of N; ρ takes a node of H to one of G.
pub record SameCuts (N : NodeSet) (ρ : ℕ → ℕ) (H G : List Edge) : Type 0 where
  pub down : (U : NodeSet) → cut U G ≤ 1 → cut (U ∘ ρ) H ≤ cut U G
  pub up : (X : NodeSet) → cut X H ≤ 1 → (U : NodeSet) × ((v : ℕ) → N v ≡ true → U (ρ v) ≡ X v) × (cut U G ≤ cut X H)

-- H, on the nodes 0 to h - 1, carries the cuts of (E, S): what a small graph is used for, and what a graph does for itself.
pub record Carries (E : List Edge) (S : List ℕ) (h : ℕ) (H : List Edge) (ρ σ : ℕ → ℕ) : Type 0 where
  pub cuts : SameCuts (λ v. ltb v h) ρ H E
  pub place : (a : ℕ) → Memᴰ a S → (σ a < h) × TwoEdgeConnected E a (ρ (σ a))
  pub inside : ends_in (λ v. ltb v h) H ≡ true
