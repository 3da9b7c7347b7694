-- Small graphs with names: the predicate "is a named small graph of", with the numbers of the nodes without an active node left open;
-- what it means for two of them to differ only in those numbers; and for a named graph to carry the cuts of another with their names.
-- Each extends the notion of the same name in the crate theory_graph, specs/SmallGraph.
-- Assumes nothing: these are definitions.
use Rattle.std.specs.Prelude.{◌<◌, ◌≤◌, max, min, ℕ, true, ◌↔◌, ◌≡◌, ltb}
use mathlib.Core.List.{List, Memᴰ, [], ◌∷◌, map}
use Rattle.theory_graph.specs.Cut.{TwoEdgeConnected, cut}
use Rattle.theory_graph.specs.Graph.{NodeSet}
use Rattle.theory_graph.specs.SmallGraph.{IsSmallGraph, Renumbered, ◌∘◌, ends_in}
use Rattle.theory_names.specs.Names.{Entry, Named, cut_names, hangs, plain}

-- the entries of F with the ends moved by ρ, and their names
abbrev pub image_named : (ℕ → ℕ) → Named → Named
image_named ρ F = map (λ (e : Entry). ((ρ e.0.0, ρ e.0.1), e.1)) F

-- The named graph H on the nodes 0 to h - 1 is a small graph of (G, S), and each edge has the smallest name of an entry whose loss parts its two classes.
pub record IsNamedSmallGraph (G : Named) (S : List ℕ) (h : ℕ) (H : Named) (ρ σ : ℕ → ℕ) : Type 0 where
  pub small : IsSmallGraph (plain G) S h (plain H) ρ σ
  pub name : (i j n : ℕ) → Memᴰ ((i, j), n) H → n ≡ hangs G (ρ i) (ρ j)

-- The graph (h', H', σ') is (h, H, σ) with each number i written as π i, where no active node's number changes, and each edge keeps its name.
pub record NamedRenumbered (S : List ℕ) (h : ℕ) (H : Named) (σ : ℕ → ℕ) (h' : ℕ) (H' : Named) (σ' : ℕ → ℕ) : Type 0 where
  pub graph : Renumbered S h (plain H) σ h' (plain H') σ'
  pub edge : (i j n : ℕ) → i < j → j < h → Memᴰ ((i, j), n) H ↔ Memᴰ ((min (graph.π i) (graph.π j), max (graph.π i) (graph.π j)), n) H'

-- the name that the two entries of an active list hang on, read off a small graph: that of its one edge; 65,535 where it has none
abbrev pub read_name : Named → ℕ
read_name [] = 65535
read_name (e ∷ H) = e.1

-- ---- named graphs with the same small cuts
-- The sets that at most one entry leaves are the same in G and in H, whose nodes are those of N; ρ takes a node of H to one of G.
-- A set of G keeps at most its name in H; each set of H is met by one of G that has at most its name.
pub record NamedSameCuts (N : NodeSet) (ρ : ℕ → ℕ) (H G : Named) : Type 0 where
  pub down : (U : NodeSet) → cut U (plain G) ≤ 1 → cut (U ∘ ρ) (plain H) ≤ cut U (plain G)
  pub down_name : (U : NodeSet) → cut U (plain G) ≤ 1 → cut_names (U ∘ ρ) H ≤ cut_names U G
  pub up : (X : NodeSet) → cut X (plain H) ≤ 1
      → (U : NodeSet) × ((v : ℕ) → N v ≡ true → U (ρ v) ≡ X v) × (cut U (plain G) ≤ cut X (plain H)) × (cut_names U G ≤ cut_names X H)

-- H, on the nodes 0 to h - 1, carries the cuts of (G, S) with their names
pub record NamedCarries (G : Named) (S : List ℕ) (h : ℕ) (H : Named) (ρ σ : ℕ → ℕ) : Type 0 where
  pub cuts : NamedSameCuts (λ v. ltb v h) ρ H G
  pub place : (a : ℕ) → Memᴰ a S → (σ a < h) × TwoEdgeConnected (plain G) a (ρ (σ a))
  pub inside : ends_in (λ v. ltb v h) (plain H) ≡ true
