-- A small graph as a forest, before its edges are listed: a number for each kept class, and for each number that of the nearest kept class above.
-- Assumes nothing: these are definitions.
use Rattle.std.specs.Prelude.{◌+◌, ◌<◌, ◌≤◌, ℕ, true, ◌⊎◌, ◌≡◌}
use mathlib.Core.List.{List, Memᴰ, map}
use Rattle.theory_graph.specs.Contraction.{kept, linked}
use Rattle.theory_graph.specs.Graph.{Edge, two_edge}
use Rattle.theory_graph.specs.SmallGraph.{Ascends, in_order}

-- one of i and j is the parent number of the other; up is 0 at a root, and otherwise one more than the parent number
abbrev pub ParentPair : (ℕ → ℕ) → ℕ → ℕ → Type 0
ParentPair up i j = (up i ≡ j + 1) ⊎ (up j ≡ i + 1)

-- all of a small graph but its edges: two numbers are linked just where one is the parent of the other
pub record SmallForest (E : List Edge) (S : List ℕ) (h : ℕ) (ρ σ up : ℕ → ℕ) : Type 0 where
  pub node : (i : ℕ) → i < h → kept E S (ρ i) ≡ true
  pub once : (i j : ℕ) → i < h → j < h → two_edge E (ρ i) (ρ j) ≡ true → i ≡ j
  pub all : (z : ℕ) → kept E S z ≡ true → (i : ℕ) × (i < h) × (two_edge E z (ρ i) ≡ true)
  pub place : (a : ℕ) → Memᴰ a S → (σ a < h) × (two_edge E a (ρ (σ a)) ≡ true)
  pub order : in_order 0 (map σ S) ≡ true
  pub up_fit : (i : ℕ) → i < h → up i ≤ h
  pub link : (i j : ℕ) → i < h → j < h → ¬ (i ≡ j) → ParentPair up i j → linked E S (ρ i) (ρ j) ≡ true
  pub back : (i j : ℕ) → i < h → j < h → linked E S (ρ i) (ρ j) ≡ true → ParentPair up i j

-- H has just the pairs of a number and its parent, in ascending order, smaller number first
pub record ParentPairs (h : ℕ) (up : ℕ → ℕ) (H : List Edge) : Type 0 where
  pub ascends : Ascends H
  pub edge : (i j : ℕ) → Memᴰ (i, j) H → (i < j) × (j < h) × ParentPair up i j
  pub listed : (i j : ℕ) → i < j → j < h → ParentPair up i j → Memᴰ (i, j) H
