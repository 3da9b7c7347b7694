-- The adjacency lists in the words. Edge e has the half-edges 2 e and 2 e + 1, each with its far end; a half-edge leaves the far end of its twin.
-- HEAD of a node is one more than the last half-edge that leaves it, NEXT of a half-edge one more than the one before it at the same node; 0 ends a list.
-- Assumes nothing: these are definitions.
use Rattle.std.specs.Prelude.{◌%◌, ◌*◌, ◌+◌, ◌-◌, ◌<◌, ◌≤◌, ℕ, cond, List, ◌≡◌, eqb, length}
use Rattle.core_words.specs.Fields.{HEAD, NAME, NEXT, TO, half, node}

-- the other half-edge of an edge, and the node that a half-edge leaves
unfoldable pub twin : ℕ → ℕ
twin h = cond (eqb (h % 2) 0) (h + 1) (h - 1)

unfoldable pub origin : (ℕ → ℕ) → ℕ → ℕ
origin to h = to (twin h)

-- c is one more than the last half-edge below k that leaves v, and 0 where there is none
pub record LastFrom (out : ℕ → ℕ) (v k c : ℕ) : Type 0 where
  pub below : c ≤ k
  pub at : 0 < c → out (c - 1) ≡ v
  pub gap : (h : ℕ) → c ≤ h → h < k → out h ≡ v → ⊥

-- each half-edge is in the list of the node that it leaves
pub record AdjacencyLists (n m : ℕ) (w : List ℕ) : Type 0 where
  pub few : n ≤ 65536
  pub much : m ≤ 32768
  pub room : 16 * n + 6 * m ≤ length w
  pub ends : (h : ℕ) → h < 2 * m → half n TO w h < n
  pub heads : (v : ℕ) → v < n → LastFrom (origin (half n TO w)) v (2 * m) (node HEAD w v)
  pub nexts : (h : ℕ) → h < 2 * m → LastFrom (origin (half n TO w)) (origin (half n TO w) h) h (half n NEXT w h)

-- the first i half-edges are linked
pub record Links (n i : ℕ) (to head next : ℕ → ℕ) : Type 0 where
  pub heads : (v : ℕ) → v < n → LastFrom (origin to) v i (head v)
  pub nexts : (h : ℕ) → h < i → LastFrom (origin to) (origin to h) h (next h)

pub record CanLink (n m : ℕ) (w : List ℕ) : Type 0 where
  pub few : n ≤ 65536
  pub much : m ≤ 32768
  pub room : 16 * n + 6 * m ≤ length w
  pub ends : (h : ℕ) → h < 2 * m → half n TO w h < n
  pub empty : (v : ℕ) → v < n → node HEAD w v ≡ 0

-- the first i half-edges are linked; from a to w all that is not a head or a link stays
pub record Linking (n m : ℕ) (a w : List ℕ) (i : ℕ) : Type 0 where
  pub few : n ≤ 65536
  pub much : m ≤ 32768
  pub room : 16 * n + 6 * m ≤ length w
  pub ends : (h : ℕ) → h < 2 * m → half n TO w h < n
  pub links : Links n i (half n TO w) (node HEAD w) (half n NEXT w)
  pub same : length w ≡ length a
  pub tos : half n TO w ≡ half n TO a
  pub names : half n NAME w ≡ half n NAME a
  pub past : (h : ℕ) → 2 * m ≤ h → half n NEXT w h ≡ half n NEXT a h
  pub nodes : (j : ℕ) → j < 16 → (j ≡ HEAD → ⊥) → (v : ℕ) → v < n → node j w v ≡ node j a v
