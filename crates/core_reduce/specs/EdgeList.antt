-- The edges between each number and its parent number, listed in ascending order. `up x` is 0, or one more than the parent number of x.
-- ABOVE is `up`; CHILD the head and SIBLING the next of the lists of larger children; LOWER and UPPER the ends of the edges as they are written.
-- Assumes nothing: these are definitions.
use Rattle.std.specs.Prelude.{◌*◌, ◌+◌, ◌-◌, ◌<◌, ◌≤◌, ℕ, ◌⊎◌, ◌≡◌, length}
use mathlib.Core.List.{List, Memᴰ, [], ◌∷◌}
use Rattle.theory_graph.specs.SmallGraph.{Ascends, EdgeLess}
use Rattle.theory_graph.specs.Graph.{Edge}
use Rattle.theory_graph.specs.Lists.{table}
use Rattle.core_words.specs.Changes.{OnlyFields}
use Rattle.core_words.specs.Fields.{ABOVE, CHILD, LOWER, SIBLING, UPPER, node}

-- s is the parent of y, and smaller
abbrev pub LargerChild : ℕ → (ℕ → ℕ) → ℕ → ℕ → Type 0
LargerChild h up s y = (s < y) × (y < h) × (up y ≡ s + 1)

-- y is the parent of s, and larger
abbrev pub LargerParent : ℕ → (ℕ → ℕ) → ℕ → ℕ → Type 0
LargerParent h up s y = (s < y) × (y < h) × (up s ≡ y + 1)

abbrev pub EdgePair : ℕ → (ℕ → ℕ) → ℕ → ℕ → Type 0
EdgePair h up s y = LargerChild h up s y ⊎ LargerParent h up s y

-- c is one more than the least number from f on that has P, or 0 where there is none
pub record FirstFrom (P : ℕ → Type 0) (f c : ℕ) : Type 0 where
  pub at : 0 < c → (f < c) × P (c - 1)
  pub gap : (y : ℕ) → f ≤ y → P y → (0 < c) × (c ≤ y + 1)

-- the least of two that is not 0, or 0
pub record LeastNonzero (a b r : ℕ) : Type 0 where
  pub one : (r ≡ a) ⊎ (r ≡ b)
  pub left : 0 < a → (0 < r) × (r ≤ a)
  pub right : 0 < b → (0 < r) × (r ≤ b)

-- u where it is above f, else 0
abbrev pub IfAbove : ℕ → ℕ → ℕ → Type 0
IfAbove u f r = ((f < u) × (r ≡ u)) ⊎ ((u ≤ f) × (r ≡ 0))

abbrev pub NextChild : List ℕ → ℕ → ℕ → ℕ → Type 0
NextChild w c t r = ((c ≡ t) × (r ≡ node SIBLING w (t - 1))) ⊎ ((c ≡ t → ⊥) × (r ≡ c))

-- the numbers from i on are in the lists of their parents, where these are smaller; each list ascends
pub record ChildLists (h i : ℕ) (up head next : ℕ → ℕ) : Type 0 where
  pub heads : (s : ℕ) → s < h → FirstFrom (LargerChild h up s) i (head s)
  pub nexts : (s x : ℕ) → i ≤ x → LargerChild h up s x → FirstFrom (LargerChild h up s) (x + 1) (next x)

-- m pairs are written, ascending: those with P before the pair of s and f
pub record ListedPairs (P : ℕ → ℕ → Type 0) (ea eb : ℕ → ℕ) (m s f : ℕ) : Type 0 where
  pub rise : (i j : ℕ) → i < j → j < m → EdgeLess (ea i, eb i) (ea j, eb j)
  pub real : (i : ℕ) → i < m → P (ea i) (eb i) × EdgeLess (ea i, eb i) (s, f)
  pub all : (x y : ℕ) → P x y → EdgeLess (x, y) (s, f) → (i : ℕ) × (i < m) × (ea i ≡ x) × (eb i ≡ y)

-- k pairs from place i on, as a list
abbrev pub edge_table : (ℕ → ℕ) → (ℕ → ℕ) → ℕ → ℕ → List Edge
edge_table ea eb i k = table (λ j. (ea j, eb j)) i k

-- the fields that listing changes
abbrev pub list_fields : List ℕ
list_fields = CHILD ∷ LOWER ∷ UPPER ∷ SIBLING ∷ []

pub record CanList (n h : ℕ) (w : List ℕ) : Type 0 where
  pub few : n ≤ 65536
  pub room : 16 * n ≤ length w
  pub less : h ≤ n
  pub fits : (x : ℕ) → x < h → node ABOVE w x ≤ h

pub record Pushing (n h : ℕ) (a w : List ℕ) (i : ℕ) : Type 0 where
  pub ready : CanList n h w
  pub rest : OnlyFields list_fields n a w
  pub lists : ChildLists h i (node ABOVE w) (node CHILD w) (node SIBLING w)

pub record Writing (n h : ℕ) (a w : List ℕ) (m s f : ℕ) : Type 0 where
  pub ready : CanList n h w
  pub rest : OnlyFields list_fields n a w
  pub lists : ChildLists h 0 (node ABOVE w) (node CHILD w) (node SIBLING w)
  pub listed : ListedPairs (EdgePair h (node ABOVE w)) (node LOWER w) (node UPPER w) m s f

-- the m edges written are those of the numbers and their parents, ascending
pub record EdgesListed (n h : ℕ) (a w : List ℕ) (m : ℕ) : Type 0 where
  pub rest : OnlyFields list_fields n a w
  pub most : m ≤ h
  pub ascends : Ascends (edge_table (node LOWER w) (node UPPER w) 0 m)
  pub is : (x y : ℕ) → Memᴰ (x, y) (edge_table (node LOWER w) (node UPPER w) 0 m) → EdgePair h (node ABOVE a) x y
  pub all : (x y : ℕ) → EdgePair h (node ABOVE a) x y → Memᴰ (x, y) (edge_table (node LOWER w) (node UPPER w) 0 m)
