-- The pass that names the edges out: an edge joins a number and its parent number, and its name is that on the way up from the class of the child.
-- Assumes nothing: these are definitions.
use Rattle.std.specs.Prelude.{◌*◌, ◌+◌, ◌<◌, ◌≤◌, ℕ, List, [], ◌∷◌, ◌⊎◌, ◌≡◌, length}
use Rattle.core_words.specs.Changes.{OnlyFields}
use Rattle.core_words.specs.Fields.{ABOVE, LEAST, LOWER, NAMED, UPPER, node, update}

-- x is s where t is its parent number, else t
abbrev pub ChildEnd : (ℕ → ℕ) → ℕ → ℕ → ℕ → Type 0
ChildEnd up s t x = ((up s ≡ t + 1) × (x ≡ s)) ⊎ (¬ (up s ≡ t + 1) × (x ≡ t))

pub record CanNameEdge (n : ℕ) (w : List ℕ) (j : ℕ) : Type 0 where
  pub few : n ≤ 65536
  pub room : 16 * n ≤ length w
  pub fit : j < n
  pub lower : node LOWER w j < n
  pub upper : node UPPER w j < n

pub record NamedEdge (n j : ℕ) (a b : List ℕ) : Type 0 where
  pub child : ℕ
  pub is_child : ChildEnd (node ABOVE a) (node LOWER a j) (node UPPER a j) child
  pub rest : OnlyFields (NAMED ∷ []) n a b
  pub named : node NAMED b ≡ update (node NAMED a) j (node LEAST a child)

-- the first i edges have their names
pub record NamingEdges (n : ℕ) (a : List ℕ) (i : ℕ) (w : List ℕ) : Type 0 where
  pub rest : OnlyFields (NAMED ∷ []) n a w
  pub names : (j : ℕ) → j < i → (x : ℕ) × ChildEnd (node ABOVE a) (node LOWER a j) (node UPPER a j) x × (node NAMED w j ≡ node LEAST a x)

pub record CanNameEdges (n e : ℕ) (w : List ℕ) : Type 0 where
  pub few : n ≤ 65536
  pub room : 16 * n ≤ length w
  pub most : e ≤ n
  pub ends : (j : ℕ) → j < e → (node LOWER w j < n) × (node UPPER w j < n)
