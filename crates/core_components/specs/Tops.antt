-- Tops. `t` takes a node to an earlier node of its component; a node that it takes to itself is a top, and following it from any node leads to the top of the
-- component. What is said of the components is said of every set of nodes: a set that `t` does not leave is on one side of each component.
-- Assumes nothing: these are definitions.
use Rattle.std.specs.Prelude.{◌*◌, ◌+◌, ◌-◌, ◌<◌, ◌≤◌, ℕ, Bool, List, [], ◌∷◌, ◌⊎◌, ◌≡◌, length}
use Rattle.core_words.specs.Changes.{OnlyFields}
use Rattle.core_words.specs.Fields.{ORDER, PARENT, POSITION, ROOT, TOP, node}

-- a top is its own; any other node goes to an earlier one
pub record Tops (n : ℕ) (pos t : ℕ → ℕ) : Type 0 where
  pub fit : (u : ℕ) → u < n → t u < n
  pub up : (u : ℕ) → u < n → (t u ≡ u → ⊥) → pos (t u) < pos u

-- a set that the tops do not leave
abbrev pub Stable : ℕ → (ℕ → ℕ) → (ℕ → Bool) → Type 0
Stable n t D = (u : ℕ) → u < n → D (t u) ≡ D u

-- t' has the tops of t and leaves no set that t does not leave; r is reached from v
pub record FindPath (n : ℕ) (pos t t' : ℕ → ℕ) (v r : ℕ) : Type 0 where
  pub tops : Tops n pos t'
  pub still : (u : ℕ) → u < n → t u ≡ u → t' u ≡ u
  pub back : (u : ℕ) → u < n → t' u ≡ u → t u ≡ u
  pub keep : (D : ℕ → Bool) → Stable n t D → Stable n t' D × (D r ≡ D v)
  pub fit : r < n
  pub low : pos r ≤ pos v

-- only the tops change
abbrev pub OnlyTops : ℕ → List ℕ → List ℕ → Type 0
OnlyTops n a b = OnlyFields (TOP ∷ []) n a b

pub record CanFind (n : ℕ) (w : List ℕ) (v : ℕ) : Type 0 where
  pub fit : v < n
  pub room : 16 * n ≤ length w
  pub tops : Tops n (node POSITION w) (node TOP w)

pub record Found (n : ℕ) (w : List ℕ) (v r : ℕ) (w' : List ℕ) : Type 0 where
  pub rest : OnlyTops n w w'
  pub path : FindPath n (node POSITION w) (node TOP w) (node TOP w') v r
  pub top : node TOP w' r ≡ r

-- the top a is merged into q, its parent's top
pub record MergedUp (n : ℕ) (pos par t t' : ℕ → ℕ) (a q : ℕ) : Type 0 where
  pub tops : Tops n pos t'
  pub back : (u : ℕ) → u < n → t' u ≡ u → t u ≡ u
  pub still : (u : ℕ) → u < n → t u ≡ u → (u ≡ a → ⊥) → t' u ≡ u
  pub keep : (D : ℕ → Bool) → Stable n t D → D (par a) ≡ D a → Stable n t' D × (D q ≡ D a)
  pub moved : t' a ≡ a → ⊥
  pub fit : q < n
  pub top : t' q ≡ q
  pub low : pos q < pos a

pub record CanMergeUp (n : ℕ) (w : List ℕ) (a : ℕ) : Type 0 where
  pub few : n ≤ 65536
  pub fit : a < n
  pub room : 16 * n ≤ length w
  pub tops : Tops n (node POSITION w) (node TOP w)
  pub fit' : node PARENT w a < n
  pub up : node POSITION w (node PARENT w a) < node POSITION w a
  pub top : node TOP w a ≡ a

pub record MergedUpAt (n : ℕ) (w : List ℕ) (a q : ℕ) (w' : List ℕ) : Type 0 where
  pub rest : OnlyTops n w w'
  pub is : MergedUp n (node POSITION w) (node PARENT w) (node TOP w) (node TOP w') a q

-- what merging needs of the forest: a parent comes earlier in the order and has the same root
pub record SearchOrder (n : ℕ) (pos par root : ℕ → ℕ) : Type 0 where
  pub one : (u v : ℕ) → u < n → v < n → 0 < pos u → pos u ≡ pos v → u ≡ v
  pub kind : (u : ℕ) → u < n → 0 < pos u → ((root u ≡ u) × (par u ≡ u)) ⊎ ((par u < n) × (0 < pos (par u)) × (pos (par u) < pos u) × (root (par u) ≡ root u))
  pub first : (u : ℕ) → u < n → 0 < pos u → pos (root u) ≤ pos u

-- a set that parts no node from its parent, but for tops
abbrev pub FollowsParents : ℕ → (ℕ → ℕ) → (ℕ → ℕ) → (ℕ → Bool) → Type 0
FollowsParents n par t D = (u : ℕ) → u < n → (t u ≡ u → ⊥) → D u ≡ D (par u)

-- a set that allows merging from x to y: where x and y on one side would put a and b of one tree on one side, it does not part the later of the two from
-- its parent
abbrev pub AllowsMerge : ℕ → (ℕ → ℕ) → (ℕ → ℕ) → (ℕ → ℕ) → ℕ → ℕ → (ℕ → Bool) → Type 0
AllowsMerge n pos par root x y D = (a b : ℕ) → a < n → b < n → 0 < pos b → pos b < pos a → root a ≡ root b → (D x ≡ D y → D a ≡ D b) → D (par a) ≡ D a

pub record CanMergePath (n : ℕ) (w : List ℕ) : Type 0 where
  pub few : n ≤ 65536
  pub room : 16 * n ≤ length w
  pub tops : Tops n (node POSITION w) (node TOP w)
  pub order : SearchOrder n (node POSITION w) (node PARENT w) (node ROOT w)
  pub full : (D : ℕ → Bool) → FollowsParents n (node PARENT w) (node TOP w) D → Stable n (node TOP w) D

-- a top that was seen
pub record SeenTop (n : ℕ) (w : List ℕ) (a : ℕ) : Type 0 where
  pub fit : a < n
  pub seen : 0 < node POSITION w a
  pub top : node TOP w a ≡ a

-- two seen nodes of a tree
pub record SameTree (n : ℕ) (w : List ℕ) (x y : ℕ) : Type 0 where
  pub fit : x < n
  pub fit' : y < n
  pub seen : 0 < node POSITION w x
  pub seen' : 0 < node POSITION w y
  pub same : node ROOT w x ≡ node ROOT w y

-- the tree path from x to y is merged
pub record MergedPath (n : ℕ) (w : List ℕ) (x y : ℕ) (w' : List ℕ) : Type 0 where
  pub rest : OnlyTops n w w'
  pub tops : Tops n (node POSITION w) (node TOP w')
  pub back : (u : ℕ) → u < n → node TOP w' u ≡ u → node TOP w u ≡ u
  pub full : (D : ℕ → Bool) → FollowsParents n (node PARENT w) (node TOP w') D → Stable n (node TOP w') D × (D x ≡ D y)
  pub keep : (D : ℕ → Bool) → AllowsMerge n (node POSITION w) (node PARENT w) (node ROOT w) x y D → Stable n (node TOP w) D → Stable n (node TOP w') D

-- the first i nodes are their own tops
pub record OwnTops (n i : ℕ) (a b : List ℕ) : Type 0 where
  pub rest : OnlyTops n a b
  pub self : (u : ℕ) → u < i → node TOP b u ≡ u

pub record CanCompress (n seen : ℕ) (w : List ℕ) : Type 0 where
  pub few : n ≤ 65536
  pub room : 16 * n ≤ length w
  pub less : seen ≤ n
  pub tops : Tops n (node POSITION w) (node TOP w)
  pub place : (i : ℕ) → i < seen → (node ORDER w i < n) × (node POSITION w (node ORDER w i) ≡ i + 1)
  pub place_of : (u : ℕ) → u < n → 0 < node POSITION w u → (node POSITION w u ≤ seen) × (node ORDER w (node POSITION w u - 1) ≡ u)

-- the same tops, and the first i nodes of the order go straight to theirs
pub record Compressed (n i : ℕ) (a b : List ℕ) : Type 0 where
  pub rest : OnlyTops n a b
  pub tops : Tops n (node POSITION a) (node TOP b)
  pub back : (u : ℕ) → u < n → node TOP b u ≡ u → node TOP a u ≡ u
  pub keep : (D : ℕ → Bool) → Stable n (node TOP a) D → Stable n (node TOP b) D
  pub flat : (u : ℕ) → u < n → node POSITION a u ≤ i → node TOP b (node TOP b u) ≡ node TOP b u
