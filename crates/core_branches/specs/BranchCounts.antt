-- The branches of a class: the classes right below it that have an active node at or below them. Witnesses in place of a count: `live` is one more than an
-- active node at or below the class, `child` one more than the last branch reported, `other` one more than one reported before; 0 stands for none.
-- Assumes nothing: these are definitions.
use Rattle.std.specs.Prelude.{◌*◌, ◌+◌, ◌-◌, ◌<◌, ◌≤◌, ℕ, Bool, true, List, [], ◌∷◌, ◌⊎◌, ◌≡◌, length}
use Rattle.core_words.specs.Changes.{OnlyFields}
use Rattle.core_words.specs.Fields.{BRANCH, EDGE, LIVE, ORDER, OTHER, PARENT, POSITION, TOP, node, update}

-- c is the top of a class right below that of t
pub record Child (n : ℕ) (pos par te top : ℕ → ℕ) (t c : ℕ) : Type 0 where
  pub fit : c < n
  pub seen : 0 < pos c
  pub is_top : top c ≡ c
  pub has_edge : te c ≡ 0 → ⊥
  pub under : top (par c) ≡ t

-- what is needed of the forest
pub record TreeOrder (n seen : ℕ) (ord pos par te top : ℕ → ℕ) : Type 0 where
  pub less : seen ≤ n
  pub place : (i : ℕ) → i < seen → (ord i < n) × (pos (ord i) ≡ i + 1)
  pub place_of : (u : ℕ) → u < n → 0 < pos u → (pos u ≤ seen) × (ord (pos u - 1) ≡ u)
  pub par_fit : (u : ℕ) → u < n → 0 < pos u → par u < n
  pub top_fit : (u : ℕ) → u < n → top u < n
  pub up : (u : ℕ) → u < n → 0 < pos u → (te u ≡ 0 → ⊥) → pos (top (par u)) < pos u

abbrev pub TreeOrderAt : ℕ → ℕ → List ℕ → Type 0
TreeOrderAt n seen w = TreeOrder n seen (node ORDER w) (node POSITION w) (node PARENT w) (node EDGE w) (node TOP w)

pub record CanReport (n : ℕ) (w : List ℕ) (v : ℕ) : Type 0 where
  pub few : n ≤ 65536
  pub room : 16 * n ≤ length w
  pub fit : v < n
  pub par_fit : node PARENT w v < n
  pub top_fit : node TOP w (node PARENT w v) < n

pub record Reported (n v q : ℕ) (a b : List ℕ) : Type 0 where
  pub is : node TOP a (node PARENT a v) ≡ q
  pub top : node TOP a v ≡ v
  pub has_edge : node EDGE a v ≡ 0 → ⊥
  pub live : node LIVE a v ≡ 0 → ⊥
  pub rest : OnlyFields (LIVE ∷ BRANCH ∷ OTHER ∷ []) n a b
  pub lives : node LIVE b ≡ update (node LIVE a) q (node LIVE a v)
  pub children : node BRANCH b ≡ update (node BRANCH a) q (v + 1)
  pub others : node OTHER b ≡ update (node OTHER a) q (node BRANCH a q)

abbrev pub Report : ℕ → ℕ → List ℕ → List ℕ → Type 0
Report n v a b = ((b ≡ a) × (node TOP a v ≡ v → (node EDGE a v ≡ 0 → ⊥) → node LIVE a v ≡ 0)) ⊎ Reported n v (node TOP a (node PARENT a v)) a b

-- those after place i have reported
pub record Branches (n : ℕ) (pos par te top live₀ live child other : ℕ → ℕ) (i : ℕ) : Type 0 where
  -- a relation that goes up from a class to the one above holds of each active node kept as a witness
  pub witness : (P : ℕ → ℕ → Bool) → ((t c x : ℕ) → Child n pos par te top t c → P c x ≡ true → P t x ≡ true)
      → ((t : ℕ) → t < n → (live₀ t ≡ 0 → ⊥) → P t (live₀ t) ≡ true)
      → (t : ℕ) → t < n → (live t ≡ 0 → ⊥) → P t (live t) ≡ true
  pub still : (t : ℕ) → (live₀ t ≡ 0 → ⊥) → live t ≡ 0 → ⊥
  pub one : (t : ℕ) → t < n → (child t ≡ 0 → ⊥) → Child n pos par te top t (child t - 1) × (i < pos (child t - 1)) × (live (child t - 1) ≡ 0 → ⊥)
  pub two : (t : ℕ) → t < n → (other t ≡ 0 → ⊥) → Child n pos par te top t (other t - 1) × (i < pos (other t - 1)) × (live (other t - 1) ≡ 0 → ⊥)
      × (other t ≡ child t → ⊥) × (child t ≡ 0 → ⊥)
  pub all : (t c : ℕ) → t < n → Child n pos par te top t c → i < pos c → (live c ≡ 0 → ⊥)
      → (live t ≡ 0 → ⊥) × (child t ≡ 0 → ⊥) × ((c + 1 ≡ child t) ⊎ (other t ≡ 0 → ⊥))

pub record Counting (n seen : ℕ) (a : List ℕ) (i : ℕ) (w : List ℕ) : Type 0 where
  pub rest : OnlyFields (LIVE ∷ BRANCH ∷ OTHER ∷ []) n a w
  pub branches : Branches n (node POSITION a) (node PARENT a) (node EDGE a) (node TOP a) (node LIVE a) (node LIVE w) (node BRANCH w) (node OTHER w) i

pub record CanCount (n seen : ℕ) (w : List ℕ) : Type 0 where
  pub few : n ≤ 65536
  pub room : 16 * n ≤ length w
  pub tree : TreeOrderAt n seen w
  pub none : (t : ℕ) → t < n → (node BRANCH w t ≡ 0) × (node OTHER w t ≡ 0)
