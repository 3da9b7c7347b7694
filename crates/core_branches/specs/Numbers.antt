-- The loops that number the kept classes. Functions: `nr` of a top is one more than the number of its class (0 for none), `rep` of a number a node of its
-- class.
-- Assumes nothing: these are definitions.
use Rattle.std.specs.Prelude.{◌*◌, ◌+◌, ◌-◌, ◌<◌, ◌≤◌, ℕ, List, [], ◌∷◌, ◌⊎◌, ◌≡◌, length}
use Rattle.core_forest.specs.Search.{count_nonzero}
use Rattle.core_words.specs.Changes.{OnlyFields}
use Rattle.core_words.specs.Fields.{ACTIVE, LIVE, MEMBER, NUMBER, OTHER, POSITION, TOP, node, update}

-- h classes have a number
pub record Numbers (n h : ℕ) (top nr rep : ℕ → ℕ) : Type 0 where
  pub count : count_nonzero nr n ≡ h
  pub place : (i : ℕ) → i < h → (rep i < n) × (nr (top (rep i)) ≡ i + 1)
  pub place_of : (c : ℕ) → c < n → ¬ (nr c ≡ 0) → (nr c ≤ h) × (top (rep (nr c - 1)) ≡ c)

abbrev pub NumbersAt : ℕ → ℕ → List ℕ → Type 0
NumbersAt n h w = Numbers n h (node TOP w) (node NUMBER w) (node MEMBER w)

-- there is room for one number more
pub record CanAssign (n h : ℕ) (w : List ℕ) (v t : ℕ) : Type 0 where
  pub few : n ≤ 65536
  pub room : 16 * n ≤ length w
  pub less : h < n
  pub fit : v < n
  pub top_fit : t < n

pub record Assigned (n h v t : ℕ) (a b : List ℕ) : Type 0 where
  pub rest : OnlyFields (NUMBER ∷ MEMBER ∷ []) n a b
  pub numbers : node NUMBER b ≡ update (node NUMBER a) t (h + 1)
  pub reps : node MEMBER b ≡ update (node MEMBER a) h v

pub record CanNumber (n h : ℕ) (w : List ℕ) (v : ℕ) : Type 0 where
  pub few : n ≤ 65536
  pub room : 16 * n ≤ length w
  pub numbers : NumbersAt n h w
  pub fit : v < n
  pub top_fit : node TOP w v < n

-- the class of the active node v gets the next number, and v is its active node
pub record NumberedActive (n h v : ℕ) (a b : List ℕ) (h' : ℕ) : Type 0 where
  pub new : node NUMBER a (node TOP a v) ≡ 0
  pub more : h' ≡ h + 1
  pub rest : OnlyFields (LIVE ∷ NUMBER ∷ MEMBER ∷ []) n a b
  pub numbers : node NUMBER b ≡ update (node NUMBER a) (node TOP a v) (h + 1)
  pub reps : node MEMBER b ≡ update (node MEMBER a) h v
  pub lives : node LIVE b ≡ update (node LIVE a) (node TOP a v) (v + 1)

abbrev pub ActiveStep : ℕ → ℕ → ℕ → List ℕ → List ℕ → ℕ → Type 0
ActiveStep n h v a b h' = ((b ≡ a) × (h' ≡ h) × ¬ (node NUMBER a (node TOP a v) ≡ 0)) ⊎ NumberedActive n h v a b h'

-- the number at j is the first, or one that came before j, or the next after these
abbrev pub Prior : (ℕ → ℕ) → ℕ → Type 0
Prior f j = (f j ≤ 1) ⊎ ((l : ℕ) × (l < j) × (f j ≤ f l + 1))

-- the classes of the first i active nodes have their numbers, in order of first appearance
pub record ActiveNumbers (n i h : ℕ) (act top nr rep live : ℕ → ℕ) : Type 0 where
  pub numbers : Numbers n h top nr rep
  pub done : (j : ℕ) → j < i → ¬ (nr (top (act j)) ≡ 0)
  pub some : (c : ℕ) → c < n → ¬ (live c ≡ 0) → (j : ℕ) × (j < i) × (live c ≡ act j + 1) × (top (act j) ≡ c)
  pub alive : (c : ℕ) → c < n → ¬ (nr c ≡ 0) → ¬ (live c ≡ 0)
  pub reps : (x : ℕ) → x < h → (j : ℕ) × (j < i) × (rep x ≡ act j)
  pub order : (j : ℕ) → j < i → Prior (λ j. nr (top (act j))) j

pub record NumberingActives (n k : ℕ) (a : List ℕ) (i h : ℕ) (w : List ℕ) : Type 0 where
  pub rest : OnlyFields (LIVE ∷ NUMBER ∷ MEMBER ∷ []) n a w
  pub actives : ActiveNumbers n i h (node ACTIVE a) (node TOP a) (node NUMBER w) (node MEMBER w) (node LIVE w)

pub record CanNumberActives (n k : ℕ) (w : List ℕ) : Type 0 where
  pub few : n ≤ 65536
  pub room : 16 * n ≤ length w
  pub less : k ≤ n
  pub active : (i : ℕ) → i < k → node ACTIVE w i < n
  pub top_fit : (v : ℕ) → v < n → node TOP w v < n
  pub none : (v : ℕ) → v < n → (node NUMBER w v ≡ 0) × (node LIVE w v ≡ 0)

-- v's class gets the next number, where it has none and two branches
pub record NumberedOther (n h v : ℕ) (a b : List ℕ) (h' : ℕ) : Type 0 where
  pub new : node NUMBER a (node TOP a v) ≡ 0
  pub seen : ¬ (node POSITION a v ≡ 0)
  pub two : ¬ (node OTHER a (node TOP a v) ≡ 0)
  pub more : h' ≡ h + 1
  pub is : Assigned n h v (node TOP a v) a b

abbrev pub OtherStep : ℕ → ℕ → ℕ → List ℕ → List ℕ → ℕ → Type 0
OtherStep n h v a b h' =
    ((b ≡ a) × (h' ≡ h) × (¬ (node POSITION a v ≡ 0) → ¬ (node OTHER a (node TOP a v) ≡ 0) → ¬ (node NUMBER a (node TOP a v) ≡ 0)))
    ⊎ NumberedOther n h v a b h'

-- of the classes that had no number those with two branches and a node below v have got theirs, by their smallest nodes
pub record OtherNumbers (n h₀ v h : ℕ) (pos top other nr₀ nr rep₀ rep : ℕ → ℕ) : Type 0 where
  pub numbers : Numbers n h top nr rep
  pub more : h₀ ≤ h
  pub still : (c : ℕ) → ¬ (nr₀ c ≡ 0) → nr c ≡ nr₀ c
  pub old : (i : ℕ) → i < h₀ → rep i ≡ rep₀ i
  pub done : (u : ℕ) → u < v → ¬ (pos u ≡ 0) → ¬ (other (top u) ≡ 0) → ¬ (nr (top u) ≡ 0)
  pub late : (i : ℕ) → h₀ ≤ i → i < h → (rep i < v) × ¬ (pos (rep i) ≡ 0) × ¬ (other (top (rep i)) ≡ 0)
  pub least : (i : ℕ) → h₀ ≤ i → i < h → (u : ℕ) → ¬ (pos u ≡ 0) → top u ≡ top (rep i) → rep i ≤ u
  pub rises : (i j : ℕ) → h₀ ≤ i → i < j → j < h → rep i < rep j

pub record NumberingOthers (n h₀ : ℕ) (a : List ℕ) (v h : ℕ) (w : List ℕ) : Type 0 where
  pub rest : OnlyFields (NUMBER ∷ MEMBER ∷ []) n a w
  pub others : OtherNumbers n h₀ v h (node POSITION a) (node TOP a) (node OTHER a) (node NUMBER a) (node NUMBER w) (node MEMBER a) (node MEMBER w)

pub record CanNumberOthers (n h : ℕ) (w : List ℕ) : Type 0 where
  pub few : n ≤ 65536
  pub room : 16 * n ≤ length w
  pub numbers : NumbersAt n h w
  pub top_fit : (v : ℕ) → v < n → node TOP w v < n
