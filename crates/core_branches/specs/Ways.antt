-- The way up from a class: over classes without a number to the nearest one that has a number, the nearest kept class above, and the smallest name on it.
-- Functions: `nm` of a half-edge is the name of its edge, at the edge's first half-edge; `te` of a node is one more than its tree edge; `nr` of a top is one
-- more than the number of its class (0 for none), `rep` of a number a node of its class.
-- Assumes nothing: these are definitions.
use Rattle.std.specs.Prelude.{◌*◌, ◌+◌, ◌-◌, ◌<◌, ◌≤◌, min, suc, zero, ℕ, cond, List, [], ◌∷◌, ◌⊎◌, ◌≡◌, eqb, length}
use Rattle.core_words.specs.Changes.{OnlyFields}
use Rattle.core_words.specs.Fields.{ABOVE, EDGE, LEAST, MEMBER, NAME, NUMBER, PARENT, POSITION, TOP, half, node, update}

-- from the top c, no root, at most j classes up: one more than the number of the nearest kept class above, and the smallest name on the way
abbrev pub way_from : (nm par te top nr : ℕ → ℕ) → ℕ → ℕ → ℕ × ℕ
way_from nm par te top nr zero c = (0, 0)
way_from nm par te top nr (suc j) c =
    cond (eqb (nr (top (par c))) 0)
    ((way_from nm par te top nr j (top (par c))).0, min (nm (2 * (te c - 1))) (way_from nm par te top nr j (top (par c))).1)
    (nr (top (par c)), nm (2 * (te c - 1)))

-- a class above comes before, so that as many classes as the place of c are enough
abbrev pub way_up : ℕ → List ℕ → ℕ → ℕ × ℕ
way_up n w c = way_from (half n NAME w) (node PARENT w) (node EDGE w) (node TOP w) (node NUMBER w) (node POSITION w c) c

-- the class above the class of the top c
pub record ClassAbove (n : ℕ) (pos par top : ℕ → ℕ) (c : ℕ) : Type 0 where
  pub par_fit : par c < n
  pub fit : top (par c) < n
  pub seen : 0 < pos (top (par c))
  pub flat : top (top (par c)) ≡ top (par c)
  pub earlier : pos (top (par c)) < pos c

-- what ways rest on: a top that is no root has a class above, and a class without a number is no root's
pub record WayTree (n m : ℕ) (pos par te top nr : ℕ → ℕ) : Type 0 where
  pub edge_fit : (c : ℕ) → c < n → 0 < pos c → te c ≤ m
  pub above : (c : ℕ) → c < n → 0 < pos c → ¬ (te c ≡ 0) → ClassAbove n pos par top c
  pub no_root : (c : ℕ) → c < n → 0 < pos c → top c ≡ c → nr c ≡ 0 → ¬ (te c ≡ 0)

abbrev pub WayTreeAt : ℕ → ℕ → List ℕ → Type 0
WayTreeAt n m w = WayTree n m (node POSITION w) (node PARENT w) (node EDGE w) (node TOP w) (node NUMBER w)

-- ---- one class up
pub record CanStepUp (n m : ℕ) (w : List ℕ) (v : ℕ) : Type 0 where
  pub few : n ≤ 65536
  pub much : m ≤ 32768
  pub room : 16 * n + 6 * m ≤ length w
  pub fit : v < n
  pub some : ¬ (node EDGE w v ≡ 0)
  pub edge_fit : node EDGE w v ≤ m
  pub par_fit : node PARENT w v < n
  pub top_fit : node TOP w (node PARENT w v) < n

-- c is the name of v's tree edge, q the top of the class above, and x one more than its number
pub record SteppedUp (n : ℕ) (w : List ℕ) (v c q x : ℕ) : Type 0 where
  pub name : c ≡ half n NAME w (2 * (node EDGE w v - 1))
  pub top : q ≡ node TOP w (node PARENT w v)
  pub number : x ≡ node NUMBER w q
  pub words : (c < 4294967296) × (x < 4294967296)

-- ---- the whole way
pub record CanGoUp (n m : ℕ) (w : List ℕ) (v : ℕ) : Type 0 where
  pub few : n ≤ 65536
  pub much : m ≤ 32768
  pub room : 16 * n + 6 * m ≤ length w
  pub tree : WayTreeAt n m w
  pub fit : v < n
  pub seen : 0 < node POSITION w v
  pub some : ¬ (node EDGE w v ≡ 0)

pub record WayFound (n : ℕ) (w : List ℕ) (v x c : ℕ) : Type 0 where
  pub number : x ≡ (way_up n w v).0
  pub name : c ≡ (way_up n w v).1
  pub words : (x < 4294967296) × (c < 4294967296)

-- ---- from each number
pub record CanSetParent (n m : ℕ) (w : List ℕ) (x : ℕ) : Type 0 where
  pub few : n ≤ 65536
  pub much : m ≤ 32768
  pub room : 16 * n + 6 * m ≤ length w
  pub tree : WayTreeAt n m w
  pub fit : x < n
  pub rep_fit : node MEMBER w x < n
  pub top_fit : node TOP w (node MEMBER w x) < n
  pub seen : 0 < node POSITION w (node TOP w (node MEMBER w x))

-- number x stands for a root's class: none is above
pub record SetRoot (n x : ℕ) (a b : List ℕ) : Type 0 where
  pub root : node EDGE a (node TOP a (node MEMBER a x)) ≡ 0
  pub rest : OnlyFields (ABOVE ∷ LEAST ∷ []) n a b
  pub parents : node ABOVE b ≡ update (node ABOVE a) x 0
  pub names : node LEAST b ≡ node LEAST a

-- it stands for another class: it gets what lies above
pub record SetWay (n x : ℕ) (a b : List ℕ) : Type 0 where
  pub some : ¬ (node EDGE a (node TOP a (node MEMBER a x)) ≡ 0)
  pub rest : OnlyFields (ABOVE ∷ LEAST ∷ []) n a b
  pub parents : node ABOVE b ≡ update (node ABOVE a) x (way_up n a (node TOP a (node MEMBER a x))).0
  pub names : node LEAST b ≡ update (node LEAST a) x (way_up n a (node TOP a (node MEMBER a x))).1

abbrev pub ParentStep : ℕ → ℕ → List ℕ → List ℕ → Type 0
ParentStep n x a b = SetRoot n x a b ⊎ SetWay n x a b

-- the same of the first i numbers: `up` of a number is one more than that of the nearest kept class above (0 at a root's), `least` the smallest name on the way
pub record ParentWays (i : ℕ) (nm pos par te top nr rep up least : ℕ → ℕ) : Type 0 where
  pub none : (x : ℕ) → x < i → te (top (rep x)) ≡ 0 → up x ≡ 0
  pub some : (x : ℕ) → x < i → ¬ (te (top (rep x)) ≡ 0) → up x ≡ (way_from nm par te top nr (pos (top (rep x))) (top (rep x))).0
  pub name : (x : ℕ) → x < i → ¬ (te (top (rep x)) ≡ 0) → least x ≡ (way_from nm par te top nr (pos (top (rep x))) (top (rep x))).1

pub record ParentLoop (n : ℕ) (a : List ℕ) (i : ℕ) (w : List ℕ) : Type 0 where
  pub rest : OnlyFields (ABOVE ∷ LEAST ∷ []) n a w
  pub ways : ParentWays i (half n NAME a) (node POSITION a) (node PARENT a) (node EDGE a) (node TOP a) (node NUMBER a) (node MEMBER a) (node ABOVE w) (node LEAST w)

pub record CanSetParents (n m h : ℕ) (w : List ℕ) : Type 0 where
  pub few : n ≤ 65536
  pub less : h ≤ n
  pub each : (x : ℕ) → x < h → CanSetParent n m w x
