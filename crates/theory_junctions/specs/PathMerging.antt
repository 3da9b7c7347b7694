-- How the blocks are found: a spanning forest, and for each edge the tree path between its two ends, from both of them upwards, whose classes are merged into one.
-- proofs/PathMergingLaws shows that the classes found are blocks (specs/Blocks), whatever forest the search found and in whatever order the edges were taken.
-- Assumes nothing: these are definitions.
use Rattle.std.specs.Prelude.{◌+◌, ◌<◌, ◌≤◌, suc, zero, ℕ, Bool, ◌||◌, cond, false, true, ◌⊎◌, ◌≡◌, eqb, leb, ltb}
use mathlib.Core.List.{List, Memᴰ, [], ◌∷◌}
use Rattle.theory_graph.specs.Graph.{Edge, NodeSet}
use Rattle.theory_junctions.specs.Colouring.{Colouring, lost}

-- A spanning forest of the junctions that were seen: each that is no root has a parent, by an edge, that comes before it; no edge leaves a tree.
pub record Forest (E : List Edge) : Type 0 where
  pub seen : NodeSet
  -- the junctions that were seen and are no root
  pub child : NodeSet
  pub par : ℕ → ℕ
  pub pos : ℕ → ℕ
  -- the root of a junction's tree
  pub tree : ℕ → ℕ
  pub child_seen : (v : ℕ) → child v ≡ true → seen v ≡ true
  pub par_seen : (v : ℕ) → child v ≡ true → seen (par v) ≡ true
  pub par_pos : (v : ℕ) → child v ≡ true → pos (par v) < pos v
  pub par_edge : (v : ℕ) → child v ≡ true → Memᴰ (v, par v) E ⊎ Memᴰ (par v, v) E
  pub par_tree : (v : ℕ) → child v ≡ true → tree (par v) ≡ tree v
  pub root_tree : (v : ℕ) → seen v ≡ true → child v ≡ false → tree v ≡ v
  pub edge_seen : (p q : ℕ) → Memᴰ (p, q) E → seen p ≡ seen q
  pub edge_tree : (p q : ℕ) → Memᴰ (p, q) E → seen p ≡ true → tree p ≡ tree q
  pub pos_once : (u v : ℕ) → seen u ≡ true → seen v ≡ true → pos u ≡ pos v → u ≡ v

-- f or g, whichever the test says; the other is not computed
abbrev pub pick : {A : Type 0} → Bool → (Unit {0} → A) → (Unit {0} → A) → A
pick true f g = f tt
pick false f g = g tt

-- the classes named p and q become one, named by the earlier of the two
unfoldable pub unite : (ℕ → ℕ) → (ℕ → ℕ) → ℕ → ℕ → ℕ → ℕ
unite pos first p q u = let c = first u in cond (eqb c p || eqb c q) (cond (leb (pos p) (pos q)) p q) c

-- from a and b up to where they meet; s is a member of the class that is made, and n is at least the number of steps
unfoldable pub merge_on : (ℕ → ℕ) → (ℕ → ℕ) → ℕ → (ℕ → ℕ) → ℕ → ℕ → ℕ → (ℕ → ℕ)
merge_on par pos zero first a b s = first
merge_on par pos (suc n) first a b s =
    pick (eqb a b) (λ u. first) λ u.
    pick (ltb (pos b) (pos a)) (λ u. merge_on par pos n (unite pos first (first s) (first a)) (par (first a)) b s) (λ u. merge_on par pos n (unite pos first (first s) (first b)) a (par (first b)) s)

-- along the path of one edge, from its later end
unfoldable pub merge_path : (ℕ → ℕ) → (ℕ → ℕ) → (ℕ → ℕ) → ℕ → ℕ → (ℕ → ℕ)
merge_path par pos first x y =
    pick (eqb x y) (λ u. first) λ u.
    pick (ltb (pos y) (pos x)) (λ u. merge_on par pos (suc (pos x + pos y)) first (par (first x)) y (first x)) (λ u. merge_on par pos (suc (pos x + pos y)) first x (par (first y)) (first y))

-- the first member of each junction's class after the edges of a list, where at the start each is a class by itself
unfoldable pub first_after : NodeSet → (ℕ → ℕ) → (ℕ → ℕ) → List Edge → ℕ → ℕ
first_after seen par pos [] = λ v. v
first_after seen par pos (e ∷ E) = let first = first_after seen par pos E in pick (seen e.0) (λ u. merge_path par pos first e.0 e.1) (λ u. first)

-- ---- what holds between the steps
module _ (E : List Edge) (F : Forest E) where
  -- ---- tree edges that no loss of one junction splits
  abbrev pub End : ℕ → ℕ → Type 0
  End v p = (p ≡ v) ⊎ (p ≡ F.par v)

  abbrev pub Tied : ℕ → ℕ → Type 0
  Tied u v = (φ : Colouring E) (p q : ℕ) → End u p → End v q → lost φ.loss p ≡ false → lost φ.loss q ≡ false → φ.side p ≡ φ.side q

  -- ---- classes
  pub record Partition (first : ℕ → ℕ) : Type 0 where
    pub first_child : (v : ℕ) → F.child v ≡ true → F.child (first v) ≡ true
    pub first_first : (v : ℕ) → F.child v ≡ true → first (first v) ≡ first v
    pub first_pos : (v : ℕ) → F.child v ≡ true → F.pos (first v) ≤ F.pos v
    pub first_tree : (v : ℕ) → F.child v ≡ true → F.tree (first v) ≡ F.tree v
    pub tied : (u v : ℕ) → F.child u ≡ true → F.child v ≡ true → first u ≡ first v → Tied u v

  -- p is an end of a tree edge of s's class
  abbrev pub Touches : (ℕ → ℕ) → ℕ → ℕ → Type 0
  Touches first s p = (u : ℕ) × (F.child u ≡ true) × (first u ≡ first s) × End u p

  -- v's parent is in v's class
  abbrev pub Inside : (ℕ → ℕ) → ℕ → Type 0
  Inside first v = (F.child (F.par v) ≡ true) × (first (F.par v) ≡ first v)

  -- each class hangs on one junction, the parent of its first member
  abbrev pub Topped : (ℕ → ℕ) → Type 0
  Topped first = (v : ℕ) → F.child v ≡ true → Inside first v ⊎ (F.par v ≡ F.par (first v))

  -- the ends of an edge touch one class
  abbrev pub Spanned : (ℕ → ℕ) → ℕ → ℕ → Type 0
  Spanned first x y = (s : ℕ) × (F.child s ≡ true) × Touches first s x × Touches first s y

  abbrev pub Coarser : (ℕ → ℕ) → (ℕ → ℕ) → Type 0
  Coarser first after = (u v : ℕ) → first u ≡ first v → after u ≡ after v

  -- ---- between the steps of merging from x and y up to a and b: at which of the two it has begun, and that the class of s touches what it has passed
  pub data Reached (first : ℕ → ℕ) (x y s a b : ℕ) : Type 0 where
    left : F.pos y < F.pos x → F.pos a < F.pos x → Touches first s x → Touches first s a → b ≡ y → Reached first x y s a b
    right : F.pos x < F.pos y → F.pos b < F.pos y → Touches first s y → Touches first s b → a ≡ x → Reached first x y s a b
    both : F.pos a < F.pos x → F.pos b < F.pos y → Touches first s x → Touches first s a → Touches first s y → Touches first s b → Reached first x y s a b

  pub record MergeState (first : ℕ → ℕ) (x y s a b : ℕ) : Type 0 where
    pub partition : Partition first
    pub s_child : F.child s ≡ true
    pub a_seen : F.seen a ≡ true
    pub b_seen : F.seen b ≡ true
    pub a_tree : F.tree a ≡ F.tree s
    pub b_tree : F.tree b ≡ F.tree s
    pub reached : Reached first x y s a b
    -- the other classes hang on one junction, the class of s on a and b
    pub tops : (v : ℕ) → F.child v ≡ true → ¬ (first v ≡ first s) → Inside first v ⊎ (F.par v ≡ F.par (first v))
    pub arms : (v : ℕ) → F.child v ≡ true → first v ≡ first s → Inside first v ⊎ ((F.par v ≡ a) ⊎ (F.par v ≡ b))

  -- no edge between x and y is crossed
  abbrev pub Linked : ℕ → ℕ → Type 0
  Linked x y = (φ : Colouring E) → lost φ.loss x ≡ false → lost φ.loss y ≡ false → φ.side x ≡ φ.side y

  -- ---- the whole path
  pub record PathMerged (first : ℕ → ℕ) (x y : ℕ) (after : ℕ → ℕ) : Type 0 where
    pub partition : Partition after
    pub topped : Topped after
    pub spanned : Spanned after x y
    pub coarser : Coarser first after

  -- ---- all edges
  pub record PathsMerged (G : List Edge) (first : ℕ → ℕ) : Type 0 where
    pub partition : Partition first
    pub topped : Topped first
    pub spanned : (p q : ℕ) → Memᴰ (p, q) G → F.seen p ≡ true → ¬ (p ≡ q) → Spanned first p q
