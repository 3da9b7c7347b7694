-- The classes that merging along tree paths makes are blocks. In order: before the lost junction a tree has one side; tree edges that no loss splits, which is an equivalence;
-- uniting two classes; what holds between the steps of merging along one path; one step, for the later end of two; the whole path; all edges; the blocks.
-- Assumes nothing.
use Prim.Native.Nat.{◌+◌, ◌<◌, ◌≤◌, suc, zero, ℕ}
use mathlib.Core.Bool.{Bool, ◌||◌, cond, false, true}
use mathlib.Core.List.{List, Memᴰ, [], ◌∷◌}
use mathlib.Core.Logic.{◌⊎◌, inl, inr}
use mathlib.Core.Path.{◌∙◌, ◌≡◌, ap, refl, subst, sym}
use lib.Dec.{eqb, leb, ltb}
use native.Mathlib.Omega.{arith}
use borrow.Author.Tests.{eq-eqb, eqb-true, leb-false, leb-true, ltb-false, ltb-true, ne_eqb}
use Rattle.theory_graph.proofs.Booleans.{contradict, on_bool, or_elim}
use Rattle.theory_graph.proofs.SpanningForest.{on_eq}
use Rattle.theory_graph.specs.Graph.{Edge}
use Rattle.theory_junctions.proofs.Cycles.{lost_one}
use Rattle.theory_junctions.specs.Blocks.{Blocks, InBlock}
use Rattle.theory_junctions.specs.PathMerging as Spec
use Rattle.theory_junctions.specs.PathMerging.{Forest, both, merge_path, merge_on, first_after, left, pick, right, unite}
use Rattle.theory_junctions.specs.Colouring.{Colouring, lost}

-- ---- uniting two classes
module _ (pos first : ℕ → ℕ) (p q : ℕ) where
  abbrev pub joined_first : ℕ → ℕ
  joined_first = unite pos first p q

  abbrev pub name : ℕ
  name = cond (leb (pos p) (pos q)) p q

  abbrev pub Within : ℕ → Type 0
  Within u = (first u ≡ p) ⊎ (first u ≡ q)

  pub on_within : {A : Type 0} (u : ℕ) → (Within u → joined_first u ≡ name → A) → (¬ (first u ≡ p) → ¬ (first u ≡ q) → joined_first u ≡ first u → A) → A
  unfolding unite
  on_within u f g =
      on_bool (eqb (first u) p || eqb (first u) q)
      (λ t. f (or_elim (eqb (first u) p) (eqb (first u) q) t (λ e. inl (eqb-true (first u) p e)) (λ e. inr (eqb-true (first u) q e))) (ap (λ b. cond b name (first u)) t))
      (λ t. g (λ e. contradict (ap (λ b. b || eqb (first u) q) (eq-eqb (first u) p e)) t) (λ e. contradict (two (eqb (first u) p) (eq-eqb (first u) q e)) t) (ap (λ b. cond b name (first u)) t))
    where
      two : (a : Bool) {b : Bool} → b ≡ true → (a || b) ≡ true
      two true e = refl
      two false e = e

  pub name_is : (name ≡ p) ⊎ (name ≡ q)
  name_is = go (leb (pos p) (pos q))
    where
      go : (b : Bool) → (cond b p q ≡ p) ⊎ (cond b p q ≡ q)
      go true = inl refl
      go false = inr refl

  pub name_pos : (pos name ≤ pos p) × (pos name ≤ pos q)
  name_pos = on_bool (leb (pos p) (pos q))
      (λ t. let e : name ≡ p = ap (λ b. cond b p q) t in (omega (arith, ap pos e), omega (arith, ap pos e, leb-true (pos p) (pos q) t)))
      (λ t. let e : name ≡ q = ap (λ b. cond b p q) t in (omega (arith, ap pos e, leb-false (pos p) (pos q) t), omega (arith, ap pos e)))

  pub unite_coarser : (u v : ℕ) → first u ≡ first v → joined_first u ≡ joined_first v
  unfolding unite
  unite_coarser u v e = ap (λ c. cond (eqb c p || eqb c q) name c) e

  pub unite_within : (u : ℕ) → Within u → joined_first u ≡ name
  unite_within u (inl i) = on_within u (λ w e. e) (λ a b e. absurd (a i))
  unite_within u (inr i) = on_within u (λ w e. e) (λ a b e. absurd (b i))

  -- classes that are one now were one, or are the two
  pub unite_split : {A : Type 0} (u v : ℕ) → joined_first u ≡ joined_first v → (first u ≡ first v → A) → (Within u → Within v → A) → A
  unite_split u v e f g =
      on_within u
      (λ a i. on_within v (λ b j. g a b) (λ x y j. absurd (named v (sym j ∙ sym e ∙ i) x y)))
      (λ x y i. on_within v (λ b j. absurd (named u (sym i ∙ e ∙ j) x y)) (λ x y j. f (sym i ∙ e ∙ j)))
    where
      named : (w : ℕ) → first w ≡ name → ¬ (first w ≡ p) → ¬ (first w ≡ q) → ⊥
      named w h x y = go name_is
        where
          go : (name ≡ p) ⊎ (name ≡ q) → ⊥
          go (inl i) = x (h ∙ i)
          go (inr i) = y (h ∙ i)

-- ---- trees
module _ (E : List Edge) (F : Forest E) where
  -- the ends of a tree edge
  parent_side : (φ : Colouring E) (v : ℕ) → F.child v ≡ true → lost φ.loss v ≡ false → lost φ.loss (F.par v) ≡ false → φ.side v ≡ φ.side (F.par v)
  parent_side φ v c l k = go (F.par_edge v c)
    where
      go : Memᴰ (v, F.par v) E ⊎ Memᴰ (F.par v, v) E → φ.side v ≡ φ.side (F.par v)
      go (inl m) = φ.uncrossed v (F.par v) m l k
      go (inr m) = sym (φ.uncrossed (F.par v) v m k l)

  -- every lost junction comes after u
  abbrev pub Before : Colouring E → ℕ → Type 0
  Before φ u = (w : ℕ) → lost φ.loss w ≡ true → F.pos u < F.pos w

  before_plain : (φ : Colouring E) (u : ℕ) → Before φ u → lost φ.loss u ≡ false
  before_plain φ u b = on_bool (lost φ.loss u) (λ l. absurd (omega (arith, b u l))) (λ l. l)

  before_lost : (φ : Colouring E) (u w : ℕ) → lost φ.loss w ≡ true → F.pos u < F.pos w → Before φ u
  before_lost φ u w l h v k = subst (λ (s : ℕ). F.pos u < F.pos s) (lost_one φ.loss w v l k) h

  -- before the lost junction a tree has one side
  pub tree_side : (φ : Colouring E) (n u : ℕ) → F.pos u < n → F.seen u ≡ true → Before φ u → φ.side u ≡ φ.side (F.tree u)
  tree_side φ zero u l s b = absurd (omega arith)
  tree_side φ (suc n) u l s b =
      on_bool (F.child u)
      (λ c.
      let up : Before φ (F.par u) = λ w k. omega (arith, b w k, F.par_pos u c) in
      parent_side φ u c (before_plain φ u b) (before_plain φ (F.par u) up) ∙ tree_side φ n (F.par u) (omega (arith, F.par_pos u c)) (F.par_seen u c) up ∙ ap φ.side (F.par_tree u c))
      (λ c. sym (ap φ.side (F.root_tree u s c)))

  pub before_side : (φ : Colouring E) (u v : ℕ) → F.seen u ≡ true → F.seen v ≡ true → F.tree u ≡ F.tree v → Before φ u → Before φ v → φ.side u ≡ φ.side v
  before_side φ u v s t e b c = tree_side φ (suc (F.pos u)) u (omega arith) s b ∙ ap φ.side e ∙ sym (tree_side φ (suc (F.pos v)) v (omega arith) t c)

  -- the root comes first
  tree_pos : (n u : ℕ) → F.pos u < n → F.seen u ≡ true → F.pos (F.tree u) ≤ F.pos u
  tree_pos zero u l s = absurd (omega arith)
  tree_pos (suc n) u l s =
      on_bool (F.child u)
      (λ c. omega (arith, tree_pos n (F.par u) (omega (arith, F.par_pos u c)) (F.par_seen u c), F.par_pos u c, ap F.pos (F.par_tree u c)))
      (λ c. omega (arith, ap F.pos (F.root_tree u s c)))

  later_child : (a b : ℕ) → F.seen a ≡ true → F.seen b ≡ true → F.tree a ≡ F.tree b → F.pos b < F.pos a → F.child a ≡ true
  later_child a b s t e l =
      on_bool (F.child a) (λ c. c) (λ c. absurd (omega (arith, tree_pos (suc (F.pos b)) b (omega arith) t, ap F.pos (sym (F.root_tree a s c) ∙ e))))

  abbrev End : ℕ → ℕ → Type 0
  End = Spec.End E F

  abbrev Tied : ℕ → ℕ → Type 0
  Tied = Spec.Tied E F

  -- one end of a tree edge is left
  end_left : {A : Type 0} (φ : Colouring E) (v : ℕ) → F.child v ≡ true → ((p : ℕ) → End v p → lost φ.loss p ≡ false → A) → A
  end_left φ v c f =
      on_bool (lost φ.loss v)
      (λ l. f (F.par v) (inr refl) (on_bool (lost φ.loss (F.par v)) (λ k. absurd (omega (arith, F.par_pos v c, ap F.pos (lost_one φ.loss v (F.par v) l k)))) (λ k. k)))
      (λ l. f v (inl refl) l)

  pub tied_refl : (v : ℕ) → F.child v ≡ true → Tied v v
  tied_refl v c φ p q (inl a) (inl b) l k = ap φ.side (a ∙ sym b)
  tied_refl v c φ p q (inl a) (inr b) l k = ap φ.side a ∙ parent_side φ v c (ap (lost φ.loss) (sym a) ∙ l) (ap (lost φ.loss) (sym b) ∙ k) ∙ ap φ.side (sym b)
  tied_refl v c φ p q (inr a) (inl b) l k = ap φ.side a ∙ sym (parent_side φ v c (ap (lost φ.loss) (sym b) ∙ k) (ap (lost φ.loss) (sym a) ∙ l)) ∙ ap φ.side (sym b)
  tied_refl v c φ p q (inr a) (inr b) l k = ap φ.side (a ∙ sym b)

  pub tied_sym : (u v : ℕ) → Tied u v → Tied v u
  tied_sym u v t φ p q a b l k = sym (t φ q p b a k l)

  pub tied_trans : (u v w : ℕ) → F.child v ≡ true → Tied u v → Tied v w → Tied u w
  tied_trans u v w c s t φ p q a b l k = end_left φ v c λ r e m. s φ p r a e l m ∙ t φ r q e b m k

  abbrev Partition : (ℕ → ℕ) → Type 0
  Partition = Spec.Partition E F

  abbrev Touches : (ℕ → ℕ) → ℕ → ℕ → Type 0
  Touches = Spec.Touches E F

  abbrev Inside : (ℕ → ℕ) → ℕ → Type 0
  Inside = Spec.Inside E F

  abbrev Topped : (ℕ → ℕ) → Type 0
  Topped = Spec.Topped E F

  abbrev Spanned : (ℕ → ℕ) → ℕ → ℕ → Type 0
  Spanned = Spec.Spanned E F

  abbrev Coarser : (ℕ → ℕ) → (ℕ → ℕ) → Type 0
  Coarser = Spec.Coarser E F

  pub touches_coarser : (first after : ℕ → ℕ) → Coarser first after → (s p : ℕ) → Touches first s p → Touches after s p
  touches_coarser first after f s p (u, c, e, d) = (u, c, f u s e, d)

  pub spanned_coarser : (first after : ℕ → ℕ) → Coarser first after → (x y : ℕ) → Spanned first x y → Spanned after x y
  spanned_coarser first after f x y (s, c, a, b) = (s, c, touches_coarser first after f s x a, touches_coarser first after f s y b)

  -- a tree edge, merged along or not
  pub tree_spanned : (first : ℕ → ℕ) (v : ℕ) → F.child v ≡ true → Spanned first v (F.par v)
  tree_spanned first v c = (v, c, (v, c, refl, inl refl), (v, c, refl, inr refl))

  -- a junction that touches the class is on the side of its tree edges
  touches_side : (first : ℕ → ℕ) → Partition first → (s p : ℕ) → F.child s ≡ true → Touches first s p
      → (φ : Colouring E) (q : ℕ) → End s q → lost φ.loss p ≡ false → lost φ.loss q ≡ false → φ.side p ≡ φ.side q
  touches_side first P s p c (u, d, e, i) φ q j l k = P.tied u s d c e φ p q i j l k

  -- the classes of s and r, which are tied
  module _ (first : ℕ → ℕ) (P : Partition first) (s r : ℕ) (cs : F.child s ≡ true) (cr : F.child r ≡ true) (e : F.tree s ≡ F.tree r) (t : Tied s r) where
    abbrev after : ℕ → ℕ
    after = unite F.pos first (first s) (first r)

    abbrev class_name : ℕ
    class_name = name F.pos first (first s) (first r)

    -- what both names have, the name has
    by_name : (A : ℕ → Type 0) → A (first s) → A (first r) → A class_name
    by_name A a b = go (name_is F.pos first (first s) (first r))
      where
        go : (class_name ≡ first s) ⊎ (class_name ≡ first r) → A class_name
        go (inl i) = subst A (sym i) a
        go (inr i) = subst A (sym i) b

    member_tied : (u : ℕ) → F.child u ≡ true → Within F.pos first (first s) (first r) u → Tied u s
    member_tied u c (inl i) = P.tied u s c cs i
    member_tied u c (inr i) = tied_trans u r s cr (P.tied u r c cr i) (tied_sym s r t)

    member_pos : (u : ℕ) → Within F.pos first (first s) (first r) u → F.pos class_name ≤ F.pos (first u)
    member_pos u (inl i) = omega (arith, ap F.pos i, (name_pos F.pos first (first s) (first r)).0)
    member_pos u (inr i) = omega (arith, ap F.pos i, (name_pos F.pos first (first s) (first r)).1)

    member_tree : (u : ℕ) → F.child u ≡ true → Within F.pos first (first s) (first r) u → F.tree u ≡ F.tree s
    member_tree u c (inl i) = sym (P.first_tree u c) ∙ ap F.tree i ∙ P.first_tree s cs
    member_tree u c (inr i) = sym (P.first_tree u c) ∙ ap F.tree i ∙ P.first_tree r cr ∙ sym e

    pub unite_partition : Partition after
    unite_partition =
        record {
          first_child = λ v c. on_within F.pos first (first s) (first r) v
              (λ w i. subst (λ (u : ℕ). F.child u ≡ true) (sym i) (by_name (λ u. F.child u ≡ true) (P.first_child s cs) (P.first_child r cr)))
              (λ a b i. subst (λ (u : ℕ). F.child u ≡ true) (sym i) (P.first_child v c));
          first_first = λ v c. on_within F.pos first (first s) (first r) v
              (λ w i. ap after i ∙ unite_within F.pos first (first s) (first r) class_name (by_name (Within F.pos first (first s) (first r)) (inl (P.first_first s cs)) (inr (P.first_first r cr))) ∙ sym i)
              (λ a b i. ap after i ∙ unite_coarser F.pos first (first s) (first r) (first v) v (P.first_first v c));
          first_pos = λ v c. on_within F.pos first (first s) (first r) v
              (λ w i. omega (arith, ap F.pos i, member_pos v w, P.first_pos v c))
              (λ a b i. omega (arith, ap F.pos i, P.first_pos v c));
          first_tree = λ v c. on_within F.pos first (first s) (first r) v
              (λ w i. ap F.tree i ∙ by_name (λ u. F.tree u ≡ F.tree s) (P.first_tree s cs) (P.first_tree r cr ∙ sym e) ∙ sym (member_tree v c w))
              (λ a b i. ap F.tree i ∙ P.first_tree v c);
          tied = λ u v cu cv i. unite_split F.pos first (first s) (first r) u v i (P.tied u v cu cv) (λ a b. tied_trans u s v cs (member_tied u cu a) (tied_sym v s (member_tied v cv b)));
        }

  abbrev Reached : (ℕ → ℕ) → ℕ → ℕ → ℕ → ℕ → ℕ → Type 0
  Reached = Spec.Reached E F

  abbrev MergeState : (ℕ → ℕ) → ℕ → ℕ → ℕ → ℕ → ℕ → Type 0
  MergeState = Spec.MergeState E F

  abbrev Linked : ℕ → ℕ → Type 0
  Linked = Spec.Linked E F

  pub state_swap : (first : ℕ → ℕ) (x y s a b : ℕ) → MergeState first x y s a b → MergeState first y x s b a
  state_swap first x y s a b S =
      record {
        partition = S.partition;
        s_child = S.s_child;
        a_seen = S.b_seen;
        b_seen = S.a_seen;
        a_tree = S.b_tree;
        b_tree = S.a_tree;
        reached = turn S.reached;
        tops = S.tops;
        arms = λ v c e. other (S.arms v c e);
      }
    where
      turn : Reached first x y s a b → Reached first y x s b a
      turn (left l k m n e) = right l k m n e
      turn (right l k m n e) = left l k m n e
      turn (both l k m n o p) = both k l o p m n

      other : {v : ℕ} → Inside first v ⊎ ((F.par v ≡ a) ⊎ (F.par v ≡ b)) → Inside first v ⊎ ((F.par v ≡ b) ⊎ (F.par v ≡ a))
      other (inl i) = inl i
      other (inr (inl i)) = inr (inr i)
      other (inr (inr i)) = inr (inl i)

  -- ---- one step, at the later of the two
  module _ (first : ℕ → ℕ) (x y s a b : ℕ) (link : Linked x y) (S : MergeState first x y s a b) (later : F.pos b < F.pos a) where
    abbrev r : ℕ
    r = first a

    a_child : F.child a ≡ true
    a_child = later_child a b S.a_seen S.b_seen (S.a_tree ∙ sym S.b_tree) later

    -- where a is lost, its parent and b have one side
    lost_side : (φ : Colouring E) → lost φ.loss a ≡ true → φ.side (F.par a) ≡ φ.side b
    lost_side φ l =
        before_side φ (F.par a) b (F.par_seen a a_child) S.b_seen (F.par_tree a a_child ∙ S.a_tree ∙ sym S.b_tree)
        (before_lost φ (F.par a) a l (F.par_pos a a_child)) (before_lost φ b a l later)

    pub step_tied : Tied a s
    step_tied φ p q ep eq lp lq = on_bool (lost φ.loss a) (λ l. gone l S.reached) (λ l. tied_refl a a_child φ p a ep (inl refl) lp l ∙ stays l S.reached)
      where
        near : (t : ℕ) → Touches first s t → lost φ.loss t ≡ false → φ.side t ≡ φ.side q
        near t m l = touches_side first S.partition s t S.s_child m φ q eq l lq

        -- p is the parent
        parent : lost φ.loss a ≡ true → φ.side p ≡ φ.side b
        parent l = go ep
          where
            go : End a p → φ.side p ≡ φ.side b
            go (inl e) = contradict (ap (lost φ.loss) e ∙ l) lp
            go (inr e) = ap φ.side e ∙ lost_side φ l

        b_plain : lost φ.loss a ≡ true → lost φ.loss b ≡ false
        b_plain l = before_plain φ b (before_lost φ b a l later)

        gone : lost φ.loss a ≡ true → Reached first x y s a b → φ.side p ≡ φ.side q
        gone l (left yx ax m n e) =
            let x_plain : lost φ.loss x ≡ false = on_bool (lost φ.loss x) (λ k. absurd (omega (arith, ap F.pos (lost_one φ.loss a x l k)))) (λ k. k) in
            parent l ∙ ap φ.side e ∙ sym (link φ x_plain (ap (lost φ.loss) (sym e) ∙ b_plain l)) ∙ near x m x_plain
        gone l (right xy by m n e) = parent l ∙ near b n (b_plain l)
        gone l (both ax by m n o k) = parent l ∙ near b k (b_plain l)

        stays : lost φ.loss a ≡ false → Reached first x y s a b → φ.side a ≡ φ.side q
        stays l (left yx ax m n e) = near a n l
        stays l (both ax by m n o k) = near a n l
        stays l (right xy by m n e) =
            on_bool (lost φ.loss y)
            (λ k.
            let bb = before_lost φ b y k by in
            before_side φ a b S.a_seen S.b_seen (S.a_tree ∙ sym S.b_tree) (before_lost φ a y k (omega (arith, ap F.pos e))) bb ∙ near b n (before_plain φ b bb))
            (λ k. ap φ.side e ∙ link φ (ap (lost φ.loss) (sym e) ∙ l) k ∙ near y m k)

    abbrev next : ℕ → ℕ
    next = unite F.pos first (first s) (first a)

    coarser : Coarser first next
    coarser = unite_coarser F.pos first (first s) (first a)

    next_s : next s ≡ name F.pos first (first s) (first a)
    next_s = unite_within F.pos first (first s) (first a) s (inl refl)

    next_within : (u : ℕ) → Within F.pos first (first s) (first a) u → next u ≡ next s
    next_within u w = unite_within F.pos first (first s) (first a) u w ∙ sym next_s

    r_child : F.child r ≡ true
    r_child = S.partition.first_child a a_child

    r_touches : Touches next s (F.par r)
    r_touches = (r, r_child, next_within r (inr (S.partition.first_first a a_child)), inr refl)

    inside_next : (v : ℕ) → Inside first v → Inside next v
    inside_next v (c, e) = (c, coarser (F.par v) v e)

    up_pos : F.pos (F.par r) < F.pos a
    up_pos = omega (arith, F.par_pos r r_child, S.partition.first_pos a a_child)

    step_reached : Reached first x y s a b → Reached next x y s (F.par r) b
    step_reached (left yx ax m n e) = left yx (omega (arith, up_pos)) (touches_coarser first next coarser s x m) r_touches e
    step_reached (right xy by m n e) =
        both (omega (arith, up_pos, ap F.pos e)) by (a, a_child, next_within a (inr refl), inl (sym e)) r_touches (touches_coarser first next coarser s y m) (touches_coarser first next coarser s b n)
    step_reached (both ax by m n o k) =
        both (omega (arith, up_pos)) by (touches_coarser first next coarser s x m) r_touches (touches_coarser first next coarser s y o) (touches_coarser first next coarser s b k)

    step_tops : (v : ℕ) → F.child v ≡ true → ¬ (next v ≡ next s) → Inside next v ⊎ (F.par v ≡ F.par (next v))
    step_tops v c n =
        on_within F.pos first (first s) (first a) v (λ w i. absurd (n (next_within v w)))
        λ p q i. go i (S.tops v c p)
      where
        go : next v ≡ first v → Inside first v ⊎ (F.par v ≡ F.par (first v)) → Inside next v ⊎ (F.par v ≡ F.par (next v))
        go i (inl j) = inl (inside_next v j)
        go i (inr j) = inr (j ∙ ap F.par (sym i))

    step_arms : (v : ℕ) → F.child v ≡ true → next v ≡ next s → Inside next v ⊎ ((F.par v ≡ F.par r) ⊎ (F.par v ≡ b))
    step_arms v c e =
        on_eq (first v) (first s) (λ i. own i (S.arms v c i))
        λ n. on_within F.pos first (first s) (first a) v (λ w i. new n w (S.tops v c n))
        λ p q i. absurd (named (sym i ∙ e ∙ next_s) p q (name_is F.pos first (first s) (first a)))
      where
        named : first v ≡ name F.pos first (first s) (first a) → ¬ (first v ≡ first s) → ¬ (first v ≡ first a) → (name F.pos first (first s) (first a) ≡ first s) ⊎ (name F.pos first (first s) (first a) ≡ first a) → ⊥
        named h p q (inl i) = p (h ∙ i)
        named h p q (inr i) = q (h ∙ i)

        own : first v ≡ first s → Inside first v ⊎ ((F.par v ≡ a) ⊎ (F.par v ≡ b)) → Inside next v ⊎ ((F.par v ≡ F.par r) ⊎ (F.par v ≡ b))
        own i (inl j) = inl (inside_next v j)
        own i (inr (inl j)) =
            inl (subst (λ (u : ℕ). F.child u ≡ true) (sym j) a_child, ap next j ∙ next_within a (inr refl) ∙ sym e)
        own i (inr (inr j)) = inr (inr j)

        new : ¬ (first v ≡ first s) → Within F.pos first (first s) (first a) v → Inside first v ⊎ (F.par v ≡ F.par (first v)) → Inside next v ⊎ ((F.par v ≡ F.par r) ⊎ (F.par v ≡ b))
        new n (inl i) t = absurd (n i)
        new n (inr i) (inl j) = inl (inside_next v j)
        new n (inr i) (inr j) = inr (inl (j ∙ ap F.par i))

    pub step_state : MergeState next x y s (F.par r) b
    step_state =
        record {
          partition = unite_partition first S.partition s a S.s_child a_child (sym S.a_tree) (tied_sym a s step_tied);
          s_child = S.s_child;
          a_seen = F.par_seen r r_child;
          b_seen = S.b_seen;
          a_tree = F.par_tree r r_child ∙ S.partition.first_tree a a_child ∙ S.a_tree;
          b_tree = S.b_tree;
          reached = step_reached S.reached;
          tops = step_tops;
          arms = step_arms;
        }

  abbrev PathMerged : (ℕ → ℕ) → ℕ → ℕ → (ℕ → ℕ) → Type 0
  PathMerged = Spec.PathMerged E F

  path_swap : (first : ℕ → ℕ) (x y : ℕ) (after : ℕ → ℕ) → PathMerged first y x after → PathMerged first x y after
  path_swap first x y after R = record { partition = R.partition; topped = R.topped; spanned = let (s, c, a, b) = R.spanned in (s, c, b, a); coarser = R.coarser }

  -- where the two meet
  pub state_end : (first : ℕ → ℕ) (x y s a b : ℕ) → MergeState first x y s a b → a ≡ b → PathMerged first x y first
  state_end first x y s a b S meet =
      record { partition = S.partition; topped = λ v c. on_eq (first v) (first s) (λ i. own v c i (S.arms v c i)) (S.tops v c); spanned = let (mx, my) = over S.reached in (s, S.s_child, mx, my); coarser = λ u v e. e }
    where
      -- the first member of the class of s hangs on the meeting place
      first_arm : (v : ℕ) → F.child v ≡ true → first v ≡ first s → F.par (first v) ≡ a
      first_arm v c i = go (S.arms (first v) (S.partition.first_child v c) (S.partition.first_first v c ∙ i))
        where
          go : Inside first (first v) ⊎ ((F.par (first v) ≡ a) ⊎ (F.par (first v) ≡ b)) → F.par (first v) ≡ a
          go (inl (d, e)) = absurd (omega (arith, S.partition.first_pos (F.par (first v)) d, F.par_pos (first v) (S.partition.first_child v c), ap F.pos (e ∙ S.partition.first_first v c)))
          go (inr (inl e)) = e
          go (inr (inr e)) = e ∙ sym meet

      own : (v : ℕ) → F.child v ≡ true → first v ≡ first s → Inside first v ⊎ ((F.par v ≡ a) ⊎ (F.par v ≡ b)) → Inside first v ⊎ (F.par v ≡ F.par (first v))
      own v c i (inl j) = inl j
      own v c i (inr (inl j)) = inr (j ∙ sym (first_arm v c i))
      own v c i (inr (inr j)) = inr (j ∙ sym meet ∙ sym (first_arm v c i))

      over : Reached first x y s a b → Touches first s x × Touches first s y
      over (left yx ax m n e) = (m, subst (λ (u : ℕ). Touches first s u) (meet ∙ e) n)
      over (right xy by m n e) = (subst (λ (u : ℕ). Touches first s u) (sym meet ∙ e) n, m)
      over (both ax by m n o k) = (m, o)

  pub path_more : (first next : ℕ → ℕ) (x y : ℕ) (after : ℕ → ℕ) → Coarser first next → PathMerged next x y after → PathMerged first x y after
  path_more first next x y after f R = record { partition = R.partition; topped = R.topped; spanned = R.spanned; coarser = λ u v e. R.coarser u v (f u v e) }

  pub path_on : (n : ℕ) (first : ℕ → ℕ) (x y s a b : ℕ) → Linked x y → MergeState first x y s a b → F.pos a + F.pos b < n → PathMerged first x y (merge_on F.par F.pos n first a b s)
  unfolding merge_on
  path_on zero first x y s a b link S l = absurd (omega arith)
  path_on (suc n) first x y s a b link S l =
      on_eq a b
      (λ e. subst (λ (t : Bool). PathMerged first x y (pick t (λ u. first) below)) (sym (eq-eqb a b e)) (state_end first x y s a b S e))
      λ ne. subst (λ (t : Bool). PathMerged first x y (pick t (λ u. first) below)) (sym (ne_eqb a b ne))
      (on_bool (ltb (F.pos b) (F.pos a))
      (λ t. let g = ltb-true (F.pos b) (F.pos a) t in
      subst (λ (t : Bool). PathMerged first x y (pick t at_a at_b)) (sym t)
      (path_more first (next first x y s a b link S g) x y (at_a tt) (coarser first x y s a b link S g)
      (path_on n (next first x y s a b link S g) x y s (F.par (first a)) b link (step_state first x y s a b link S g) (omega (arith, up_pos first x y s a b link S g)))))
      (λ t.
      let g : F.pos a < F.pos b = before_other ne (ltb-false (F.pos b) (F.pos a) t) in
      let T = state_swap first x y s a b S in
      let back : Linked y x = λ φ p q. sym (link φ q p) in
      subst (λ (t : Bool). PathMerged first x y (pick t at_a at_b)) (sym t)
      (path_more first (next first y x s b a back T g) x y (at_b tt) (coarser first y x s b a back T g)
      (path_on n (next first y x s b a back T g) x y s a (F.par (first b)) link (state_swap (next first y x s b a back T g) y x s (F.par (first b)) a (step_state first y x s b a back T g)) (omega (arith, up_pos first y x s b a back T g))))))
    where
      at_a : Unit {0} → ℕ → ℕ
      at_a u = merge_on F.par F.pos n (unite F.pos first (first s) (first a)) (F.par (first a)) b s

      at_b : Unit {0} → ℕ → ℕ
      at_b u = merge_on F.par F.pos n (unite F.pos first (first s) (first b)) a (F.par (first b)) s

      below : Unit {0} → ℕ → ℕ
      below u = pick (ltb (F.pos b) (F.pos a)) at_a at_b

      before_other : ¬ (a ≡ b) → F.pos a ≤ F.pos b → F.pos a < F.pos b
      before_other ne h = on_eq (F.pos a) (F.pos b) (λ e. absurd (ne (F.pos_once a b S.a_seen S.b_seen e))) (λ e. omega arith)

  -- the beginning, at the later end
  pub path_start : (first : ℕ → ℕ) → Partition first → Topped first → (x y : ℕ) → F.seen x ≡ true → F.seen y ≡ true → F.tree x ≡ F.tree y → F.pos y < F.pos x
      → MergeState first x y (first x) (F.par (first x)) y
  path_start first P T x y sx sy e l =
      let c = later_child x y sx sy e l in
      let d = P.first_child x c in
      record {
        partition = P;
        s_child = d;
        a_seen = F.par_seen (first x) d;
        b_seen = sy;
        a_tree = F.par_tree (first x) d;
        b_tree = sym e ∙ sym (P.first_tree x c);
        reached = left l (omega (arith, F.par_pos (first x) d, P.first_pos x c)) (x, c, sym (P.first_first x c), inl refl) (first x, d, refl, inr refl) refl;
        tops = λ v cv n. T v cv;
        arms = λ v cv i. go v (i ∙ P.first_first x c) (T v cv);
      }
    where
      go : (v : ℕ) → first v ≡ first x → Inside first v ⊎ (F.par v ≡ F.par (first v)) → Inside first v ⊎ ((F.par v ≡ F.par (first x)) ⊎ (F.par v ≡ y))
      go v i (inl j) = inl j
      go v i (inr j) = inr (inl (j ∙ ap F.par i))

  pub path_edge : (first : ℕ → ℕ) → Partition first → Topped first → (x y : ℕ) → Memᴰ (x, y) E → F.seen x ≡ true → ¬ (x ≡ y) → PathMerged first x y (merge_path F.par F.pos first x y)
  unfolding merge_path
  path_edge first P T x y m sx ne =
      subst (λ (t : Bool). PathMerged first x y (pick t (λ u. first) below)) (sym (ne_eqb x y ne))
      (on_bool (ltb (F.pos y) (F.pos x))
      (λ t.
      let g = ltb-true (F.pos y) (F.pos x) t in
      let S = path_start first P T x y sx sy e g in
      subst (λ (t : Bool). PathMerged first x y (pick t at_x at_y)) (sym t)
      (path_on (suc (F.pos x + F.pos y)) first x y (first x) (F.par (first x)) y link S (omega (arith, start_pos x (later_child x y sx sy e g)))))
      (λ t.
      let g : F.pos x < F.pos y = other (ltb-false (F.pos y) (F.pos x) t) in
      let S = path_start first P T y x sy sx (sym e) g in
      subst (λ (t : Bool). PathMerged first x y (pick t at_x at_y)) (sym t)
      (path_on (suc (F.pos x + F.pos y)) first x y (first y) x (F.par (first y)) link (state_swap first y x (first y) (F.par (first y)) x S) (omega (arith, start_pos y (later_child y x sy sx (sym e) g))))))
    where
      sy : F.seen y ≡ true
      sy = sym (F.edge_seen x y m) ∙ sx

      e : F.tree x ≡ F.tree y
      e = F.edge_tree x y m sx

      link : Linked x y
      link φ p q = φ.uncrossed x y m p q

      at_x : Unit {0} → ℕ → ℕ
      at_x u = merge_on F.par F.pos (suc (F.pos x + F.pos y)) first (F.par (first x)) y (first x)

      at_y : Unit {0} → ℕ → ℕ
      at_y u = merge_on F.par F.pos (suc (F.pos x + F.pos y)) first x (F.par (first y)) (first y)

      below : Unit {0} → ℕ → ℕ
      below u = pick (ltb (F.pos y) (F.pos x)) at_x at_y

      other : F.pos x ≤ F.pos y → F.pos x < F.pos y
      other h = on_eq (F.pos x) (F.pos y) (λ i. absurd (ne (F.pos_once x y sx sy i))) (λ i. omega arith)

      start_pos : (v : ℕ) → F.child v ≡ true → F.pos (F.par (first v)) < F.pos v
      start_pos v c = omega (arith, F.par_pos (first v) (P.first_child v c), P.first_pos v c)

  abbrev PathsMerged : List Edge → (ℕ → ℕ) → Type 0
  PathsMerged = Spec.PathsMerged E F

  pub paths_none : PathsMerged [] (λ v. v)
  paths_none =
      record {
        partition = record {
          first_child = λ v c. c;
          first_first = λ v c. refl;
          first_pos = λ v c. omega arith;
          first_tree = λ v c. refl;
          tied = λ u v cu cv e. subst (λ (w : ℕ). Tied u w) e (tied_refl u cu);
        };
        topped = λ v c. inr refl;
        spanned = λ p q m s n. absurd (elim m [ ]);
      }

  path_loop : (first : ℕ → ℕ) (x y : ℕ) → x ≡ y → merge_path F.par F.pos first x y ≡ first
  unfolding merge_path
  path_loop first x y e = ap (λ t. pick t (λ u. first) below) (eq-eqb x y e)
    where
      below : Unit {0} → ℕ → ℕ
      below u = pick (ltb (F.pos y) (F.pos x)) (λ u. merge_on F.par F.pos (suc (F.pos x + F.pos y)) first (F.par (first x)) y (first x)) (λ u. merge_on F.par F.pos (suc (F.pos x + F.pos y)) first x (F.par (first y)) (first y))

  -- one more edge
  pub paths_more : (G : List Edge) (first : ℕ → ℕ) → PathsMerged G first → (x y : ℕ) → Memᴰ (x, y) E → F.seen x ≡ true → PathsMerged ((x, y) ∷ G) (merge_path F.par F.pos first x y)
  paths_more G first C x y m s =
      on_eq x y
      (λ e. subst (λ (f : ℕ → ℕ). PathsMerged ((x, y) ∷ G) f) (sym (path_loop first x y e))
      (record { partition = C.partition; topped = C.topped; spanned = λ p q k sp n. loop e p q k sp n }))
      λ ne. let R = path_edge first C.partition C.topped x y m s ne in
      record { partition = R.partition; topped = R.topped; spanned = λ p q k sp n. edge R p q k sp n }
    where
      loop : x ≡ y → (p q : ℕ) → Memᴰ (p, q) ((x, y) ∷ G) → F.seen p ≡ true → ¬ (p ≡ q) → Spanned first p q
      loop e p q (Memᴰ.head i) sp n = absurd (n (ap (λ e. e.0) i ∙ e ∙ sym (ap (λ e. e.1) i)))
      loop e p q (Memᴰ.tail k) sp n = C.spanned p q k sp n

      edge : PathMerged first x y (merge_path F.par F.pos first x y) → (p q : ℕ) → Memᴰ (p, q) ((x, y) ∷ G) → F.seen p ≡ true → ¬ (p ≡ q) → Spanned (merge_path F.par F.pos first x y) p q
      edge R p q (Memᴰ.head i) sp n =
          subst (λ (u : ℕ). Spanned (merge_path F.par F.pos first x y) u q) (sym (ap (λ e. e.0) i)) (subst (λ (u : ℕ). Spanned (merge_path F.par F.pos first x y) x u) (sym (ap (λ e. e.1) i)) R.spanned)
      edge R p q (Memᴰ.tail k) sp n = spanned_coarser first (merge_path F.par F.pos first x y) R.coarser p q (C.spanned p q k sp n)

  pub paths_all : (G : List Edge) → ((p q : ℕ) → Memᴰ (p, q) G → Memᴰ (p, q) E) → PathsMerged G (first_after F.seen F.par F.pos G)
  unfolding first_after
  paths_all [] f = paths_none
  paths_all (e ∷ G) f =
      go (paths_all G (λ p q m. f p q (Memᴰ.tail m)))
    where
      first : ℕ → ℕ
      first = first_after F.seen F.par F.pos G

      reached : Unit {0} → ℕ → ℕ
      reached u = merge_path F.par F.pos first e.0 e.1

      go : PathsMerged G first → PathsMerged (e ∷ G) (pick (F.seen e.0) reached (λ u. first))
      go C =
          on_bool (F.seen e.0)
          (λ s. subst (λ (t : Bool). PathsMerged (e ∷ G) (pick t reached (λ u. first))) (sym s) (paths_more G first C e.0 e.1 (f e.0 e.1 (Memᴰ.head refl)) s))
          (λ s. subst (λ (t : Bool). PathsMerged (e ∷ G) (pick t reached (λ u. first))) (sym s)
          (record { partition = C.partition; topped = C.topped; spanned = λ p q k sp n. later s p q k sp n }))
        where
          later : F.seen e.0 ≡ false → (p q : ℕ) → Memᴰ (p, q) (e ∷ G) → F.seen p ≡ true → ¬ (p ≡ q) → Spanned first p q
          later s p q (Memᴰ.head i) sp n = contradict (ap (λ e. F.seen e.0) (sym i) ∙ sp) s
          later s p q (Memᴰ.tail k) sp n = C.spanned p q k sp n

  -- ---- the blocks
  module _ (first : ℕ → ℕ) (C : PathsMerged E first) where
    pub touches_block : (v p : ℕ) → Touches first v p → InBlock F.child F.par first (first v) p
    touches_block v p (u, c, e, inl i) = inl (subst (λ (w : ℕ). F.child w ≡ true) (sym i) c, ap first i ∙ e)
    touches_block v p (u, c, e, inr i) = go (C.topped u c)
      where
        go : Inside first u ⊎ (F.par u ≡ F.par (first u)) → InBlock F.child F.par first (first v) p
        go (inl (d, f)) = inl (subst (λ (w : ℕ). F.child w ≡ true) (sym i) d, ap first i ∙ f ∙ e)
        go (inr f) = inr (i ∙ f ∙ ap F.par e)

    pub block_touches : (v p : ℕ) → F.child v ≡ true → InBlock F.child F.par first (first v) p → Touches first v p
    block_touches v p c (inl (d, f)) = (p, d, f, inl refl)
    block_touches v p c (inr e) = (first v, C.partition.first_child v c, C.partition.first_first v c, inr e)

    unfoldable pub merged_blocks : Blocks E
    merged_blocks =
        record {
          seen = F.seen;
          child = F.child;
          par = F.par;
          pos = F.pos;
          first = first;
          child_seen = F.child_seen;
          par_seen = F.par_seen;
          par_pos = F.par_pos;
          first_child = C.partition.first_child;
          first_first = C.partition.first_first;
          first_pos = C.partition.first_pos;
          edge_block = λ p q m n. on_bool (F.seen p)
              (λ s. let (v, c, a, b) = C.spanned p q m s n in inr (v, c, touches_block v p a, touches_block v q b))
              (λ s. inl (s, sym (F.edge_seen p q m) ∙ s));
          whole = λ φ v p q c a b l k.
              let (u, cu, eu, iu) = block_touches v p c a in
              let (w, cw, ew, iw) = block_touches v q c b in
              C.partition.tied u w cu cw (eu ∙ sym ew) φ p q iu iw l k;
        }

  -- every forest has blocks, and merging finds them
  unfoldable pub forest_blocks : Blocks E
  forest_blocks = merged_blocks (first_after F.seen F.par F.pos E) (paths_all E (λ p q m. m))
