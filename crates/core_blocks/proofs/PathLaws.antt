-- Laws of merging along a tree path: the later of two nodes of a tree is a child; one class more; the loop of `merge_path`; its end.
-- Assumes nothing.
use Prim.Native.Nat.{◌+◌, ◌<◌, ◌≤◌, suc, zero, ℕ}
use mathlib.Core.List.{List}
use mathlib.Core.Logic.{◌⊎◌, inl, inr}
use mathlib.Core.Path.{◌∙◌, ◌≡◌, ap, refl, subst, sym}
use lib.Dec.{ltb}
use native.Mathlib.Omega.{arith}
use borrow.Author.Tests.{eq-eqb, le-ltb, lt-ltb, ne_eqb}
use Rattle.theory_junctions.proofs.PathMergingLaws.{Within, name, name_is, name_pos, on_within}
use Rattle.theory_junctions.specs.PathMerging.{merge_on, pick, unite}
use Rattle.core_words.proofs.ChangeLaws.{only_then}
use Rattle.core_words.specs.Fields.{EDGE, PARENT, POSITION, ROOT, TO, TOP, half, node}
use Rattle.core_forest.specs.Forest.{Forest, HasParent, Root}
use Rattle.core_components.specs.Tops.{OnlyTops}
use Rattle.core_blocks.specs.Classes.{CanMergeClass, CanMergePath, ClassMerged, InTreeOf, InTrees, InTreesAt, IsChild, Leads, PathMerged}

-- ---- trees, over functions
module _ (n m : ℕ) (to pos par te root : ℕ → ℕ) (F : Forest n m to pos par te root) where
  pub child_parent : (u : ℕ) → IsChild n pos te u → HasParent n m to pos par te root u
  child_parent u c = go (F.kind u c.0 c.1)
    where
      go : Root par te root u ⊎ HasParent n m to pos par te root u → HasParent n m to pos par te root u
      go (inl r) = absurd (c.2 r.none)
      go (inr h) = h

  pub later_child : (a b : ℕ) → a < n → b < n → 0 < pos b → root a ≡ root b → pos b < pos a → IsChild n pos te a
  later_child a b la lb sb e l = go (F.kind a la (omega arith))
    where
      go : Root par te root a ⊎ HasParent n m to pos par te root a → IsChild n pos te a
      go (inl r) = absurd (omega (arith, F.first b lb sb, ap pos (sym e ∙ r.top)))
      go (inr h) = (la, omega arith, λ z. omega (arith, h.is))

  -- two classes of a tree made one
  module _ (first : ℕ → ℕ) (I : InTrees n pos te root first) (s a : ℕ) (cs : IsChild n pos te s) (ca : IsChild n pos te a) (e : root s ≡ root a) where
    abbrev after : ℕ → ℕ
    after = unite pos first (first s) (first a)

    both : (A : ℕ → Type 0) → A (first s) → A (first a) → A (name pos first (first s) (first a))
    both A x y = go (name_is pos first (first s) (first a))
      where
        go : (name pos first (first s) (first a) ≡ first s) ⊎ (name pos first (first s) (first a) ≡ first a) → A (name pos first (first s) (first a))
        go (inl i) = subst A (sym i) x
        go (inr i) = subst A (sym i) y

    of_tree : (u : ℕ) → IsChild n pos te u → Within pos first (first s) (first a) u → root u ≡ root s
    of_tree u c (inl i) = sym (I.tree u c) ∙ ap root i ∙ I.tree s cs
    of_tree u c (inr i) = sym (I.tree u c) ∙ ap root i ∙ I.tree a ca ∙ sym e

    name_low : (u : ℕ) → Within pos first (first s) (first a) u → pos (name pos first (first s) (first a)) ≤ pos (first u)
    name_low u (inl i) = omega (arith, ap pos i, (name_pos pos first (first s) (first a)).0)
    name_low u (inr i) = omega (arith, ap pos i, (name_pos pos first (first s) (first a)).1)

    pub unite_trees : InTrees n pos te root after
    unite_trees = record {
      child = λ u c. on_within pos first (first s) (first a) u
          (λ w i. subst (IsChild n pos te) (sym i) (both (IsChild n pos te) (I.child s cs) (I.child a ca)))
          (λ x y i. subst (IsChild n pos te) (sym i) (I.child u c));
      tree = λ u c. on_within pos first (first s) (first a) u
          (λ w i. ap root i ∙ both (λ v. root v ≡ root s) (I.tree s cs) (I.tree a ca ∙ sym e) ∙ sym (of_tree u c w))
          (λ x y i. ap root i ∙ I.tree u c);
      low = λ u c. on_within pos first (first s) (first a) u
          (λ w i. omega (arith, ap pos i, name_low u w, I.low u c))
          (λ x y i. omega (arith, ap pos i, I.low u c));
    }

    pub unite_once : pos (first s) ≡ pos (first a) → first s ≡ first a
    unite_once i = let (l, p, k) = I.child s cs in let (l', p', k') = I.child a ca in F.one (first s) (first a) l l' p i

-- ---- merge_on, step by step
module _ (par pos first : ℕ → ℕ) (a b s : ℕ) where
  pub on_end : (g : ℕ) → pos a + pos b < g → a ≡ b → merge_on par pos g first a b s ≡ first
  unfolding merge_on
  on_end zero l e = absurd (omega arith)
  on_end (suc g) l e = ap (λ t. pick t (λ u. first) below) (eq-eqb a b e)
    where
      below : Unit {0} → ℕ → ℕ
      below u = pick (ltb (pos b) (pos a)) (λ u. merge_on par pos g (unite pos first (first s) (first a)) (par (first a)) b s) (λ u. merge_on par pos g (unite pos first (first s) (first b)) a (par (first b)) s)

  pub on_left : (g : ℕ) → ¬ (a ≡ b) → pos b < pos a → merge_on par pos (suc g) first a b s ≡ merge_on par pos g (unite pos first (first s) (first a)) (par (first a)) b s
  unfolding merge_on
  on_left g ne l = ap (λ t. pick t (λ u. first) below) (ne_eqb a b ne) ∙ ap (λ t. pick t at_a at_b) (lt-ltb (pos b) (pos a) l)
    where
      at_a : Unit {0} → ℕ → ℕ
      at_a u = merge_on par pos g (unite pos first (first s) (first a)) (par (first a)) b s

      at_b : Unit {0} → ℕ → ℕ
      at_b u = merge_on par pos g (unite pos first (first s) (first b)) a (par (first b)) s

      below : Unit {0} → ℕ → ℕ
      below u = pick (ltb (pos b) (pos a)) at_a at_b

  pub on_right : (g : ℕ) → ¬ (a ≡ b) → pos a ≤ pos b → merge_on par pos (suc g) first a b s ≡ merge_on par pos g (unite pos first (first s) (first b)) a (par (first b)) s
  unfolding merge_on
  on_right g ne l = ap (λ t. pick t (λ u. first) below) (ne_eqb a b ne) ∙ ap (λ t. pick t at_a at_b) (le-ltb (pos b) (pos a) l)
    where
      at_a : Unit {0} → ℕ → ℕ
      at_a u = merge_on par pos g (unite pos first (first s) (first a)) (par (first a)) b s

      at_b : Unit {0} → ℕ → ℕ
      at_b u = merge_on par pos g (unite pos first (first s) (first b)) a (par (first b)) s

      below : Unit {0} → ℕ → ℕ
      below u = pick (ltb (pos b) (pos a)) at_a at_b

-- ---- the loop of merge_path
-- what is left of merging from a₀ and b₀, with the first nodes `first`, is merging from a and b
pub record Left (n : ℕ) (w₀ : List ℕ) (s a₀ b₀ : ℕ) (first : ℕ → ℕ) (f a b : ℕ) (t : ℕ → ℕ) : Type 0 where
  pub after : ℕ → ℕ
  pub fuel : ℕ
  pub leads : Leads n (node POSITION w₀) t after
  pub trees : InTreesAt n w₀ after
  pub enough : node POSITION w₀ a + node POSITION w₀ b < fuel
  pub same : merge_on (node PARENT w₀) (node POSITION w₀) f first a₀ b₀ s ≡ merge_on (node PARENT w₀) (node POSITION w₀) fuel after a b s

pub record PathLoop (n : ℕ) (w₀ : List ℕ) (s a₀ b₀ a b : ℕ) (w : List ℕ) : Type 0 where
  pub rest : OnlyTops n w₀ w
  pub left : InTreeOf n w₀ s a
  pub right : InTreeOf n w₀ s b
  pub go : (first : ℕ → ℕ) → Leads n (node POSITION w₀) (node TOP w₀) first → InTreesAt n w₀ first → (f : ℕ) → node POSITION w₀ a₀ + node POSITION w₀ b₀ < f
      → Left n w₀ s a₀ b₀ first f a b (node TOP w)

pub loop_done : {n m s a₀ b₀ a b : ℕ} {w₀ w : List ℕ} → CanMergePath n m w₀ s a₀ b₀ → PathLoop n w₀ s a₀ b₀ a b w → a ≡ b → PathMerged n w₀ s a₀ b₀ w
loop_done {n} {m} {s} {a₀} {b₀} {a} {b} {w₀} {w} r p e = record {
  rest = p.rest;
  leads = λ first h i f l. let q = p.go first h i f l in
      subst (λ (k : ℕ → ℕ). Leads n (node POSITION w₀) (node TOP w) k) (sym (q.same ∙ on_end (node PARENT w₀) (node POSITION w₀) q.after a b s q.fuel q.enough e)) q.leads;
}

-- one class more
module _ {n m s a₀ b₀ a b : ℕ} {w₀ w : List ℕ} (c : CanMergePath n m w₀ s a₀ b₀) (p : PathLoop n w₀ s a₀ b₀ a b w) where
  abbrev pos : ℕ → ℕ
  pos = node POSITION w₀

  abbrev par : ℕ → ℕ
  par = node PARENT w₀

  pos_is : node POSITION w ≡ pos
  pos_is = p.rest.nodes POSITION (omega arith) refl

  -- the first nodes that the loop has come to
  present : Left n w₀ s a₀ b₀ c.first (suc (pos a₀ + pos b₀)) a b (node TOP w)
  present = p.go c.first c.leads c.trees (suc (pos a₀ + pos b₀)) (omega arith)

  pub class_can : (v : ℕ) → v < n → CanMergeClass n w s v
  class_can v l = record {
    few = c.few;
    room = omega (arith, c.room, p.rest.same);
    fit = c.child.0;
    fit' = l;
    tops = rw pos_is present.leads.tops;
  }

  -- v is the later of the two
  module _ (r : ℕ) (w' : List ℕ) (v u : ℕ) (tv : InTreeOf n w₀ s v) (tu : InTreeOf n w₀ s u) (l : pos u < pos v) (k : ClassMerged n w s v w' r) where
    child : IsChild n pos (node EDGE w₀) v
    child = later_child n m (half n TO w₀) pos par (node EDGE w₀) (node ROOT w₀) c.forest v u tv.fit tu.fit tu.seen (tv.same ∙ sym tu.same) l

    up_is : (first : ℕ → ℕ) → Leads n pos (node TOP w) first → r ≡ par (first v)
    up_is first h = k.up first (rw pos_is h) ∙ ap (λ g. g (first v)) (p.rest.nodes PARENT (omega arith) refl)

    parent : HasParent n m (half n TO w₀) pos par (node EDGE w₀) (node ROOT w₀) (present.after v)
    parent = child_parent n m (half n TO w₀) pos par (node EDGE w₀) (node ROOT w₀) c.forest (present.after v) (present.trees.child v child)

    here : r ≡ par (present.after v)
    here = up_is present.after present.leads

    pub up_tree : InTreeOf n w₀ s r
    up_tree = record {
      fit = subst (λ (x : ℕ). x < n) (sym here) parent.fit;
      seen = subst (λ (x : ℕ). 0 < pos x) (sym here) parent.seen;
      same = ap (node ROOT w₀) here ∙ parent.same ∙ present.trees.tree v child ∙ tv.same;
    }

    pub up_low : pos r < pos v
    up_low = omega (arith, ap pos here, parent.up, present.trees.low v child)

    pub up_leads : (first : ℕ → ℕ) → Leads n pos (node TOP w) first → InTreesAt n w₀ first
        → Leads n pos (node TOP w') (unite pos first (first s) (first v)) × InTreesAt n w₀ (unite pos first (first s) (first v))
    up_leads first h i =
        let once = unite_once n m (half n TO w₀) pos par (node EDGE w₀) (node ROOT w₀) c.forest first i s v c.child child (sym tv.same) in (
          rw pos_is at (k.leads first (rw pos_is h) (rw pos_is once)),
          unite_trees n m (half n TO w₀) pos par (node EDGE w₀) (node ROOT w₀) c.forest first i s v c.child child (sym tv.same),
        )

  pub loop_left : {r : ℕ} {w' : List ℕ} → ¬ (a ≡ b) → node POSITION w b < node POSITION w a → ClassMerged n w s a w' r → PathLoop n w₀ s a₀ b₀ r b w' × (pos r < pos a)
  loop_left {r} {w'} ne h k = (
    record {
      rest = only_then p.rest k.rest;
      left = up_tree r w' a b p.left p.right l k;
      right = p.right;
      go = λ first o i f e. more (p.go first o i f e);
    },
    up_low r w' a b p.left p.right l k,
  )
    where
      l : pos b < pos a
      l = rw pos_is at h

      more : {first : ℕ → ℕ} {f : ℕ} → Left n w₀ s a₀ b₀ first f a b (node TOP w) → Left n w₀ s a₀ b₀ first f r b (node TOP w')
      more {first} {f} q = go q.fuel refl
        where
          go : (g : ℕ) → q.fuel ≡ g → Left n w₀ s a₀ b₀ first f r b (node TOP w')
          go zero e = absurd (omega (arith, q.enough))
          go (suc g) e =
              let (h, i) = up_leads r w' a b p.left p.right l k q.after q.leads q.trees in
              let up = up_is r w' a b p.left p.right l k q.after q.leads in
              record {
                after = unite pos q.after (q.after s) (q.after a);
                fuel = g;
                leads = h;
                trees = i;
                enough = omega (arith, q.enough, up_low r w' a b p.left p.right l k);
                same = q.same ∙ ap (λ g. merge_on par pos g q.after a b s) e ∙ on_left par pos q.after a b s g ne l
                    ∙ ap (λ x. merge_on par pos g (unite pos q.after (q.after s) (q.after a)) x b s) (sym up);
              }

  pub loop_right : {r : ℕ} {w' : List ℕ} → ¬ (a ≡ b) → node POSITION w a ≤ node POSITION w b → ClassMerged n w s b w' r → PathLoop n w₀ s a₀ b₀ a r w' × (pos r < pos b)
  loop_right {r} {w'} ne h k = (
    record {
      rest = only_then p.rest k.rest;
      left = p.left;
      right = up_tree r w' b a p.right p.left later k;
      go = λ first o i f e. more (p.go first o i f e);
    },
    up_low r w' b a p.right p.left later k,
  )
    where
      l : pos a ≤ pos b
      l = rw pos_is at h

      later : pos a < pos b
      later = let z : ¬ (pos a ≡ pos b) = λ e. ne (c.forest.one a b p.left.fit p.right.fit p.left.seen e) in omega (arith, l)

      more : {first : ℕ → ℕ} {f : ℕ} → Left n w₀ s a₀ b₀ first f a b (node TOP w) → Left n w₀ s a₀ b₀ first f a r (node TOP w')
      more {first} {f} q = go q.fuel refl
        where
          go : (g : ℕ) → q.fuel ≡ g → Left n w₀ s a₀ b₀ first f a r (node TOP w')
          go zero e = absurd (omega (arith, q.enough))
          go (suc g) e =
              let (h, i) = up_leads r w' b a p.right p.left later k q.after q.leads q.trees in
              let up = up_is r w' b a p.right p.left later k q.after q.leads in
              record {
                after = unite pos q.after (q.after s) (q.after b);
                fuel = g;
                leads = h;
                trees = i;
                enough = omega (arith, q.enough, up_low r w' b a p.right p.left later k);
                same = q.same ∙ ap (λ g. merge_on par pos g q.after a b s) e ∙ on_right par pos q.after a b s g ne l
                    ∙ ap (λ x. merge_on par pos g (unite pos q.after (q.after s) (q.after b)) a x s) (sym up);
              }
