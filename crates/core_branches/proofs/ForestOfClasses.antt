-- The forest of the search with its final tops is a spanning forest with tops as graph/proofs/SpanningForest has it, and what counting leaves are its
-- witnesses.
-- Assumes nothing.
use Prim.Native.Nat.{◌*◌, ◌+◌, ◌-◌, ◌<◌, ◌≤◌, suc, zero, ℕ}
use mathlib.Core.Bool.{Bool, ◌&&◌, ◌||◌, false, not, true}
use mathlib.Core.List.{List, Memᴰ}
use mathlib.Core.Logic.{inl, inr, ⊎_elim}
use mathlib.Core.Path.{◌∙◌, ◌≡◌, ap, ap₂, fun_ext, refl, subst, sym}
use lib.Dec.{eqb, ltb}
use native.Mathlib.Omega.{arith}
use borrow.Author.Tests.{eq-eqb, eqb-false, eqb-true, lt-ltb, ltb-false, ltb-true, ne_eqb}
use Rattle.core_branches.proofs.KeptClasses.{Witnesses}
use Rattle.core_branches.specs.BranchCounts.{Branches, Child}
use Rattle.core_components.proofs.CrossingEdges.{none_crosses}
use Rattle.core_components.proofs.ComponentLaws.{ancestor_root, ancestor_self, ancestor_within, descendants, descendants_cut, descendants_parent, descendants_unseen, same_top_class}
use Rattle.core_components.specs.Merging.{FinalTops}
use Rattle.core_forest.specs.Forest.{Forest, HasParent, Joins, edges_below}
use Rattle.theory_graph.proofs.Booleans.{and_elim, contradict, on_bool}
use Rattle.theory_graph.proofs.SpanningForest.{ChildClass, ClassForest, below_class, below_trans}
use Rattle.theory_graph.specs.Cut.{cut}
use Rattle.theory_graph.specs.Graph.{Edge, NodeSet}
use Rattle.theory_graph.specs.Route.{Adjacent, back, fore, next}

-- ---- edges
pub adjacent_sym : {p q : ℕ} {E : List Edge} → Adjacent p q E → Adjacent q p E
adjacent_sym fore = back
adjacent_sym back = fore
adjacent_sym (next a) = next (adjacent_sym a)

pub edge_adjacent : (to : ℕ → ℕ) (m e : ℕ) → e < m → Adjacent (to (2 * e)) (to (2 * e + 1)) (edges_below to m)
edge_adjacent to zero e l = absurd (omega arith)
edge_adjacent to (suc m) e l = on_bool (eqb e m)
    (λ q. subst (λ (v : ℕ). Adjacent (to (2 * v)) (to (2 * v + 1)) (edges_below to (suc m))) (sym (eqb-true e m q)) fore)
    (λ q. let ne : ¬ (e ≡ m) = eqb-false e m q in next (edge_adjacent to m e (omega arith)))

none_cross : (U : NodeSet) (to : ℕ → ℕ) (m : ℕ) → ((e : ℕ) → e < m → U (to (2 * e)) ≡ U (to (2 * e + 1))) → cut U (edges_below to m) ≤ 0
none_cross U to m q = omega (arith, none_crosses U to m q)

-- ---- the sets
unfoldable pub is_seen : ℕ → (ℕ → ℕ) → NodeSet
is_seen n pos v = ltb v n && ltb 0 (pos v)

unfoldable pub is_root : ℕ → (ℕ → ℕ) → (ℕ → ℕ) → NodeSet
is_root n pos te v = is_seen n pos v && eqb (te v) 0

pub seen_in : (n : ℕ) (pos : ℕ → ℕ) (v : ℕ) → is_seen n pos v ≡ true → (v < n) × (0 < pos v)
unfolding is_seen
seen_in n pos v s = and_elim (ltb v n) (ltb 0 (pos v)) s λ p q. (ltb-true v n p, ltb-true 0 (pos v) q)

pub seen_is : (n : ℕ) (pos : ℕ → ℕ) (v : ℕ) → v < n → 0 < pos v → is_seen n pos v ≡ true
unfolding is_seen
seen_is n pos v p q = ap₂ ◌&&◌ (lt-ltb v n p) (lt-ltb 0 (pos v) q)

pub seen_not : (n : ℕ) (pos : ℕ → ℕ) (v : ℕ) → ¬ (0 < pos v) → is_seen n pos v ≡ false
seen_not n pos v z = on_bool (is_seen n pos v) (λ t. absurd (z (seen_in n pos v t).1)) (λ f. f)

pub root_in : (n : ℕ) (pos te : ℕ → ℕ) (v : ℕ) → is_root n pos te v ≡ true → (v < n) × (0 < pos v) × (te v ≡ 0)
unfolding is_root
root_in n pos te v r = and_elim (is_seen n pos v) (eqb (te v) 0) r λ s e. let (p, q) = seen_in n pos v s in (p, q, eqb-true (te v) 0 e)

pub root_is : (n : ℕ) (pos te : ℕ → ℕ) (v : ℕ) → v < n → 0 < pos v → te v ≡ 0 → is_root n pos te v ≡ true
unfolding is_root
root_is n pos te v p q e = ap₂ ◌&&◌ (seen_is n pos v p q) (eq-eqb (te v) 0 e)

pub root_no : (n : ℕ) (pos te : ℕ → ℕ) (v : ℕ) → ¬ (te v ≡ 0) → is_root n pos te v ≡ false
root_no n pos te v z = on_bool (is_root n pos te v) (λ t. absurd (z (root_in n pos te v t).2)) (λ f. f)

pub root_not : (n : ℕ) (pos te : ℕ → ℕ) (v : ℕ) → is_seen n pos v ≡ true → is_root n pos te v ≡ false → ¬ (te v ≡ 0)
root_not n pos te v s r e = let (p, q) = seen_in n pos v s in contradict (root_is n pos te v p q e) r

module _ {n m : ℕ} {to pos par te root t : ℕ → ℕ} (f : Forest n m to pos par te root) (g : FinalTops n m to pos par te t) where
  -- no edge leaves the seen nodes
  pub seen_closed : cut (is_seen n pos) (edges_below to m) ≤ 0
  seen_closed = none_cross (is_seen n pos) to m λ e l.
      on_bool (ltb 0 (pos (to (2 * e))))
      (λ q. let p = ltb-true 0 (pos (to (2 * e))) q in seen_is n pos (to (2 * e)) (f.ends (2 * e) (omega arith)) p
      ∙ sym (seen_is n pos (to (2 * e + 1)) (f.ends (2 * e + 1) (omega arith)) (f.over e l p).0))
      (λ q. let p = ltb-false 0 (pos (to (2 * e))) q in seen_not n pos (to (2 * e)) (λ x. omega arith) ∙ sym (seen_not n pos (to (2 * e + 1)) (λ x. omega (arith, f.back e l x))))

  pub has_parent : (v : ℕ) → is_seen n pos v ≡ true → is_root n pos te v ≡ false → HasParent n m to pos par te root v
  has_parent v s r = let (p, q) = seen_in n pos v s in ⊎_elim (λ k. absurd (root_not n pos te v s r k.none)) (λ k. k) (f.kind v p q)

  -- at or below v
  unfoldable pub at_or_below : ℕ → NodeSet
  at_or_below v u = eqb u v || descendants f v u

  at_or_below_descendants : (v u : ℕ) → 0 < pos v → at_or_below v u ≡ descendants f v u
  unfolding at_or_below descendants
  at_or_below_descendants v u s = on_bool (eqb u v)
      (λ q. ap (λ b. b || descendants f v u) q ∙ sym (ap (descendants f v) (eqb-true u v q) ∙ ancestor_self f v (pos v) s))
      (λ q. ap (λ b. b || descendants f v u) q)

  pub at_or_below_self : (v : ℕ) → at_or_below v v ≡ true
  unfolding at_or_below
  at_or_below_self v = ap (λ b. b || descendants f v v) (eq-eqb v v refl)

  at_or_below_other : (v u : ℕ) → ¬ (u ≡ v) → at_or_below v u ≡ descendants f v u
  unfolding at_or_below
  at_or_below_other v u ne = ap (λ b. b || descendants f v u) (ne_eqb u v ne)

  ancestor_of_root : (v x k : ℕ) → par x ≡ x → 0 < k → ancestor_within par v k x ≡ true → x ≡ v
  ancestor_of_root v x zero e p h = absurd (omega arith)
  ancestor_of_root v x (suc k) e p h = eqb-true x v (sym (ancestor_root f v k x e) ∙ h)

  pub at_or_below_root : (v x : ℕ) → is_root n pos te x ≡ true → at_or_below v x ≡ true → x ≡ v
  unfolding descendants
  at_or_below_root v x r h =
      let (p, q, e) = root_in n pos te x r in
      on_bool (eqb x v) (λ y. eqb-true x v y) λ y.
      ⊎_elim (λ k. ancestor_of_root v x (pos x) k.self q (sym (at_or_below_other v x (eqb-false x v y)) ∙ h)) (λ k. absurd (omega (arith, k.is))) (f.kind x p q)

  pub at_or_below_parent : (v x : ℕ) → is_seen n pos x ≡ true → is_root n pos te x ≡ false → ¬ (x ≡ v) → at_or_below v x ≡ at_or_below v (par x)
  at_or_below_parent v x s r ne =
      let (p, q) = seen_in n pos x s in
      let k = has_parent x s r in
      at_or_below_other v x ne ∙ descendants_parent f v x p q ne ∙ on_bool (eqb (par x) v)
      (λ y. let e : par x ≡ v = eqb-true (par x) v y in sym (at_or_below_descendants v (par x) (subst (λ (w : ℕ). 0 < pos w) e k.seen)))
      (λ y. sym (at_or_below_other v (par x) (eqb-false (par x) v y)))

  pub at_or_below_fun : (v : ℕ) → 0 < pos v → at_or_below v ≡ descendants f v
  at_or_below_fun v s = fun_ext (λ u. at_or_below_descendants v u s)

  -- below a root is its tree
  tree_of : (v k u : ℕ) → te v ≡ 0 → pos u ≤ k → u < n → 0 < pos u → descendants f v u ≡ eqb (root u) v
  unfolding descendants
  tree_of v zero u z b l s = absurd (omega arith)
  tree_of v (suc k) u z b l s = ⊎_elim
      (λ r. D_eq (pos u) s r.self ∙ ap (λ w. eqb w v) (sym r.top))
      (λ h. descendants_parent f v u l s (λ e. let y : te u ≡ te v = ap te e in omega (arith, h.is))
      ∙ tree_of v k (par u) z (omega (arith, h.up)) h.fit h.seen ∙ ap (λ w. eqb w v) h.same)
      (f.kind u l s)
    where
      D_eq : (j : ℕ) → 0 < j → par u ≡ u → ancestor_within par v j u ≡ eqb u v
      D_eq zero p e = absurd (omega arith)
      D_eq (suc j) p e = ancestor_root f v j u e

  pub root_closed : (v : ℕ) → te v ≡ 0 → cut (descendants f v) (edges_below to m) ≤ 0
  root_closed v z = none_cross (descendants f v) to m λ e l.
      on_bool (ltb 0 (pos (to (2 * e))))
      (λ q.
      let p = ltb-true 0 (pos (to (2 * e))) q in
      let (p', same) = f.over e l p in
      tree_of v (pos (to (2 * e))) (to (2 * e)) z (omega arith) (f.ends (2 * e) (omega arith)) p ∙ ap (λ w. eqb w v) same
      ∙ sym (tree_of v (pos (to (2 * e + 1))) (to (2 * e + 1)) z (omega arith) (f.ends (2 * e + 1) (omega arith)) p'))
      (λ q.
      let p = ltb-false 0 (pos (to (2 * e))) q in
      let y : pos (to (2 * e + 1)) ≡ 0 = on_bool (ltb 0 (pos (to (2 * e + 1)))) (λ x. absurd (omega (arith, f.back e l (ltb-true 0 _ x))))
      (λ x. omega (arith, ltb-false 0 (pos (to (2 * e + 1))) x)) in
      descendants_unseen f v (to (2 * e)) (omega arith) ∙ sym (descendants_unseen f v (to (2 * e + 1)) y))

  module _ (S : List ℕ) (active : (a : ℕ) → Memᴰ a S → (a < n) × (0 < pos a)) (rooted : (r : ℕ) → r < n → 0 < pos r → te r ≡ 0 → Memᴰ r S) where
    unfoldable pub class_forest : ClassForest (edges_below to m) S
    class_forest = record {
      seen = is_seen n pos;
      root = is_root n pos te;
      par = par;
      top = t;
      pos = pos;
      below = at_or_below;
      active = λ a i. let (p, q) = active a i in seen_is n pos a p q;
      root_active = λ r h. let (p, q, e) = root_in n pos te r h in rooted r p q e;
      par_seen = λ v s r. let k = has_parent v s r in seen_is n pos (par v) k.fit k.seen;
      par_adj = λ v s r. let k = has_parent v s r in adj_of v k.edge k.less k.join;
      par_pos = λ v s r. (has_parent v s r).up;
      below_self = at_or_below_self;
      below_root = at_or_below_root;
      below_parent = at_or_below_parent;
      top_seen = λ v s. let (p, q) = seen_in n pos v s in seen_is n pos (t v) (g.tops.fit v p) (g.seen v p q);
      top_two = λ v s. let (p, q) = seen_in n pos v s in same_top_class f g v (t v) p (g.tops.fit v p) (sym (g.flat v p));
      top_top = λ v s. g.flat v (seen_in n pos v s).0;
      top_pos = λ v s ne. g.tops.up v (seen_in n pos v s).0 ne;
      top_cut = λ v s e. rw (at_or_below_fun v (seen_in n pos v s).1) (descendants_cut f v t g.tops g.done e);
      root_cut = λ v r. let (p, q, e) = root_in n pos te v r in rw (at_or_below_fun v q) (root_closed v e);
    }
      where
        adj_of : (v e : ℕ) → e < m → Joins to e v (par v) → Adjacent v (par v) (edges_below to m)
        adj_of v e l (inl (p, q)) = subst (λ (x : ℕ). Adjacent x (par v) (edges_below to m)) p (subst (λ (y : ℕ). Adjacent (to (2 * e)) y (edges_below to m)) q (edge_adjacent to m e l))
        adj_of v e l (inr (p, q)) = adjacent_sym
            (subst (λ (x : ℕ). Adjacent x v (edges_below to m)) p (subst (λ (y : ℕ). Adjacent (to (2 * e)) y (edges_below to m)) q (edge_adjacent to m e l)))

    pub child_class : (x c : ℕ) → Child n pos par te t x c → ChildClass (edges_below to m) S class_forest x c
    unfolding class_forest
    child_class x c k = record { on = seen_is n pos c k.fit k.seen; is_top = k.is_top; no_root = root_no n pos te c k.has_edge; under = k.under }

    pub class_child : (x c : ℕ) → ChildClass (edges_below to m) S class_forest x c → Child n pos par te t x c
    unfolding class_forest
    class_child x c k = let (p, q) = seen_in n pos c k.on in record { fit = p; seen = q; is_top = k.is_top; has_edge = root_not n pos te c k.on k.no_root; under = k.under }

    -- a child is below
    child_below : (x c : ℕ) → Child n pos par te t x c → at_or_below x c ≡ true
    unfolding class_forest
    child_below x c k =
        let T = class_forest in
        let h = child_class x c k in
        let sp = T.par_seen c h.on h.no_root in
        let (p, q) = seen_in n pos (par c) sp in
        let ix : t x ≡ x = ap t (sym k.under) ∙ g.flat (par c) p ∙ k.under in
        let sx : is_seen n pos x ≡ true = subst (λ (v : ℕ). is_seen n pos v ≡ true) k.under (T.top_seen (par c) sp) in
        let far : ¬ (c ≡ x) = λ e. omega (arith, ap pos (e ∙ sym k.under), over (par c) p, T.par_pos c h.on h.no_root) in
        T.below_parent x c h.on h.no_root far ∙ below_class (edges_below to m) S T x (par c) sx ix sp ∙ ap (at_or_below x) k.under ∙ at_or_below_self x
      where
        over : (v : ℕ) → v < n → pos (t v) ≤ pos v
        over v l = on_bool (eqb (t v) v) (λ e. omega (arith, ap pos (eqb-true (t v) v e))) (λ e. omega (arith, g.tops.up v l (eqb-false (t v) v e)))

    module _ {live₀ live child other : ℕ → ℕ} (act : NodeSet) (act-in : (a : ℕ) → act a ≡ true → Memᴰ a S) (in_act : (a : ℕ) → Memᴰ a S → act a ≡ true)
        (begins : (c : ℕ) → c < n → ¬ (live₀ c ≡ 0) → Memᴰ (live₀ c - 1) S × (t (live₀ c - 1) ≡ c))
        (actives-live : (a : ℕ) → Memᴰ a S → ¬ (live₀ (t a) ≡ 0))
        (w : Branches n pos par te t live₀ live child other 0) where
      -- x is one more than an active node at or below c
      unfoldable Holds : ℕ → ℕ → Bool
      Holds c x = not (eqb x 0) && (act (x - 1) && at_or_below c (x - 1))

      holds_in : (c x : ℕ) → Holds c x ≡ true → (act (x - 1) ≡ true) × (at_or_below c (x - 1) ≡ true)
      unfolding Holds
      holds_in c x h = and_elim (not (eqb x 0)) (act (x - 1) && at_or_below c (x - 1)) h λ _ r. and_elim (act (x - 1)) (at_or_below c (x - 1)) r λ p q. (p, q)

      holds_is : (c x : ℕ) → ¬ (x ≡ 0) → act (x - 1) ≡ true → at_or_below c (x - 1) ≡ true → Holds c x ≡ true
      unfolding Holds
      holds_is c x z p q = ap₂ (λ r s. not r && s) (ne_eqb x 0 z) (ap₂ ◌&&◌ p q)

      holds_some : (c x : ℕ) → Holds c x ≡ true → ¬ (x ≡ 0)
      unfolding Holds
      holds_some c x h z = contradict h (ap (λ r. not r && (act (x - 1) && at_or_below c (x - 1))) (eq-eqb x 0 z))

      holds_up : (x c y : ℕ) → Child n pos par te t x c → Holds c y ≡ true → Holds x y ≡ true
      unfolding class_forest
      holds_up x c y k h =
          let (p, q) = holds_in c y h in
          let s = class_forest.active (y - 1) (act-in (y - 1) p) in
          holds_is x y (holds_some c y h) p (below_trans (edges_below to m) S class_forest (suc (pos (y - 1))) x c (y - 1) (omega arith) s (child_below x c k) q)

      holds_first : (c : ℕ) → c < n → ¬ (live₀ c ≡ 0) → Holds c (live₀ c) ≡ true
      unfolding class_forest
      holds_first c l z =
          let T = class_forest in
          let (i, e) = begins c l z in
          let s = T.active (live₀ c - 1) i in
          let sc : is_seen n pos c ≡ true = subst (λ (v : ℕ). is_seen n pos v ≡ true) e (T.top_seen (live₀ c - 1) s) in
          let tc : t c ≡ c = ap t (sym e) ∙ T.top_top (live₀ c - 1) s ∙ e in
          holds_is c (live₀ c) z (in_act (live₀ c - 1) i) (below_class (edges_below to m) S T c (live₀ c - 1) sc tc s ∙ ap (at_or_below c) e ∙ at_or_below_self c)

      pub witnesses : Witnesses (edges_below to m) S class_forest live child other
      unfolding class_forest
      witnesses = record {
        still = λ a i. w.still (t a) (actives-live a i);
        wit = λ c s z. let (p, q) = holds_in c (live c) (w.witness Holds holds_up holds_first c (seen_in n pos c s).0 z) in (live c - 1, act-in (live c - 1) p, q);
        one = λ c s z. let (k, _, a) = w.one c (seen_in n pos c s).0 z in (child_class c (child c - 1) k, a);
        two = λ c s z. let (k, _, a, ne, nz) = w.two c (seen_in n pos c s).0 z in (child_class c (other c - 1) k, a, ne, nz);
        all = λ c x s k a. let h = class_child c x k in let (p, _, r) = w.all c x (seen_in n pos c s).0 h h.seen a in (p, r);
      }
