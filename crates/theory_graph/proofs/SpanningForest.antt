-- A spanning forest with the tops of its 2-edge-connected classes (docs/theory.md 10): which classes are kept, and which are linked, told from the forest.
-- In order: a cut of one edge and what it parts; the record of a forest with tops; ways up and the sets below a node; two branches with an active node make
-- a class kept, and a kept class without an active node has two; a kept class is linked to the nearest kept class above it, and these are all links.
-- Assumes nothing.
use Prim.Native.Nat.{◌<◌, ◌≤◌, suc, zero, ℕ}
use mathlib.Core.Bool.{◌&&◌, false, not, true}
use mathlib.Core.List.{List, Memᴰ}
use mathlib.Core.Logic.{◌⊎◌, inl, inr}
use mathlib.Core.Path.{◌∙◌, ◌≡◌, ap, ap₂, refl, subst, sym}
use lib.Dec.{eqb}
use native.Mathlib.Omega.{arith}
use borrow.Author.Tests.{eqb-false, eqb-true}
use Rattle.theory_graph.proofs.Adjacency.{adj_closed, adj_out, induced_split}
use Rattle.theory_graph.proofs.Booleans.{contradict, majority, on_bool}
use Rattle.theory_graph.proofs.Cuts.{cut_complement}
use Rattle.theory_graph.proofs.Kept.{Kept}
use Rattle.theory_graph.proofs.Medians.{between_median, median_between, median_swap12, median_swap23}
use Rattle.theory_graph.proofs.Separation.{insep_cut, insep_refl, insep_sym, insep_trans, same_side, two_edge_connected}
use Rattle.theory_graph.specs.Cut.{Between, Connected, TwoEdgeConnected, ◌∖◌, ◌∩◌, crosses, cut, ∁}
use Rattle.theory_graph.specs.Graph.{Edge, NodeSet}
use Rattle.theory_graph.specs.Route.{Adjacent}

-- a cut whose one edge ends at z's class, outside: z lies between what is inside and what is outside
pub between_branch : (E : List Edge) (D : NodeSet) (t p a z b : ℕ) → Adjacent t p E → cut D E ≤ 1 → D t ≡ true → D p ≡ false → TwoEdgeConnected E p z
    → Connected E a z → Connected E b z → D a ≡ true → D b ≡ false → Between E a z b
between_branch E D t p a z b n c Dt Dp pz az bz Da Db (U, Uz, Ua, Ub, h) =
    let W = ∁ U in
    let Wp : W p ≡ false = ap not (same_side E p z pz U h ∙ Uz) in
    let q : 0 < cut (W ∩ D) E = insep_cut E az (W ∩ D) (ap₂ (λ s t. not s && t) Ua Da) (ap (λ s. not s && D z) Uz) in
    let r : 0 < cut (W ∖ D) E = insep_cut E bz (W ∖ D) (ap₂ (λ s t. not s && not t) Ub Db) (ap (λ s. not s && not (D z)) Uz) in
    omega (arith, induced_split W D E, adj_out W D n Wp, ap₂ crosses Dt Dp, cut_complement U E)

-- The nodes that a search from the active nodes has seen. A node that is no root has a parent, seen before it, by an edge; top v is the first node of v's
-- class, and at most one edge leaves the nodes below a top, none those below a root.
pub record ClassForest (E : List Edge) (S : List ℕ) : Type 0 where
  pub seen : NodeSet
  pub root : NodeSet
  pub par : ℕ → ℕ
  pub top : ℕ → ℕ
  pub pos : ℕ → ℕ
  -- the nodes whose way up to the root passes v
  pub below : ℕ → NodeSet
  pub active : (a : ℕ) → Memᴰ a S → seen a ≡ true
  pub root_active : (r : ℕ) → root r ≡ true → Memᴰ r S
  pub par_seen : (v : ℕ) → seen v ≡ true → root v ≡ false → seen (par v) ≡ true
  pub par_adj : (v : ℕ) → seen v ≡ true → root v ≡ false → Adjacent v (par v) E
  pub par_pos : (v : ℕ) → seen v ≡ true → root v ≡ false → pos (par v) < pos v
  pub below_self : (v : ℕ) → below v v ≡ true
  pub below_root : (v x : ℕ) → root x ≡ true → below v x ≡ true → x ≡ v
  pub below_parent : (v x : ℕ) → seen x ≡ true → root x ≡ false → ¬ (x ≡ v) → below v x ≡ below v (par x)
  pub top_seen : (v : ℕ) → seen v ≡ true → seen (top v) ≡ true
  pub top_two : (v : ℕ) → seen v ≡ true → TwoEdgeConnected E v (top v)
  pub top_top : (v : ℕ) → seen v ≡ true → top (top v) ≡ top v
  pub top_pos : (v : ℕ) → seen v ≡ true → ¬ (top v ≡ v) → pos (top v) < pos v
  pub top_cut : (v : ℕ) → seen v ≡ true → top v ≡ v → cut (below v) E ≤ 1
  pub root_cut : (v : ℕ) → root v ≡ true → cut (below v) E ≤ 0

pub on_eq : {A : Type 0} (x y : ℕ) → (x ≡ y → A) → (¬ (x ≡ y) → A) → A
on_eq x y f g = on_bool (eqb x y) (λ t. f (eqb-true x y t)) (λ t. g (eqb-false x y t))

module _ (E : List Edge) (S : List ℕ) (T : ClassForest E S) where
  open T use {seen, root, par, top, pos, below}

  pub below_position : (n v x : ℕ) → pos x < n → seen x ≡ true → below v x ≡ true → (x ≡ v) ⊎ (pos v < pos x)
  below_position zero v x l s h = absurd (omega arith)
  below_position (suc n) v x l s h =
      on_eq x v inl λ ne.
      on_bool (root x) (λ r. inl (T.below_root v x r h)) λ r.
      let p = T.par_pos x s r in
      go ne p (below_position n v (par x) (omega arith) (T.par_seen x s r) (sym (T.below_parent v x s r ne) ∙ h))
    where
      go : {v x : ℕ} → ¬ (x ≡ v) → pos (par x) < pos x → (par x ≡ v) ⊎ (pos v < pos (par x)) → (x ≡ v) ⊎ (pos v < pos x)
      go {v} {x} ne p (inl e) = inr (subst (λ (w : ℕ). pos w < pos x) e p)
      go ne p (inr q) = inr (omega arith)

  pub parent_outside : (v : ℕ) → seen v ≡ true → root v ≡ false → below v (par v) ≡ false
  parent_outside v s r = on_bool (below v (par v)) (λ h. absurd (go (below_position (suc (pos (par v))) v (par v) (omega arith) (T.par_seen v s r) h))) (λ f. f)
    where
      go : (par v ≡ v) ⊎ (pos v < pos (par v)) → ⊥
      go (inl e) = omega (arith, T.par_pos v s r, ap pos e)
      go (inr q) = omega (arith, T.par_pos v s r)

  -- the class above comes before
  pub above_position : (v : ℕ) → seen v ≡ true → root v ≡ false → pos (top (par v)) < pos v
  above_position v s r =
      let sp = T.par_seen v s r in
      on_eq (top (par v)) (par v) (λ i. omega (arith, ap pos i, T.par_pos v s r)) (λ i. omega (arith, T.top_pos (par v) sp i, T.par_pos v s r))

  -- a class lies below a top or not
  pub below_class : (t x : ℕ) → seen t ≡ true → top t ≡ t → seen x ≡ true → below t x ≡ below t (top x)
  below_class t x st tt' sx = same_side E x (top x) (T.top_two x sx) (below t) (T.top_cut t st tt')

  -- tops name the classes
  pub top_unique : (u v : ℕ) → seen u ≡ true → seen v ≡ true → top u ≡ u → top v ≡ v → TwoEdgeConnected E u v → u ≡ v
  top_unique u v su sv tu tv t =
      go (below_position (suc (pos v)) u v (omega arith) sv (sym (same_side E u v t (below u) (T.top_cut u su tu)) ∙ T.below_self u))
      (below_position (suc (pos u)) v u (omega arith) su (same_side E u v t (below v) (T.top_cut v sv tv) ∙ T.below_self v))
    where
      go : (v ≡ u) ⊎ (pos u < pos v) → (u ≡ v) ⊎ (pos v < pos u) → u ≡ v
      go (inl e) q = sym e
      go (inr p) (inl e) = e
      go (inr p) (inr q) = absurd (omega arith)

  -- of two nodes above one node, one is above the other
  ancestors_chain : (n u v x : ℕ) → pos x < n → seen x ≡ true → below u x ≡ true → below v x ≡ true → (below v u ≡ true) ⊎ (below u v ≡ true)
  ancestors_chain zero u v x l s hu hv = absurd (omega arith)
  ancestors_chain (suc n) u v x l s hu hv =
      on_eq x u (λ e. inl (subst (λ (w : ℕ). below v w ≡ true) e hv)) λ nu.
      on_eq x v (λ e. inr (subst (λ (w : ℕ). below u w ≡ true) e hu)) λ nv.
      on_bool (root x) (λ r. absurd (nu (T.below_root u x r hu))) λ r.
      ancestors_chain n u v (par x) (omega (arith, T.par_pos x s r)) (T.par_seen x s r) (sym (T.below_parent u x s r nu) ∙ hu) (sym (T.below_parent v x s r nv) ∙ hv)

  adjacent_connected : {p q : ℕ} → Adjacent p q E → Connected E p q
  adjacent_connected n (U, a, b, c) = contradict a (adj_closed U n c ∙ b)

  pub below_connected : (n v x : ℕ) → pos x < n → seen x ≡ true → below v x ≡ true → Connected E x v
  below_connected zero v x l s h = absurd (omega arith)
  below_connected (suc n) v x l s h =
      on_eq x v (λ e. subst (λ (w : ℕ). Connected E x w) e (insep_refl E x)) λ ne.
      on_bool (root x) (λ r. absurd (ne (T.below_root v x r h))) λ r.
      insep_trans E (adjacent_connected (T.par_adj x s r)) (below_connected n v (par x) (omega (arith, T.par_pos x s r)) (T.par_seen x s r) (sym (T.below_parent v x s r ne) ∙ h))

  root_connected : (n x : ℕ) → pos x < n → seen x ≡ true → (r : ℕ) × (root r ≡ true) × Connected E x r
  root_connected zero x l s = absurd (omega arith)
  root_connected (suc n) x l s =
      on_bool (root x) (λ r. (x, r, insep_refl E x)) λ r.
      let (y, q, j) = root_connected n (par x) (omega (arith, T.par_pos x s r)) (T.par_seen x s r) in
      (y, q, insep_trans E (adjacent_connected (T.par_adj x s r)) j)

  -- t is the top of a class right below the class c
  pub record ChildClass (c t : ℕ) : Type 0 where
    pub on : seen t ≡ true
    pub is_top : top t ≡ t
    pub no_root : root t ≡ false
    pub under : top (par t) ≡ c

  module _ (c : ℕ) (sc : seen c ≡ true) (tc : top c ≡ c) where
    parent_class : (t : ℕ) → ChildClass c t → TwoEdgeConnected E (par t) c
    parent_class t k = subst (λ (v : ℕ). TwoEdgeConnected E (par t) v) k.under (T.top_two (par t) (T.par_seen t k.on k.no_root))

    child_outside : (t : ℕ) → ChildClass c t → below t c ≡ false
    child_outside t k = sym (same_side E (par t) c (parent_class t k) (below t) (T.top_cut t k.on k.is_top)) ∙ parent_outside t k.on k.no_root

    child_connected : (t x : ℕ) → ChildClass c t → seen x ≡ true → below t x ≡ true → Connected E x c
    child_connected t x k s h = insep_trans E (below_connected (suc (pos x)) t x (omega arith) s h)
        (insep_trans E (adjacent_connected (T.par_adj t k.on k.no_root)) (two_edge_connected E (parent_class t k)))

    -- of two children, neither holds the other
    child_not_below : (t u : ℕ) → ChildClass c t → ChildClass c u → ¬ (t ≡ u) → below u t ≡ true → ⊥
    child_not_below t u k l ne h =
        contradict (sym (same_side E (par t) c (parent_class t k) (below u) (T.top_cut u l.on l.is_top)) ∙ (sym (T.below_parent u t k.on k.no_root ne) ∙ h)) (child_outside u l)

    children_disjoint : (t u x : ℕ) → ChildClass c t → ChildClass c u → ¬ (t ≡ u) → seen x ≡ true → below t x ≡ true → below u x ≡ false
    children_disjoint t u x k l ne s h = on_bool (below u x) (λ q. absurd (go (ancestors_chain (suc (pos x)) t u x (omega arith) s h q))) (λ f. f)
      where
        go : (below u t ≡ true) ⊎ (below t u ≡ true) → ⊥
        go (inl p) = child_not_below t u k l ne p
        go (inr p) = child_not_below u t l k (λ e. ne (sym e)) p

    pub branch_between : (t a b : ℕ) → ChildClass c t → seen a ≡ true → below t a ≡ true → below t b ≡ false → Connected E b c → Between E a c b
    branch_between t a b k s h n bc =
        between_branch E (below t) t (par t) a c b (T.par_adj t k.on k.no_root) (T.top_cut t k.on k.is_top) (T.below_self t)
        (parent_outside t k.on k.no_root) (parent_class t k) (child_connected t a k s h) bc h n

    -- two branches with an active node
    pub branches_kept : (t u a b : ℕ) → ChildClass c t → ChildClass c u → ¬ (t ≡ u) → Memᴰ a S → Memᴰ b S → below t a ≡ true → below u b ≡ true → Kept E S c
    branches_kept t u a b k l ne ma mb ha hb =
        let sa = T.active a ma in
        let sb = T.active b mb in
        let (r, q, j) = root_connected (suc (pos c)) c (omega arith) sc in
        let jb = child_connected u b l sb hb in
        let out : (t : ℕ) → ChildClass c t → below t r ≡ false = λ t k. on_bool (below t r) (λ h. contradict (ap root (sym (T.below_root t r q h)) ∙ q) k.no_root) (λ f. f) in
        record {
          a = a;
          b = b;
          c = r;
          in_a = ma;
          in_b = mb;
          in_c = T.root_active r q;
          to_a = insep_sym E (child_connected t a k sa ha);
          to_b = insep_sym E jb;
          to_c = j;
          mid = between_median E a b r c
              (branch_between t a b k sa ha (children_disjoint u t b l k (λ e. ne (sym e)) sb hb) jb)
              (branch_between u b r l sb hb (out u l) (insep_sym E j))
              (branch_between t a r k sa ha (out t k) (insep_sym E j));
        }

    -- what lies under c and not in its class lies under a child
    pub branch_of : (n x : ℕ) → pos x < n → seen x ≡ true → below c x ≡ true → ¬ (top x ≡ c) → (t : ℕ) × ChildClass c t × (below t x ≡ true)
    branch_of zero x l s h ne = absurd (omega arith)
    branch_of (suc n) x l s h ne =
        on_eq (top x) x
        (λ e.
        let nc : ¬ (x ≡ c) = λ q. ne (e ∙ q) in
        on_bool (root x) (λ r. absurd (nc (T.below_root c x r h))) λ r.
        on_eq (top (par x)) c (λ q. (x, record { on = s; is_top = e; no_root = r; under = q }, T.below_self x)) λ q.
        let (t, k, w) = branch_of n (par x) (omega (arith, T.par_pos x s r)) (T.par_seen x s r) (sym (T.below_parent c x s r nc) ∙ h) q in
        (t, k, on_eq x t (λ i. subst (λ (v : ℕ). below t v ≡ true) (sym i) (T.below_self t)) (λ i. T.below_parent t x s r i ∙ w)))
        (λ e.
        let (t, k, w) = branch_of n (top x) (omega (arith, T.top_pos x s e)) (T.top_seen x s) (sym (below_class c x sc tc s) ∙ h) (λ q. ne (sym (T.top_top x s) ∙ q)) in
        (t, k, below_class t x k.on k.is_top s ∙ w))

    pub record TwoBranches : Type 0 where
      pub t : ℕ
      pub u : ℕ
      pub a : ℕ
      pub b : ℕ
      pub ct : ChildClass c t
      pub cu : ChildClass c u
      pub differ : ¬ (t ≡ u)
      pub in_a : Memᴰ a S
      pub in_b : Memᴰ b S
      pub has_a : below t a ≡ true
      pub has_b : below u b ≡ true

    abbrev Placed : ℕ → Type 0
    Placed x = (below c x ≡ false) ⊎ ((t : ℕ) × ChildClass c t × (below t x ≡ true))

    -- a kept class without an active node has two branches with one
    pub kept_branches : Kept E S c → ((a : ℕ) → Memᴰ a S → ¬ (top a ≡ c)) → TwoBranches
    kept_branches k no-act =
        go (where_is k.a k.in_a) (where_is k.b k.in_b) (where_is k.c k.in_c)
        (median_between E _ _ k.c c k.mid)
        (median_between E _ _ k.a c (median_swap23 E k.b k.a k.c c (median_swap12 E k.a k.b k.c c k.mid)))
        (median_between E _ _ k.b c (median_swap23 E _ _ _ c k.mid)) k.in_a k.in_b k.in_c
      where
        where_is : (x : ℕ) → Memᴰ x S → Placed x
        where_is x m = on_bool (below c x) (λ h. inr (branch_of (suc (pos x)) x (omega arith) (T.active x m) h (no-act x m))) inl

        out : (x y : ℕ) → below c x ≡ false → below c y ≡ false → Between E x c y → ⊥
        out x y p q n = n (below c, T.below_self c, p, q, T.top_cut c sc tc)

        make : (x y : ℕ) → Memᴰ x S → Memᴰ y S → (t : ℕ) × ChildClass c t × (below t x ≡ true) → (t : ℕ) × ChildClass c t × (below t y ≡ true) → Between E x c y → TwoBranches
        make x y mx my (t, k, h) (u, l, w) n =
            on_eq t u
            (λ e. absurd (n (
              ∁ (below t),
              ap not (child_outside t k),
              ap not h,
              ap not (subst (λ (v : ℕ). below v y ≡ true) (sym e) w),
              omega (arith, cut_complement (below t) E, T.top_cut t k.on k.is_top),
            )))
            (λ ne. record { t = t; u = u; a = x; b = y; ct = k; cu = l; differ = ne; in_a = mx; in_b = my; has_a = h; has_b = w })

        go : {x y z : ℕ} → Placed x → Placed y → Placed z → Between E x c y → Between E y c z → Between E x c z → Memᴰ x S → Memᴰ y S → Memᴰ z S → TwoBranches
        go {x} {y} {z} (inl p) (inl q) r xy yz xz mx my mz = absurd (out x y p q xy)
        go {x} {y} {z} (inl p) (inr q) (inl r) xy yz xz mx my mz = absurd (out x z p r xz)
        go {x} {y} {z} (inl p) (inr q) (inr r) xy yz xz mx my mz = make y z my mz q r yz
        go {x} {y} {z} (inr p) (inl q) (inl r) xy yz xz mx my mz = absurd (out y z q r yz)
        go {x} {y} {z} (inr p) (inl q) (inr r) xy yz xz mx my mz = make x z mx mz p r xz
        go {x} {y} {z} (inr p) (inr q) r xy yz xz mx my mz = make x y mx my p q xy

  -- ---- links
  pub below_trans : (n u v x : ℕ) → pos x < n → seen x ≡ true → below u v ≡ true → below v x ≡ true → below u x ≡ true
  below_trans zero u v x l s p q = absurd (omega arith)
  below_trans (suc n) u v x l s p q =
      on_eq x v (λ e. subst (λ (w : ℕ). below u w ≡ true) (sym e) p) λ nv.
      on_eq x u (λ e. subst (λ (w : ℕ). below u w ≡ true) (sym e) (T.below_self u)) λ nu.
      on_bool (root x) (λ r. absurd (nv (T.below_root v x r q))) λ r.
      T.below_parent u x s r nu ∙ below_trans n u v (par x) (omega (arith, T.par_pos x s r)) (T.par_seen x s r) p (sym (T.below_parent v x s r nv) ∙ q)

  pub below_antisym : (u v : ℕ) → seen u ≡ true → seen v ≡ true → below u v ≡ true → below v u ≡ true → u ≡ v
  below_antisym u v su sv p q = go (below_position (suc (pos v)) u v (omega arith) sv p) (below_position (suc (pos u)) v u (omega arith) su q)
    where
      go : (v ≡ u) ⊎ (pos u < pos v) → (u ≡ v) ⊎ (pos v < pos u) → u ≡ v
      go (inl e) q = sym e
      go (inr p) (inl e) = e
      go (inr p) (inr q) = absurd (omega arith)

  active_inside : (U : NodeSet) (x : ℕ) → cut U E ≤ 1 → U x ≡ true → Kept E S x → (a : ℕ) × Memᴰ a S × (U a ≡ true)
  active_inside U x h p k =
      on_bool (U k.a) (λ q. (k.a, k.in_a, q)) λ q.
      on_bool (U k.b) (λ r. (k.b, k.in_b, r)) λ r.
      contradict p (k.mid U h ∙ ap₂ (λ s t. majority s t (U k.c)) q r)

  -- a top of a kept class
  pub record KeptTop (c : ℕ) : Type 0 where
    pub on : seen c ≡ true
    pub is_top : top c ≡ c
    pub kept : Kept E S c

  unfoldable pub NoThird : ℕ → ℕ → Type 0
  NoThird c e = (z : ℕ) → KeptTop z → Between E c z e → (z ≡ c) ⊎ (z ≡ e)

  -- e is the nearest kept class above c
  pub record NearestAbove (c e : ℕ) : Type 0 where
    pub over : below e c ≡ true
    pub other : ¬ (e ≡ c)
    pub nearest : (z : ℕ) → KeptTop z → below z c ≡ true → ¬ (z ≡ c) → below z e ≡ true

  pub above_linked : (c e : ℕ) → KeptTop c → KeptTop e → NearestAbove c e → Connected E c e × NoThird c e
  unfolding NoThird
  above_linked c e mc me u = (
    below_connected (suc (pos c)) e c (omega arith) mc.on u.over,
    λ z mz b.
        on_bool (below e z)
        (λ p. on_bool (below z c)
        (λ q. on_eq z c inl λ ne. inr (below_antisym z e mz.on me.on (u.nearest z mz q ne) p))
        (λ q. on_bool (below z e) (λ r. inr (below_antisym z e mz.on me.on r p)) (λ r. absurd (b (below z, T.below_self z, q, r, T.top_cut z mz.on mz.is_top)))))
        (λ p. absurd (b (∁ (below e), ap not p, ap not u.over, ap not (T.below_self e), omega (arith, cut_complement (below e) E, T.top_cut e me.on me.is_top)))),
  )

  linked_above : (c e : ℕ) → KeptTop c → KeptTop e → ¬ (c ≡ e) → NoThird c e → below e c ≡ true → NearestAbove c e
  unfolding NoThird
  linked_above c e mc me ne no-z o =
      record {
        over = o;
        other = λ q. ne (sym q);
        nearest = λ z mz p nz.
            on_bool (below z e) (λ t. t) λ f.
            on_bool (below e z) (λ q.
            let (t, k, w) = branch_of z mz.on mz.is_top (suc (pos c)) c (omega arith) mc.on p (λ i. nz (sym i ∙ mc.is_top)) in
            let te : below t e ≡ false = on_bool (below t e)
            (λ r. contradict (below_trans (suc (pos z)) t e z (omega arith) mz.on r q) (child_outside z mz.on mz.is_top t k)) (λ f. f) in
            let b : Between E c z e = branch_between z mz.on mz.is_top t c e k mc.on w te (insep_sym E (below_connected (suc (pos z)) e z (omega arith) mz.on q)) in
            absurd (pick z nz f (no-z z mz b)))
            (λ q. absurd (clash_chain (ancestors_chain (suc (pos c)) e z c (omega arith) mc.on o p) f q));
      }
    where
      clash_chain : {z : ℕ} → (below z e ≡ true) ⊎ (below e z ≡ true) → below z e ≡ false → below e z ≡ false → ⊥
      clash_chain (inl p) f q = contradict p f
      clash_chain (inr p) f q = contradict p q

      pick : (z : ℕ) → ¬ (z ≡ c) → below z e ≡ false → (z ≡ c) ⊎ (z ≡ e) → ⊥
      pick z nz f (inl i) = nz i
      pick z nz f (inr i) = contradict (subst (λ (v : ℕ). below v e ≡ true) (sym i) (T.below_self e)) f

  -- where neither is above the other, a kept class lies between: the one where their ways up meet
  linked_comparable : (c e : ℕ) → KeptTop c → KeptTop e → Connected E c e → NoThird c e → below e c ≡ false → below c e ≡ false
      → (n x : ℕ) → pos x < n → seen x ≡ true → top x ≡ x → below x c ≡ true → below x e ≡ false → ⊥
  unfolding NoThird
  linked_comparable c e mc me ce no-z ec ce' zero x l s t p q = omega arith
  linked_comparable c e mc me ce no-z ec ce' (suc n) x l s t p q =
      on_bool (root x) (λ r. ce (below x, p, q, T.root_cut x r)) λ r.
      let sp = T.par_seen x s r in
      let y = top (par x) in
      let sy = T.top_seen (par x) sp in
      let ty = T.top_top (par x) sp in
      let k : ChildClass y x = record { on = s; is_top = t; no_root = r; under = refl } in
      let ly : pos y < pos x = above_position x s r in
      let yx : below y x ≡ true = T.below_parent y x s r (λ i. omega (arith, ap pos i)) ∙ below_class y (par x) sy ty sp ∙ T.below_self y in
      let yc : below y c ≡ true = below_trans (suc (pos c)) y x c (omega arith) mc.on yx p in
      on_bool (below y e)
      (λ ye.
      let ney : ¬ (top e ≡ y) = λ i. contradict (subst (λ (v : ℕ). below v c ≡ true) (sym i ∙ me.is_top) yc) ec in
      let (u, k', w) = branch_of y sy ty (suc (pos e)) e (omega arith) me.on ye ney in
      let ne : ¬ (x ≡ u) = λ i. contradict (subst (λ (v : ℕ). below v e ≡ true) (sym i) w) q in
      let (a, ma, ha) = active_inside (below x) c (T.top_cut x s t) p mc.kept in
      let (b, mb, hb) = active_inside (below u) e (T.top_cut u k'.on k'.is_top) w me.kept in
      let my : KeptTop y = record { on = sy; is_top = ty; kept = branches_kept y sy ty x u a b k k' ne ma mb ha hb } in
      pick y yc ye (no-z y my (branch_between y sy ty x c e k mc.on p q (child_connected y sy ty u e k' me.on w))))
      (λ ye. linked_comparable c e mc me ce no-z ec ce' n y (omega arith) sy ty yc ye)
    where
      pick : (y : ℕ) → below y c ≡ true → below y e ≡ true → (y ≡ c) ⊎ (y ≡ e) → ⊥
      pick y yc ye (inl i) = contradict (subst (λ (v : ℕ). below v e ≡ true) i ye) ce'
      pick y yc ye (inr i) = contradict (subst (λ (v : ℕ). below v c ≡ true) i yc) ec

  pub linked_nearest : (c e : ℕ) → KeptTop c → KeptTop e → ¬ (c ≡ e) → Connected E c e → NoThird c e → NearestAbove c e ⊎ NearestAbove e c
  unfolding NoThird
  linked_nearest c e mc me ne ce no-z =
      on_bool (below e c) (λ o. inl (linked_above c e mc me ne no-z o)) λ ec.
      on_bool (below c e) (λ o. inr (linked_above e c me mc (λ i. ne (sym i)) (λ z mz b. flip (no-z z mz (λ (U, p, q, r, h). b (U, p, r, q, h)))) o)) λ ce'.
      absurd (linked_comparable c e mc me ce no-z ec ce' (suc (pos c)) c (omega arith) mc.on mc.is_top (T.below_self c) ce')
    where
      flip : {A B : Type 0} → A ⊎ B → B ⊎ A
      flip (inl a) = inr a
      flip (inr b) = inl b
