-- What the loops leave behind is a small forest, with the numbering that document 01 fixes.
-- Assumes nothing.
use Prim.Native.Nat.{◌+◌, ◌-◌, ◌<◌, ◌≤◌, suc, zero, ℕ}
use mathlib.Core.Bool.{◌&&◌, true}
use mathlib.Core.List.{List, Memᴰ, map}
use mathlib.Core.Logic.{inl, inr, ⊎_elim}
use mathlib.Core.Path.{◌∙◌, ◌≡◌, ap, ap₂, refl, subst, sym}
use lib.Dec.{eqb, ltb}
use native.Mathlib.Omega.{arith}
use borrow.Author.Tests.{eqb-false, eqb-true, lt-ltb, ltb-false, ltb-true}
use Rattle.core_branches.proofs.ForestOfClasses.{class_forest, is_seen, root_is, root_no, seen_closed, seen_in, seen_is, witnesses}
use Rattle.core_branches.proofs.KeptClasses.{Nearest, Numbered, Witnesses, kept_other, nearest_above, nearest_passes, nearest_self, numbered_forest, other_kept}
use Rattle.core_branches.specs.BranchCounts.{Branches}
use Rattle.core_branches.proofs.WayLaws.{NearestNumbers, ParentNumbers}
use Rattle.core_branches.specs.Numbers.{ActiveNumbers, OtherNumbers, Prior}
use Rattle.core_branches.specs.SmallForest.{SmallForest}
use Rattle.core_components.proofs.ComponentLaws.{class_same_top}
use Rattle.core_components.specs.Merging.{FinalTops}
use Rattle.core_forest.specs.Forest.{Forest, edges_below}
use Rattle.theory_graph.proofs.ActiveLists.{order_new, order_old}
use Rattle.theory_graph.proofs.Booleans.{and_elim, on_bool}
use Rattle.theory_graph.proofs.Lists.{table_in, table_mem}
use Rattle.theory_graph.proofs.Kept.{Kept, kept_active, kept_class}
use Rattle.theory_graph.proofs.Separation.{insep_sym, two_edge_connected}
use Rattle.theory_graph.proofs.SpanningForest.{ClassForest}
use Rattle.theory_graph.specs.Graph.{Edge, NodeSet}
use Rattle.theory_graph.specs.Lists.{table}
use Rattle.theory_graph.specs.SmallGraph.{Canonical, Idle, in_order}

-- numbers given in order of first appearance
table_order : (σ act f : ℕ → ℕ) → ((i : ℕ) → σ (act i) ≡ f i - 1) → (c j b : ℕ) → ((i : ℕ) → i < j + c → ¬ (f i ≡ 0)) → ((i : ℕ) → i < j + c → Prior f i) → ((i : ℕ) → i < j → f i ≤ b)
    → in_order b (map σ (table act j c)) ≡ true
table_order σ act f s zero j b nz pr low = refl
table_order σ act f s (suc c) j b nz pr low =
    let e = s j in
    let ne : ¬ (f j ≡ 0) = nz j (omega arith) in
    let top : f j ≤ b + 1 = ⊎_elim (λ p. omega arith) (λ (l, p, q). omega (arith, low l p)) (pr j (omega arith)) in
    on_bool (ltb (f j) (b + 1))
    (λ q. order_old (σ (act j)) b (map σ (table act (suc j) c)) (omega (arith, ltb-true (f j) (b + 1) q))
    (table_order σ act f s c (suc j) b (λ i l. nz i (omega arith)) (λ i l. pr i (omega arith)) (lows b (omega arith) (omega (arith, ltb-true (f j) (b + 1) q)))))
    (λ q. order_new (σ (act j)) b (map σ (table act (suc j) c)) (omega (arith, ltb-false (f j) (b + 1) q))
    (table_order σ act f s c (suc j) (suc b) (λ i l. nz i (omega arith)) (λ i l. pr i (omega arith)) (lows (suc b) (omega arith) (omega arith))))
  where
    lows : (b' : ℕ) → b ≤ b' → f j ≤ b' → (i : ℕ) → i < suc j → f i ≤ b'
    lows b' p q i l = on_bool (eqb i j) (λ e. omega (arith, ap f (eqb-true i j e))) (λ e. let ne : ¬ (i ≡ j) = eqb-false i j e in omega (arith, low i (omega arith)))

-- a root is an active node
pub root_place : {n m k : ℕ} {to pos par te root mark act : ℕ → ℕ} → Forest n m to pos par te root → ((v : ℕ) → v < n → 0 < mark v → (j : ℕ) × (j < k) × (act j ≡ v))
    → ((u : ℕ) → u < n → 0 < pos u → 0 < mark (root u)) → (r : ℕ) → r < n → 0 < pos r → te r ≡ 0 → (j : ℕ) × (j < k) × (act j ≡ r)
root_place {mark = mark} f marks marked r l p z = marks r l (⊎_elim
    (λ q. subst (λ (v : ℕ). 0 < mark v) q.top (marked r l p))
    (λ q. absurd (omega (arith, q.is)))
    (f.kind r l p))

module _ {n m k h₀ h : ℕ} {to pos par te root top mark act nr₀ rep₀ live₀ live child other nr rep near up : ℕ → ℕ}
    (f : Forest n m to pos par te root) (g : FinalTops n m to pos par te top)
    (marks : (v : ℕ) → v < n → 0 < mark v → (j : ℕ) × (j < k) × (act j ≡ v))
    (marked : (u : ℕ) → u < n → 0 < pos u → 0 < mark (root u))
    (actives : (j : ℕ) → j < k → (act j < n) × (0 < mark (act j)))
    (have : (j : ℕ) → j < k → 0 < pos (act j))
    (A : ActiveNumbers n k h₀ act top nr₀ rep₀ live₀) (K : Branches n pos par te top live₀ live child other 0) (R : OtherNumbers n h₀ n h pos top other nr₀ nr rep₀ rep)
    (L : NearestNumbers n pos par te top nr near) (U : ParentNumbers h par te top near rep up) where
  abbrev E : List Edge
  E = edges_below to m

  abbrev S : List ℕ
  S = table act 0 k

  is_act_lem : (a : ℕ) → Memᴰ a S → (j : ℕ) × (j < k) × (a ≡ act j)
  is_act_lem a i = let (j, l, e) = table_mem act 0 k a i in (j, omega arith, e)

  in_act : (j : ℕ) → j < k → Memᴰ (act j) S
  in_act j l = table_in act 0 k j (omega arith) (omega arith)

  active : (a : ℕ) → Memᴰ a S → (a < n) × (0 < pos a)
  active a i = let (j, l, e) = is_act_lem a i in (subst (λ (v : ℕ). v < n) (sym e) (actives j l).0, subst (λ (v : ℕ). 0 < pos v) (sym e) (have j l))

  marked_in : (v : ℕ) → v < n → 0 < mark v → Memᴰ v S
  marked_in v l p = let (j, b, e) = marks v l p in subst (λ (v : ℕ). Memᴰ v S) e (in_act j b)

  rooted : (r : ℕ) → r < n → 0 < pos r → te r ≡ 0 → Memᴰ r S
  rooted r l p z = let (j, b, e) = root_place f marks marked r l p z in subst (λ (v : ℕ). Memᴰ v S) e (in_act j b)

  abbrev T : ClassForest E S
  T = class_forest f g S active rooted

  is_act : NodeSet
  is_act v = ltb v n && ltb 0 (mark v)

  witnesses_of : Witnesses E S T live child other
  unfolding is_act
  witnesses_of = witnesses f g S active rooted is_act
      (λ a t. and_elim (ltb a n) (ltb 0 (mark a)) t λ p q. marked_in a (ltb-true a n p) (ltb-true 0 (mark a) q))
      (λ a i. let (j, l, e) = is_act_lem a i in subst (λ (v : ℕ). (ltb v n && ltb 0 (mark v)) ≡ true) (sym e)
      (ap₂ ◌&&◌ (lt-ltb (act j) n (actives j l).0) (lt-ltb 0 (mark (act j)) (actives j l).1)))
      (λ c l z. let (j, b, e, t) = A.some c l z in let x : live₀ c - 1 ≡ act j = omega arith in (subst (λ (v : ℕ). Memᴰ v S) (sym x) (in_act j b), ap top x ∙ t))
      (λ a i. let (j, l, e) = is_act_lem a i in A.alive (top a) (g.tops.fit a (active a i).0) (subst (λ (v : ℕ). ¬ (nr₀ (top v) ≡ 0)) (sym e) (A.done j l)))
      K

  -- a class with an active node has its number from the first loop
  act_nr : (a : ℕ) → Memᴰ a S → ¬ (nr₀ (top a) ≡ 0)
  act_nr a i = let (j, l, e) = is_act_lem a i in subst (λ (v : ℕ). ¬ (nr₀ (top v) ≡ 0)) (sym e) (A.done j l)

  kept_nr : (z : ℕ) → z < n → 0 < pos z → top z ≡ z → Kept E S z → ¬ (nr z ≡ 0)
  unfolding class_forest
  kept_nr z l p t q = on_bool (eqb (nr₀ z) 0)
      (λ e.
      let o = kept_other E S T witnesses_of z (seen_is n pos z l p) t (λ a i x. act_nr a i (ap nr₀ x ∙ eqb-true (nr₀ z) 0 e)) q in
      subst (λ (v : ℕ). ¬ (nr v ≡ 0)) t (R.done z l (λ y. omega arith) (λ y. o (sym (ap other t) ∙ y))))
      (λ e. let ne : ¬ (nr₀ z ≡ 0) = eqb-false (nr₀ z) 0 e in λ y. ne (sym (R.still z ne) ∙ y))

  -- numbers below h₀ have active nodes
  rep_act : (i : ℕ) → i < h₀ → Memᴰ (rep i) S
  rep_act i l = let (j, b, e) = A.reps i l in subst (λ (v : ℕ). Memᴰ v S) (sym (R.old i l ∙ e)) (in_act j b)

  rep_on : (i : ℕ) → i < h → (rep i < n) × (0 < pos (rep i))
  rep_on i l = on_bool (ltb i h₀)
      (λ q. active (rep i) (rep_act i (ltb-true i h₀ q)))
      (λ q. ((R.numbers.place i l).0, let ne = (R.late i (omega (arith, ltb-false i h₀ q)) l).1 in omega arith))

  rep_kept : (i : ℕ) → i < h → Kept E S (top (rep i))
  unfolding class_forest
  rep_kept i l =
      let (p, q) = rep_on i l in
      let s = seen_is n pos (rep i) p q in
      on_bool (ltb i h₀)
      (λ b. kept_class E S (top (rep i)) (rep i) (insep_sym E (T.top_two (rep i) s)) (kept_active E S (rep i) (rep_act i (ltb-true i h₀ b))))
      (λ b. other_kept E S T witnesses_of (top (rep i)) (T.top_seen (rep i) s) (T.top_top (rep i) s) (R.late i (omega (arith, ltb-false i h₀ b)) l).2)

  -- the nearest class with a number
  unfoldable NearAt : ℕ → Type 0
  NearAt y = ¬ (near y ≡ 0) × (near y - 1 < h) × Nearest E S T y (top (rep (near y - 1)))

  near_own : (y : ℕ) → y < n → 0 < pos y → top y ≡ y → ¬ (nr y ≡ 0) → NearAt y
  unfolding class_forest NearAt
  near_own y l p t ne =
      let s = seen_is n pos y l p in
      let (b, q) = R.numbers.place_of y l ne in
      let e : near y ≡ nr y = L.numbered y l p t ne in
      let c : nr y - 1 < h = omega arith in
      let k' : Kept E S y = subst (λ (v : ℕ). Kept E S v) q (rep_kept (nr y - 1) c) in
      rw (e, q) (ne, c, nearest_self E S T y (record { on = s; is_top = t; kept = k' }))

  near_next : (y : ℕ) → y < n → 0 < pos y → top y ≡ y → nr y ≡ 0 → ((x : ℕ) → pos x < pos y → x < n → 0 < pos x → top x ≡ x → NearAt x) → NearAt y
  unfolding class_forest NearAt
  near_next y l p t z ih =
      let s = seen_is n pos y l p in
      let nk : ¬ Kept E S y = λ q. kept_nr y l p t q z in
      let nt : ¬ (te y ≡ 0) = λ q. nk (kept_active E S y (rooted y l p q)) in
      let r = root_no n pos te y nt in
      let sp = T.par_seen y s r in
      let (lp, pp) = seen_in n pos (par y) sp in
      let x = top (par y) in
      let px : pos x < pos y = on_bool (eqb x (par y)) (λ i. omega (arith, ap pos (eqb-true x (par y) i), T.par_pos y s r))
      (λ i. omega (arith, g.tops.up (par y) lp (eqb-false x (par y) i), T.par_pos y s r)) in
      let w = ih x px (g.tops.fit (par y) lp) (g.seen (par y) lp pp) (g.flat (par y) lp) in
      let e : near y ≡ near x = L.up y l p t nt z in
      rw e (w.0, w.1, nearest_passes E S T y s t r (top (rep (near x - 1))) w.2 nk)

  near_step : (y : ℕ) → y < n → 0 < pos y → top y ≡ y → ((x : ℕ) → pos x < pos y → x < n → 0 < pos x → top x ≡ x → NearAt x) → NearAt y
  near_step y l p t ih = on_bool (eqb (nr y) 0) (λ e. near_next y l p t (eqb-true (nr y) 0 e) ih) (λ e. near_own y l p t (eqb-false (nr y) 0 e))

  near_is : (j y : ℕ) → pos y < j → y < n → 0 < pos y → top y ≡ y → NearAt y
  near_is zero y b l p t = absurd (omega arith)
  near_is (suc j) y b l p t = near_step y l p t (λ x q. near_is j x (omega arith))

  numbered : Numbered E S T h rep (λ v. nr (top v) - 1) up
  unfolding class_forest NearAt
  numbered = record {
    on = λ i l. let (p, q) = rep_on i l in seen_is n pos (rep i) p q;
    kept = rep_kept;
    once = λ i j p q e. let a = (R.numbers.place i p).1 in let b = (R.numbers.place j q).1 in let c : nr (top (rep i)) ≡ nr (top (rep j)) = ap nr e in omega arith;
    all = λ z q.
        let (l, p) = seen_in n pos z q.on in
        let ne = kept_nr z l p q.is_top q.kept in
        let (b, e) = R.numbers.place_of z l ne in
        (nr z - 1, omega arith, e);
    place = λ a i.
        let (l, p) = active a i in
        let ne = act_nr a i in
        let nz : ¬ (nr (top a) ≡ 0) = λ z. ne (sym (R.still (top a) ne) ∙ z) in
        let (b, e) = R.numbers.place_of (top a) (g.tops.fit a l) nz in
        (omega arith, e);
    order = table_order (λ v. nr (top v) - 1) act (λ j. nr (top (act j))) (λ i. refl) k 0 0
        (λ i l z. let ne = A.done i (omega arith) in ne (sym (R.still (top (act i)) ne) ∙ z))
        (λ i l. priors i (omega arith)) (λ i l. absurd (omega arith));
    none = λ i l z.
        let (t, s, p) = tops i l in
        on_bool (eqb (te (top (rep i))) 0) (λ e. root_is n pos te (top (rep i)) s p (eqb-true (te (top (rep i))) 0 e))
        (λ e. let ne : ¬ (te (top (rep i)) ≡ 0) = eqb-false (te (top (rep i))) 0 e in absurd ((above i l ne).0 (sym (U.some i l ne) ∙ z)));
    some = λ i l nz.
        let ne : ¬ (te (top (rep i)) ≡ 0) = λ e. nz (U.none i l e) in
        let (t, s, p) = tops i l in
        let w = above i l ne in
        rw (U.some i l ne) (
          w.1,
          nearest_above E S T (top (rep i)) (seen_is n pos (top (rep i)) s p) t (root_no n pos te (top (rep i)) ne)
              (top (rep (near (top (par (top (rep i)))) - 1))) w.2,
        );
  }
    where
      priors : (i : ℕ) → i < k → Prior (λ j. nr (top (act j))) i
      priors i l = rw (R.still (top (act i)) (A.done i l)) (⊎_elim inl (λ (j, p, q). inr (j, p, rw (R.still (top (act j)) (A.done j (omega arith))) q)) (A.order i l))

      tops : (i : ℕ) → i < h → (top (top (rep i)) ≡ top (rep i)) × (top (rep i) < n) × (0 < pos (top (rep i)))
      tops i l = let (p, q) = rep_on i l in (g.flat (rep i) p, g.tops.fit (rep i) p, g.seen (rep i) p q)

      above : (i : ℕ) → i < h → ¬ (te (top (rep i)) ≡ 0) → ¬ (near (top (par (top (rep i)))) ≡ 0) × (near (top (par (top (rep i)))) - 1 < h)
          × Nearest E S T (top (par (top (rep i)))) (top (rep (near (top (par (top (rep i)))) - 1)))
      above i l ne =
          let (t, s, p) = tops i l in
          let (lp, pp) = seen_in n pos (par (top (rep i))) (T.par_seen (top (rep i)) (seen_is n pos (top (rep i)) s p) (root_no n pos te (top (rep i)) ne)) in
          near_is (suc (pos (top (par (top (rep i)))))) (top (par (top (rep i)))) (omega arith) (g.tops.fit (par (top (rep i))) lp)
          (g.seen (par (top (rep i))) lp pp) (g.flat (par (top (rep i))) lp)

  pub small_forest : SmallForest E S h rep (λ v. nr (top v) - 1) up
  unfolding class_forest
  small_forest = numbered_forest E S T (seen_closed f g) numbered

  -- numbers without an active node come from the second loop
  idle : (i : ℕ) → i < h → Idle S (λ v. nr (top v) - 1) i → h₀ ≤ i
  idle i l d = on_bool (ltb i h₀)
      (λ q. let e = (R.numbers.place i l).1 in absurd (d (rep i) (rep_act i (ltb-true i h₀ q)) (omega arith)))
      (λ q. omega (arith, ltb-false i h₀ q))

  pub small_canonical : Canonical E S h rep (λ v. nr (top v) - 1)
  small_canonical = record {
    least = λ i z l d t.
        let (p, q) = rep_on i l in
        let s : is_seen n pos z ≡ true = on_bool (is_seen n pos z) (λ y. y) (λ y. absurd (insep_sym E (two_edge_connected E t) (is_seen n pos, seen_is n pos (rep i) p q, y, seen_closed f g))) in
        let (lz, pz) = seen_in n pos z s in
        R.least i (idle i l d) l z (λ y. omega arith) (class_same_top f g z (rep i) lz p pz q t);
    rises = λ i j l b d e. R.rises i j (idle i (omega arith) d) l b;
  }
