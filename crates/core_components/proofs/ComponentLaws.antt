-- Why merging is complete: at most one edge leaves the nodes below a top, its tree edge. So two seen nodes have one top just where no such set parts them.
-- Assumes nothing.
use Prim.Native.Nat.{◌*◌, ◌+◌, ◌-◌, ◌<◌, ◌≤◌, suc, zero, ℕ}
use mathlib.Core.Bool.{Bool, ◌||◌, false, true, true≢false}
use mathlib.Core.Logic.{⊎_elim}
use mathlib.Core.Path.{◌∙◌, ◌≡◌, ap, refl, sym}
use lib.Dec.{eqb, ltb}
use native.Mathlib.Omega.{arith}
use borrow.Author.Tests.{eq-eqb, eqb-false, eqb-true, ltb-false, ltb-true, ne_eqb}
use Rattle.core_components.proofs.CrossingEdges.{only_one_crosses}
use Rattle.core_components.specs.Merging.{FinalTops, NonTreeEdge}
use Rattle.core_components.specs.Tops.{FollowsParents, Tops}
use Rattle.core_forest.specs.Forest.{Forest, Joins, edges_below}
use Rattle.theory_graph.proofs.Booleans.{on_bool}
use Rattle.theory_graph.proofs.Separation.{insep_sym}
use Rattle.theory_graph.specs.Cut.{Inseparable, Separated, cut}
use Rattle.theory_graph.specs.Graph.{NodeSet}

-- a is on the way up from u, of at most k nodes
unfoldable pub ancestor_within : (ℕ → ℕ) → ℕ → ℕ → ℕ → Bool
ancestor_within par a zero u = false
ancestor_within par a (suc k) u = eqb u a || ancestor_within par a k (par u)

or_same : (b : Bool) → (b || b) ≡ b
or_same true = refl
or_same false = refl

module _ {n m : ℕ} {to pos par te root : ℕ → ℕ} (f : Forest n m to pos par te root) (a : ℕ) where
  pub ancestor_root : (k u : ℕ) → par u ≡ u → ancestor_within par a (suc k) u ≡ eqb u a
  unfolding ancestor_within
  ancestor_root zero u e = on_bool (eqb u a) (λ q. rw q refl) (λ q. rw q refl)
  ancestor_root (suc k) u e = rw (e, ancestor_root k u e) (or_same (eqb u a))

  -- the count does not matter where it is large enough
  ancestor_same : (k j u : ℕ) → u < n → 0 < pos u → pos u ≤ k → pos u ≤ j → ancestor_within par a k u ≡ ancestor_within par a j u
  unfolding ancestor_within
  ancestor_same zero j u l s p q = absurd (omega arith)
  ancestor_same (suc k) zero u l s p q = absurd (omega arith)
  ancestor_same (suc k) (suc j) u l s p q = ⊎_elim
      (λ r. ancestor_root k u r.self ∙ sym (ancestor_root j u r.self))
      (λ h. ap (λ b. eqb u a || b) (ancestor_same k j (par u) h.fit h.seen (omega (arith, h.up)) (omega (arith, h.up))))
      (f.kind u l s)

  pub ancestor_late : (k u : ℕ) → u < n → 0 < pos u → pos u < pos a → ancestor_within par a k u ≡ false
  unfolding ancestor_within
  ancestor_late zero u l s q = refl
  ancestor_late (suc k) u l s q =
      let e : eqb u a ≡ false = ne_eqb u a (λ z. let y : pos u ≡ pos a = ap pos z in omega arith) in
      rw e (⊎_elim
      (λ r. rw r.self (ancestor_late k u l s q))
      (λ h. ancestor_late k (par u) h.fit h.seen (omega (arith, h.up)))
      (f.kind u l s))

  unfoldable pub descendants : NodeSet
  descendants u = ancestor_within par a (pos u) u

  pub ancestor_self : (k : ℕ) → 0 < k → ancestor_within par a k a ≡ true
  unfolding ancestor_within
  ancestor_self zero i = absurd (omega arith)
  ancestor_self (suc k) i = rw (eq-eqb a a refl) refl

  ancestor_step : (k u : ℕ) → 0 < k → (u ≡ a → ⊥) → ancestor_within par a k u ≡ ancestor_within par a (k - 1) (par u)
  unfolding ancestor_within
  ancestor_step zero u i ne = absurd (omega arith)
  ancestor_step (suc k) u i ne = let e : suc k - 1 ≡ k = omega arith in rw (ne_eqb u a ne, e) refl

  pub descendants_parent : (u : ℕ) → u < n → 0 < pos u → (u ≡ a → ⊥) → descendants u ≡ descendants (par u)
  unfolding descendants
  descendants_parent u l s ne = ⊎_elim
      (λ r. ap descendants (sym r.self))
      (λ h. ancestor_step (pos u) u s ne ∙ ancestor_same (pos u - 1) (pos (par u)) (par u) h.fit h.seen (omega (arith, h.up)) (omega arith))
      (f.kind u l s)

  pub descendants_unseen : (u : ℕ) → pos u ≡ 0 → descendants u ≡ false
  unfolding descendants ancestor_within
  descendants_unseen u z = rw z refl

  module _ (t : ℕ → ℕ) (tops : Tops n pos t)
      (done : (D : NodeSet) → FollowsParents n par t D → (e : ℕ) → e < m → NonTreeEdge to pos te e → D (to (2 * e)) ≡ D (to (2 * e + 1))) (ta : t a ≡ a) where
    pub descendants_follow : FollowsParents n par t descendants
    descendants_follow u l ne = descendants_parent u l (omega (arith, tops.up u l ne)) (λ e. ne (ap t e ∙ ta ∙ sym e))

    -- an end whose tree edge is e
    tree_edge_inside : (e u : ℕ) → e < m → (e ≡ te a - 1 → ⊥) → u < n → 0 < pos u → te u ≡ e + 1 → descendants (to (2 * e)) ≡ descendants (to (2 * e + 1))
    tree_edge_inside e u l ne i s q = ⊎_elim
        (λ r. absurd (omega (arith, r.none)))
        (λ h.
        let x : h.edge ≡ e = omega (arith, h.is) in
        let j : Joins to e u (par u) = rw x at h.join in
        let y : descendants u ≡ descendants (par u) = descendants_parent u i s (λ z. ne (let w : te u ≡ te a = ap te z in omega arith)) in
        ⊎_elim (λ p. ap descendants p.0 ∙ y ∙ sym (ap descendants p.1)) (λ p. ap descendants p.0 ∙ sym y ∙ sym (ap descendants p.1)) j)
        (f.kind u i s)

    edge_inside : (e : ℕ) → e < m → (e ≡ te a - 1 → ⊥) → descendants (to (2 * e)) ≡ descendants (to (2 * e + 1))
    edge_inside e l ne = on_bool (eqb (pos (to (2 * e))) 0)
        (λ q.
        let z : pos (to (2 * e)) ≡ 0 = eqb-true _ _ q in
        let y : pos (to (2 * e + 1)) ≡ 0 = on_bool (eqb (pos (to (2 * e + 1))) 0) (λ r. eqb-true _ _ r)
        (λ r. let ne : ¬ (pos (to (2 * e + 1)) ≡ 0) = eqb-false _ _ r in absurd (omega (arith, f.back e l (omega arith)))) in
        descendants_unseen (to (2 * e)) z ∙ sym (descendants_unseen (to (2 * e + 1)) y))
        (λ q.
        let nz : ¬ (pos (to (2 * e)) ≡ 0) = eqb-false _ _ q in
        let s : 0 < pos (to (2 * e)) = omega arith in
        on_bool (eqb (te (to (2 * e))) (e + 1)) (λ r. tree_edge_inside e (to (2 * e)) l ne (f.ends (2 * e) (omega arith)) s (eqb-true _ _ r)) λ r.
        on_bool (eqb (te (to (2 * e + 1))) (e + 1)) (λ p. tree_edge_inside e (to (2 * e + 1)) l ne (f.ends (2 * e + 1) (omega arith)) (f.over e l s).0 (eqb-true _ _ p)) λ p.
        done descendants descendants_follow e l (record { seen = s; first = eqb-false _ _ r; second = eqb-false _ _ p }))

    pub descendants_cut : cut descendants (edges_below to m) ≤ 1
    descendants_cut = only_one_crosses descendants to m (te a - 1) edge_inside

    -- the later of two tops is parted from all that comes before
    pub later_parted : (x y : ℕ) → 0 < pos a → descendants x ≡ descendants a → (b : ℕ) → b < n → 0 < pos b → pos b < pos a → descendants y ≡ descendants b → Separated 1 (edges_below to m) x y
    unfolding descendants
    later_parted x y s ex b l i q ey = (descendants, ex ∙ ancestor_self (pos a) s, ey ∙ ancestor_late (pos b) b l i q, descendants_cut)

module _ {n m : ℕ} {to pos par te root : ℕ → ℕ} (f : Forest n m to pos par te root) {t : ℕ → ℕ} (g : FinalTops n m to pos par te t) where
  pub same_top_class : (x y : ℕ) → x < n → y < n → t x ≡ t y → Inseparable 1 (edges_below to m) x y
  same_top_class x y i j e s =
      let c = g.sound s.0 s.3 in
      true≢false (sym s.1 ∙ sym (c x i) ∙ ap s.0 e ∙ c y j ∙ s.2)

  later : (x y : ℕ) → x < n → y < n → 0 < pos x → 0 < pos y → pos (t y) < pos (t x) → Separated 1 (edges_below to m) x y
  later x y i j p q l =
      let a = t x in
      let con = descendants_follow f a t g.tops g.done (g.flat x i) in
      let s = g.full (descendants f a) con in
      later_parted f a t g.tops g.done (g.flat x i) x y (g.seen x i p) (sym (s x i)) (t y) (g.tops.fit y j) (g.seen y j q) l (sym (s y j))

  pub class_same_top : (x y : ℕ) → x < n → y < n → 0 < pos x → 0 < pos y → Inseparable 1 (edges_below to m) x y → t x ≡ t y
  class_same_top x y i j p q c =
      on_bool (ltb (pos (t y)) (pos (t x))) (λ r. absurd (c (later x y i j p q (ltb-true _ _ r)))) λ r.
      on_bool (ltb (pos (t x)) (pos (t y))) (λ s. absurd (insep_sym (edges_below to m) c (later y x j i q p (ltb-true _ _ s)))) λ s.
      f.one (t x) (t y) (g.tops.fit x i) (g.tops.fit y j) (g.seen x i p) (omega (arith, ltb-false (pos (t y)) (pos (t x)) r, ltb-false (pos (t x)) (pos (t y)) s))
