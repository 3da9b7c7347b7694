-- Laws of counting branches: a node that reports nothing, one that reports, over functions and then at the words.
-- Assumes nothing.
use Prim.Native.Nat.{◌+◌, ◌-◌, ◌<◌, ℕ}
use mathlib.Core.Bool.{false, true}
use mathlib.Core.List.{List, [], ◌∷◌}
use mathlib.Core.Logic.{inl, inr, ⊎_elim}
use mathlib.Core.Path.{◌∙◌, ◌≡◌, ap, refl, sym}
use lib.Dec.{eqb}
use native.Mathlib.Omega.{arith}
use borrow.Author.Tests.{eqb-false, eqb-true}
use Rattle.core_branches.specs.BranchCounts.{Branches, CanCount, Child, Counting, Report, TreeOrder}
use Rattle.theory_graph.specs.Lists.{member}
use Rattle.theory_graph.proofs.Booleans.{on_bool}
use Rattle.core_words.proofs.ChangeLaws.{only_then}
use Rattle.core_words.proofs.FieldLaws.{update_at, update_other, update_same}
use Rattle.core_words.specs.Fields.{BRANCH, EDGE, LIVE, ORDER, OTHER, PARENT, POSITION, TOP, node, update}

module _ {n seen : ℕ} {ord pos par te top live₀ live child other : ℕ → ℕ} (i : ℕ) {v : ℕ} (g : TreeOrder n seen ord pos par te top)
    (w : Branches n pos par te top live₀ live child other (i + 1)) (fit : v < n) (at : pos v ≡ i + 1) where
  -- a node after place i is v, or after the next
  pick : {A : Type 0} (c : ℕ) → c < n → i < pos c → (c ≡ v → A) → ((c ≡ v → ⊥) → i + 1 < pos c → A) → A
  pick c l p f h = on_bool (eqb c v)
      (λ q. f (eqb-true c v q))
      (λ q.
      let ne : c ≡ v → ⊥ = eqb-false c v q in
      let far : pos c ≡ i + 1 → ⊥ = λ e. ne (sym (g.place_of c l (omega arith)).1 ∙ ap (λ k. ord (k - 1)) (e ∙ sym at) ∙ (g.place_of v fit (omega arith)).1) in
      h ne (omega arith))

  -- v reports nothing
  pub count_skip : (top v ≡ v → (te v ≡ 0 → ⊥) → live v ≡ 0) → Branches n pos par te top live₀ live child other i
  count_skip quiet = record {
    witness = w.witness;
    still = w.still;
    one = λ t l k. let q = w.one t l k in (q.0, omega (arith, q.1), q.2);
    two = λ t l k. let q = w.two t l k in (q.0, omega (arith, q.1), q.2, q.3, q.4);
    all = λ t c l k p a. pick c k.fit p
        (λ e. absurd (a (ap live e ∙ quiet (sym (ap top e) ∙ k.is_top ∙ e) (λ z. k.has_edge (ap te e ∙ z)))))
        (λ _ r. w.all t c l k r a);
  }

  -- v reports to the class above, q
  module _ (is_top : top v ≡ v) (has_edge : te v ≡ 0 → ⊥) (alive : live v ≡ 0 → ⊥) where
    low : pos (top (par v)) < i + 1
    low = omega (arith, g.up v fit (omega arith) has_edge)

    child_v : Child n pos par te top (top (par v)) v
    child_v = record { fit = fit; seen = omega arith; is_top = is_top; has_edge = has_edge; under = refl }

    -- those after place i are not q
    not_q : (c : ℕ) → i < pos c → c ≡ top (par v) → ⊥
    not_q c p e = let z : pos c ≡ pos (top (par v)) = ap pos e in omega (arith, low)

    more : (c : ℕ) → (live c ≡ 0 → ⊥) → update live (top (par v)) (live v) c ≡ 0 → ⊥
    more = update_at (λ c y. (live c ≡ 0 → ⊥) → y ≡ 0 → ⊥) live (top (par v)) (live v) (λ _. alive) (λ c _ a. a)

    some : (t : ℕ) → (child t ≡ 0 → ⊥) → update child (top (par v)) (v + 1) t ≡ 0 → ⊥
    some = update_at (λ t y. (child t ≡ 0 → ⊥) → y ≡ 0 → ⊥) child (top (par v)) (v + 1) (λ _ e. omega arith) (λ t _ a. a)

    pub count_reported : Branches n pos par te top live₀ (update live (top (par v)) (live v)) (update child (top (par v)) (v + 1)) (update other (top (par v)) (child (top (par v)))) i
    count_reported = record {
      witness = λ P up st. update_at (λ t y. t < n → (y ≡ 0 → ⊥) → P t y ≡ true) live (top (par v)) (live v)
          (λ l a. up (top (par v)) v (live v) child_v (w.witness P up st v fit a))
          (λ t _. w.witness P up st t);
      still = λ t a. more t (w.still t a);
      one = update_at (λ t y. t < n → (y ≡ 0 → ⊥) → Child n pos par te top t (y - 1) × (i < pos (y - 1)) × (update live (top (par v)) (live v) (y - 1) ≡ 0 → ⊥)) child (top (par v)) (v + 1)
          (λ l a. let e : v + 1 - 1 ≡ v = omega arith in rw e (child_v, omega arith, more v alive))
          (λ t _ l a. let k = w.one t l a in (k.0, omega (arith, k.1), more (child t - 1) k.2));
      two = update_at (λ t y. t < n → (y ≡ 0 → ⊥) → Child n pos par te top t (y - 1) × (i < pos (y - 1)) × (update live (top (par v)) (live v) (y - 1) ≡ 0 → ⊥)
          × (y ≡ update child (top (par v)) (v + 1) t → ⊥) × (update child (top (par v)) (v + 1) t ≡ 0 → ⊥)) other (top (par v)) (child (top (par v)))
          (λ l a.
          let k = w.one (top (par v)) l a in
          rw (update_same child (top (par v)) (v + 1)) (
            k.0,
            omega (arith, k.1),
            more (child (top (par v)) - 1) k.2,
            (λ e. let z : pos (child (top (par v)) - 1) ≡ pos v = ap pos (let y : child (top (par v)) - 1 ≡ v = omega arith in y) in omega (arith, k.1)),
            (λ e. omega arith),
          ))
          (λ t ne l a.
          let k = w.two t l a in
          rw (update_other child (top (par v)) (v + 1) t ne) (k.0, omega (arith, k.1), more (other t - 1) k.2, k.3, k.4));
      all = λ t c l k p a.
          let b : live c ≡ 0 → ⊥ = λ z. a (update_other live (top (par v)) (live v) c (not_q c p) ∙ z) in
          pick c k.fit p
          (λ e.
          let z : t ≡ top (par v) = sym k.under ∙ ap (λ u. top (par u)) e in
          rw (z, update_same live (top (par v)) (live v), update_same child (top (par v)) (v + 1)) (alive, (λ y. omega arith), inl (ap (λ u. u + 1) e)))
          (λ _ r.
          let h = w.all t c l k r b in (
            more t h.0,
            some t h.1,
            on_bool (eqb t (top (par v)))
                (λ y.
                let z : t ≡ top (par v) = eqb-true t (top (par v)) y in
                inr (λ x. h.1 (ap child z ∙ sym (update_same other (top (par v)) (child (top (par v)))) ∙ sym (ap (update other (top (par v)) (child (top (par v)))) z) ∙ x)))
                (λ y.
                let ne : t ≡ top (par v) → ⊥ = eqb-false t (top (par v)) y in
                rw (update_other child (top (par v)) (v + 1) t ne, update_other other (top (par v)) (child (top (par v))) t ne) h.2),
          ));
    }

module _ {n seen v : ℕ} (i : ℕ) {a w : List ℕ} (g : CanCount n seen a) (h : Counting n seen a (i + 1) w) (l : i < seen) (ev : v ≡ node ORDER w i) where
  at_j : (j : ℕ) → j < 16 → member (LIVE ∷ BRANCH ∷ OTHER ∷ []) j ≡ false → node j w ≡ node j a
  at_j = h.rest.nodes

  v_fits : v < n
  v_fits = rw (ev, at_j ORDER (omega arith) refl) (g.tree.place i l).0

  v_at : node POSITION a v ≡ i + 1
  v_at = rw (ev, at_j ORDER (omega arith) refl) (g.tree.place i l).1

  pub counting_more : {w' : List ℕ} → Report n v w w' → Counting n seen a i w'
  counting_more {w'} = ⊎_elim
      (λ s. rw s.0 (record { rest = h.rest; branches = count_skip i g.tree h.branches v_fits v_at (rw (at_j TOP (omega arith) refl, at_j EDGE (omega arith) refl) at s.1) }))
      (λ s.
      let e5 = at_j PARENT (omega arith) refl in
      let e6 = at_j TOP (omega arith) refl in
      let m = count_reported i g.tree h.branches v_fits v_at (rw e6 at s.top) (rw (at_j EDGE (omega arith) refl) at s.has_edge) s.live in
      record { rest = only_then h.rest s.rest; branches = rw (s.lives, s.children, s.others, e5, e6) m })

pub counting_down : {n seen i : ℕ} {a w : List ℕ} → 0 < i → Counting n seen a i w → Counting n seen a (i - 1 + 1) w
counting_down {i = i} l h = let e : i - 1 + 1 ≡ i = omega arith in rw e h
