-- Laws of numbering: classes with an active node in order of first appearance, the others by their smallest nodes; over functions first, then at the words.
-- Assumes nothing.
use Prim.Native.Nat.{◌+◌, ◌-◌, ◌<◌, ◌≤◌, ℕ}
use mathlib.Core.List.{List}
use mathlib.Core.Logic.{◌⊎◌, inl, inr, ⊎_elim}
use mathlib.Core.Path.{◌∙◌, ◌≡◌, ap, refl, subst, sym}
use lib.Dec.{eqb, ltb}
use native.Mathlib.Omega.{arith}
use borrow.Author.Tests.{eqb-false, eqb-true, ltb-false, ltb-true}
use Rattle.core_branches.specs.Numbers.{ActiveNumbers, ActiveStep, CanAssign, CanNumber, CanNumberActives, CanNumberOthers}
use Rattle.core_branches.specs.Numbers.{NumberingActives, NumberingOthers, Numbers, OtherNumbers, OtherStep, Prior}
use Rattle.core_forest.proofs.Counting.{count_less, count_more, count_none}
use Rattle.theory_graph.proofs.Booleans.{on_bool}
use Rattle.core_words.proofs.ChangeLaws.{only_none, only_then}
use Rattle.core_words.proofs.FieldLaws.{update_at, update_other, update_same}
use Rattle.core_words.specs.Fields.{ACTIVE, NUMBER, OTHER, POSITION, TOP, node, update}

-- ---- numbers, over functions
pub numbers_none : {n : ℕ} {top nr rep : ℕ → ℕ} → ((v : ℕ) → v < n → nr v ≡ 0) → Numbers n 0 top nr rep
numbers_none {n} {nr = nr} z = record { count = count_none nr n z; place = λ i l. absurd (omega arith); place_of = λ c l ne. absurd (ne (z c l)) }

pub numbers_less : {n h : ℕ} {top nr rep : ℕ → ℕ} (t : ℕ) → Numbers n h top nr rep → t < n → nr t ≡ 0 → h < n
numbers_less {n} {nr = nr} t g l z = omega (arith, count_less nr n t l z, g.count)

-- a number that is there stays
update_stays : (f : ℕ → ℕ) (t x c : ℕ) → f t ≡ 0 → ¬ (f c ≡ 0) → update f t x c ≡ f c
update_stays f t x c z ne = update_other f t x c (λ e. ne (ap f e ∙ z))

update_some : (f : ℕ → ℕ) (t x c : ℕ) → ¬ (x ≡ 0) → ¬ (f c ≡ 0) → ¬ (update f t x c ≡ 0)
update_some f t x c nx = update_at (λ c y. ¬ (f c ≡ 0) → ¬ (y ≡ 0)) f t x (λ _. nx) (λ u _ a. a) c

module _ {n h : ℕ} {top nr rep : ℕ → ℕ} (v : ℕ) (g : Numbers n h top nr rep) (fit : v < n) (top_fit : top v < n) (new : nr (top v) ≡ 0) where
  pub numbers_more : Numbers n (h + 1) top (update nr (top v) (h + 1)) (update rep h v)
  numbers_more = record {
    count = count_more nr n (top v) h top_fit new ∙ ap (λ i. i + 1) g.count;
    place = update_at (λ i y. i < h + 1 → (y < n) × (update nr (top v) (h + 1) (top y) ≡ i + 1)) rep h v
        (λ _. (fit, update_same nr (top v) (h + 1)))
        (λ i ne l.
        let (p, q) = g.place i (omega arith) in
        (p, update_stays nr (top v) (h + 1) (top (rep i)) new (λ z. omega arith) ∙ q));
    place_of = update_at (λ c y. c < n → ¬ (y ≡ 0) → (y ≤ h + 1) × (top (update rep h v (y - 1)) ≡ c)) nr (top v) (h + 1)
        (λ _ _. let e : h + 1 - 1 ≡ h = omega arith in (omega arith, ap (λ i. top (update rep h v i)) e ∙ ap top (update_same rep h v)))
        (λ c ne l nz.
        let (p, q) = g.place_of c l nz in
        (omega arith, ap top (update_other rep h v (nr c - 1) (λ e. omega arith)) ∙ q));
  }

-- ---- active classes
pub active_none : {n : ℕ} {act top nr rep live : ℕ → ℕ} → ((v : ℕ) → v < n → (nr v ≡ 0) × (live v ≡ 0)) → ActiveNumbers n 0 0 act top nr rep live
active_none z = record {
  numbers = numbers_none (λ v l. (z v l).0);
  done = λ j l. absurd (omega arith);
  some = λ c l ne. absurd (ne (z c l).1);
  alive = λ c l ne. absurd (ne (z c l).0);
  reps = λ x l. absurd (omega arith);
  order = λ j l. absurd (omega arith);
}

module _ {n i h : ℕ} {act top nr rep live : ℕ → ℕ} (g : ActiveNumbers n i h act top nr rep live) (fit : act i < n) (top_fit : top (act i) < n) where
  -- a number up to the next comes after the one before it
  after : (y : ℕ) → y ≤ h + 1 → (y ≤ 1) ⊎ ((l : ℕ) × (l < i) × (y ≤ nr (top (act l)) + 1))
  after y b = on_bool (ltb 1 y)
      (λ q.
      let p = ltb-true 1 y q in
      let (j, l, e) = g.reps (y - 2) (omega arith) in
      let r : nr (top (act j)) ≡ y - 2 + 1 = ap (λ u. nr (top u)) (sym e) ∙ (g.numbers.place (y - 2) (omega arith)).1 in
      inr (j, l, omega arith))
      (λ q. inl (omega (arith, ltb-false 1 y q)))

  pub active_skip : ¬ (nr (top (act i)) ≡ 0) → ActiveNumbers n (i + 1) h act top nr rep live
  active_skip old = record {
    numbers = g.numbers;
    done = λ j l. on_bool (eqb j i) (λ q. subst (λ (u : ℕ). ¬ (nr (top (act u)) ≡ 0)) (sym (eqb-true j i q)) old) (λ q. let ne : ¬ (j ≡ i) = eqb-false j i q in g.done j (omega arith));
    some = λ c l a. let (j, p, e, t) = g.some c l a in (j, omega arith, e, t);
    alive = g.alive;
    reps = λ x l. let (j, p, e) = g.reps x l in (j, omega arith, e);
    order = λ j l. on_bool (eqb j i)
        (λ q. subst (λ (u : ℕ). Prior (λ j. nr (top (act j))) u) (sym (eqb-true j i q)) (after (nr (top (act i))) (omega (arith, (g.numbers.place_of (top (act i)) top_fit old).0))))
        (λ q. let ne : ¬ (j ≡ i) = eqb-false j i q in g.order j (omega arith));
  }

  pub active_new : nr (top (act i)) ≡ 0 → ActiveNumbers n (i + 1) (h + 1) act top (update nr (top (act i)) (h + 1)) (update rep h (act i)) (update live (top (act i)) (act i + 1))
  active_new new = record {
    numbers = numbers_more (act i) g.numbers fit top_fit new;
    done = λ j l. on_bool (eqb j i)
        (λ q. subst (λ (u : ℕ). ¬ (update nr (top (act i)) (h + 1) (top (act u)) ≡ 0)) (sym (eqb-true j i q))
        (λ z. let y : h + 1 ≡ 0 = sym (update_same nr (top (act i)) (h + 1)) ∙ z in omega arith))
        (λ q. let ne : ¬ (j ≡ i) = eqb-false j i q in update_some nr (top (act i)) (h + 1) (top (act j)) (λ z. omega arith) (g.done j (omega arith)));
    some = update_at (λ c y. c < n → ¬ (y ≡ 0) → (j : ℕ) × (j < i + 1) × (y ≡ act j + 1) × (top (act j) ≡ c)) live (top (act i)) (act i + 1)
        (λ _ _. (i, omega arith, refl, refl))
        (λ c _ l a. let (j, p, e, t) = g.some c l a in (j, omega arith, e, t));
    alive = λ c l. update_at (λ c y. c < n → ¬ (y ≡ 0) → ¬ (update live (top (act i)) (act i + 1) c ≡ 0)) nr (top (act i)) (h + 1)
        (λ _ _ z. let y : act i + 1 ≡ 0 = sym (update_same live (top (act i)) (act i + 1)) ∙ z in omega arith)
        (λ c _ l a. update_some live (top (act i)) (act i + 1) c (λ z. omega arith) (g.alive c l a)) c l;
    reps = update_at (λ x y. x < h + 1 → (j : ℕ) × (j < i + 1) × (y ≡ act j)) rep h (act i)
        (λ _. (i, omega arith, refl))
        (λ x ne l. let (j, p, e) = g.reps x (omega arith) in (j, omega arith, e));
    order = λ j l. on_bool (eqb j i)
        (λ q. subst (λ (u : ℕ). Prior (λ j. update nr (top (act i)) (h + 1) (top (act j))) u) (sym (eqb-true j i q))
        (rw (update_same nr (top (act i)) (h + 1)) (⊎_elim inl (λ (l, p, e). inr (l, p, rw (stays l p) e)) (after (h + 1) (omega arith)))))
        (λ q.
        let ne : ¬ (j ≡ i) = eqb-false j i q in
        let b : j < i = omega arith in
        rw (stays j b) (⊎_elim inl (λ (l, p, e). inr (l, p, rw (stays l (omega arith)) e)) (g.order j b)));
  }
    where
      stays : (j : ℕ) → j < i → update nr (top (act i)) (h + 1) (top (act j)) ≡ nr (top (act j))
      stays j l = update_stays nr (top (act i)) (h + 1) (top (act j)) new (g.done j l)

-- ---- the other classes

module _ {n h₀ v h : ℕ} {pos top other nr₀ nr rep₀ rep : ℕ → ℕ} (g : OtherNumbers n h₀ v h pos top other nr₀ nr rep₀ rep) where
  pub other_skip : (¬ (pos v ≡ 0) → ¬ (other (top v) ≡ 0) → ¬ (nr (top v) ≡ 0)) → OtherNumbers n h₀ (v + 1) h pos top other nr₀ nr rep₀ rep
  other_skip old = record {
    numbers = g.numbers;
    more = g.more;
    still = g.still;
    old = g.old;
    done = λ u l. on_bool (eqb u v) (λ q. subst (λ (u : ℕ). ¬ (pos u ≡ 0) → ¬ (other (top u) ≡ 0) → ¬ (nr (top u) ≡ 0)) (sym (eqb-true u v q)) old)
        (λ q. let ne : ¬ (u ≡ v) = eqb-false u v q in g.done u (omega arith));
    late = λ i p q. let (a, b, c) = g.late i p q in (omega arith, b, c);
    least = g.least;
    rises = g.rises;
  }

  pub other_new : v < n → top v < n → ¬ (pos v ≡ 0) → ¬ (other (top v) ≡ 0) → nr (top v) ≡ 0
      → OtherNumbers n h₀ (v + 1) (h + 1) pos top other nr₀ (update nr (top v) (h + 1)) rep₀ (update rep h v)
  other_new fit top_fit seen two new = record {
    numbers = numbers_more v g.numbers fit top_fit new;
    more = omega (arith, g.more);
    still = λ c a. let e = g.still c a in update_stays nr (top v) (h + 1) c new (λ z. a (sym e ∙ z)) ∙ e;
    old = λ i l. update_other rep h v i (λ e. omega (arith, g.more)) ∙ g.old i l;
    done = λ u l. on_bool (eqb u v)
        (λ q. subst (λ (u : ℕ). ¬ (pos u ≡ 0) → ¬ (other (top u) ≡ 0) → ¬ (update nr (top v) (h + 1) (top u) ≡ 0)) (sym (eqb-true u v q))
        (λ _ _ z. let y : h + 1 ≡ 0 = sym (update_same nr (top v) (h + 1)) ∙ z in omega arith))
        (λ q s o. let ne : ¬ (u ≡ v) = eqb-false u v q in update_some nr (top v) (h + 1) (top u) (λ z. omega arith) (g.done u (omega arith) s o));
    late = λ i p. update_at (λ i y. h₀ ≤ i → i < h + 1 → (y < v + 1) × ¬ (pos y ≡ 0) × ¬ (other (top y) ≡ 0)) rep h v
        (λ _ _. (omega arith, seen, two))
        (λ i ne p q. let (a, b, c) = g.late i p (omega arith) in (omega arith, b, c)) i p;
    least = λ i p. update_at (λ i y. h₀ ≤ i → i < h + 1 → (u : ℕ) → ¬ (pos u ≡ 0) → top u ≡ top y → y ≤ u) rep h v
        (λ _ _ u s e. on_bool (ltb u v)
        (λ q. absurd (g.done u (ltb-true u v q) s (λ z. two (ap other (sym e) ∙ z)) (ap nr e ∙ new)))
        (λ q. omega (arith, ltb-false u v q)))
        (λ i ne p q. g.least i p (omega arith)) i p;
    rises = λ i j p q r. on_bool (eqb j h)
        (λ e.
        let x : j ≡ h = eqb-true j h e in
        let a : update rep h v i ≡ rep i = update_other rep h v i (λ z. omega arith) in
        let b : update rep h v j ≡ v = ap (update rep h v) x ∙ update_same rep h v in
        let l = (g.late i p (omega arith)).0 in
        omega arith)
        (λ e.
        let ne : ¬ (j ≡ h) = eqb-false j h e in
        let a : update rep h v i ≡ rep i = update_other rep h v i (λ z. omega arith) in
        let b : update rep h v j ≡ rep j = update_other rep h v j ne in
        omega (arith, g.rises i j p q (omega arith)));
  }

-- ---- at the words

module _ {n h v : ℕ} {a : List ℕ} (g : CanNumber n h a v) {t x : ℕ} (et : t ≡ node TOP a v) (ex : x ≡ node NUMBER a t) where
  new_is : x ≡ 0 → node NUMBER a (node TOP a v) ≡ 0
  new_is z = ap (node NUMBER a) (sym et) ∙ sym ex ∙ z

  pub room_more : x ≡ 0 → h < n
  room_more z = numbers_less (node TOP a v) g.numbers g.top_fit (new_is z)

  pub can_assign : x ≡ 0 → CanAssign n h a v t
  can_assign z = record { few = g.few; room = g.room; less = room_more z; fit = g.fit; top_fit = rw et g.top_fit }

module _ {n k : ℕ} {a : List ℕ} (g : CanNumberActives n k a) where
  pub actives_none : NumberingActives n k a 0 0 a
  actives_none = record { rest = only_none n a; actives = active_none g.none }

  module _ {i h v : ℕ} {w : List ℕ} (s : NumberingActives n k a i h w) (l : i < k) (ev : v ≡ node ACTIVE w i) where
    v_is : v ≡ node ACTIVE a i
    v_is = ev ∙ ap (λ f. f i) (s.rest.nodes ACTIVE (omega arith) refl)

    e6 : node TOP w ≡ node TOP a
    e6 = s.rest.nodes TOP (omega arith) refl

    pub actives_more : {w' : List ℕ} {h' : ℕ} → ActiveStep n h v w w' h' → NumberingActives n k a (i + 1) h' w'
    actives_more {w'} {h'} = ⊎_elim
        (λ (e, eh, old). rw (e, eh) (record { rest = s.rest; actives = active_skip s.actives (g.active i l) (g.top_fit (node ACTIVE a i) (g.active i l)) (rw (e6, v_is) at old) }))
        (λ f. rw f.more (record {
          rest = only_then s.rest f.rest;
          actives = rw (f.numbers, f.reps, f.lives, e6, v_is) (active_new s.actives (g.active i l) (g.top_fit (node ACTIVE a i) (g.active i l)) (rw (e6, v_is) at f.new));
        }))

module _ {n h₀ : ℕ} {a : List ℕ} (g : CanNumberOthers n h₀ a) where
  module _ {v h : ℕ} {w : List ℕ} (s : NumberingOthers n h₀ a v h w) (l : v < n) where
    f4 : node POSITION w ≡ node POSITION a
    f4 = s.rest.nodes POSITION (omega arith) refl

    f6 : node TOP w ≡ node TOP a
    f6 = s.rest.nodes TOP (omega arith) refl

    f9 : node OTHER w ≡ node OTHER a
    f9 = s.rest.nodes OTHER (omega arith) refl

    pub others_more : {w' : List ℕ} {h' : ℕ} → OtherStep n h v w w' h' → NumberingOthers n h₀ a (v + 1) h' w'
    others_more {w'} {h'} = ⊎_elim
        (λ (e, eh, old). rw (e, eh) (record { rest = s.rest; others = other_skip s.others (rw (f4, f6, f9) at old) }))
        (λ f. rw f.more (record {
          rest = only_then s.rest f.is.rest;
          others = rw (f.is.numbers, f.is.reps, f6) (other_new s.others l (g.top_fit v l) (rw f4 at f.seen) (rw (f6, f9) at f.two) (rw f6 at f.new));
        }))
