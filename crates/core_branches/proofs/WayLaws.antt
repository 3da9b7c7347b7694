-- Laws of the way up from a class: over functions first, then at the words.
-- Assumes nothing.
use Prim.Native.Nat.{◌*◌, ◌+◌, ◌-◌, ◌<◌, ◌≤◌, min, suc, zero, ℕ}
use mathlib.Core.Bool.{cond, false}
use mathlib.Core.List.{List, [], ◌∷◌}
use mathlib.Core.Logic.{⊎_elim}
use mathlib.Core.Path.{◌∙◌, ◌≡◌, ap, refl, sym}
use lib.Dec.{eqb}
use native.Mathlib.Omega.{arith}
use borrow.Author.Tests.{eqb-true}
use Rattle.core_branches.specs.Ways.{CanGoUp, CanSetParents, ClassAbove, ParentLoop, ParentStep, ParentWays, SteppedUp}
use Rattle.core_branches.specs.Ways.{WayTree, way_from, way_up}
use Rattle.theory_graph.proofs.Booleans.{on_bool}
use Rattle.theory_graph.proofs.SpanningForest.{on_eq}
use Rattle.theory_graph.specs.Lists.{member}
use Rattle.core_words.proofs.ChangeLaws.{only_then}
use Rattle.core_words.proofs.FieldLaws.{update_at}
use Rattle.core_words.specs.Fields.{ABOVE, EDGE, LEAST, MEMBER, NAME, NUMBER, PARENT, POSITION, TOP, half, node}

-- ---- over functions
-- `near` of a top is one more than the number of the nearest kept class at or above
pub record NearestNumbers (n : ℕ) (pos par te top nr near : ℕ → ℕ) : Type 0 where
  pub numbered : (c : ℕ) → c < n → 0 < pos c → top c ≡ c → ¬ (nr c ≡ 0) → near c ≡ nr c
  pub up : (c : ℕ) → c < n → 0 < pos c → top c ≡ c → ¬ (te c ≡ 0) → nr c ≡ 0 → near c ≡ near (top (par c))

-- `up` of a number is that of the class above its class, 0 at a root's
pub record ParentNumbers (i : ℕ) (par te top near rep up : ℕ → ℕ) : Type 0 where
  pub none : (x : ℕ) → x < i → te (top (rep x)) ≡ 0 → up x ≡ 0
  pub some : (x : ℕ) → x < i → ¬ (te (top (rep x)) ≡ 0) → up x ≡ near (top (par (top (rep x))))

module _ {n m : ℕ} (nm : ℕ → ℕ) {pos par te top nr : ℕ → ℕ} (T : WayTree n m pos par te top nr) where
  abbrev from : ℕ → ℕ → ℕ × ℕ
  from = way_from nm par te top nr

  abbrev pub way : ℕ → ℕ × ℕ
  way c = from (pos c) c

  abbrev past : ℕ → ℕ × ℕ → ℕ × ℕ
  past c w = (w.0, min (nm (2 * (te c - 1))) w.1)

  -- the number of classes does not matter where it is enough
  enough : (i j c : ℕ) → pos c ≤ i → pos c ≤ j → c < n → 0 < pos c → ¬ (te c ≡ 0) → from i c ≡ from j c
  enough zero j c a b l p ne = absurd (omega arith)
  enough (suc i) zero c a b l p ne = absurd (omega arith)
  enough (suc i) (suc j) c a b l p ne =
      let k = T.above c l p ne in
      on_bool (eqb (nr (top (par c))) 0)
      (λ e.
      let nq = T.no_root (top (par c)) k.fit k.seen k.flat (eqb-true (nr (top (par c))) 0 e) in
      rw e (ap (past c) (enough i j (top (par c)) (omega (arith, k.earlier)) (omega (arith, k.earlier)) k.fit k.seen nq)))
      (λ e. rw e refl)

  module _ (c : ℕ) (l : c < n) (p : 0 < pos c) (ne : ¬ (te c ≡ 0)) where
    more : way c ≡ from (suc (pos c)) c
    more = enough (pos c) (suc (pos c)) c (omega arith) (omega arith) l p ne

    -- it ends at a class with a number
    pub way_there : ¬ (nr (top (par c)) ≡ 0) → way c ≡ (nr (top (par c)), nm (2 * (te c - 1)))
    way_there nz = more ∙ on_bool (eqb (nr (top (par c))) 0) (λ e. absurd (nz (eqb-true (nr (top (par c))) 0 e))) (λ e. rw e refl)

    -- and goes on from one without
    pub way_over : nr (top (par c)) ≡ 0 → way c ≡ ((way (top (par c))).0, min (nm (2 * (te c - 1))) (way (top (par c))).1)
    way_over z =
        let k = T.above c l p ne in
        let nq = T.no_root (top (par c)) k.fit k.seen k.flat z in
        more ∙ rw z (ap (past c) (enough (pos c) (pos (top (par c))) (top (par c)) (omega (arith, k.earlier)) (omega arith) k.fit k.seen nq))

  abbrev pub nearest : ℕ → ℕ
  nearest c = cond (eqb (nr c) 0) (way c).0 (nr c)

  nearest_own : (c : ℕ) → ¬ (nr c ≡ 0) → nearest c ≡ nr c
  nearest_own c ne = on_bool (eqb (nr c) 0) (λ e. absurd (ne (eqb-true (nr c) 0 e))) (λ e. rw e refl)

  -- the number on the way up is that of the nearest kept class at or above the class above
  way_nearest : (c : ℕ) → c < n → 0 < pos c → ¬ (te c ≡ 0) → (way c).0 ≡ nearest (top (par c))
  way_nearest c l p ne = on_eq (nr (top (par c))) 0
      (λ z. ap (λ w. w.0) (way_over c l p ne z) ∙ rw z refl)
      (λ nz. ap (λ w. w.0) (way_there c l p ne nz) ∙ sym (nearest_own (top (par c)) nz))

  pub nearest_numbers : NearestNumbers n pos par te top nr nearest
  nearest_numbers = record {
    numbered = λ c l p t. nearest_own c;
    up = λ c l p t ne z. rw z (way_nearest c l p ne);
  }

  pub parent_numbers : {h : ℕ} {rep up least : ℕ → ℕ} → ((x : ℕ) → x < h → (top (rep x) < n) × (0 < pos (top (rep x))))
      → ParentWays h nm pos par te top nr rep up least → ParentNumbers h par te top nearest rep up
  parent_numbers {rep = rep} fits u = record {
    none = u.none;
    some = λ x l ne. u.some x l ne ∙ way_nearest (top (rep x)) (fits x l).0 (fits x l).1 ne;
  }

-- ---- at the words, the whole way: at the top q, whose class has the number x - 1, or none where x is 0, with c the smallest name so far
pub record GoingUp (n v : ℕ) (w : List ℕ) (q x c : ℕ) : Type 0 where
  pub fit : q < n
  pub seen : 0 < node POSITION w q
  pub flat : node TOP w q ≡ q
  pub number : x ≡ node NUMBER w q
  pub words : (x < 4294967296) × (c < 4294967296)
  pub there : ¬ (x ≡ 0) → way_up n w v ≡ (x, c)
  pub over : x ≡ 0 → way_up n w v ≡ ((way_up n w q).0, min c (way_up n w q).1)

module _ {n m v : ℕ} {w : List ℕ} (g : CanGoUp n m w v) where
  module _ {c q x : ℕ} (s : SteppedUp n w v c q x) where
    above : ClassAbove n (node POSITION w) (node PARENT w) (node TOP w) v
    above = g.tree.above v g.fit g.seen g.some

    pub going_start : GoingUp n v w q x c
    going_start = record {
      fit = rw s.top above.fit;
      seen = rw s.top above.seen;
      flat = rw s.top above.flat;
      number = s.number;
      words = (s.words.1, s.words.0);
      there = λ nz. rw (s.number, s.name, s.top) (way_there (half n NAME w) g.tree v g.fit g.seen g.some (rw (s.number, s.top) at nz));
      over = λ z. rw (s.name, s.top) (way_over (half n NAME w) g.tree v g.fit g.seen g.some (rw (s.number, s.top) at z));
    }

  module _ {q x c : ℕ} (s : GoingUp n v w q x c) (z : x ≡ 0) where
    no_root : ¬ (node EDGE w q ≡ 0)
    no_root = g.tree.no_root q s.fit s.seen s.flat (sym s.number ∙ z)

    module _ {d p y : ℕ} (t : SteppedUp n w q d p y) where
      over_q : ClassAbove n (node POSITION w) (node PARENT w) (node TOP w) q
      over_q = g.tree.above q s.fit s.seen no_root

      pub going_more : {e : ℕ} → e ≡ min c d → GoingUp n v w p y e
      going_more small = record {
        fit = rw t.top over_q.fit;
        seen = rw t.top over_q.seen;
        flat = rw t.top over_q.flat;
        number = t.number;
        words = (t.words.1, omega (arith, t.words.0));
        there = λ nz.
            let k : way_up n w q ≡ (y, d) = rw (t.number, t.name, t.top) (way_there (half n NAME w) g.tree q s.fit s.seen no_root (rw (t.number, t.top) at nz)) in
            s.over z ∙ rw (k, small) refl;
        over = λ zy.
            let k : way_up n w q ≡ ((way_up n w p).0, min d (way_up n w p).1) =
            rw (t.name, t.top) (way_over (half n NAME w) g.tree q s.fit s.seen no_root (rw (t.number, t.top) at zy)) in
            s.over z ∙ rw (k, small) (ap (λ i. ((way_up n w p).0, i)) (min_three c d (way_up n w p).1));
      }
        where
          min_three : (a b d : ℕ) → min a (min b d) ≡ min (min a b) d
          min_three a b d = omega arith

-- ---- from each number
module _ {n m h x : ℕ} {a w : List ℕ} (g : CanSetParents n m h a) (s : ParentLoop n a x w) (l : x < h) where
  hold : (j : ℕ) → j < 16 → member (ABOVE ∷ LEAST ∷ []) j ≡ false → node j w ≡ node j a
  hold = s.rest.nodes

  h4 : node POSITION w ≡ node POSITION a
  h4 = hold POSITION (omega arith) refl

  h5 : node PARENT w ≡ node PARENT a
  h5 = hold PARENT (omega arith) refl

  h6 : node TOP w ≡ node TOP a
  h6 = hold TOP (omega arith) refl

  h10 : node NUMBER w ≡ node NUMBER a
  h10 = hold NUMBER (omega arith) refl

  h11 : node MEMBER w ≡ node MEMBER a
  h11 = hold MEMBER (omega arith) refl

  h13 : node EDGE w ≡ node EDGE a
  h13 = hold EDGE (omega arith) refl

  -- what is above the class of number u
  abbrev over : ℕ → ℕ × ℕ
  over u = way_up n a (node TOP a (node MEMBER a u))

  abbrev edge : ℕ → ℕ
  edge u = node EDGE a (node TOP a (node MEMBER a u))

  pub parents_more : {w' : List ℕ} → ParentStep n x w w' → ParentLoop n a (x + 1) w'
  parents_more {w'} = ⊎_elim
      (λ f.
      let root : edge x ≡ 0 = rw (h11, h6, h13) at f.root in
      record {
        rest = only_then s.rest f.rest;
        ways = rw (f.parents, f.names) (record {
          none = update_at (λ u y. u < x + 1 → edge u ≡ 0 → y ≡ 0) (node ABOVE w) x 0 (λ _ _. refl) (λ u ne b. s.ways.none u (omega arith));
          some = update_at (λ u y. u < x + 1 → ¬ (edge u ≡ 0) → y ≡ (over u).0) (node ABOVE w) x 0 (λ _ ne. absurd (ne root)) (λ u ne b. s.ways.some u (omega arith));
          name = λ u b ne. on_eq u x (λ i. absurd (ne (ap edge i ∙ root))) (λ far. s.ways.name u (omega arith) ne);
        });
      })
      (λ f.
      let some : ¬ (edge x ≡ 0) = rw (h11, h6, h13) at f.some in
      let same : way_up n w (node TOP w (node MEMBER w x)) ≡ over x = rw (h11, h6, h4, h5, h10, h13, s.rest.halves NAME) refl in
      record {
        rest = only_then s.rest f.rest;
        ways = rw (f.parents, f.names, same) (record {
          none = update_at (λ u y. u < x + 1 → edge u ≡ 0 → y ≡ 0) (node ABOVE w) x (over x).0 (λ _ z. absurd (some z)) (λ u ne b. s.ways.none u (omega arith));
          some = update_at (λ u y. u < x + 1 → ¬ (edge u ≡ 0) → y ≡ (over u).0) (node ABOVE w) x (over x).0 (λ _ _. refl) (λ u ne b. s.ways.some u (omega arith));
          name = update_at (λ u y. u < x + 1 → ¬ (edge u ≡ 0) → y ≡ (over u).1) (node LEAST w) x (over x).1 (λ _ _. refl) (λ u ne b. s.ways.name u (omega arith));
        });
      })
