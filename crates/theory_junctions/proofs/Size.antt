-- The size of the reduced graph: with q roots, all active, a active junctions that are no roots, and b classes with an active top, it has at most q + 3a - b junctions and 4a - 2b edges.
-- In order: counts, also over appended lists; each class at most once below a junction; one class; all classes; the bound.
-- Assumes nothing.
use Prim.Native.Nat.{◌*◌, ◌+◌, ◌≤◌, suc, ℕ}
use mathlib.Core.Bool.{Bool, ◌&&◌, ◌||◌, cond, false, not, true}
use mathlib.Core.List.{List, Memᴰ, [], ◌++◌, ◌∷◌}
use mathlib.Core.Logic.{inl, inr}
use mathlib.Core.Path.{◌∙◌, ◌≡◌, ap, ap₂, refl, subst, sym}
use lib.Dec.{eqb}
use lib.ListN.{length, length-append}
use native.Mathlib.Omega.{arith}
use borrow.Author.Tests.{eqb-false, eqb-true, ne_eqb}
use Rattle.theory_graph.proofs.Booleans.{contradict, on_bool}
use Rattle.theory_graph.proofs.Lists.{filter_true, mem_append}
use Rattle.theory_graph.specs.Graph.{Edge, NodeSet}
use Rattle.theory_graph.specs.Lists.{Distinct, any, filter}
use Rattle.theory_junctions.specs.Blocks.{chain, closing, cycle}
use Rattle.theory_junctions.specs.Classes.{Class, classes_below, closed_cycles, count, members_of, own_cycles, own_members, shares, tick}

-- ---- counts
pub filter_count : (f : ℕ → Bool) (xs : List ℕ) → length (filter f xs) ≡ count f xs
filter_count f [] = refl
filter_count f (x ∷ xs) = go (f x) (filter_count f xs)
  where
    go : (b : Bool) → length (filter f xs) ≡ count f xs → length (cond b (x ∷ filter f xs) (filter f xs)) ≡ tick b + count f xs
    go true h = omega arith
    go false h = omega arith

count_append : (f : ℕ → Bool) (xs ys : List ℕ) → count f (xs ++ ys) ≡ count f xs + count f ys
count_append f [] ys = omega arith
count_append f (x ∷ xs) ys = omega (arith, count_append f xs ys)

count_both : (f : ℕ → Bool) (xs : List ℕ) → length xs ≡ count f xs + count (λ x. not (f x)) xs
count_both f [] = refl
count_both f (x ∷ xs) = go (f x) (count_both f xs)
  where
    go : (b : Bool) → length xs ≡ count f xs + count (λ x. not (f x)) xs → suc (length xs) ≡ (tick b + count f xs) + (tick (not b) + count (λ x. not (f x)) xs)
    go true h = omega arith
    go false h = omega arith

chain_length : (t : ℕ) (us : List ℕ) → length (chain t us) ≡ length us
chain_length t [] = refl
chain_length t (u ∷ us) = ap suc (chain_length u us)

-- n, or 0 where b holds
abbrev unless : Bool → ℕ → ℕ
unless true n = 0
unless false n = n

unless_zero : (b : Bool) → unless b 0 ≡ 0
unless_zero true = refl
unless_zero false = refl

unless_add : (b : Bool) (m n : ℕ) → unless b (m + n) ≡ unless b m + unless b n
unless_add true m n = refl
unless_add false m n = refl

unless_tick : (a b : Bool) → unless a (tick b) ≤ 1
unless_tick true b = omega arith
unless_tick false true = omega arith
unless_tick false false = omega arith

module _ (K : NodeSet) (par : ℕ → ℕ) where
  -- the classes below the idle entries of a list
  under : List Class → List ℕ → ℕ
  under cs [] = 0
  under cs (v ∷ vs) = unless (K v) (classes_below par cs v) + under cs vs

  under_append : (cs : List Class) (xs ys : List ℕ) → under cs (xs ++ ys) ≡ under cs xs + under cs ys
  unfolding under
  under_append cs [] ys = omega arith
  under_append cs (x ∷ xs) ys = omega (arith, under_append cs xs ys)

  -- the classes with an active top
  abbrev pub active_tops : List Class → ℕ
  active_tops [] = 0
  active_tops (c ∷ cs) = tick (K (par c.0)) + active_tops cs

  -- one class is below one idle entry at most, and below none where its top is active
  hits : ℕ → List ℕ → ℕ
  hits t [] = 0
  hits t (v ∷ vs) = unless (K v) (tick (eqb t v)) + hits t vs

  hits_none : (t : ℕ) (vs : List ℕ) → ((v : ℕ) → Memᴰ v vs → K v ≡ false → t ≡ v → ⊥) → hits t vs ≡ 0
  unfolding hits
  hits_none t [] f = refl
  hits_none t (v ∷ vs) f =
      let z : unless (K v) (tick (eqb t v)) ≡ 0 = on_bool (K v)
      (λ a. ap (λ b. unless b (tick (eqb t v))) a)
      (λ a. ap₂ (λ b s. unless b (tick s)) a (ne_eqb t v (f v (Memᴰ.head refl) a))) in
      omega (arith, hits_none t vs (λ w m. f w (Memᴰ.tail m)))

  hits_one : (t : ℕ) (vs : List ℕ) → Distinct vs → hits t vs ≤ 1
  unfolding hits
  hits_one t [] d = omega arith
  hits_one t (v ∷ vs) d =
      on_bool (eqb t v)
      (λ e. omega (arith, unless_tick (K v) (eqb t v), hits_none t vs (λ w m i j. d.0 (subst (λ (s : ℕ). Memᴰ s vs) (sym j ∙ eqb-true t v e) m))))
      (λ e. let z : unless (K v) (tick (eqb t v)) ≡ 0 = ap (λ s. unless (K v) (tick s)) e ∙ unless_zero (K v) in omega (arith, hits_one t vs d.1))

  under_none : (vs : List ℕ) → under [] vs ≡ 0
  unfolding under
  under_none [] = refl
  under_none (v ∷ vs) = omega (arith, unless_zero (K v), under_none vs)

  under_more : (c : Class) (cs : List Class) (vs : List ℕ) → under (c ∷ cs) vs ≡ hits (par c.0) vs + under cs vs
  unfolding under hits
  under_more c cs [] = refl
  under_more c cs (v ∷ vs) = omega (arith, under_more c cs vs, unless_add (K v) (tick (eqb (par c.0) v)) (classes_below par cs v))

  under_few : (cs : List Class) (vs : List ℕ) → Distinct vs → under cs vs + active_tops cs ≤ length cs
  under_few [] vs d = omega (arith, under_none vs)
  under_few (c ∷ cs) vs d =
      let h : hits (par c.0) vs + tick (K (par c.0)) ≤ 1 = on_bool (K (par c.0))
      (λ a. omega (arith, ap tick a, hits_none (par c.0) vs (λ v m i j. contradict a (ap K j ∙ i))))
      (λ a. omega (arith, ap tick a, hits_one (par c.0) vs d)) in
      omega (arith, under_more c cs vs, under_few cs vs d)

  -- each idle entry has a class below it
  abbrev pub Supported : List Class → List ℕ → Type 0
  Supported cs vs = (v : ℕ) → Memᴰ v vs → K v ≡ false → 1 ≤ classes_below par cs v

  under_enough : (cs : List Class) (vs : List ℕ) → Supported cs vs → count (λ v. not (K v)) vs ≤ under cs vs
  unfolding under
  under_enough cs [] f = omega arith
  under_enough cs (v ∷ vs) f = omega (arith, under_enough cs vs (λ w m. f w (Memᴰ.tail m)), go (K v) (f v (Memᴰ.head refl)))
    where
      go : (a : Bool) → (a ≡ false → 1 ≤ classes_below par cs v) → tick (not a) ≤ unless a (classes_below par cs v)
      go true h = omega arith
      go false h = omega (arith, h refl)

  -- ---- one class
  abbrev own : List Class → ℕ → List ℕ → List ℕ
  own cs n us = filter (λ v. not (shares K par cs (n, us) v)) us

  abbrev written : List Class → ℕ → List ℕ → List Edge
  written cs n us = cond (any (shares K par cs (n, us)) us) [] (cycle (par n) us)

  any_none : (us : List ℕ) → any (λ u. false) us ≡ false
  any_none [] = refl
  any_none (u ∷ us) = any_none us

  class_members : (cs : List Class) (n : ℕ) (us : List ℕ) → 1 ≤ length us → Supported cs us
      → length (own cs n us) + (count (λ v. not (K v)) us + 2) ≤ under cs us + (2 * length us + (tick (K (par n)) + count K us))
  unfolding under
  class_members cs n [] l f = absurd (omega arith)
  class_members cs n (v ∷ []) l f = go (K v) (K (par n)) (eqb m 1) (f v (Memᴰ.head refl)) (eqb-false m 1)
    where
      m : ℕ
      m = classes_below par cs v

      go : (a b s : Bool) → (a ≡ false → 1 ≤ m) → (s ≡ false → ¬ (m ≡ 1))
          → length (cond (not (not a && (not b && s))) (v ∷ []) []) + ((tick (not a) + 0) + 2) ≤ (unless a m + 0) + (2 * 1 + (tick b + (tick a + 0)))
      go true b s f h = omega arith
      go false true s f h = omega (arith, f refl)
      go false false true f h = omega (arith, f refl)
      go false false false f h = let o : ¬ (m ≡ 1) = h refl in omega (arith, f refl)
  class_members cs n (v ∷ w ∷ us) l f =
      let e : length (own cs n (v ∷ w ∷ us)) ≡ length (v ∷ w ∷ us) = ap (λ xs. length xs) (filter_true (v ∷ w ∷ us)) in
      let i = under_enough cs (v ∷ w ∷ us) f in
      omega (arith, count_both K (v ∷ w ∷ us))

  class_edges : (cs : List Class) (n : ℕ) (us : List ℕ) → 1 ≤ length us → length (written cs n us) + 1 ≤ length (own cs n us) + length us
  class_edges cs n [] l = absurd (omega arith)
  class_edges cs n (v ∷ []) l = go (shares K par cs (n, v ∷ []) v)
    where
      go : (x : Bool) → length {A = Edge} (cond (x || false) [] ((par n, v) ∷ [])) + 1 ≤ length (cond (not x) (v ∷ []) []) + 1
      go true = omega arith
      go false = omega arith
  class_edges cs n (v ∷ w ∷ us) l =
      let e : length (own cs n (v ∷ w ∷ us)) ≡ length (v ∷ w ∷ us) = ap (λ xs. length xs) (filter_true (v ∷ w ∷ us)) in
      let d : length (written cs n (v ∷ w ∷ us)) ≡ length (cycle (par n) (v ∷ w ∷ us)) = ap (λ b. length (cond b [] (cycle (par n) (v ∷ w ∷ us)))) (any_none (v ∷ w ∷ us)) in
      omega (arith, length-append (chain (par n) (v ∷ w ∷ us)) (closing (par n) (v ∷ w ∷ us)), chain_length (par n) (v ∷ w ∷ us))

  -- ---- all classes
  abbrev pub NonEmpty : List Class → Type 0
  NonEmpty cs = (c : Class) → Memᴰ c cs → 1 ≤ length c.1

  members_sum : (cs ds : List Class) → NonEmpty ds → Supported cs (members_of ds)
      → length (own_members K par cs ds) + (count (λ v. not (K v)) (members_of ds) + 2 * length ds) ≤ under cs (members_of ds) + (2 * length (members_of ds) + (active_tops ds + count K (members_of ds)))
  unfolding under
  members_sum cs [] e f = omega arith
  members_sum cs (c ∷ ds) e f =
      omega (
        arith,
        class_members cs c.0 c.1 (e c (Memᴰ.head refl)) (λ v m. f v (mem_append c.1 (members_of ds) (inl m))),
        members_sum cs ds (λ d m. e d (Memᴰ.tail m)) (λ v m. f v (mem_append c.1 (members_of ds) (inr m))),
        length-append (own cs c.0 c.1) (own_members K par cs ds),
        length-append c.1 (members_of ds),
        count_append K c.1 (members_of ds),
        count_append (λ v. not (K v)) c.1 (members_of ds),
        under_append cs c.1 (members_of ds),
      )

  edges_sum : (cs ds : List Class) → NonEmpty ds → length (own_cycles K par cs ds) + length ds ≤ length (own_members K par cs ds) + length (members_of ds)
  edges_sum cs [] e = omega arith
  edges_sum cs (c ∷ ds) e =
      omega (
        arith,
        class_edges cs c.0 c.1 (e c (Memᴰ.head refl)),
        edges_sum cs ds (λ d m. e d (Memᴰ.tail m)),
        length-append (own cs c.0 c.1) (own_members K par cs ds),
        length-append c.1 (members_of ds),
        length-append (written cs c.0 c.1) (own_cycles K par cs ds),
      )

  -- ---- the edges counted as a program counts them: one for each member with a number of its own, and one for each closed cycle
  class_written : (cs : List Class) (n : ℕ) (us : List ℕ) → 1 ≤ length us → length (written cs n us) ≡ length (own cs n us) + length (closing 0 us)
  class_written cs n [] l = absurd (omega arith)
  class_written cs n (v ∷ []) l = go (shares K par cs (n, v ∷ []) v)
    where
      go : (x : Bool) → length {A = Edge} (cond (x || false) [] ((par n, v) ∷ [])) ≡ length (cond (not x) (v ∷ []) []) + 0
      go true = refl
      go false = refl
  class_written cs n (v ∷ w ∷ us) l =
      let e : length (own cs n (v ∷ w ∷ us)) ≡ length (v ∷ w ∷ us) = ap (λ xs. length xs) (filter_true (v ∷ w ∷ us)) in
      let d : length (written cs n (v ∷ w ∷ us)) ≡ length (cycle (par n) (v ∷ w ∷ us)) = ap (λ b. length (cond b [] (cycle (par n) (v ∷ w ∷ us)))) (any_none (v ∷ w ∷ us)) in
      omega (arith, length-append (chain (par n) (v ∷ w ∷ us)) (closing (par n) (v ∷ w ∷ us)), chain_length (par n) (v ∷ w ∷ us))

  pub edges_count : (cs ds : List Class) → NonEmpty ds → length (own_cycles K par cs ds) ≡ length (own_members K par cs ds) + closed_cycles ds
  edges_count cs [] e = refl
  edges_count cs (c ∷ ds) e =
      omega (
        arith,
        class_written cs c.0 c.1 (e c (Memᴰ.head refl)),
        edges_count cs ds (λ d m. e d (Memᴰ.tail m)),
        length-append (own cs c.0 c.1) (own_members K par cs ds),
        length-append (written cs c.0 c.1) (own_cycles K par cs ds),
      )

  -- ---- the bound
  module _ (cs : List Class) (e : NonEmpty cs) (d : Distinct (members_of cs)) (f : Supported cs (members_of cs)) where
    pub members_bound : length (own_members K par cs cs) + active_tops cs ≤ 3 * count K (members_of cs)
    members_bound =
        omega (
          arith,
          members_sum cs cs e f,
          count_both K (members_of cs),
          under_few cs (members_of cs) d,
          under_enough cs (members_of cs) f,
        )

    pub edges_bound : length (own_cycles K par cs cs) + 2 * active_tops cs ≤ 4 * count K (members_of cs)
    edges_bound =
        omega (
          arith,
          members_bound,
          edges_sum cs cs e,
          count_both K (members_of cs),
          under_few cs (members_of cs) d,
          under_enough cs (members_of cs) f,
        )
