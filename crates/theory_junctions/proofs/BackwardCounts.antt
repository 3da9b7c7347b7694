-- The loop from the last junction to the first that counts, for each class, its relevant members, and for each junction, the classes with relevant members below it.
-- A junction is relevant if it is active or the loop, which has passed all later junctions, has counted a class below it. In order: counts; the loop's question; its steps; its end.
-- Assumes nothing.
use Prim.Native.Nat.{◌+◌, ◌<◌, ℕ}
use mathlib.Core.Bool.{Bool, ◌&&◌, ◌||◌, cond, false, not, true}
use mathlib.Core.List.{List, Memᴰ, [], ◌∷◌}
use mathlib.Core.Path.{◌∙◌, ◌≡◌, ap, ap₂, refl, subst, sym}
use lib.Dec.{eqb, ltb}
use native.Mathlib.Omega.{arith}
use borrow.Author.Tests.{eq-eqb, eqb-true, lt-ltb, ltb-true, ne_eqb, not-true}
use Rattle.theory_graph.proofs.Booleans.{and_elim, bool_iff, contradict, on_bool, or_elim}
use Rattle.theory_graph.proofs.Lists.{filter_in, in_filter}
use Rattle.theory_graph.proofs.SpanningForest.{on_eq}
use Rattle.theory_graph.specs.Graph.{Edge, NodeSet}
use Rattle.theory_graph.specs.Lists.{Distinct, filter}
use Rattle.theory_junctions.proofs.ReduceLaws.{filled, filled_first, rising_distinct}
use Rattle.theory_junctions.proofs.Reduction.{top_pos}
use Rattle.theory_junctions.specs.Blocks.{Blocks, top_of}
use Rattle.theory_junctions.specs.Classes.{classes_below, count, tick}
use Rattle.theory_junctions.specs.Reduce.{Relevance, Search, classes_among, classes_from, classes_in, members_in, none}

-- ---- counts
count_same : (f g : ℕ → Bool) (xs : List ℕ) → ((y : ℕ) → f y ≡ g y) → count f xs ≡ count g xs
count_same f g [] e = refl
count_same f g (x ∷ xs) e = omega (arith, ap tick (e x), count_same f g xs e)

count_off : (f g : ℕ → Bool) (x : ℕ) (xs : List ℕ) → ¬ Memᴰ x xs → ((y : ℕ) → ¬ (y ≡ x) → f y ≡ g y) → count f xs ≡ count g xs
count_off f g x [] n e = refl
count_off f g x (y ∷ xs) n e = omega (arith, ap tick (e y (λ i. n (Memᴰ.head (sym i)))), count_off f g x xs (λ m. n (Memᴰ.tail m)) e)

-- one entry more passes
count_more : (f g : ℕ → Bool) (x : ℕ) (xs : List ℕ) → Distinct xs → Memᴰ x xs → f x ≡ false → g x ≡ true → ((y : ℕ) → ¬ (y ≡ x) → f y ≡ g y) → count g xs ≡ count f xs + 1
count_more f g x [] d x6 a b e = elim x6 [ ]
count_more f g x (y ∷ xs) d (Memᴰ.head i) a b e =
    omega (arith, ap tick (ap f (sym i) ∙ a), ap tick (ap g (sym i) ∙ b), count_off f g x xs (λ m. d.0 (subst (λ (s : ℕ). Memᴰ s xs) i m)) e)
count_more f g x (y ∷ xs) d (Memᴰ.tail m) a b e =
    omega (arith, ap tick (e y (λ i. d.0 (subst (λ (s : ℕ). Memᴰ s xs) (sym i) m))), count_more f g x xs d.1 m a b e)

count_find : (f : ℕ → Bool) (xs : List ℕ) → 0 < count f xs → (c : ℕ) × Memᴰ c xs × (f c ≡ true)
count_find f [] h = absurd (omega arith)
count_find f (x ∷ xs) h =
    on_bool (f x) (λ t. (x, Memᴰ.head refl, t)) λ t. let (c, m, e) = count_find f xs (omega (arith, ap tick t)) in (c, Memᴰ.tail m, e)

count_in : (f : ℕ → Bool) (c : ℕ) (xs : List ℕ) → Memᴰ c xs → f c ≡ true → 0 < count f xs
count_in f c [] x'' e = elim x'' [ ]
count_in f c (x ∷ xs) (Memᴰ.head i) e = omega (arith, ap tick (ap f (sym i) ∙ e))
count_in f c (x ∷ xs) (Memᴰ.tail m) e = omega (arith, count_in f c xs m e)

and_both : (a : Bool) {b : Bool} → b ≡ false → (a && b) ≡ false
and_both true e = e
and_both false e = refl

module _ (E : List Edge) (B : Blocks E) (K rel : NodeSet) (order : List ℕ) (T : Search E B K order) (W : Relevance E B K rel) where
  abbrev below : List ℕ → ℕ → ℕ
  below = classes_among B rel order

  abbrev among : List ℕ → ℕ → List ℕ
  among = members_in B rel

  abbrev holds : ℕ → ℕ → Bool
  holds c u = B.child u && (rel u && eqb (B.first u) c)

  -- the class c has the top t and a member among ds
  abbrev hangs : List ℕ → ℕ → ℕ → Bool
  hangs ds t c = B.child c && (eqb (B.first c) c && not (none (among ds c))) && eqb (B.par c) t

  -- ---- the question: ds has all that come after v
  module _ (v : ℕ) (ds : List ℕ) (after : (w : ℕ) → Memᴰ w order → B.pos v < B.pos w → Memᴰ w ds) where
    pub relevant_counted : (K v || ltb 0 (below ds v)) ≡ rel v
    relevant_counted = bool_iff (K v || ltb 0 (below ds v)) (rel v)
        (λ h. or_elim (K v) (ltb 0 (below ds v)) h (W.active v) λ l.
        let (c, m, p) = count_find (hangs ds v) order (ltb-true 0 (below ds v) l) in
        and_elim (B.child c && (eqb (B.first c) c && not (none (among ds c)))) (eqb (B.par c) v) p λ q e.
        and_elim (B.child c) (eqb (B.first c) c && not (none (among ds c))) q λ cc r.
        and_elim (eqb (B.first c) c) (not (none (among ds c))) r λ i j.
        let (u, o) = filled_first (among ds c) (not-true (none (among ds c)) j) in
        let (k, s) = filter_in (holds c) u ds o in
        and_elim (B.child u) (rel u && eqb (B.first u) c) s λ cu t. and_elim (rel u) (eqb (B.first u) c) t λ ru fu.
        ap rel (sym (ap B.par (eqb-true (B.first u) c fu) ∙ eqb-true (B.par c) v e)) ∙ W.top u ru cu)
        (λ r. on_bool (K v) (λ k. ap (λ b. b || ltb 0 (below ds v)) k) λ k.
        let (u, cu, e, ru) = W.cause v r k in
        let d = B.first_child u cu in
        let m = after u (T.seen_listed u (B.child_seen u cu)) (omega (arith, top_pos E B u cu, ap B.pos e)) in
        let o = in_filter (holds (B.first u)) u ds m (ap₂ ◌&&◌ cu (ap₂ ◌&&◌ ru (eq-eqb (B.first u) (B.first u) refl))) in
        let p : hangs ds v (B.first u) ≡ true = ap₂ ◌&&◌ (ap₂ ◌&&◌ d (ap₂ ◌&&◌ (eq-eqb (B.first (B.first u)) (B.first u) (B.first_first u cu)) (ap not (filled u (among ds (B.first u)) o)))) (eq-eqb (B.par (B.first u)) v e) in
        ap₂ ◌||◌ k (lt-ltb 0 (below ds v) (count_in (hangs ds v) (B.first u) order (T.seen_listed (B.first u) (B.child_seen (B.first u) d)) p)))

  -- ---- the steps
  -- a class that does not hold v
  still : (v : ℕ) (ds : List ℕ) (c : ℕ) → holds c v ≡ false → among (v ∷ ds) c ≡ among ds c
  still v ds c h = ap (λ b. cond b (v ∷ among ds c) (among ds c)) h

  hangs_still : (v : ℕ) (ds : List ℕ) (t c : ℕ) → holds c v ≡ false → hangs ds t c ≡ hangs (v ∷ ds) t c
  hangs_still v ds t c h = ap (λ l. B.child c && (eqb (B.first c) c && not (none l)) && eqb (B.par c) t) (sym (still v ds c h))

  not_held : (v c : ℕ) → ¬ (c ≡ B.first v) → holds c v ≡ false
  not_held v c n = and_both (B.child v) (and_both (rel v) (ne_eqb (B.first v) c (λ e. n (sym e))))

  -- v is a root, or not relevant
  pub step_none : (v : ℕ) (ds : List ℕ) → (B.child v && rel v) ≡ false → ((c : ℕ) → among (v ∷ ds) c ≡ among ds c) × ((t : ℕ) → below (v ∷ ds) t ≡ below ds t)
  step_none v ds h = (λ c. still v ds c (off c), λ t. sym (count_same (hangs ds t) (hangs (v ∷ ds) t) order (λ c. hangs_still v ds t c (off c))))
    where
      go : (a b c : Bool) → (a && b) ≡ false → (a && (b && c)) ≡ false
      go true true c e = contradict refl e
      go true false c e = refl
      go false b c e = refl

      off : (c : ℕ) → holds c v ≡ false
      off c = go (B.child v) (rel v) (eqb (B.first v) c) h

  module _ (v : ℕ) (ds : List ℕ) (cv : B.child v ≡ true) (rv : rel v ≡ true) where
    held : holds (B.first v) v ≡ true
    held = ap₂ ◌&&◌ cv (ap₂ ◌&&◌ rv (eq-eqb (B.first v) (B.first v) refl))

    -- a relevant junction with a parent is one more member of its class
    pub step_members : among (v ∷ ds) (B.first v) ≡ v ∷ among ds (B.first v)
    step_members = ap (λ b. cond b (v ∷ among ds (B.first v)) (among ds (B.first v))) held

    pub step_others : (c : ℕ) → ¬ (c ≡ B.first v) → among (v ∷ ds) c ≡ among ds c
    step_others c n = still v ds c (not_held v c n)

    -- its class had a member: the classes below stay
    pub step_counted : none (among ds (B.first v)) ≡ false → (t : ℕ) → below (v ∷ ds) t ≡ below ds t
    step_counted h t = sym (count_same (hangs ds t) (hangs (v ∷ ds) t) order (λ c. on_eq c (B.first v) (λ e. here c e) (λ n. hangs_still v ds t c (not_held v c n))))
      where
        here : (c : ℕ) → c ≡ B.first v → hangs ds t c ≡ hangs (v ∷ ds) t c
        here c e =
            let a : none (among ds c) ≡ false = ap (λ s. none (among ds s)) e ∙ h in
            let b : none (among (v ∷ ds) c) ≡ false = ap (λ s. none (among (v ∷ ds) s)) e ∙ ap none step_members in
            ap (λ l. B.child c && (eqb (B.first c) c && not l) && eqb (B.par c) t) (a ∙ sym b)

    -- its class had none: one class more below its top
    pub step_first : none (among ds (B.first v)) ≡ true → (t : ℕ) → below (v ∷ ds) t ≡ below ds t + tick (eqb (top_of B v) t)
    step_first h t =
        on_bool (eqb (top_of B v) t)
        (λ e.
        let d = B.first_child v cv in
        let p : hangs ds t (B.first v) ≡ false = ap (λ b. b && eqb (top_of B v) t) (and_both (B.child (B.first v)) (and_both (eqb (B.first (B.first v)) (B.first v)) (ap not h))) in
        let q : hangs (v ∷ ds) t (B.first v) ≡ true = ap₂ ◌&&◌ (ap₂ ◌&&◌ d (ap₂ ◌&&◌ (eq-eqb (B.first (B.first v)) (B.first v) (B.first_first v cv)) (ap (λ l. not (none l)) step_members))) e in
        count_more (hangs ds t) (hangs (v ∷ ds) t) (B.first v) order (rising_distinct B.pos order T.rises) (T.seen_listed (B.first v) (B.child_seen (B.first v) d)) p q (λ c n. hangs_still v ds t c (not_held v c n))
        ∙ ap (λ b. below ds t + tick b) (sym e))
        (λ e.
        let s = count_same (hangs ds t) (hangs (v ∷ ds) t) order (λ c. on_eq c (B.first v)
        (λ i. let z : eqb (B.par c) t ≡ false = ap (λ s. eqb (B.par s) t) i ∙ e in
        and_both (B.child c && (eqb (B.first c) c && not (none (among ds c)))) z ∙ sym (and_both (B.child c && (eqb (B.first c) c && not (none (among (v ∷ ds) c)))) z))
        (λ n. hangs_still v ds t c (not_held v c n))) in
        omega (arith, ap tick e))

  -- ---- the beginning and the end
  pub start_none : (t : ℕ) → below [] t ≡ 0
  start_none t = go order
    where
      go : (xs : List ℕ) → count (hangs [] t) xs ≡ 0
      go [] = refl
      go (x ∷ xs) = omega (arith, ap tick (ap (λ b. b && eqb (B.par x) t) (and_both (B.child x) (and_both (eqb (B.first x) x) refl))), go xs)

  -- after all junctions the counts are those of the classes
  pub end_counted : (t : ℕ) → classes_below B.par (classes_in B rel order) t ≡ below order t
  end_counted t = go order
    where
      f : ℕ → Bool
      f c = B.child c && (eqb (B.first c) c && not (none (among order c)))

      go : (xs : List ℕ) → classes_below B.par (classes_from B rel order (filter f xs)) t ≡ count (λ c. f c && eqb (B.par c) t) xs
      go [] = refl
      go (x ∷ xs) = one (f x) (go xs)
        where
          one : (b : Bool) → classes_below B.par (classes_from B rel order (filter f xs)) t ≡ count (λ c. f c && eqb (B.par c) t) xs
              → classes_below B.par (classes_from B rel order (cond b (x ∷ filter f xs) (filter f xs))) t ≡ tick (b && eqb (B.par x) t) + count (λ c. f c && eqb (B.par c) t) xs
          one true h = omega arith
          one false h = omega arith
