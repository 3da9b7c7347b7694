-- What specs/Reduce computes is a reduced graph. In order: the way up; orders; a set of relevant junctions; the classes; the members that share a number.
-- Assumes nothing.
use Prim.Native.Nat.{◌<◌, ◌≤◌, suc, zero, ℕ}
use mathlib.Core.Bool.{Bool, ◌&&◌, ◌||◌, cond, false, not, true}
use mathlib.Core.List.{List, Memᴰ, [], ◌++◌, ◌∷◌}
use mathlib.Core.Logic.{◌⊎◌, inl, inr}
use mathlib.Core.Path.{◌∙◌, ◌≡◌, ap, ap₂, refl, subst, sym}
use lib.Dec.{eqb}
use lib.ListN.{length}
use native.Mathlib.Omega.{arith}
use borrow.Author.Tests.{eq-eqb, eqb-true, not-true}
use Rattle.theory_graph.proofs.Booleans.{and_elim, contradict, on_bool, or_elim}
use Rattle.theory_graph.proofs.DistinctLists.{distinct_filter, distinct_join, split_mem}
use Rattle.theory_graph.proofs.Lists.{any_find, any_in, filter_in, in_filter, mem_append, mem_member, member_mem}
use Rattle.theory_graph.proofs.SpanningForest.{on_eq}
use Rattle.theory_graph.specs.Graph.{Edge, NodeSet}
use Rattle.theory_graph.specs.Lists.{Distinct, filter, member}
use Rattle.theory_junctions.proofs.Reduced.{below_some, class_members, member_class}
use Rattle.theory_junctions.proofs.Reduction.{top_pos}
use Rattle.theory_junctions.specs.Blocks.{Blocks, top_of}
use Rattle.theory_junctions.specs.Classes.{Class, ClassList, Falling, Shared, members_of, names_of, shares}
use Rattle.theory_junctions.specs.Reduce.{Relevance, Rising, Search, backwards, classes_from, classes_in, members_in, names_in, none, passes, relevant_to, roots_in, shared_in, shares_top}

-- ---- Booleans
or_right : (a : Bool) {b : Bool} → b ≡ true → (a || b) ≡ true
or_right true e = refl
or_right false e = e

-- ---- the way up
module _ (E : List Edge) (B : Blocks E) where
  passes_self : (n k : ℕ) → passes B (suc n) k k ≡ true
  passes_self n k = ap (λ b. b || B.child k && passes B n (top_of B k) k) (eq-eqb k k refl)

  passes_next : (n k v : ℕ) → B.child k ≡ true → passes B n (top_of B k) v ≡ true → passes B (suc n) k v ≡ true
  passes_next n k v c h = or_right (eqb k v) (ap₂ ◌&&◌ c h)

  on_passes : {A : Type 0} (n k v : ℕ) → passes B (suc n) k v ≡ true → (k ≡ v → A) → (B.child k ≡ true → passes B n (top_of B k) v ≡ true → A) → A
  on_passes n k v h f g = or_elim _ _ h (λ e. f (eqb-true k v e)) (λ e. and_elim _ _ e g)

  -- it goes on to the top of what it passes
  passes_top : (n k v : ℕ) → B.pos k < n → passes B n k v ≡ true → B.child v ≡ true → passes B n k (top_of B v) ≡ true
  passes_top zero k v l h c = absurd (omega arith)
  passes_top (suc n) k v l h c =
      on_passes n k v h
      (λ e.
      let d : B.child k ≡ true = ap B.child e ∙ c in
      let t : top_of B k ≡ top_of B v = ap (λ u. B.par (B.first u)) e in
      passes_next n k (top_of B v) d (subst (λ (u : ℕ). passes B n (top_of B k) u ≡ true) t (here n (top_of B k) (omega (arith, top_pos E B k d)))))
      (λ d p. passes_next n k (top_of B v) d (passes_top n (top_of B k) v (omega (arith, top_pos E B k d)) p c))
    where
      here : (m t : ℕ) → B.pos t < m → passes B m t t ≡ true
      here zero t l = absurd (omega arith)
      here (suc m) t l = passes_self m t

  -- what it passes, it reaches from a class below
  passes_from : (n k v : ℕ) → passes B n k v ≡ true → ¬ (k ≡ v) → (u : ℕ) × (B.child u ≡ true) × (top_of B u ≡ v) × (passes B n k u ≡ true)
  passes_from zero k v h ne = contradict h refl
  passes_from (suc n) k v h ne =
      on_passes n k v h (λ e. absurd (ne e)) λ c p.
      on_eq (top_of B k) v
      (λ e. (k, c, e, passes_self n k))
      (λ o. let (u, d, e, q) = passes_from n (top_of B k) v p o in (u, d, e, passes_next n k u c q))

-- ---- orders
pub rising_distinct : (pos : ℕ → ℕ) (xs : List ℕ) → Rising pos xs → Distinct xs
rising_distinct pos [] r = tt
rising_distinct pos (x ∷ xs) r = (λ m. omega (arith, r.0 x m), rising_distinct pos xs r.1)

rising_filter : (pos : ℕ → ℕ) (f : ℕ → Bool) (xs : List ℕ) → Rising pos xs → Rising pos (filter f xs)
rising_filter pos f [] r = tt
rising_filter pos f (x ∷ xs) r = go (f x) (rising_filter pos f xs r.1)
  where
    go : (b : Bool) → Rising pos (filter f xs) → Rising pos (cond b (x ∷ filter f xs) (filter f xs))
    go true h = (λ w m. r.0 w (filter_in f w xs m).0, h)
    go false h = h

pub backwards_mem : (u : ℕ) (xs : List ℕ) → Memᴰ u (backwards xs) → Memᴰ u xs
backwards_mem u [] m = m
backwards_mem u (x ∷ xs) m = go (split_mem (backwards xs) (x ∷ []) m) (backwards_mem u xs)
  where
    go : Memᴰ u (backwards xs) ⊎ Memᴰ u (x ∷ []) → (Memᴰ u (backwards xs) → Memᴰ u xs) → Memᴰ u (x ∷ xs)
    go (inl n) ih = Memᴰ.tail (ih n)
    go (inr (Memᴰ.head e)) ih = Memᴰ.head e
    go (inr (Memᴰ.tail n)) ih = absurd (elim n [ ])

pub mem_backwards : (u : ℕ) (xs : List ℕ) → Memᴰ u xs → Memᴰ u (backwards xs)
mem_backwards u [] x' = elim x' [ ]
mem_backwards u (x ∷ xs) (Memᴰ.head e) = mem_append (backwards xs) (x ∷ []) (inr (Memᴰ.head e))
mem_backwards u (x ∷ xs) (Memᴰ.tail m) = mem_append (backwards xs) (x ∷ []) (inl (mem_backwards u xs m))

falling_last : (pos : ℕ → ℕ) (x : ℕ) (xs : List ℕ) → Falling pos xs → ((w : ℕ) → Memᴰ w xs → pos x < pos w) → Falling pos (xs ++ x ∷ [])
falling_last pos x [] f g = (λ w m. absurd (elim m [ ]), tt)
falling_last pos x (y ∷ xs) f g = (λ w m. go w (split_mem xs (x ∷ []) m), falling_last pos x xs f.1 (λ w m. g w (Memᴰ.tail m)))
  where
    go : (w : ℕ) → Memᴰ w xs ⊎ Memᴰ w (x ∷ []) → pos w < pos y
    go w (inl m) = f.0 w m
    go w (inr (Memᴰ.head e)) = omega (arith, g y (Memᴰ.head refl), ap pos e)
    go w (inr (Memᴰ.tail m)) = absurd (elim m [ ])

rising_backwards : (pos : ℕ → ℕ) (xs : List ℕ) → Rising pos xs → Falling pos (backwards xs)
rising_backwards pos [] r = tt
rising_backwards pos (x ∷ xs) r = falling_last pos x (backwards xs) (rising_backwards pos xs r.1) (λ w m. r.0 w (backwards_mem w xs m))

pub filled : (u : ℕ) (xs : List ℕ) → Memᴰ u xs → none xs ≡ false
filled u [] m = elim m [ ]
filled u (x ∷ xs) m = refl

filled_length : (xs : List ℕ) → none xs ≡ false → 1 ≤ length xs
filled_length [] h = contradict refl h
filled_length (x ∷ xs) h = omega arith

pub filled_first : (xs : List ℕ) → none xs ≡ false → (u : ℕ) × Memᴰ u xs
filled_first [] h = contradict refl h
filled_first (x ∷ xs) h = (x, Memᴰ.head refl)

-- ---- a set of relevant junctions
module _ (E : List Edge) (B : Blocks E) (S : List ℕ) where
  -- the junctions that the ways up from active ones pass
  pub relevance : Relevance E B (member S) (relevant_to B S)
  relevance =
      record {
        active = λ k m. any_in (λ j. passes B (suc (B.pos j)) j k) (member_mem S k m) (passes_self E B (B.pos k) k);
        top = λ v r c.
            let (k, m, p) = any_find (λ j. passes B (suc (B.pos j)) j v) S r in
            any_in (λ j. passes B (suc (B.pos j)) j (top_of B v)) m (passes_top E B (suc (B.pos k)) k v (omega arith) p c);
        cause = λ v r i.
            let (k, m, p) = any_find (λ j. passes B (suc (B.pos j)) j v) S r in
            let (u, c, e, q) = passes_from E B (suc (B.pos k)) k v p (λ e. contradict (mem_member v S (subst (λ (s : ℕ). Memᴰ s S) e m)) i) in
            (u, c, e, any_in (λ j. passes B (suc (B.pos j)) j u) m q);
      }

-- ---- the classes
module _ (E : List Edge) (B : Blocks E) (K rel : NodeSet) (order : List ℕ) (T : Search E B K order) (W : Relevance E B K rel) where
  abbrev cs : List Class
  cs = classes_in B rel order

  abbrev test : ℕ → ℕ → Bool
  test c u = B.child u && (rel u && eqb (B.first u) c)

  pub members_are : (c u : ℕ) → Memᴰ u (members_in B rel order c) → Memᴰ u order × (B.child u ≡ true) × (rel u ≡ true) × (B.first u ≡ c)
  members_are c u m = let (k, h) = filter_in (test c) u order m in and_elim _ _ h λ a j. and_elim _ _ j λ b e. (k, a, b, eqb-true (B.first u) c e)

  pub are_members : (u : ℕ) → B.child u ≡ true → rel u ≡ true → Memᴰ u (members_in B rel order (B.first u))
  are_members u c r = in_filter (test (B.first u)) u order (T.seen_listed u (B.child_seen u c)) (ap₂ ◌&&◌ c (ap₂ ◌&&◌ r (eq-eqb (B.first u) (B.first u) refl)))

  abbrev named : ℕ → Bool
  named c = B.child c && (eqb (B.first c) c && not (none (members_in B rel order c)))

  pub names_are : (c : ℕ) → Memᴰ c (names_in B rel order) → (B.child c ≡ true) × (B.first c ≡ c) × (none (members_in B rel order c) ≡ false)
  names_are c m = let (k, h) = filter_in named c order m in and_elim _ _ h λ a j. and_elim _ _ j λ b e. (a, eqb-true (B.first c) c b, not-true (none (members_in B rel order c)) e)

  are_names : (u : ℕ) → B.child u ≡ true → rel u ≡ true → Memᴰ (B.first u) (names_in B rel order)
  are_names u c r =
      let d = B.first_child u c in
      in_filter named (B.first u) order (T.seen_listed (B.first u) (B.child_seen (B.first u) d))
      (ap₂ ◌&&◌ d (ap₂ ◌&&◌ (eq-eqb (B.first (B.first u)) (B.first u) (B.first_first u c)) (ap not (filled u (members_in B rel order (B.first u)) (are_members u c r)))))

  pub class_from : (c : Class) (ns : List ℕ) → Memᴰ c (classes_from B rel order ns) → Memᴰ c.0 ns × (c.1 ≡ members_in B rel order c.0)
  class_from c [] x' = elim x' [ ]
  class_from c (n ∷ ns) (Memᴰ.head e) = (Memᴰ.head (ap (λ e. e.0) e), ap (λ e. e.1) e ∙ ap (members_in B rel order) (sym (ap (λ e. e.0) e)))
  class_from c (n ∷ ns) (Memᴰ.tail m) = let (a, b) = class_from c ns m in (Memᴰ.tail a, b)

  from_class : (n : ℕ) (ns : List ℕ) → Memᴰ n ns → Memᴰ (n, members_in B rel order n) (classes_from B rel order ns)
  from_class n [] x' = elim x' [ ]
  from_class n (x ∷ ns) (Memᴰ.head e) = Memᴰ.head (ap (λ s. (s, members_in B rel order s)) e)
  from_class n (x ∷ ns) (Memᴰ.tail m) = Memᴰ.tail (from_class n ns m)

  names_of_lem : (ns : List ℕ) → names_of (classes_from B rel order ns) ≡ ns
  names_of_lem [] = refl
  names_of_lem (n ∷ ns) = ap (λ l. n ∷ l) (names_of_lem ns)

  in_class : (c : Class) → Memᴰ c cs → (u : ℕ) → Memᴰ u c.1 → Memᴰ u order × (B.child u ≡ true) × (rel u ≡ true) × (B.first u ≡ c.0)
  in_class c k u m = members_are c.0 u (subst (λ (l : List ℕ). Memᴰ u l) (class_from c (names_in B rel order) k).1 m)

  members_distinct : (ns : List ℕ) → Distinct ns → Distinct (members_of (classes_from B rel order ns))
  members_distinct [] d = tt
  members_distinct (n ∷ ns) d =
      distinct_join (members_in B rel order n) (members_of (classes_from B rel order ns)) (distinct_filter (test n) order (rising_distinct B.pos order T.rises)) (members_distinct ns d.1)
      λ u a b.
      let (c, k, o) = member_class (classes_from B rel order ns) b in
      let (i, j) = class_from c ns k in
      let x = members_are n u a in
      let y = members_are c.0 u (subst (λ (l : List ℕ). Memᴰ u l) j o) in
      d.0 (subst (λ (s : ℕ). Memᴰ s ns) (sym y.3 ∙ x.3) i)

  -- a relevant junction is a root or a listed member
  relevant_listed : (v : ℕ) → B.seen v ≡ true → rel v ≡ true → Memᴰ v (roots_in B order ++ members_of cs)
  relevant_listed v s r =
      on_bool (B.child v)
      (λ c. mem_append (roots_in B order) (members_of cs) (inr (class_members (B.first v, members_in B rel order (B.first v)) cs (from_class (B.first v) (names_in B rel order) (are_names v c r)) (are_members v c r))))
      (λ c. mem_append (roots_in B order) (members_of cs) (inl (in_filter (λ v. not (B.child v)) v order (T.seen_listed v s) (ap not c))))

  -- each class with a relevant member is listed by its name
  pub listed_class : (u : ℕ) → B.child u ≡ true → rel u ≡ true → Memᴰ (B.first u, members_in B rel order (B.first u)) cs
  listed_class u c r = from_class (B.first u) (names_in B rel order) (are_names u c r)

  root_is : (r : ℕ) → Memᴰ r (roots_in B order) → (B.seen r ≡ true) × (B.child r ≡ false)
  root_is r m = let (k, h) = filter_in (λ v. not (B.child v)) r order m in (T.listed_seen r k, not-true (B.child r) h)

  pub class_list : ClassList E B K (roots_in B order) cs
  class_list =
      record {
        root_active = λ r m. let (s, c) = root_is r m in T.root_active r s c;
        root_seen = λ r m. (root_is r m).0;
        root_parentless = λ r m. (root_is r m).1;
        roots_once = distinct_filter (λ v. not (B.child v)) order (rising_distinct B.pos order T.rises);
        class_name = λ c k. let (a, b, e) = names_are c.0 (class_from c (names_in B rel order) k).0 in (a, b);
        class_member = λ c u k m. let (o, a, b, e) = in_class c k u m in (a, e);
        class_filled = λ c k.
            let (i, j) = class_from c (names_in B rel order) k in
            filled_length c.1 (ap none j ∙ (names_are c.0 i).2);
        names_once = subst (λ (l : List ℕ). Distinct l) (sym (names_of_lem (names_in B rel order))) (distinct_filter named order (rising_distinct B.pos order T.rises));
        members_once = members_distinct (names_in B rel order) (distinct_filter named order (rising_distinct B.pos order T.rises));
        active = λ k m. relevant_listed k (T.active_seen k m) (W.active k m);
        class_top = λ c k.
            let (i, j) = class_from c (names_in B rel order) k in
            let (a, b, e) = names_are c.0 i in
            let (u, m) = filled_first (members_in B rel order c.0) e in
            let (o, cu, ru, fu) = members_are c.0 u m in
            relevant_listed (B.par c.0) (B.par_seen c.0 a) (subst (λ (s : ℕ). rel (B.par s) ≡ true) fu (W.top u ru cu));
        support = λ v m i.
            let (c, k, o) = member_class cs m in
            let (h, cv, rv, fv) = in_class c k v o in
            let (u, cu, e, ru) = W.cause v rv i in
            below_some B.par (B.first u, members_in B rel order (B.first u)) cs v (listed_class u cu ru) e;
      }

  -- ---- the members that share a number
  abbrev sharing : ℕ → Bool
  sharing = shares_top B K rel order

  pub shared_list : Shared E B K cs (shared_in B K rel order)
  shared_list =
      record {
        share = λ v m.
            let (k, h) = filter_in sharing v order (backwards_mem v (filter sharing order) m) in
            and_elim _ _ h λ c j. and_elim _ _ j λ r s.
            ((B.first v, members_in B rel order (B.first v)), listed_class v c r, are_members v c r, s);
        every = λ c v k m h.
            let (i, j) = class_from c (names_in B rel order) k in
            let (o, cv, rv, fv) = in_class c k v m in
            let same : (B.first v, members_in B rel order (B.first v)) ≡ c = ap (λ s. (s, members_in B rel order s)) fv ∙ ap (λ l. (c.0, l)) (sym j) in
            mem_backwards v (filter sharing order)
            (in_filter sharing v order o (ap₂ ◌&&◌ cv (ap₂ ◌&&◌ rv (ap (λ s. shares K B.par cs s v) same ∙ h))));
        falls = rising_backwards B.pos (filter sharing order) (rising_filter B.pos sharing order T.rises);
      }
