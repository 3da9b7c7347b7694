-- Every graph has a spanning forest of what is joined to the entries of an active list, whose roots are active: so it has blocks, and a search that found them.
-- The roots are the entries that are joined to none before them in the list; then an edge with just one end in the forest adds its other end, until there is no such edge.
-- In order: sets that no edge leaves; the root of a junction; places in a list; the forest while it grows; one more junction; as long as an edge leaves it; the forest; the search.
-- Assumes nothing.
use Prim.Native.Nat.{◌+◌, ◌<◌, ◌≤◌, suc, zero, ℕ}
use mathlib.Core.Bool.{Bool, ◌||◌, cond, false, not, true}
use mathlib.Core.List.{List, Memᴰ, [], ◌++◌, ◌∷◌}
use mathlib.Core.Logic.{◌⊎◌, inl, inr}
use mathlib.Core.Path.{◌∙◌, ◌≡◌, ap, ap₂, refl, subst, sym}
use lib.Dec.{eqb}
use lib.ListN.{length}
use native.Mathlib.Omega.{arith}
use borrow.Author.Tests.{eq-eqb, ne_eqb, not-true}
use Rattle.theory_graph.proofs.Booleans.{bool_iff, contradict, on_bool, or_neither}
use Rattle.theory_graph.proofs.Definitions.{joined_from, joined_to}
use Rattle.theory_graph.proofs.DistinctLists.{distinct_fewer, distinct_filter, split_mem}
use Rattle.theory_graph.proofs.Lists.{filter_in, firsts_cover, firsts_in, mem_append, mem_member, member_mem}
use Rattle.theory_graph.proofs.Published.{joined_refl, joined_sym, joined_trans}
use Rattle.theory_graph.proofs.SpanningForest.{on_eq}
use Rattle.theory_graph.specs.Graph.{Edge, NodeSet, joined}
use Rattle.theory_graph.specs.Lists.{Distinct, firsts, member}
use Rattle.theory_junctions.proofs.Colours.{closed_uncrossed, uncrossed_closed}
use Rattle.theory_junctions.proofs.PathMergingLaws.{forest_blocks, merged_blocks}
use Rattle.theory_junctions.proofs.ReduceLaws.{backwards_mem, mem_backwards}
use Rattle.theory_junctions.proofs.Replies.{edge_ends}
use Rattle.theory_junctions.specs.Blocks.{Blocks}
use Rattle.theory_junctions.specs.PathMerging.{Forest}
use Rattle.theory_junctions.specs.Reduce.{Rising, Search, backwards}
use Rattle.theory_junctions.specs.Reply.{ends_of}

-- ---- sets that no edge leaves
abbrev Closed : List Edge → NodeSet → Type 0
Closed E N = (p q : ℕ) → Memᴰ (p, q) E → N p ≡ N q

closed_joined : (E : List Edge) (N : NodeSet) → Closed E N → (x y : ℕ) → joined E x y ≡ true → N x ≡ true → N y ≡ true
closed_joined E N f x y j n = on_bool (N y) (λ h. h) (λ h. absurd (joined_to E x y j (N, n, h, uncrossed_closed N E (λ p q m a b. f p q m))))

edge_joined : (E : List Edge) (p q : ℕ) → Memᴰ (p, q) E → joined E p q ≡ true
edge_joined E p q m = joined_from E p q (λ (U, a, b, c). contradict a (closed_uncrossed U E c p q m refl refl ∙ b))

-- an edge of p and v leaves the set, which has p; and that some edge does
abbrev Leaves : List Edge → NodeSet → ℕ → ℕ → Type 0
Leaves E N p v = (N p ≡ true) × (N v ≡ false) × (Memᴰ (v, p) E ⊎ Memᴰ (p, v) E)

abbrev SomeLeaves : List Edge → NodeSet → Type 0
SomeLeaves E N = (p v : ℕ) × Leaves E N p v

leaves_or_closed : (E : List Edge) (N : NodeSet) → SomeLeaves E N ⊎ Closed E N
leaves_or_closed [] N = inr (λ p q m. absurd (elim m [ ]))
leaves_or_closed (e ∷ E) N = go (N e.0) (N e.1) refl refl (leaves_or_closed E N)
  where
    later : SomeLeaves E N → SomeLeaves (e ∷ E) N
    later (p, v, (a, b, inl m)) = (p, v, (a, b, inl (Memᴰ.tail m)))
    later (p, v, (a, b, inr m)) = (p, v, (a, b, inr (Memᴰ.tail m)))

    both : N e.0 ≡ N e.1 → SomeLeaves E N ⊎ Closed E N → SomeLeaves (e ∷ E) N ⊎ Closed (e ∷ E) N
    both i (inl l) = inl (later l)
    both i (inr c) = inr each
      where
        each : Closed (e ∷ E) N
        each p q (Memᴰ.head h) = ap (λ (f : Edge). N f.0) h ∙ i ∙ ap (λ (f : Edge). N f.1) (sym h)
        each p q (Memᴰ.tail m) = c p q m

    go : (a b : Bool) → N e.0 ≡ a → N e.1 ≡ b → SomeLeaves E N ⊎ Closed E N → SomeLeaves (e ∷ E) N ⊎ Closed (e ∷ E) N
    go true true i j r = both (i ∙ sym j) r
    go true false i j r = inl (e.0, e.1, (i, j, inr (Memᴰ.head refl)))
    go false true i j r = inl (e.1, e.0, (j, i, inl (Memᴰ.head refl)))
    go false false i j r = both (i ∙ sym j) r

-- ---- the root of a junction
-- the first entry of S that is joined to v, or 0
abbrev root_of : List Edge → List ℕ → ℕ → ℕ
root_of E [] v = 0
root_of E (s ∷ S) v = cond (joined E s v) s (root_of E S v)

root_joined : (E : List Edge) (S : List ℕ) (p q : ℕ) → joined E p q ≡ true → root_of E S p ≡ root_of E S q
root_joined E [] p q j = refl
root_joined E (s ∷ S) p q j =
    ap₂ (λ b r. cond b s r) (bool_iff (joined E s p) (joined E s q) (λ h. joined_trans E s p q h j) (λ h. joined_trans E s q p h (joined_sym E p q j))) (root_joined E S p q j)

-- the roots: the entries of S that are joined to none before them
abbrev roots_of : List Edge → List ℕ → List ℕ
roots_of E S = firsts (joined E) S

root_itself : (E : List Edge) (S : List ℕ) (r : ℕ) → Memᴰ r (roots_of E S) → root_of E S r ≡ r
root_itself E [] r x' = elim x' [ ]
root_itself E (s ∷ S) r (Memᴰ.head e) = ap (λ b. cond b s (root_of E S r)) (subst (λ (v : ℕ). joined E s v ≡ true) (sym e) (joined_refl E s)) ∙ sym e
root_itself E (s ∷ S) r (Memᴰ.tail m) =
    let (n, h) = filter_in (λ y. not (joined E s y)) r (roots_of E S) m in
    ap (λ b. cond b s (root_of E S r)) (not-true (joined E s r) h) ∙ root_itself E S r n

roots_once : (E : List Edge) (S : List ℕ) → Distinct (roots_of E S)
roots_once E [] = tt
roots_once E (s ∷ S) = (
  λ m. contradict (joined_refl E s) (not-true (joined E s s) (filter_in (λ y. not (joined E s y)) s (roots_of E S) m).1),
  distinct_filter (λ y. not (joined E s y)) (roots_of E S) (roots_once E S),
)

-- ---- places in a list
-- the place of v in J, counted from the end: 0 for the last entry
abbrev place_in : List ℕ → ℕ → ℕ
place_in [] v = 0
place_in (x ∷ J) v = cond (eqb v x) (length J) (place_in J v)

place_first : (x : ℕ) (J : List ℕ) (v : ℕ) → v ≡ x → place_in (x ∷ J) v ≡ length J
place_first x J v e = ap (λ b. cond b (length J) (place_in J v)) (eq-eqb v x e)

place_later : (x : ℕ) (J : List ℕ) (v : ℕ) → ¬ (v ≡ x) → place_in (x ∷ J) v ≡ place_in J v
place_later x J v n = ap (λ b. cond b (length J) (place_in J v)) (ne_eqb v x n)

rest : {x v : ℕ} {J : List ℕ} → ¬ (v ≡ x) → Memᴰ v (x ∷ J) → Memᴰ v J
rest n (Memᴰ.head e) = absurd (n e)
rest n (Memᴰ.tail m) = m

place_below : (J : List ℕ) (v : ℕ) → Memᴰ v J → place_in J v < length J
place_below [] v m = elim m [ ]
place_below (x ∷ J) v m = on_eq v x (λ e. omega (arith, place_first x J v e)) (λ n. omega (arith, place_later x J v n, place_below J v (rest n m)))

-- places rise where the list is read from its end
rising_same : (f g : ℕ → ℕ) (xs : List ℕ) → ((w : ℕ) → Memᴰ w xs → f w ≡ g w) → Rising f xs → Rising g xs
rising_same f g [] e r = tt
rising_same f g (x ∷ xs) e r = (
  λ w m. omega (arith, r.0 w m, e x (Memᴰ.head refl), e w (Memᴰ.tail m)),
  rising_same f g xs (λ w m. e w (Memᴰ.tail m)) r.1,
)

rising_last : (pos : ℕ → ℕ) (x : ℕ) (xs : List ℕ) → Rising pos xs → ((w : ℕ) → Memᴰ w xs → pos w < pos x) → Rising pos (xs ++ x ∷ [])
rising_last pos x [] r l = (λ w m. absurd (elim m [ ]), tt)
rising_last pos x (y ∷ xs) r l = (λ w m. go w (split_mem xs (x ∷ []) m), rising_last pos x xs r.1 (λ w m. l w (Memᴰ.tail m)))
  where
    go : (w : ℕ) → Memᴰ w xs ⊎ Memᴰ w (x ∷ []) → pos y < pos w
    go w (inl m) = r.0 w m
    go w (inr (Memᴰ.head e)) = omega (arith, l y (Memᴰ.head refl), ap pos e)
    go w (inr (Memᴰ.tail m)) = absurd (elim m [ ])

place_rises : (J : List ℕ) → Distinct J → Rising (place_in J) (backwards J)
place_rises [] d = tt
place_rises (x ∷ J) d =
    rising_last (place_in (x ∷ J)) x (backwards J) (rising_same (place_in J) (place_in (x ∷ J)) (backwards J) (λ w m. sym (old w (backwards_mem w J m))) (place_rises J d.1))
    (λ w m. let k = backwards_mem w J m in omega (arith, old w k, place_below J w k, place_first x J x refl))
  where
    old : (w : ℕ) → Memᴰ w J → place_in (x ∷ J) w ≡ place_in J w
    old w m = place_later x J w (λ e. d.0 (subst (λ (v : ℕ). Memᴰ v J) e m))

place_once : (J : List ℕ) (u v : ℕ) → Memᴰ u J → Memᴰ v J → place_in J u ≡ place_in J v → u ≡ v
place_once [] u v a b e = elim a [ ]
place_once (x ∷ J) u v a b e =
    on_eq u x
    (λ i. on_eq v x (λ j. i ∙ sym j) (λ j. absurd (omega (arith, e, place_first x J u i, place_later x J v j, place_below J v (rest j b)))))
    (λ i. on_eq v x
    (λ j. absurd (omega (arith, e, place_first x J v j, place_later x J u i, place_below J u (rest i a))))
    (λ j. place_once J u v (rest i a) (rest j b) (sym (place_later x J u i) ∙ e ∙ place_later x J v j)))

-- ---- the forest while it grows, from the roots: J lists what is in it, the newest first
record Growing (E : List Edge) (S J : List ℕ) : Type 0 where
  child : NodeSet
  par : ℕ → ℕ
  once : Distinct J
  within : (v : ℕ) → Memᴰ v J → Memᴰ v (S ++ ends_of E)
  child_in : (v : ℕ) → child v ≡ true → Memᴰ v J
  par_in : (v : ℕ) → child v ≡ true → Memᴰ (par v) J
  par_place : (v : ℕ) → child v ≡ true → place_in J (par v) < place_in J v
  par_edge : (v : ℕ) → child v ≡ true → Memᴰ (v, par v) E ⊎ Memᴰ (par v, v) E
  is_root : (v : ℕ) → Memᴰ v J → child v ≡ false → Memᴰ v (roots_of E S)
  roots_in : (r : ℕ) → Memᴰ r (roots_of E S) → Memᴰ r J

roots_alone : (E : List Edge) (S : List ℕ) → Growing E S (roots_of E S)
roots_alone E S = record {
  child = λ v. false;
  par = λ v. v;
  once = roots_once E S;
  within = λ v m. mem_append S (ends_of E) (inl (firsts_in (joined E) v S m));
  child_in = λ v c. contradict c refl;
  par_in = λ v c. contradict c refl;
  par_place = λ v c. contradict c refl;
  par_edge = λ v c. contradict c refl;
  is_root = λ v m c. m;
  roots_in = λ r m. m;
}

-- ---- one more junction
module _ (E : List Edge) (S J : List ℕ) (G : Growing E S J) (p v : ℕ) (l : Leaves E (member J) p v) where
  p_in : Memᴰ p J
  p_in = member_mem J p l.0

  new : ¬ Memᴰ v J
  new m = contradict (mem_member v J m) l.1

  abbrev child₊ : NodeSet
  child₊ u = eqb u v || G.child u

  abbrev par₊ : ℕ → ℕ
  par₊ u = cond (eqb u v) p (G.par u)

  -- a child is the new one, or it was one before, with the parent that it had
  on_child : {A : Type 0} (u : ℕ) → child₊ u ≡ true → (u ≡ v → par₊ u ≡ p → A) → (G.child u ≡ true → par₊ u ≡ G.par u → A) → A
  on_child u c f g =
      on_eq u v (λ e. f e (ap (λ b. cond b p (G.par u)) (eq-eqb u v e)))
      (λ n. let t = ne_eqb u v n in g (ap (λ b. b || G.child u) (sym t) ∙ c) (ap (λ b. cond b p (G.par u)) t))

  old : (u : ℕ) → Memᴰ u J → place_in (v ∷ J) u ≡ place_in J u
  old u m = place_later v J u (λ e. new (subst (λ (w : ℕ). Memᴰ w J) e m))

  new_within : Memᴰ v (S ++ ends_of E)
  new_within = mem_append S (ends_of E) (inr (go l.2))
    where
      go : Memᴰ (v, p) E ⊎ Memᴰ (p, v) E → Memᴰ v (ends_of E)
      go (inl m) = (edge_ends E m).0
      go (inr m) = (edge_ends E m).1

  one_more : Growing E S (v ∷ J)
  one_more = record {
    child = child₊;
    par = par₊;
    once = (new, G.once);
    within = within;
    child_in = λ u c. on_child u c (λ e i. Memᴰ.head e) (λ d i. Memᴰ.tail (G.child_in u d));
    par_in = λ u c. Memᴰ.tail (on_child u c (λ e i. subst (λ (w : ℕ). Memᴰ w J) (sym i) p_in) (λ d i. subst (λ (w : ℕ). Memᴰ w J) (sym i) (G.par_in u d)));
    par_place = λ u c. on_child u c
        (λ e i. omega (arith, ap (place_in (v ∷ J)) i, old p p_in, place_below J p p_in, place_first v J u e))
        (λ d i. omega (arith, ap (place_in (v ∷ J)) i, old (G.par u) (G.par_in u d), old u (G.child_in u d), G.par_place u d));
    par_edge = λ u c. on_child u c
        (λ e i. subst (λ (w : ℕ). Edged u w) (sym i) (subst (λ (w : ℕ). Edged w p) (sym e) l.2))
        (λ d i. subst (λ (w : ℕ). Edged u w) (sym i) (G.par_edge u d));
    is_root = is_root;
    roots_in = λ r m. Memᴰ.tail (G.roots_in r m);
  }
    where
      Edged : ℕ → ℕ → Type 0
      Edged u w = Memᴰ (u, w) E ⊎ Memᴰ (w, u) E

      within : (u : ℕ) → Memᴰ u (v ∷ J) → Memᴰ u (S ++ ends_of E)
      within u (Memᴰ.head e) = subst (λ (w : ℕ). Memᴰ w (S ++ ends_of E)) (sym e) new_within
      within u (Memᴰ.tail m) = G.within u m

      is_root : (u : ℕ) → Memᴰ u (v ∷ J) → child₊ u ≡ false → Memᴰ u (roots_of E S)
      is_root u (Memᴰ.head e) c = contradict (ap (λ b. b || G.child u) (eq-eqb u v e)) c
      is_root u (Memᴰ.tail m) c = G.is_root u m (or_neither (eqb u v) (G.child u) c).1

-- ---- as long as an edge leaves it: the ends of edges and the entries of S bound how often
abbrev Grown : List Edge → List ℕ → Type 0
Grown E S = (J : List ℕ) × Growing E S J × Closed E (member J)

grow : (E : List Edge) (S : List ℕ) (n : ℕ) (J : List ℕ) → Growing E S J → length (S ++ ends_of E) ≤ n + length J → Grown E S
grow E S zero J G h = go (leaves_or_closed E (member J))
  where
    go : SomeLeaves E (member J) ⊎ Closed E (member J) → Grown E S
    go (inl (p, v, l)) = let H = one_more E S J G p v l in absurd (omega (arith, distinct_fewer (S ++ ends_of E) (v ∷ J) H.once H.within))
    go (inr c) = (J, G, c)
grow E S (suc n) J G h = go (leaves_or_closed E (member J)) (λ v H. grow E S n (v ∷ J) H (omega (arith, h)))
  where
    go : SomeLeaves E (member J) ⊎ Closed E (member J) → ((v : ℕ) → Growing E S (v ∷ J) → Grown E S) → Grown E S
    go (inl (p, v, l)) ih = ih v (one_more E S J G p v l)
    go (inr c) ih = (J, G, c)

grown : (E : List Edge) (S : List ℕ) → Grown E S
grown E S = grow E S (length (S ++ ends_of E)) (roots_of E S) (roots_alone E S) (omega arith)

-- ---- the forest
module _ (E : List Edge) (S J : List ℕ) (G : Growing E S J) (c : Closed E (member J)) where
  unfoldable grown_forest : Forest E
  grown_forest = record {
    seen = member J;
    child = G.child;
    par = G.par;
    pos = place_in J;
    tree = root_of E S;
    child_seen = λ v d. mem_member v J (G.child_in v d);
    par_seen = λ v d. mem_member (G.par v) J (G.par_in v d);
    par_pos = G.par_place;
    par_edge = G.par_edge;
    par_tree = λ v d. sym (root_joined E S v (G.par v) (parent_joined v (G.par_edge v d)));
    root_tree = λ v s d. root_itself E S v (G.is_root v (member_mem J v s) d);
    edge_seen = c;
    edge_tree = λ p q m s. root_joined E S p q (edge_joined E p q m);
    pos_once = λ u v s t e. place_once J u v (member_mem J u s) (member_mem J v t) e;
  }
    where
      parent_joined : (v : ℕ) → Memᴰ (v, G.par v) E ⊎ Memᴰ (G.par v, v) E → joined E v (G.par v) ≡ true
      parent_joined v (inl m) = edge_joined E v (G.par v) m
      parent_joined v (inr m) = joined_sym E (G.par v) v (edge_joined E (G.par v) v m)

  -- ---- the search that found it: each active junction is joined to a root, and no edge leaves what was found
  active_in_lem : (k : ℕ) → Memᴰ k S → member J k ≡ true
  active_in_lem k m =
      let (r, n, j) = firsts_cover (joined E) (joined_refl E) (joined_trans E) k S m in
      closed_joined E (member J) c r k j (mem_member r J (G.roots_in r n))

  grown_search : Search E (forest_blocks E grown_forest) (member S) (backwards J)
  unfolding grown_forest forest_blocks merged_blocks
  grown_search = record {
    rises = place_rises J G.once;
    listed_seen = λ v m. mem_member v J (backwards_mem v J m);
    seen_listed = λ v s. mem_backwards v J (member_mem J v s);
    active_seen = λ k m. active_in_lem k (member_mem S k m);
    root_active = λ v s d. mem_member v S (firsts_in (joined E) v S (G.is_root v (member_mem J v s) d));
  }

-- blocks, and a search that found them
pub searched_blocks : (E : List Edge) (S : List ℕ) → (B : Blocks E) × (order : List ℕ) × Search E B (member S) order
searched_blocks E S = let (J, G, c) = grown E S in (forest_blocks E (grown_forest E S J G c), backwards J, grown_search E S J G c)
