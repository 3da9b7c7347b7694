-- The reduced graph of an active list: its size by the number of different active junctions; and the reduced graph of one query, where the reply is read off.
-- In order: the junctions of one tree are joined; the number of active junctions; the size; one query.
-- Assumes nothing.
use Prim.Native.Nat.{◌*◌, ◌+◌, ◌-◌, ◌<◌, ◌≤◌, suc, zero, ℕ}
use mathlib.Core.Bool.{Bool, cond, false, not, true}
use mathlib.Core.List.{List, Memᴰ, [], ◌++◌, ◌∷◌}
use mathlib.Core.Logic.{◌⊎◌, inl, inr}
use mathlib.Core.Path.{◌∙◌, ◌≡◌, ap, refl, subst, sym}
use lib.Dec.{eqb}
use lib.ListN.{length, length-append}
use native.Mathlib.Omega.{arith}
use Rattle.theory_graph.proofs.Booleans.{contradict, on_bool}
use Rattle.theory_graph.proofs.Definitions.{joined_from}
use Rattle.theory_graph.proofs.DistinctLists.{distinct_different, distinct_filter, distinct_join, split_mem}
use Rattle.theory_graph.proofs.Lists.{filter_in, mem_member, member_mem}
use Rattle.theory_graph.proofs.Separation.{insep_refl, insep_sym, insep_trans}
use Rattle.theory_graph.specs.Cut.{Connected}
use Rattle.theory_graph.specs.Graph.{Edge, NodeSet, joined}
use Rattle.theory_graph.specs.Lists.{filter, member}
use Rattle.theory_graph.specs.SmallGraph.{different, image, no_edge}
use Rattle.theory_junctions.proofs.Colours.{closed_uncrossed}
use Rattle.theory_junctions.proofs.ReadOut.{read_reply_lem}
use Rattle.theory_junctions.proofs.Reduced.{listed_child, member_class, reduced_active, reduced_ends, reduced_graph_same, reduced_size, root_above}
use Rattle.theory_junctions.proofs.Reduction.{top_pos}
use Rattle.theory_junctions.proofs.Replies.{reply_zero}
use Rattle.theory_junctions.proofs.SameColourings.{reply_same}
use Rattle.theory_junctions.proofs.Size.{edges_bound, filter_count, members_bound}
use Rattle.theory_junctions.specs.Blocks.{Blocks, merged_to, top_of}
use Rattle.theory_junctions.specs.Classes.{Class, ClassList, Shared, count, members_of, own_cycles, own_members, reduced_graph, reduced_junctions}
use Rattle.theory_junctions.specs.Colouring.{nothing}
use Rattle.theory_junctions.specs.Reply.{read_reply, reply}

-- ---- the junctions of one tree
top_connected : (E : List Edge) (B : Blocks E) (v : ℕ) → B.child v ≡ true → Connected E v (top_of B v)
top_connected E B v c (U, p, q, k) =
    contradict p (B.whole (record { loss = nothing; side = U; uncrossed = closed_uncrossed U E k }) v v (top_of B v) c (inl (c, refl)) (inr refl) refl refl ∙ q)

module _ (E : List Edge) (B : Blocks E) (K : NodeSet) (Q : List ℕ) (cs : List Class) (L : ClassList E B K Q cs) where
  root_connected : (n v : ℕ) → B.pos v < n → Memᴰ v (Q ++ members_of cs) → (r : ℕ) × Memᴰ r Q × Connected E v r
  root_connected zero v l m = absurd (omega arith)
  root_connected (suc n) v l m = go (split_mem Q (members_of cs) m) (root_connected n)
    where
      go : Memᴰ v Q ⊎ Memᴰ v (members_of cs) → ((u : ℕ) → B.pos u < n → Memᴰ u (Q ++ members_of cs) → (r : ℕ) × Memᴰ r Q × Connected E u r) → (r : ℕ) × Memᴰ r Q × Connected E v r
      go (inl i) ih = (v, i, insep_refl E v)
      go (inr i) ih =
          let (c, k, o) = member_class cs i in
          let (d, f) = L.class_member c v k o in
          let (r, j, h) = ih (top_of B v) (omega (arith, top_pos E B v d)) (subst (λ (s : ℕ). Memᴰ (B.par s) (Q ++ members_of cs)) (sym f) (L.class_top c k)) in
          (r, j, insep_trans E (top_connected E B v d) h)

-- ---- an active list
module _ (E : List Edge) (B : Blocks E) (S : List ℕ) (Q : List ℕ) (cs : List Class) (L : ClassList E B (member S) Q cs) where
  -- roots and active members are different active junctions
  pub actives_few : length Q + count (member S) (members_of cs) ≤ different S
  actives_few =
      omega (
        arith,
        length-append Q (filter (member S) (members_of cs)),
        filter_count (member S) (members_of cs),
        distinct_different S (Q ++ filter (member S) (members_of cs))
            (distinct_join Q (filter (member S) (members_of cs)) L.roots_once (distinct_filter (member S) (members_of cs) L.members_once)
            (λ u m n. contradict (listed_child E B (member S) Q cs L u (filter_in (member S) u (members_of cs) n).0) (L.root_parentless u m)))
            (λ u m. go u (split_mem Q (filter (member S) (members_of cs)) m)),
      )
    where
      go : (u : ℕ) → Memᴰ u Q ⊎ Memᴰ u (filter (member S) (members_of cs)) → Memᴰ u S
      go u (inl m) = member_mem S u (L.root_active u m)
      go u (inr m) = member_mem S u (filter_in (member S) u (members_of cs) m).1

  -- with k different active junctions, at most 3k - 3 junctions and 4k - 6 edges
  pub reduced_bound : (vs : List ℕ) → Shared E B (member S) cs vs → 2 ≤ different S
      → (length (reduced_junctions B (member S) Q cs) ≤ 3 * different S - 3) × (length (reduced_graph B (member S) cs vs) ≤ 4 * different S - 6)
  reduced_bound vs T l = reduced_size E B (member S) Q cs L vs T (different S) actives_few l

  -- with one or none, no more junctions than active ones, and no edge
  pub reduced_few : (vs : List ℕ) → Shared E B (member S) cs vs → different S ≤ 1 → (length (reduced_junctions B (member S) Q cs) ≤ different S) × (length (own_cycles (member S) B.par cs cs) ≡ 0)
  reduced_few vs T l = go cs refl
    where
      J : length (reduced_junctions B (member S) Q cs) ≡ length Q + length (own_members (member S) B.par cs cs)
      J = length-append Q (own_members (member S) B.par cs cs)

      go : (ds : List Class) → cs ≡ ds → (length (reduced_junctions B (member S) Q cs) ≤ different S) × (length (own_cycles (member S) B.par cs cs) ≡ 0)
      go [] e =
          let a : length (own_members (member S) B.par cs cs) ≡ 0 = ap (λ s. length (own_members (member S) B.par s s)) e in
          let b : length (own_cycles (member S) B.par cs cs) ≡ 0 = ap (λ s. length (own_cycles (member S) B.par s s)) e in
          (omega (arith, J, a, actives_few), b)
      go (c ∷ ds) e =
          let (a, b) = root_above E B (member S) Q cs L vs T (suc (B.pos c.0)) c (omega arith) (subst (λ (s : List Class). Memᴰ c s) (sym e) (Memᴰ.head refl)) in (
            omega (arith, J, b, actives_few, members_bound (member S) B.par cs L.class_filled L.members_once L.support),
            omega (arith, b, actives_few, edges_bound (member S) B.par cs L.class_filled L.members_once L.support),
          )

-- ---- one query
module _ (E : List Edge) (B : Blocks E) (x y : ℕ) (Q : List ℕ) (cs : List Class) (L : ClassList E B (member (x ∷ y ∷ [])) Q cs) (vs : List ℕ) (T : Shared E B (member (x ∷ y ∷ [])) cs vs) where
  abbrev K : NodeSet
  K = member (x ∷ y ∷ [])

  abbrev H : List Edge
  H = reduced_graph B K cs vs

  pub Kx : K x ≡ true
  Kx = mem_member x (x ∷ y ∷ []) (Memᴰ.head refl)

  pub Ky : K y ≡ true
  Ky = mem_member y (x ∷ y ∷ []) (Memᴰ.tail (Memᴰ.head refl))

  pub two_few : different (x ∷ y ∷ []) ≤ 2
  two_few = go (not (eqb x y))
    where
      go : (b : Bool) → suc (length (cond b (y ∷ []) [])) ≤ 2
      go true = omega arith
      go false = omega arith

  -- where there is an edge there is one root only
  one_root : no_edge H ≡ false → length Q ≤ 1
  one_root n = go cs refl
    where
      go : (ds : List Class) → cs ≡ ds → length Q ≤ 1
      go [] e = contradict (ap (λ s. no_edge (image (merged_to B vs) (own_cycles K B.par s s))) e) n
      go (c ∷ ds) e =
          let (a, b) = root_above E B K Q cs L vs T (suc (B.pos c.0)) c (omega arith) (subst (λ (s : List Class). Memᴰ c s) (sym e) (Memᴰ.head refl)) in
          omega (arith, two_few, actives_few E B (x ∷ y ∷ []) Q cs L, members_bound K B.par cs L.class_filled L.members_once L.support)

  one_same : {r s : ℕ} (l : List ℕ) → length l ≤ 1 → Memᴰ r l → Memᴰ s l → r ≡ s
  one_same {r = r} {s = s} [] l p q = elim p [ ]
  one_same (a ∷ []) l (Memᴰ.head p) (Memᴰ.head q) = p ∙ sym q
  one_same (a ∷ []) l (Memᴰ.head p) (Memᴰ.tail q) = absurd (elim q [ ])
  one_same (a ∷ []) l (Memᴰ.tail p) q = absurd (elim p [ ])
  one_same (a ∷ b ∷ w) l p q = absurd (omega arith)

  pub query_joined : no_edge H ≡ false → joined H x y ≡ true
  query_joined n =
      let (r, m, a) = root_connected E B K Q cs L (suc (B.pos x)) x (omega arith) (L.active x Kx) in
      let (s, k, b) = root_connected E B K Q cs L (suc (B.pos y)) y (omega arith) (L.active y Ky) in
      let e : r ≡ s = one_same Q (one_root n) m k in
      let j : joined E x y ≡ true = joined_from E x y (insep_trans E a (insep_sym E (subst (λ (u : ℕ). Connected E y u) (sym e) b))) in
      on_bool (joined H x y) (λ h. h)
      (λ h. contradict j ((reply_zero E x y).0 (reply_same K E (λ k. k) H (λ k. k) (reduced_graph_same E B K Q cs L vs T) x y Kx Ky ∙ (reply_zero H x y).1 h)))

  -- the reply of the given graph is read off the reduced graph
  pub query_reply : reply E x y ≡ read_reply H x y
  query_reply =
      reply_same K E (λ k. k) H (λ k. k) (reduced_graph_same E B K Q cs L vs T) x y Kx Ky
      ∙ read_reply_lem H (reduced_junctions B K Q cs) x y
      (reduced_size E B K Q cs L vs T 2 (omega (arith, two_few, actives_few E B (x ∷ y ∷ []) Q cs L)) (omega arith)).0
      (reduced_active E B K Q cs L vs T x Kx) (reduced_active E B K Q cs L vs T y Ky) (reduced_ends E B K Q cs L vs T) query_joined
