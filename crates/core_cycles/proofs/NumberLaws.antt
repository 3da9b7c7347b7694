-- Laws of numbering the relevant nodes: places in the order; one node more, whatever it is; a node that is not relevant, a root, one that shares, one with a number of its own.
-- Assumes nothing.
use Prim.Native.Nat.{◌+◌, ◌-◌, ◌<◌, ◌≤◌, suc, ℕ}
use mathlib.Core.Bool.{Bool, ◌&&◌, cond, false, not, true}
use mathlib.Core.List.{List, Memᴰ, [], ◌++◌, ◌∷◌}
use mathlib.Core.Path.{◌∙◌, ◌≡◌, ap, ap₂, refl, subst, sym}
use lib.Dec.{eqb, ltb}
use lib.ListN.{length, length-append}
use native.Mathlib.Omega.{arith}
use borrow.Author.Tests.{eq-eqb, eqb-true, ltb-false, ltb-true, ne_eqb}
use Rattle.theory_graph.proofs.Booleans.{and_elim, contradict, on_bool}
use Rattle.theory_graph.proofs.Lists.{filter_append, filter_in, table_in, table_mem}
use Rattle.theory_graph.proofs.SpanningForest.{on_eq}
use Rattle.theory_graph.proofs.TableLaws.{table_more}
use Rattle.theory_graph.specs.Graph.{NodeSet}
use Rattle.theory_graph.specs.Lists.{member, table}
use Rattle.theory_junctions.proofs.Reduction.{top_pos}
use Rattle.theory_junctions.specs.Blocks.{Blocks, last_of, top_of}
use Rattle.theory_junctions.specs.Classes.{classes_below, count, shares, single, tick}
use Rattle.theory_junctions.specs.Reduce.{Rising, classes_in, members_in, shares_top}
use Rattle.core_words.proofs.FieldLaws.{update_at, update_other, update_same}
use Rattle.core_words.specs.Fields.{update}
use Rattle.core_forest.specs.Forest.{edges_below}
use Rattle.core_cycles.proofs.CountLaws.{seen_fit}
use Rattle.core_cycles.proofs.OrderLaws.{and_off, and_rotate, append-nil, code_same, code_snoc, count_append, last_either, not_positive, rising_before, single_length, table_cut}
use Rattle.core_cycles.specs.BlocksIn.{BlocksBy}
use Rattle.core_cycles.specs.Numbering.{NumbersBy, from_code, last_by, last_code, numbered, shares_by}

-- ---- places
module _ {n m k seen : ℕ} {to act ord te par top mark : ℕ → ℕ} (b : BlocksBy n m k seen to act ord te par top mark) where
  pub place_less : (j i : ℕ) → j < i → i < seen → b.blocks.pos (ord j) < b.blocks.pos (ord i)
  place_less j i l h =
      rising_before b.blocks.pos (table ord 0 i) (ord i) (table ord (i + 1) (seen - (i + 1))) (subst (Rising b.blocks.pos) (table_cut ord i seen h) b.search.rises) (ord j)
      (table_in ord 0 i j (omega arith) (omega arith))

  -- a seen node that comes before place i
  pub place_of : (u i : ℕ) → b.blocks.seen u ≡ true → i < seen → b.blocks.pos u < b.blocks.pos (ord i) → (j : ℕ) × (j < i) × (u ≡ ord j)
  place_of u i s h p =
      let (j, l, e) = table_mem ord 0 seen u (b.search.seen_listed u s) in
      (j, before j (omega arith) (omega (arith, ap b.blocks.pos e)), e)
    where
      before : (j : ℕ) → j < seen → b.blocks.pos (ord j) < b.blocks.pos (ord i) → j < i
      before j l q = on_bool (ltb j i) (λ t. ltb-true j i t)
          (λ t. on_eq i j (λ e. absurd (omega (arith, ap (λ x. b.blocks.pos (ord x)) e))) (λ ne. absurd (omega (arith, place_less i j (let g = ltb-false j i t in omega (arith, g, ne)) l))))

  -- a member of a class among the first i
  pub member_place : (i c u : ℕ) → Memᴰ u (members_in b.blocks b.rel (table ord 0 i) c)
      → (j : ℕ) × (j < i) × (u ≡ ord j) × (b.blocks.child u ≡ true) × (b.rel u ≡ true) × (b.blocks.first u ≡ c)
  member_place i c u h =
      let (k, t) = filter_in (λ u. b.blocks.child u && (b.rel u && eqb (b.blocks.first u) c)) u (table ord 0 i) h in
      let (j, l, e) = table_mem ord 0 i u k in
      and_elim (b.blocks.child u) (b.rel u && eqb (b.blocks.first u) c) t λ x y. and_elim (b.rel u) (eqb (b.blocks.first u) c) y λ z q.
      (j, omega arith, e, x, z, eqb-true (b.blocks.first u) c q)

  -- where the edge to a node comes from: an earlier node
  abbrev pub source : ℕ → ℕ
  source j = last_of (top_of b.blocks (ord j)) (members_in b.blocks b.rel (table ord 0 j) (b.blocks.first (ord j)))

  pub source_early : (j : ℕ) → j < seen → b.blocks.child (ord j) ≡ true → b.blocks.pos (source j) < b.blocks.pos (ord j)
  source_early j l c = last_either (top_of b.blocks (ord j)) (members_in b.blocks b.rel (table ord 0 j) (b.blocks.first (ord j)))
      (λ e. omega (arith, ap b.blocks.pos e, top_pos (edges_below to m) b.blocks (ord j) c))
      (λ h. let (i, g, e, x, y, z) = member_place j (b.blocks.first (ord j)) (source j) h in omega (arith, ap b.blocks.pos e, place_less i j g l))

  -- it is relevant where the node is
  pub source_relevant : (j : ℕ) → b.blocks.child (ord j) ≡ true → b.rel (ord j) ≡ true → b.rel (source j) ≡ true
  source_relevant j c r = last_either (top_of b.blocks (ord j)) (members_in b.blocks b.rel (table ord 0 j) (b.blocks.first (ord j)))
      (λ e. ap b.rel e ∙ b.relevance.top (ord j) r c)
      (λ h. let (i, g, e, x, y, z) = member_place j (b.blocks.first (ord j)) (source j) h in y)

  -- a node's class before it, and all that comes after it
  abbrev before : ℕ → List ℕ
  before j = members_in b.blocks b.rel (table ord 0 j) (b.blocks.first (ord j))

  abbrev following : ℕ → List ℕ
  following j = table ord (j + 1) (seen - (j + 1))

  abbrev its_class : ℕ → List ℕ
  its_class j = members_in b.blocks b.rel (table ord 0 seen) (b.blocks.first (ord j))

  abbrev its_share : ℕ → Bool
  its_share j = shares (member (table act 0 k)) b.blocks.par (classes_in b.blocks b.rel (table ord 0 seen)) (b.blocks.first (ord j), its_class j) (ord j)

  class_split : (j : ℕ) → j < seen → its_class j ≡ before j ++ members_in b.blocks b.rel (ord j ∷ following j) (b.blocks.first (ord j))
  class_split j l = ap (λ xs. members_in b.blocks b.rel xs (b.blocks.first (ord j))) (table_cut ord j seen l)
      ∙ filter_append (λ u. b.blocks.child u && (b.rel u && eqb (b.blocks.first u) (b.blocks.first (ord j)))) (table ord 0 j) (ord j ∷ following j)

  -- one that shares is alone in its class, so the edge to it would come from its top
  pub shared_source : (j : ℕ) → j < seen → shares_top b.blocks (member (table act 0 k)) b.rel (table ord 0 seen) (ord j) ≡ true → source j ≡ top_of b.blocks (ord j)
  shared_source j l s =
      and_elim (b.blocks.child (ord j)) (b.rel (ord j) && its_share j) s λ x y.
      and_elim (b.rel (ord j)) (its_share j) y λ r z.
      and_elim (single (its_class j)) (not (member (table act 0 k) (ord j)) && (not (member (table act 0 k) (top_of b.blocks (ord j))) && eqb (classes_below b.blocks.par (classes_in b.blocks b.rel (table ord 0 seen)) (ord j)) 1)) z λ q o.
      let one = eqb-true (length (its_class j)) 1 (sym (single_length (its_class j)) ∙ q) in
      let some = ap (λ t. length (cond t (ord j ∷ members_in b.blocks b.rel (following j) (b.blocks.first (ord j))) (members_in b.blocks b.rel (following j) (b.blocks.first (ord j)))))
      (ap₂ ◌&&◌ x (ap₂ ◌&&◌ r (eq-eqb (b.blocks.first (ord j)) (b.blocks.first (ord j)) refl))) in
      ap (last_of (top_of b.blocks (ord j))) (empty (before j) (omega (arith, ap (λ (xs : List ℕ). length xs) (class_split j l), length-append (before j) (members_in b.blocks b.rel (ord j ∷ following j) (b.blocks.first (ord j))), one, some)))
    where
      empty : (xs : List ℕ) → length xs ≡ 0 → xs ≡ []
      empty [] e = refl
      empty (x ∷ xs) e = absurd (omega arith)

  pub relevant_seen : (u : ℕ) → b.rel u ≡ true → b.blocks.seen u ≡ true
  relevant_seen u q = on_bool (member (table act 0 k) u) (b.search.active_seen u)
      (λ t. let (w, cw, e, r) = b.relevance.cause u q t in ap b.blocks.seen (sym e) ∙ b.blocks.par_seen (b.blocks.first w) (b.blocks.first_child w cw))

-- ---- one node more
module _ {n m k seen i h : ℕ} {to act ord te par top mark members below number last from : ℕ → ℕ} (l : i < seen)
    (p : NumbersBy n m k seen i h to act ord te par top mark members below number last from) where
  abbrev b : BlocksBy n m k seen to act ord te par top mark
  b = p.counted.is

  abbrev B : Blocks (edges_below to m)
  B = b.blocks

  abbrev rel : NodeSet
  rel = b.rel

  abbrev K : NodeSet
  K = member (table act 0 k)

  abbrev order : List ℕ
  order = table ord 0 seen

  abbrev ps : List ℕ
  ps = table ord 0 i

  abbrev v : ℕ
  v = ord i

  abbrev own_number : NodeSet
  own_number = numbered B K rel order

  early_other : (u : ℕ) → B.pos u < B.pos v → ¬ (u ≡ v)
  early_other u q e = omega (arith, ap B.pos e)

  members_next : (c : ℕ) → members_in B rel (table ord 0 (i + 1)) c ≡ members_in B rel ps c ++ members_in B rel (v ∷ []) c
  members_next c = ap (λ xs. members_in B rel xs c) (table_more ord i) ∙ filter_append (λ u. B.child u && (rel u && eqb (B.first u) c)) ps (v ∷ [])

  count_next : count own_number (table ord 0 (i + 1)) ≡ count own_number ps + tick (own_number v)
  count_next = let e = ap (count own_number) (table_more ord i) in omega (arith, e, count_append own_number ps (v ∷ []))

  on_place : (A : ℕ → Type 0) (j : ℕ) → j < i + 1 → (j < i → A j) → A i → A j
  on_place A j g f x = on_eq j i (λ e. subst A (sym e) x) (λ ne. f (omega (arith, g, ne)))

  code_keep : (number' : ℕ → ℕ) → ((u : ℕ) → B.pos u < B.pos v → number' u ≡ number u) → (j : ℕ) → j < i + 1
      → from_code B K rel order number (table ord 0 j) (ord j) ≡ from_code B K rel order number' (table ord 0 j) (ord j)
  code_keep number' keep j g = go (B.child (ord j) && own_number (ord j)) refl
    where
      late : B.pos (source b j) < B.pos (ord j) → B.pos (source b j) < B.pos v
      late q = on_eq j i (λ e. subst (λ (x : ℕ). B.pos (source b j) < B.pos (ord x)) e q) (λ ne. let w = place_less b j i (omega (arith, g, ne)) l in omega (arith, q, w))

      go : (t : Bool) → (B.child (ord j) && own_number (ord j)) ≡ t → cond t (suc (number (source b j))) 0 ≡ cond t (suc (number' (source b j))) 0
      go true e = and_elim (B.child (ord j)) (own_number (ord j)) e λ c o. ap suc (sym (keep (source b j) (late (source_early b j (omega (arith, g, l)) c))))
      go false e = refl

  build : (h' : ℕ) (number' last' from' : ℕ → ℕ) → ((u : ℕ) → B.pos u < B.pos v → number' u ≡ number u) → h ≤ h' → h' ≡ h + tick (own_number v)
      → (own_number v ≡ true → number' v ≡ h) → (shares_top B K rel order v ≡ true → number' v ≡ number (top_of B v)) → (rel v ≡ true → number' v < h')
      → ((c : ℕ) → B.child c ≡ true → last' c ≡ last_code number' (members_in B rel ps c ++ members_in B rel (v ∷ []) c))
      → from' v ≡ from_code B K rel order number ps v → ((j : ℕ) → j < i → from' (ord j) ≡ from (ord j))
      → NumbersBy n m k seen (i + 1) h' to act ord te par top mark members below number' last' from'
  build h' number' last' from' keep more tot own-v shared-v low-v last-all from-v from_old = record {
    counted = p.counted;
    total = omega (arith, tot, p.total, count_next);
    own = λ j g. on_place (λ j. own_number (ord j) ≡ true → number' (ord j) ≡ count own_number (table ord 0 j)) j g
        (λ q t. keep (ord j) (place_less b j i q l) ∙ p.own j q t) (λ t. own-v t ∙ p.total);
    shared = λ j g. on_place (λ j. shares_top B K rel order (ord j) ≡ true → number' (ord j) ≡ number' (top_of B (ord j))) j g
        (λ q t. keep (ord j) (place_less b j i q l) ∙ p.shared j q t ∙ sym (keep (top_of B (ord j)) (let w = place_less b j i q l in omega (arith, w, top_pos (edges_below to m) B (ord j) (child_of (ord j) t)))))
        (λ t. shared-v t ∙ sym (keep (top_of B v) (top_pos (edges_below to m) B v (child_of v t))));
    low = λ j g. on_place (λ j. rel (ord j) ≡ true → number' (ord j) < h') j g (λ q t. omega (arith, p.low j q t, keep (ord j) (place_less b j i q l), more)) low-v;
    last_is = λ c t. last-all c t ∙ ap (last_code number') (sym (members_next c));
    from_is = λ j g. on_place (λ j. from' (ord j) ≡ from_code B K rel order number' (table ord 0 j) (ord j)) j g
        (λ q. from_old j q ∙ p.from_is j q ∙ code_keep number' keep j g) (from-v ∙ code_keep number' keep i (omega arith));
  }
    where
      child_of : (u : ℕ) → shares_top B K rel order u ≡ true → B.child u ≡ true
      child_of u t = and_elim (B.child u) (rel u && shares K B.par (classes_in B rel order) (B.first u, members_in B rel order (B.first u)) u) t λ x y. x

  -- a class that does not hold v
  not_held : (c : ℕ) → (B.child v && (rel v && eqb (B.first v) c)) ≡ false → members_in B rel ps c ++ members_in B rel (v ∷ []) c ≡ members_in B rel ps c
  not_held c e = ap (λ x. members_in B rel ps c ++ cond x (v ∷ []) []) e ∙ append-nil (members_in B rel ps c)

  members_early : (c u : ℕ) → Memᴰ u (members_in B rel ps c) → B.pos u < B.pos v
  members_early c u q = let (j, g, e, x, y, z) = member_place b i c u q in omega (arith, ap B.pos e, place_less b j i g l)

  last_keep : (number' : ℕ → ℕ) → ((u : ℕ) → B.pos u < B.pos v → number' u ≡ number u) → (c : ℕ) → last_code number (members_in B rel ps c) ≡ last_code number' (members_in B rel ps c)
  last_keep number' keep c = code_same number number' (members_in B rel ps c) (λ u q. sym (keep u (members_early c u q)))

  keep_at : (x u : ℕ) → B.pos u < B.pos v → update number v x u ≡ number u
  keep_at x u q = update_other number v x u (early_other u q)

  from_keep : (x j : ℕ) → j < i → update from v x (ord j) ≡ from (ord j)
  from_keep x j g = update_other from v x (ord j) (early_other (ord j) (place_less b j i g l))

  -- ---- not relevant
  pub number_irrelevant : rel v ≡ false → NumbersBy n m k seen (i + 1) h to act ord te par top mark members below number last (update from v 0)
  number_irrelevant r =
      build h number last (update from v 0) (λ u q. refl) (omega arith) (omega (arith, ap tick off)) (λ t. contradict t off)
      (λ t. and_elim (B.child v) (rel v && shares K B.par (classes_in B rel order) (B.first v, members_in B rel order (B.first v)) v) t λ x y.
      and_elim (rel v) (shares K B.par (classes_in B rel order) (B.first v, members_in B rel order (B.first v)) v) y λ z w. contradict z r)
      (λ t. contradict t r)
      (λ c t. p.last_is c t ∙ ap (last_code number) (sym (not_held c (and_off (B.child v) (ap (λ x. x && eqb (B.first v) c) r)))))
      (update_same from v 0 ∙ sym (ap (λ x. cond x (suc (number (source b i))) 0) (and_off (B.child v) off))) (from_keep 0)
    where
      off : own_number v ≡ false
      off = ap (λ x. x && not (shares_top B K rel order v)) r

  -- ---- a root
  pub number_root : B.child v ≡ false → rel v ≡ true
      → NumbersBy n m k seen (i + 1) (h + 1) to act ord te par top mark members below (update number v h) (update last v 0) (update from v 0)
  number_root c r =
      build (h + 1) (update number v h) (update last v 0) (update from v 0) (keep_at h) (omega arith) (omega (arith, ap tick on)) (λ t. update_same number v h)
      (λ t. contradict t (ap (λ x. x && (rel v && shares K B.par (classes_in B rel order) (B.first v, members_in B rel order (B.first v)) v)) c))
      (λ t. omega (arith, update_same number v h))
      (λ d t. update_other last v 0 d (λ e. contradict (ap B.child (sym e) ∙ t) c) ∙ p.last_is d t ∙ last_keep (update number v h) (keep_at h) d
      ∙ ap (last_code (update number v h)) (sym (not_held d (ap (λ x. x && (rel v && eqb (B.first v) d)) c))))
      (update_same from v 0 ∙ sym (ap (λ x. cond x (suc (number (source b i))) 0) (ap (λ x. x && own_number v) c))) (from_keep 0)
    where
      on : own_number v ≡ true
      on = ap₂ ◌&&◌ r (ap not (ap (λ x. x && (rel v && shares K B.par (classes_in B rel order) (B.first v, members_in B rel order (B.first v)) v)) c))

  -- ---- a relevant node with a parent
  module _ (c : B.child v ≡ true) (r : rel v ≡ true) where
    v_fit : v < n
    v_fit = b.placed i l

    first_is : B.first v ≡ top v
    first_is = b.first v v_fit

    top_is : par (top v) ≡ top_of B v
    top_is = sym (b.parent (B.first v) ∙ ap par first_is)

    pub top_fit : top v < n
    top_fit = subst (λ (x : ℕ). x < n) first_is (b.child_fit (B.first v) (B.first_child v c))

    top_seen : B.seen (top_of B v) ≡ true
    top_seen = B.par_seen (B.first v) (B.first_child v c)

    pub parent_fit : par (top v) < n
    parent_fit = subst (λ (x : ℕ). x < n) (sym top_is) (seen_fit b (top_of B v) top_seen)

    -- the class so far, and its last number
    abbrev us : List ℕ
    us = members_in B rel ps (B.first v)

    held : (B.child v && (rel v && eqb (B.first v) (B.first v))) ≡ true
    held = ap₂ ◌&&◌ c (ap₂ ◌&&◌ r (eq-eqb (B.first v) (B.first v) refl))

    last_v : last (top v) ≡ last_code number us
    last_v = ap last (sym first_is) ∙ p.last_is (B.first v) (B.first_child v c)

    pub last_is : last_by last number par (top v) ≡ suc (number (source b i))
    last_is = go us last_v
      where
        go : (us : List ℕ) → last (top v) ≡ last_code number us → last_by last number par (top v) ≡ suc (number (last_of (top_of B v) us))
        go [] e = ap (λ x. cond x (number (par (top v)) + 1) (last (top v))) (eq-eqb (last (top v)) 0 e) ∙ ap (λ x. number x + 1) top_is ∙ omega arith
        go (u ∷ us) e = ap (λ x. cond x (number (par (top v)) + 1) (last (top v))) (ne_eqb (last (top v)) 0 (λ z. omega (arith, z, e))) ∙ e

    -- the source has a number
    pub source_low : number (source b i) < h
    source_low =
        let s = source_early b i l c in
        let (j, g, e) = place_of b (source b i) i (relevant_seen b (source b i) (source_relevant b i c r)) l s in
        subst (λ (x : ℕ). number x < h) (sym e) (p.low j g (ap rel (sym e) ∙ source_relevant b i c r))

    -- the class of v, and the others
    class_cases : (number' last' : ℕ → ℕ) (y : ℕ) → ((u : ℕ) → B.pos u < B.pos v → number' u ≡ number u) → y ≡ suc (number' v)
        → (d : ℕ) → B.child d ≡ true → update last (top v) y d ≡ last_code number' (members_in B rel ps d ++ members_in B rel (v ∷ []) d)
    class_cases number' last' y keep e = update_at (λ d x. B.child d ≡ true → x ≡ last_code number' (members_in B rel ps d ++ members_in B rel (v ∷ []) d)) last (top v) y
        (λ t. e ∙ sym (code_snoc number' (members_in B rel ps (top v)) v)
        ∙ ap (λ x. last_code number' (members_in B rel ps (top v) ++ cond x (v ∷ []) [])) (sym (ap (λ x. B.child v && (rel v && eqb (B.first v) x)) (sym first_is) ∙ held)))
        (λ d ne t. p.last_is d t ∙ last_keep number' keep d
        ∙ ap (last_code number') (sym (not_held d (and_off (B.child v) (and_off (rel v) (ne_eqb (B.first v) d (λ e. ne (sym e ∙ first_is))))))))

    -- the test by the counts
    pub shares_is : shares_by mark below members par v (top v) ≡ shares_top B K rel order v
    shares_is =
        ap₂ ◌&&◌ (sym (not_positive (mark v)) ∙ ap not (sym (b.marks v v_fit)))
        (ap₂ ◌&&◌ (sym (not_positive (mark (par (top v)))) ∙ ap not (sym (b.marks (par (top v)) parent_fit) ∙ ap K top_is))
        (ap₂ ◌&&◌ (ap (λ x. eqb x 1) (p.counted.below_are v v_fit)) (ap (λ x. eqb x 1) (p.counted.members_are (top v) top_fit ∙ ap (λ x. length (members_in B rel order x)) (sym first_is)) ∙ sym (single_length (members_in B rel order (B.first v))))))
        ∙ and_rotate (not (K v)) (not (K (top_of B v))) (eqb (classes_below B.par (classes_in B rel order) v) 1) (single (members_in B rel order (B.first v)))
        ∙ sym (ap (λ x. x && (rel v && shares K B.par (classes_in B rel order) (B.first v, members_in B rel order (B.first v)) v)) c
        ∙ ap (λ x. x && shares K B.par (classes_in B rel order) (B.first v, members_in B rel order (B.first v)) v) r)

    -- ---- it shares
    module _ (s : shares_top B K rel order v ≡ true) where
      source_is : source b i ≡ top_of B v
      source_is = shared_source b i l s

      pub number_shared : (x y : ℕ) → y ≡ last_by last number par (top v) → x ≡ y - 1
          → NumbersBy n m k seen (i + 1) h to act ord te par top mark members below (update number v x) (update last (top v) y) (update from v 0)
      number_shared x y ey ex =
          build h (update number v x) (update last (top v) y) (update from v 0) (keep_at x) (omega arith) (omega (arith, ap tick off)) (λ t. contradict t off)
          (λ t. update_same number v x ∙ x_is ∙ ap number source_is) (λ t. omega (arith, update_same number v x, x_is, source_low))
          (class_cases (update number v x) (update last (top v) y) y (keep_at x) (omega (arith, ey, last_is, x_is, update_same number v x)))
          (update_same from v 0 ∙ sym (ap (λ x. cond x (suc (number (source b i))) 0) (and_off (B.child v) off))) (from_keep 0)
        where
          off : own_number v ≡ false
          off = and_off (rel v) (ap not s)

          x_is : x ≡ number (source b i)
          x_is = omega (arith, ex, ey, last_is)

    -- ---- a number of its own
    pub number_own : shares_top B K rel order v ≡ false → (y z : ℕ) → y ≡ h + 1 → z ≡ last_by last number par (top v)
        → NumbersBy n m k seen (i + 1) (h + 1) to act ord te par top mark members below (update number v h) (update last (top v) y) (update from v z)
    number_own s y z ey ez =
        build (h + 1) (update number v h) (update last (top v) y) (update from v z) (keep_at h) (omega arith) (omega (arith, ap tick on)) (λ t. update_same number v h)
        (λ t. contradict t s) (λ t. omega (arith, update_same number v h))
        (class_cases (update number v h) (update last (top v) y) y (keep_at h) (omega (arith, ey, update_same number v h)))
        (update_same from v z ∙ ez ∙ last_is ∙ sym (ap (λ x. cond x (suc (number (source b i))) 0) (ap₂ ◌&&◌ c on))) (from_keep z)
      where
        on : own_number v ≡ true
        on = ap₂ ◌&&◌ r (ap not s)
