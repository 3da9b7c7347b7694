-- Laws of counting the relevant nodes: over functions, one node more; then at the words.
-- Assumes nothing.
use Prim.Native.Nat.{◌+◌, ◌-◌, ◌<◌, ◌≤◌, ℕ}
use mathlib.Core.Bool.{Bool, ◌&&◌, ◌||◌, false, not, true}
use mathlib.Core.List.{List, Memᴰ, [], ◌∷◌}
use mathlib.Core.Logic.{◌⊎◌, inl, inr}
use mathlib.Core.Path.{◌∙◌, ◌≡◌, ap, ap₂, refl, subst, sym}
use lib.Dec.{eqb, ltb}
use lib.ListN.{length}
use native.Mathlib.Omega.{arith}
use borrow.Author.Tests.{eq-eqb, eqb-false, eqb-true, le-ltb, lt-ltb, ne_eqb}
use Rattle.theory_graph.proofs.Booleans.{contradict, on_bool}
use Rattle.theory_graph.proofs.Lists.{table_length, table_mem}
use Rattle.theory_graph.specs.Graph.{Edge, NodeSet}
use Rattle.theory_graph.specs.Lists.{member, table}
use Rattle.theory_junctions.proofs.BackwardCounts.{relevant_counted, start_none, step_counted, step_first, step_members, step_none, step_others}
use Rattle.theory_junctions.specs.Blocks.{Blocks, top_of}
use Rattle.theory_junctions.specs.Classes.{tick}
use Rattle.theory_junctions.specs.Reduce.{Rising, classes_among, members_in, none}
use Rattle.core_words.proofs.ChangeLaws.{only_none, only_then}
use Rattle.core_words.proofs.FieldLaws.{update_at}
use Rattle.core_words.specs.Changes.{OnlyFields}
use Rattle.core_words.specs.Fields.{ACTIVE, EDGE, MARK, ORDER, PARENT, TO, TOP, half, node, update}
use Rattle.core_forest.specs.Forest.{edges_below}
use Rattle.core_cycles.proofs.OrderLaws.{count_few, filter_few, rising_after, table_cut, table_from}
use Rattle.core_cycles.specs.BlocksIn.{BELOW, BlocksBy, CanCount, CanCountNode, CountedNode, Counting, CountsBy, MEMBERS, count_fields}

none_length : (xs : List ℕ) → length xs ≡ 0 → none xs ≡ true
none_length [] e = refl
none_length (x ∷ xs) e = absurd (omega arith)

some_length : (xs : List ℕ) → ¬ (length xs ≡ 0) → none xs ≡ false
some_length [] ne = absurd (ne refl)
some_length (x ∷ xs) ne = refl

module _ {n m k seen : ℕ} {to act ord te par top mark : ℕ → ℕ} (b : BlocksBy n m k seen to act ord te par top mark) where
  abbrev B : Blocks (edges_below to m)
  B = b.blocks

  abbrev E : List Edge
  E = edges_below to m

  abbrev K : NodeSet
  K = member (table act 0 k)

  abbrev order : List ℕ
  order = table ord 0 seen

  -- all that comes after place i is in the list from there on
  pub after : (i : ℕ) → i < seen → (w : ℕ) → Memᴰ w order → B.pos (ord i) < B.pos w → Memᴰ w (table ord (i + 1) (seen - (i + 1)))
  after i l w h p =
      rising_after B.pos (table ord 0 i) (ord i) (table ord (i + 1) (seen - (i + 1))) (subst (Rising B.pos) (table_cut ord i seen l) b.search.rises) w
      (subst (λ (xs : List ℕ). Memᴰ w xs) (table_cut ord i seen l) h) p

  pub seen_fit : (u : ℕ) → B.seen u ≡ true → u < n
  seen_fit u s = let (j, l, e) = table_mem ord 0 seen u (b.search.seen_listed u s) in subst (λ (x : ℕ). x < n) (sym e) (b.placed j (omega arith))

-- ---- one node more, over functions
module _ {n m k seen i : ℕ} {to act ord te par top mark members below : ℕ → ℕ} (l : i < seen) (c : CountsBy n m k seen (i + 1) to act ord te par top mark members below) where
  abbrev b : BlocksBy n m k seen to act ord te par top mark
  b = c.is

  abbrev G : Blocks (edges_below to m)
  G = b.blocks

  abbrev rel : NodeSet
  rel = b.rel

  abbrev v : ℕ
  v = ord i

  -- what has been counted, and with v
  abbrev ds : List ℕ
  ds = table ord (i + 1) (seen - (i + 1))

  abbrev L : NodeSet
  L = member (table act 0 k)

  cut : table ord i (seen - i) ≡ v ∷ ds
  cut = table_from ord i seen l

  v_fit : v < n
  v_fit = b.placed i l

  question : (ltb 0 (mark v) || ltb 0 (below v)) ≡ rel v
  question =
      ap₂ ◌||◌ (sym (b.marks v v_fit)) (ap (ltb 0) (c.below_are v v_fit))
      ∙ relevant_counted (edges_below to m) G L rel (table ord 0 seen) b.search b.relevance v ds (after b i l)

  pub irrelevant : mark v + below v ≡ 0 → rel v ≡ false
  irrelevant z = sym question ∙ ap₂ ◌||◌ (le-ltb 0 (mark v) (omega arith)) (le-ltb 0 (below v) (omega arith))

  pub relevant : ¬ (mark v + below v ≡ 0) → rel v ≡ true
  relevant nz =
      sym question ∙ on_bool (ltb 0 (mark v)) (λ t. ap (λ x. x || ltb 0 (below v)) t)
      (λ t. ap₂ ◌||◌ t (lt-ltb 0 (below v) (let z : ¬ (mark v ≡ 0) → ⊥ = λ ne. contradict (lt-ltb 0 (mark v) (omega arith)) t in positive z)))
    where
      positive : (¬ (mark v ≡ 0) → ⊥) → 0 < below v
      positive z = on_bool (eqb (below v) 0)
          (λ e. absurd (z (λ m. nz (omega (arith, m, eqb-true (below v) 0 e)))))
          (λ e. let ne = eqb-false (below v) 0 e in omega (arith, ne))

  same : (members below : ℕ → ℕ) → ((d : ℕ) → d < n → members d ≡ length (members_in G rel (v ∷ ds) d)) → ((t : ℕ) → t < n → below t ≡ classes_among G rel (table ord 0 seen) (v ∷ ds) t)
      → CountsBy n m k seen i to act ord te par top mark members below
  same members below p q = record {
    is = b;
    members_are = λ d k. p d k ∙ ap (λ xs. length (members_in G rel xs d)) (sym cut);
    below_are = λ t k. q t k ∙ ap (λ xs. classes_among G rel (table ord 0 seen) xs t) (sym cut);
  }

  skip : (G.child v && rel v) ≡ false → CountsBy n m k seen i to act ord te par top mark members below
  skip h =
      let (p, q) = step_none (edges_below to m) G L rel (table ord 0 seen) b.search b.relevance v ds h in
      same members below (λ d k. c.members_are d k ∙ ap (λ xs. length xs) (sym (p d))) (λ t k. c.below_are t k ∙ sym (q t))

  pub count_root : te v ≡ 0 → CountsBy n m k seen i to act ord te par top mark members below
  count_root z = skip (ap (λ x. x && rel v) (b.child i l ∙ ap not (eq-eqb (te v) 0 z)))

  pub count_irrelevant : mark v + below v ≡ 0 → CountsBy n m k seen i to act ord te par top mark members below
  count_irrelevant z = skip (off (G.child v) (irrelevant z))
    where
      off : (x : Bool) {y : Bool} → y ≡ false → (x && y) ≡ false
      off true e = e
      off false e = refl

  module _ (nt : ¬ (te v ≡ 0)) where
    pub is_child : G.child v ≡ true
    is_child = b.child i l ∙ ap not (ne_eqb (te v) 0 nt)

    first_is : G.first v ≡ top v
    first_is = b.first v v_fit

    pub top_fit : top v < n
    top_fit = subst (λ (x : ℕ). x < n) first_is (b.child_fit (G.first v) (G.first_child v is_child))

    top_is : top_of G v ≡ par (top v)
    top_is = b.parent (G.first v) ∙ ap par first_is

    pub parent_fit : par (top v) < n
    parent_fit = subst (λ (x : ℕ). x < n) top_is (seen_fit b (top_of G v) (G.par_seen (G.first v) (G.first_child v is_child)))

    module _ (nz : ¬ (mark v + below v ≡ 0)) where
      members_step : (d : ℕ) → d < n → update members (top v) (members (top v) + 1) d ≡ length (members_in G rel (v ∷ ds) d)
      members_step = update_at (λ d x. d < n → x ≡ length (members_in G rel (v ∷ ds) d)) members (top v) (members (top v) + 1)
          (λ k.
          let e : members_in G rel (v ∷ ds) (top v) ≡ v ∷ members_in G rel ds (top v) =
          subst (λ (x : ℕ). members_in G rel (v ∷ ds) x ≡ v ∷ members_in G rel ds x) first_is (step_members (edges_below to m) G L rel (table ord 0 seen) b.search b.relevance v ds is_child (relevant nz)) in
          omega (arith, c.members_are (top v) k, ap (λ (xs : List ℕ). length xs) e))
          (λ d ne k. c.members_are d k ∙ ap (λ (xs : List ℕ). length xs) (sym (step_others (edges_below to m) G L rel (table ord 0 seen) b.search b.relevance v ds is_child (relevant nz) d (λ e. ne (e ∙ first_is)))))

      pub count_first : members (top v) ≡ 0
          → CountsBy n m k seen i to act ord te par top mark (update members (top v) (members (top v) + 1)) (update below (par (top v)) (below (par (top v)) + 1))
      count_first z = same (update members (top v) (members (top v) + 1)) (update below (par (top v)) (below (par (top v)) + 1)) members_step
          (update_at (λ t x. t < n → x ≡ classes_among G rel (table ord 0 seen) (v ∷ ds) t) below (par (top v)) (below (par (top v)) + 1)
          (λ h. omega (arith, c.below_are (par (top v)) h, first (par (top v)), ap tick (eq-eqb (top_of G v) (par (top v)) top_is)))
          (λ t ne h. omega (arith, c.below_are t h, first t, ap tick (ne_eqb (top_of G v) t (λ e. ne (sym e ∙ top_is))))))
        where
          first : (t : ℕ) → classes_among G rel (table ord 0 seen) (v ∷ ds) t ≡ classes_among G rel (table ord 0 seen) ds t + tick (eqb (top_of G v) t)
          first = step_first (edges_below to m) G L rel (table ord 0 seen) b.search b.relevance v ds is_child (relevant nz)
              (none_length (members_in G rel ds (G.first v)) (ap (λ x. length (members_in G rel ds x)) first_is ∙ sym (c.members_are (top v) top_fit) ∙ z))

      pub count_other : ¬ (members (top v) ≡ 0) → CountsBy n m k seen i to act ord te par top mark (update members (top v) (members (top v) + 1)) below
      count_other nz₀ = same (update members (top v) (members (top v) + 1)) below members_step
          (λ t h. c.below_are t h ∙ sym (step_counted (edges_below to m) G L rel (table ord 0 seen) b.search b.relevance v ds is_child (relevant nz)
          (some_length (members_in G rel ds (G.first v)) (λ e. nz₀ (c.members_are (top v) top_fit ∙ ap (λ x. length (members_in G rel ds x)) (sym first_is) ∙ e))) t))

-- ---- at the words
pub counting_none : {n m k seen : ℕ} {w : List ℕ} → CanCount n m k seen w → Counting n m k seen seen w w
counting_none {n} {m} {k} {seen} {w} r = record {
  rest = only_none n w;
  counts = record {
    is = r.blocks;
    members_are = λ c l. (r.none c l).0 ∙ ap (λ xs. length (members_in r.blocks.blocks r.blocks.rel xs c)) (sym empty);
    below_are = λ t l. (r.none t l).1 ∙ sym (start_none (edges_below (half n TO w) m) r.blocks.blocks (member (table (node ACTIVE w) 0 k)) r.blocks.rel (table (node ORDER w) 0 seen) r.blocks.search r.blocks.relevance t)
        ∙ ap (λ xs. classes_among r.blocks.blocks r.blocks.rel (table (node ORDER w) 0 seen) xs t) (sym empty);
  };
}
  where
    empty : table (node ORDER w) seen (seen - seen) ≡ []
    empty = let e : seen - seen ≡ 0 = omega arith in ap (table (node ORDER w) seen) e

few_members : {n m k seen i : ℕ} {to act ord te par top mark members below : ℕ → ℕ} → CountsBy n m k seen i to act ord te par top mark members below
    → n ≤ 65536 → (c : ℕ) → c < n → members c ≤ 65536
few_members {n} {m} {k} {seen} {i} {to} {act} {ord} p f c l =
    omega (arith, p.members_are c l, filter_few (λ u. p.is.blocks.child u && (p.is.rel u && eqb (p.is.blocks.first u) c)) (table ord i (seen - i)), table_length ord i (seen - i), p.is.less)

few_below : {n m k seen i : ℕ} {to act ord te par top mark members below : ℕ → ℕ} → CountsBy n m k seen i to act ord te par top mark members below
    → n ≤ 65536 → (t : ℕ) → t < n → below t ≤ 65536
few_below {n} {m} {k} {seen} {i} {to} {act} {ord} p f t l =
    omega (
      arith,
      p.below_are t l,
      count_few (λ c. p.is.blocks.child c && (eqb (p.is.blocks.first c) c && not (none (members_in p.is.blocks p.is.rel (table ord i (seen - i)) c))) && eqb (p.is.blocks.par c) t) (table ord 0 seen),
      table_length ord 0 seen,
      p.is.less,
    )

module _ {n m k seen : ℕ} (i : ℕ) {a w : List ℕ} (r : CanCount n m k seen a) (p : Counting n m k seen (i + 1) a w) (l : i < seen) where
  pub node_can : {v : ℕ} → v ≡ node ORDER w i → CanCountNode n w v
  node_can {v} e = rw e (record {
    few = r.few;
    room = omega (arith, r.room, p.rest.same);
    fit = p.counts.is.placed i l;
    top_fit = λ nt. top_fit l p.counts nt;
    parent_fit = λ nt. parent_fit l p.counts nt;
    members_few = λ nt. few_members p.counts r.few (node TOP w (node ORDER w i)) (top_fit l p.counts nt);
    below_few = λ nt. few_below p.counts r.few (node PARENT w (node TOP w (node ORDER w i))) (parent_fit l p.counts nt);
  })

  -- the other fields stay
  moved : {w' : List ℕ} {members below : ℕ → ℕ} → OnlyFields count_fields n w w' → node MEMBERS w' ≡ members → node BELOW w' ≡ below
      → CountsBy n m k seen i (half n TO w) (node ACTIVE w) (node ORDER w) (node EDGE w) (node PARENT w) (node TOP w) (node MARK w) members below → Counting n m k seen i a w'
  moved o x y q = record {
    rest = only_then p.rest o;
    counts = rw (
      o.halves TO,
      o.nodes ACTIVE (omega arith) refl,
      o.nodes ORDER (omega arith) refl,
      o.nodes EDGE (omega arith) refl,
      o.nodes PARENT (omega arith) refl,
      o.nodes TOP (omega arith) refl,
      o.nodes MARK (omega arith) refl,
      x,
      y,
    ) q;
  }

  pub counting_more : {v : ℕ} {w' : List ℕ} → v ≡ node ORDER w i → CountedNode n v w w' → Counting n m k seen i a w'
  counting_more {v} {w'} e q = go (subst (λ (x : ℕ). CountedNode n x w w') e q)
    where
      go : CountedNode n (node ORDER w i) w w' → Counting n m k seen i a w'
      go (inl (s, inl z)) = subst (Counting n m k seen i a) (sym s) (record { rest = p.rest; counts = count_root l p.counts z })
      go (inl (s, inr z)) = subst (Counting n m k seen i a) (sym s) (record { rest = p.rest; counts = count_irrelevant l p.counts z })
      go (inr d) = cases d.below
        where
          cases : ((node MEMBERS w (node TOP w (node ORDER w i)) ≡ 0)
              × (node BELOW w' ≡ update (node BELOW w) (node PARENT w (node TOP w (node ORDER w i))) (node BELOW w (node PARENT w (node TOP w (node ORDER w i))) + 1)))
              ⊎ (¬ (node MEMBERS w (node TOP w (node ORDER w i)) ≡ 0) × (node BELOW w' ≡ node BELOW w)) → Counting n m k seen i a w'
          cases (inl (z, y)) = moved d.rest d.members y (count_first l p.counts d.child d.relevant z)
          cases (inr (z, y)) = moved d.rest d.members y (count_other l p.counts d.child d.relevant z)

pub counting_down : {n m k seen i : ℕ} {a w : List ℕ} → 0 < i → Counting n m k seen i a w → Counting n m k seen (i - 1 + 1) a w
counting_down {n} {m} {k} {seen} {i} {a} {w} l p = let e : i ≡ i - 1 + 1 = omega arith in subst (λ (j : ℕ). Counting n m k seen j a w) e p

-- ---- one node's step

-- what is read on the way is in range
