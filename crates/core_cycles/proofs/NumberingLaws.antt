-- Laws of the loop that numbers the nodes, at the words; and that all nodes are counted before it.
-- Assumes nothing.
use Prim.Native.Nat.{◌+◌, ◌-◌, ◌<◌, ℕ}
use mathlib.Core.Bool.{◌||◌, not, true}
use mathlib.Core.List.{List}
use mathlib.Core.Logic.{inl, inr}
use mathlib.Core.Path.{◌∙◌, ◌≡◌, ap, ap₂, refl, subst, sym}
use lib.Dec.{eqb, ltb}
use lib.ListN.{length}
use native.Mathlib.Omega.{arith}
use borrow.Author.Tests.{eq-eqb, eqb-false, eqb-true, le-ltb, lt-ltb, ltb-false, ne_eqb}
use Rattle.theory_graph.proofs.Booleans.{on_bool}
use Rattle.theory_graph.proofs.Lists.{table_length}
use Rattle.theory_graph.specs.Lists.{member, table}
use Rattle.theory_junctions.proofs.BackwardCounts.{end_counted, relevant_counted}
use Rattle.theory_junctions.specs.Reduce.{classes_among, members_in}
use Rattle.core_words.proofs.ChangeLaws.{only_none, only_put, only_then}
use Rattle.core_words.specs.Changes.{OnlyFields}
use Rattle.core_words.specs.Fields.{ACTIVE, EDGE, MARK, NUMBER, ORDER, PARENT, TO, TOP, half, node}
use Rattle.core_forest.specs.Forest.{edges_below}
use Rattle.core_cycles.proofs.NumberLaws.{last_is, number_irrelevant, number_own, number_root, number_shared, parent_fit, shares_is, source_low, top_fit}
use Rattle.core_cycles.proofs.OrderLaws.{count_few}
use Rattle.core_cycles.specs.BlocksIn.{BELOW, BlocksBy, Counting, CountsBy, FROM, LAST, MEMBERS}
use Rattle.core_cycles.specs.Numbering.{CanNumber, CanNumberNode, CountedAt, CountedBy, MemberNumbered, NodeNumbered, Numbering, NumbersBy, last_at, number_fields, numbered}

-- ---- all nodes are counted
pub counted_all : {n m k seen : ℕ} {to act ord te par top mark members below : ℕ → ℕ} → CountsBy n m k seen 0 to act ord te par top mark members below
    → CountedBy n m k seen to act ord te par top mark members below
counted_all {n} {m} {k} {seen} {to} {act} {ord} {te} {par} {top} {mark} {members} {below} c = record {
  is = c.is;
  members_are = λ d l. c.members_are d l ∙ ap (λ xs. length (members_in c.is.blocks c.is.rel xs d)) all;
  below_are = λ t l. amount t l ∙ sym (end_counted (edges_below to m) c.is.blocks (member (table act 0 k)) c.is.rel (table ord 0 seen) c.is.search c.is.relevance t);
  relevant = λ i l. sym (relevant_counted (edges_below to m) c.is.blocks (member (table act 0 k)) c.is.rel (table ord 0 seen) c.is.search c.is.relevance (ord i) (table ord 0 seen) (λ w h p. h))
      ∙ ap₂ ◌||◌ (c.is.marks (ord i) (c.is.placed i l)) (ap (ltb 0) (sym (amount (ord i) (c.is.placed i l)))) ∙ either (mark (ord i)) (below (ord i));
}
  where
    all : table ord 0 (seen - 0) ≡ table ord 0 seen
    all = let e : seen - 0 ≡ seen = omega arith in ap (table ord 0) e

    amount : (t : ℕ) → t < n → below t ≡ classes_among c.is.blocks c.is.rel (table ord 0 seen) (table ord 0 seen) t
    amount t l = c.below_are t l ∙ ap (λ xs. classes_among c.is.blocks c.is.rel (table ord 0 seen) xs t) all

    either : (x y : ℕ) → (ltb 0 x || ltb 0 y) ≡ not (eqb (x + y) 0)
    either x y = on_bool (eqb (x + y) 0)
        (λ e. let z = eqb-true (x + y) 0 e in ap₂ ◌||◌ (le-ltb 0 x (omega (arith, z))) (le-ltb 0 y (omega (arith, z))) ∙ sym (ap not e))
        (λ e. let z = eqb-false (x + y) 0 e in some x y z ∙ sym (ap not e))
      where
        some : (x y : ℕ) → ¬ (x + y ≡ 0) → (ltb 0 x || ltb 0 y) ≡ true
        some x y z = on_bool (ltb 0 x) (λ t. ap (λ b. b || ltb 0 y) t) (λ t. let g = ltb-false 0 x t in ap₂ ◌||◌ t (lt-ltb 0 y (omega (arith, g, z))))

pub counting_done : {n m k seen : ℕ} {a w : List ℕ} → Counting n m k seen 0 a w → CountedAt n m k seen w
counting_done p = counted_all p.counts

-- ---- the loop
pub numbering_none : {n m k seen : ℕ} {w : List ℕ} → CanNumber n m k seen w → Numbering n m k seen 0 0 w w
numbering_none {n} {w = w} r = record {
  rest = only_none n w;
  numbers = record {
    counted = r.counted;
    total = refl;
    own = λ j l. absurd (omega arith);
    shared = λ j l. absurd (omega arith);
    low = λ j l. absurd (omega arith);
    last_is = λ c t. r.none c (r.counted.is.child_fit c t);
    from_is = λ j l. absurd (omega arith);
  };
}

module _ {n m k seen i h : ℕ} {a w : List ℕ} (r : CanNumber n m k seen a) (p : Numbering n m k seen i h a w) (l : i < seen) where
  abbrev b : BlocksBy n m k seen (half n TO w) (node ACTIVE w) (node ORDER w) (node EDGE w) (node PARENT w) (node TOP w) (node MARK w)
  b = p.numbers.counted.is

  abbrev v : ℕ
  v = node ORDER w i

  below_n : h < n
  below_n = omega (arith, p.numbers.total, count_few (numbered b.blocks (member (table (node ACTIVE w) 0 k)) b.rel (table (node ORDER w) 0 seen)) (table (node ORDER w) 0 i), table_length (node ORDER w) 0 i, b.less)

  relevant : ¬ (node MARK w v + node BELOW w v ≡ 0) → b.rel v ≡ true
  relevant nz = p.numbers.counted.relevant i l ∙ ap not (ne_eqb (node MARK w v + node BELOW w v) 0 nz)

  child : ¬ (node EDGE w v ≡ 0) → b.blocks.child v ≡ true
  child ne = b.child i l ∙ ap not (ne_eqb (node EDGE w v) 0 ne)

  pub node_can : {u : ℕ} → u ≡ v → CanNumberNode n h w u
  node_can e = rw e (record {
    few = r.few;
    room = omega (arith, r.room, p.rest.same);
    less = below_n;
    fit = b.placed i l;
    class = λ nz ne. record {
      few = r.few;
      room = omega (arith, r.room, p.rest.same);
      fit = top_fit l p.numbers (child ne) (relevant nz);
      parent_fit = parent_fit l p.numbers (child ne) (relevant nz);
      last_few = omega (arith, last_is l p.numbers (child ne) (relevant nz), source_low l p.numbers (child ne) (relevant nz), below_n, r.few);
    };
  })

  -- the other fields stay
  moved : {w' : List ℕ} {h' : ℕ} {number last from : ℕ → ℕ} → OnlyFields number_fields n w w' → node NUMBER w' ≡ number → node LAST w' ≡ last → node FROM w' ≡ from
      → NumbersBy n m k seen (i + 1) h' (half n TO w) (node ACTIVE w) (node ORDER w) (node EDGE w) (node PARENT w) (node TOP w) (node MARK w) (node MEMBERS w) (node BELOW w) number last from
      → Numbering n m k seen (i + 1) h' a w'
  moved o x y z q = record {
    rest = only_then p.rest o;
    numbers = rw (
      o.halves TO,
      o.nodes ACTIVE (omega arith) refl,
      o.nodes ORDER (omega arith) refl,
      o.nodes EDGE (omega arith) refl,
      o.nodes PARENT (omega arith) refl,
      o.nodes TOP (omega arith) refl,
      o.nodes MARK (omega arith) refl,
      o.nodes MEMBERS (omega arith) refl,
      o.nodes BELOW (omega arith) refl,
      x,
      y,
      z,
    ) q;
  }

  pub numbering_more : {u s : ℕ} {w' : List ℕ} → u ≡ v → NodeNumbered n h u w w' s → Numbering n m k seen (i + 1) s a w'
  numbering_more {u} {s} {w'} e q = go (subst (λ (x : ℕ). NodeNumbered n h x w w' s) e q)
    where
      member_step : ¬ (node MARK w v + node BELOW w v ≡ 0) → ¬ (node EDGE w v ≡ 0) → MemberNumbered n h v w w' s → Numbering n m k seen (i + 1) s a w'
      member_step nz ne (inl (t, d, f)) =
          subst (λ (x : ℕ). Numbering n m k seen (i + 1) x a w') (sym f)
          (moved d.rest d.number d.last d.from
          (number_shared l p.numbers (child ne) (relevant nz) (sym (shares_is l p.numbers (child ne) (relevant nz)) ∙ t) (last_at w (node TOP w v) - 1) (last_at w (node TOP w v)) refl refl))
      member_step nz ne (inr (t, d, f)) =
          subst (λ (x : ℕ). Numbering n m k seen (i + 1) x a w') (sym f)
          (moved d.rest d.number d.last d.from
          (number_own l p.numbers (child ne) (relevant nz) (sym (shares_is l p.numbers (child ne) (relevant nz)) ∙ t) (h + 1) (last_at w (node TOP w v)) refl refl))

      go : NodeNumbered n h v w w' s → Numbering n m k seen (i + 1) s a w'
      go (inl (z, d, f)) =
          subst (λ (x : ℕ). Numbering n m k seen (i + 1) x a w') (sym f)
          (moved (only_put refl (b.placed i l) d) (d.else NUMBER (omega arith) (λ e. omega arith)) (d.else LAST (omega arith) (λ e. omega arith)) d.here
          (number_irrelevant l p.numbers (p.numbers.counted.relevant i l ∙ ap not (eq-eqb (node MARK w v + node BELOW w v) 0 z))))
      go (inr (inl (nz, z, d, f))) =
          subst (λ (x : ℕ). Numbering n m k seen (i + 1) x a w') (sym f)
          (moved d.rest d.number d.last d.from (number_root l p.numbers (b.child i l ∙ ap not (eq-eqb (node EDGE w v) 0 z)) (relevant nz)))
      go (inr (inr (nz, ne, d))) = member_step nz ne d
