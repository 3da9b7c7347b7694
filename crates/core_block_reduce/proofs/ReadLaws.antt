-- Reading the reply off the edges that are written, for one or two active nodes; and lists of different nodes.
-- Assumes nothing.
use Prim.Native.Nat.{◌+◌, ◌<◌, ◌≤◌, suc, zero, ℕ}
use mathlib.Core.Bool.{Bool, ◌&&◌, ◌||◌, cond, false, not, true}
use mathlib.Core.List.{List, Memᴰ, [], ◌∷◌}
use mathlib.Core.Logic.{inl}
use mathlib.Core.Path.{◌∙◌, ◌≡◌, ap, ap₂, refl, subst, sym}
use lib.Dec.{eqb}
use lib.ListN.{length}
use native.Mathlib.Omega.{arith}
use borrow.Author.Tests.{eq-eqb, eqb-true}
use Rattle.theory_graph.proofs.Booleans.{bool_iff}
use Rattle.theory_graph.proofs.DistinctLists.{distinct_different}
use Rattle.theory_graph.proofs.Lists.{filter_length, table_mem}
use Rattle.theory_graph.specs.Graph.{Edge, NodeSet}
use Rattle.theory_graph.specs.Lists.{Distinct, firsts, member, table}
use Rattle.theory_graph.specs.SmallGraph.{different, image, no_edge}
use Rattle.theory_junctions.proofs.ReadOut.{read_equal, reply_equal}
use Rattle.theory_junctions.proofs.SameColourings.{Covers, reply_sym}
use Rattle.theory_junctions.proofs.Written.{written_query}
use Rattle.theory_junctions.specs.Blocks.{Blocks}
use Rattle.theory_junctions.specs.Reduce.{Numbers, Relevance, Search, written_edges}
use Rattle.theory_junctions.specs.Reply.{adjacent, read_reply, reply}

-- ---- different nodes
pub table_distinct : (f : ℕ → ℕ) (i r : ℕ) → ((x y : ℕ) → i ≤ x → x < y → y < i + r → ¬ (f x ≡ f y)) → Distinct (table f i r)
table_distinct f i zero h = tt
table_distinct f i (suc r) h = (
  λ q. later (suc i) r (f i) q (λ y l g e. h i y (omega arith) (omega (arith, l)) (omega (arith, g)) e),
  table_distinct f (suc i) r (λ x y l g k. h x y (omega (arith, l)) g (omega (arith, k))),
)
  where
    later : (a s v : ℕ) → Memᴰ v (table f a s) → ((y : ℕ) → a ≤ y → y < a + s → ¬ (v ≡ f y)) → ⊥
    later a zero v x3 n = elim x3 [ ]
    later a (suc s) v (Memᴰ.head e) n = n a (omega arith) (omega arith) e
    later a (suc s) v (Memᴰ.tail q) n = later (suc a) s v q (λ y l g. n y (omega (arith, l)) (omega (arith, g)))

firsts_few : (xs : List ℕ) → length (firsts eqb xs) ≤ length xs
firsts_few [] = omega arith
firsts_few (x ∷ xs) = omega (arith, firsts_few xs, filter_length (λ y. not (eqb x y)) (firsts eqb xs))

pub distinct_count : (S : List ℕ) → Distinct S → different S ≡ length S
distinct_count S d = omega (arith, firsts_few S, distinct_different S S d (λ u q. q))

-- ---- the other way round

adjacent_sym : (H : List Edge) (x y : ℕ) → adjacent H x y ≡ adjacent H y x
adjacent_sym [] x y = refl
adjacent_sym (e ∷ H) x y = swap_first (eqb e.0 x && eqb e.1 y) (eqb e.0 y && eqb e.1 x) (adjacent_sym H x y)
  where
    swap_first : (a b : Bool) {c d : Bool} → c ≡ d → (a || b || c) ≡ (b || a || d)
    swap_first true true e = refl
    swap_first true false e = refl
    swap_first false true e = refl
    swap_first false false e = e

eqb_sym : (x y : ℕ) → eqb x y ≡ eqb y x
eqb_sym x y = bool_iff (eqb x y) (eqb y x) (λ e. eq-eqb y x (sym (eqb-true x y e))) (λ e. eq-eqb x y (sym (eqb-true y x e)))

read_sym : (H : List Edge) (x y : ℕ) → read_reply H x y ≡ read_reply H y x
read_sym H x y = ap (λ t. cond t 2 (cond (no_edge H) 0 1)) (ap₂ ◌||◌ (eqb_sym x y) (adjacent_sym H x y))

-- ---- one query
module _ (E : List Edge) (B : Blocks E) (rel : NodeSet) (order : List ℕ) (num ρ : ℕ → ℕ) (H : List Edge) where
  query_list : (S : List ℕ) (x y : ℕ) → S ≡ x ∷ y ∷ [] → Search E B (member S) order → Relevance E B (member S) rel → Numbers E B (member S) rel order num ρ
      → Covers H (image num (written_edges B (member S) rel order)) → ((p q : ℕ) → Memᴰ (p, q) H → Memᴰ (p, q) (image num (written_edges B (member S) rel order)))
      → reply E x y ≡ read_reply H (num x) (num y)
  query_list S x y e = subst (λ (S : List ℕ). Search E B (member S) order → Relevance E B (member S) rel → Numbers E B (member S) rel order num ρ
      → Covers H (image num (written_edges B (member S) rel order)) → ((p q : ℕ) → Memᴰ (p, q) H → Memᴰ (p, q) (image num (written_edges B (member S) rel order)))
      → reply E x y ≡ read_reply H (num x) (num y)) (sym e) (λ T W N a o. written_query E B x y rel order T W num ρ N H a (λ p q k. inl (o p q k)))

  -- two at most
  pub read_few : (act : ℕ → ℕ) (k : ℕ) → k ≤ 2 → Search E B (member (table act 0 k)) order → Relevance E B (member (table act 0 k)) rel → Numbers E B (member (table act 0 k)) rel order num ρ
      → Covers H (image num (written_edges B (member (table act 0 k)) rel order)) → ((p q : ℕ) → Memᴰ (p, q) H → Memᴰ (p, q) (image num (written_edges B (member (table act 0 k)) rel order)))
      → (x y : ℕ) → Memᴰ x (table act 0 k) → Memᴰ y (table act 0 k) → reply E x y ≡ read_reply H (num x) (num y)
  read_few act k l T W N a o x y mx my =
      let (i, li, ei) = table_mem act 0 k x mx in
      let (j, lj, ej) = table_mem act 0 k y my in
      go i j (omega arith) (omega arith) ei ej
    where
      same : x ≡ y → reply E x y ≡ read_reply H (num x) (num y)
      same e = ap (reply E x) (sym e) ∙ reply_equal E x ∙ sym (read_equal H (num x)) ∙ ap (λ u. read_reply H (num x) (num u)) e

      two : k ≡ 2 → table act 0 k ≡ act 0 ∷ act 1 ∷ []
      two e = ap (table act 0) e

      go : (i j : ℕ) → i < k → j < k → x ≡ act i → y ≡ act j → reply E x y ≡ read_reply H (num x) (num y)
      go zero zero li lj ei ej = same (ei ∙ sym ej)
      go zero (suc zero) li lj ei ej = query_list (table act 0 k) x y (two (omega (arith, l, lj)) ∙ ap₂ (λ u v. u ∷ v ∷ []) (sym ei) (sym ej)) T W N a o
      go (suc zero) zero li lj ei ej = reply_sym E x y ∙ query_list (table act 0 k) y x (two (omega (arith, l, li)) ∙ ap₂ (λ u v. u ∷ v ∷ []) (sym ej) (sym ei)) T W N a o ∙ read_sym H (num y) (num x)
      go (suc zero) (suc zero) li lj ei ej = same (ei ∙ sym ej)
      go zero (suc (suc j)) li lj ei ej = absurd (omega (arith, l, lj))
      go (suc zero) (suc (suc j)) li lj ei ej = absurd (omega (arith, l, lj))
      go (suc (suc i)) j li lj ei ej = absurd (omega (arith, l, li))
