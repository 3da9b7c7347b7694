-- Laws of loading a graph: all active entries entered, the ends and the names of all edges stored, and all that is loaded.
-- Assumes nothing.
use Prim.Native.Nat.{◌%◌, ◌*◌, ◌+◌, ◌/◌, ◌<◌, ◌≤◌, ℕ}
use mathlib.Core.List.{List, [], ◌++◌, ◌∷◌, append-nil}
use mathlib.Core.Path.{◌∙◌, ◌≡◌, ap, refl, subst, sym}
use lib.Dec.{eqb}
use lib.ListN.{drop, drop_of_length-le, get_or, length, take}
use lib.Seq.{length-take-le}
use native.Mathlib.Omega.{arith}
use borrow.Author.Tests.{eqb-false, eqb-true}
use Rattle.theory_graph.proofs.TableLaws.{table_equal, triples_table}
use Rattle.theory_graph.proofs.Lists.{table_length}
use Rattle.theory_graph.specs.Lists.{over, table}
use Rattle.contraction_tables.specs.Transfer.{Edges, Entries, Loadable, Prepared}
use Rattle.theory_graph.proofs.Booleans.{on_bool}
use Rattle.core_loading.proofs.LoadingLaws.{cleared_past, entered_most}
use Rattle.core_loading.specs.Loading.{PutEdge}
use Rattle.core_words.specs.Clearing.{Cleared}
use Rattle.core_words.specs.Fields.{ACTIVE, MARK, NAME, TO, half, node}

-- ---- edges
pub edges_none : (n m : ℕ) (from to names w : List ℕ) → Edges n m from to names w w 0
edges_none n m from to names w = record { same = refl; past = λ i k. refl; nodes = λ j i v l. refl; ends = λ e l. absurd (omega arith); named = λ e l. absurd (omega arith) }

pub edges_more : {n m s : ℕ} {from to names a w z : List ℕ} → s < m → Edges n m from to names a w s → PutEdge n s (get_or from s 0) (get_or to s 0) (get_or names s 0) w z
    → Edges n m from to names a z (s + 1)
edges_more {n} {m} {s} {from} {to} {names} {a} {w} {z} l g p = record {
  same = p.same ∙ g.same;
  past = λ i k. p.past i (omega arith) ∙ g.past i k;
  nodes = λ j i v k. p.nodes j i v k ∙ g.nodes j i v k;
  ends = λ e k. on_bool (eqb e s)
      (λ q. let r = eqb-true e s q in rw r (p.first, p.second))
      (λ q. let ne : ¬ (e ≡ s) = eqb-false e s q in let o = g.ends e (omega arith) in
      (p.else (2 * e) (omega arith) ∙ o.0, p.else (2 * e + 1) (omega arith) ∙ o.1));
  named = λ e k. on_bool (eqb e s)
      (λ q. let r = eqb-true e s q in rw r p.name)
      (λ q. let ne : ¬ (e ≡ s) = eqb-false e s q in p.else_name (2 * e) (omega arith) ∙ g.named e (omega arith));
}

-- ---- all that is loaded
module _ {n m k : ℕ} {from to names active w₀ w₁ : List ℕ} (c : Loadable n m k from to names active w₀) (z : Cleared (MARK ∷ []) n n w₀ w₁) where
  module _ {d : ℕ} {w₂ w₃ : List ℕ} (g : Entries n (take k active) w₁ w₂ d) (l : Edges n m from to names w₂ w₃ m) (u : (e : ℕ) → get_or names e 0 < 65536) where
    same : length w₃ ≡ length w₀
    same = l.same ∙ g.same ∙ z.rest.same

    less : d ≤ n
    less = entered_most g.entered

    act_at : (i : ℕ) → i < d → node ACTIVE w₃ i ≡ node ACTIVE w₂ i
    act_at i j = l.nodes ACTIVE (omega arith) i (omega (arith, less))

    mark_at : (v : ℕ) → v < n → node MARK w₃ v ≡ node MARK w₂ v
    mark_at = l.nodes MARK (omega arith)

    end_below : (h : ℕ) → h < 2 * m → half n TO w₃ h < n
    end_below h i = on_bool (eqb (h % 2) 0)
        (λ q. let e : 2 * (h / 2) ≡ h = omega (arith, eqb-true (h % 2) 0 q) in
        subst (λ (u : ℕ). half n TO w₃ u < n) e (rw (l.ends (h / 2) (omega arith)).0 (c.ends (h / 2) (omega arith)).0))
        (λ q. let ne : ¬ (h % 2 ≡ 0) = eqb-false (h % 2) 0 q in let e : 2 * (h / 2) + 1 ≡ h = omega arith in
        subst (λ (u : ℕ). half n TO w₃ u < n) e (rw (l.ends (h / 2) (omega arith)).1 (c.ends (h / 2) (omega arith)).1))

    pub prepared : Prepared n m k from to names active w₀ w₃ d
    prepared = record {
      same = same;
      past = λ i j. l.past i j ∙ g.past i (omega arith) ∙ cleared_past z i (omega arith);
      loaded = record {
        few = c.few;
        much = c.much;
        room = omega (arith, same, c.room);
        less = less;
        ends = end_below;
        names = λ e i. rw (l.named e i) (u e);
        active = λ i j. rw (act_at i j) (g.entered.below i j);
        marked = λ i j. ap (node MARK w₃) (act_at i j) ∙ mark_at (node ACTIVE w₂ i) (g.entered.below i j) ∙ g.entered.marked i j;
        marks = λ v i p.
            let (j, b, e) = g.entered.marks v i (rw (mark_at v i) at p) in
            (j, b, act_at j b ∙ e);
      };
      edges =
          table_equal (λ e. ((half n TO w₃ (2 * e), half n TO w₃ (2 * e + 1)), half n NAME w₃ (2 * e))) (λ e. ((get_or from e 0, get_or to e 0), get_or names e 0)) 0 m
          (λ e a b. let q = l.ends e (omega arith) in rw (q.0, q.1, l.named e (omega arith)) refl)
          ∙ sym (triples_table m from to names c.from_length c.to_length c.names_length);
      actives = table_equal (node ACTIVE w₃) (node ACTIVE w₂) 0 d (λ i a b. act_at i (omega arith)) ∙ g.entered.active;
    }

-- ---- a table of which the first e entries were written, one after the other
pub part_written : (f : ℕ → ℕ) (e : ℕ) (t : List ℕ) {part : List ℕ} → e ≤ length t → part ≡ over (table f 0 e) (take e t) → part ++ drop e t ≡ over (table f 0 e) t
part_written f e t l p =
    let n : length (table f 0 e) ≡ e = table_length f 0 e in
    let z : drop e (take e t) ≡ [] = drop_of_length-le (take e t) (omega (arith, length-take-le e t l)) in
    rw p (rw (n, z, append-nil) refl)
