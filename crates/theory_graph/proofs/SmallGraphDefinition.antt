-- The predicate of specs/SmallGraph, in document 01's words, is the small graph by cuts; and the contraction meets it.
-- Assumes nothing.
use Prim.Native.Nat.{◌<◌, ℕ}
use mathlib.Core.Bool.{true}
use mathlib.Core.List.{List, Memᴰ}
use mathlib.Core.Path.{◌≡◌}
use lib.Dec.{ltb}
use native.Mathlib.Omega.{arith}
use Rattle.theory_graph.proofs.ContractionIsSmall.{contract_small}
use Rattle.theory_graph.proofs.Definitions.{kept_from, kept_to, two_edge_from, two_edge_to}
use Rattle.theory_graph.proofs.Links.{linked_from, linked_to}
use Rattle.theory_graph.proofs.Lists.{entry}
use Rattle.theory_graph.proofs.SmallGraphs.{OnePerClass, SmallGraph}
use Rattle.theory_graph.specs.Contraction.{contract, kept_classes, number}
use Rattle.theory_graph.specs.Graph.{Edge}
use Rattle.theory_graph.specs.SmallGraph.{IsSmallGraph, ends_in}

module _ (E : List Edge) (S : List ℕ) (h : ℕ) (H : List Edge) (ρ σ : ℕ → ℕ) where
  pub small_definition : SmallGraph E S h H ρ σ → IsSmallGraph E S h H ρ σ
  small_definition g =
      let each : OnePerClass E S h ρ = record { kept = g.kept; once = g.once; all = g.all } in
      record {
        node = λ i l. kept_from E S (ρ i) (g.kept i l);
        once = λ i j li lj t. g.once i j li lj (two_edge_to E (ρ i) (ρ j) t);
        all = λ z k. let (i, l, t) = g.all z (kept_to E S z k) in (i, l, two_edge_from E z (ρ i) t);
        place = λ a m. let (l, t) = g.place a m in (l, two_edge_from E a (ρ (σ a)) t);
        order = g.order;
        ascends = g.ascends;
        edge = λ i j m.
            let (a, b, l) = g.edge i j m in
            (a, b, linked_from E S h ρ each i j (omega arith) b (λ e. omega arith) l);
        edge_all = λ i j a b l. g.linked i j a b (linked_to E S h ρ each i j (omega arith) b l).1;
      }

  pub definition_small : IsSmallGraph E S h H ρ σ → SmallGraph E S h H ρ σ
  definition_small g =
      let each : OnePerClass E S h ρ =
      record {
        kept = λ i l. kept_to E S (ρ i) (g.node i l);
        once = λ i j li lj t. g.once i j li lj (two_edge_from E (ρ i) (ρ j) t);
        all = λ z k. let (i, l, t) = g.all z (kept_from E S z k) in (i, l, two_edge_to E z (ρ i) t);
      } in
      record {
        kept = each.kept;
        once = each.once;
        all = each.all;
        place = λ a m. let (l, t) = g.place a m in (l, two_edge_to E a (ρ (σ a)) t);
        order = g.order;
        ascends = g.ascends;
        edge = λ i j m.
            let (a, b, l) = g.edge i j m in
            (a, b, (linked_to E S h ρ each i j (omega arith) b l).1);
        linked = λ i j a b l. g.edge_all i j a b (linked_from E S h ρ each i j (omega arith) b (λ e. omega arith) l);
      }

-- the contraction of n nodes, where the edges and the active entries are among them
pub contract_is_small : (n : ℕ) (E : List Edge) (S : List ℕ) → ends_in (λ v. ltb v n) E ≡ true → ((a : ℕ) → Memᴰ a S → a < n)
    → IsSmallGraph E S (contract n E S).nodes (contract n E S).edges (entry 0 (kept_classes n E S)) (number n E S)
unfolding contract number
contract_is_small n E S wE wS = small_definition E S _ _ _ _ (contract_small n E S wE wS)
