-- A small forest with its edges listed is a small graph.
-- Assumes nothing.
use Prim.Native.Nat.{ℕ}
use mathlib.Core.List.{List}
use native.Mathlib.Omega.{arith}
use Rattle.core_branches.specs.SmallForest.{ParentPairs, SmallForest}
use Rattle.theory_graph.specs.Graph.{Edge}
use Rattle.theory_graph.specs.SmallGraph.{IsSmallGraph}

pub forest_small : {E : List Edge} {S : List ℕ} {h : ℕ} {ρ σ up : ℕ → ℕ} {H : List Edge} → SmallForest E S h ρ σ up → ParentPairs h up H → IsSmallGraph E S h H ρ σ
forest_small s l = record {
  node = s.node;
  once = s.once;
  all = s.all;
  place = s.place;
  order = s.order;
  ascends = l.ascends;
  edge = λ i j m. let (p, q, e) = l.edge i j m in (p, q, s.link i j (omega arith) q (λ x. omega arith) e);
  edge_all = λ i j p q k. l.listed i j p q (s.back i j (omega arith) q k);
}
