-- The edges of the half-edges, first to last or last to first: the same cuts, so the same small graphs and the same canonical numbering.
-- Assumes nothing.
use Prim.Native.Nat.{ℕ, zero, suc, ◌+◌, ◌*◌}
use mathlib.Core.List.{List}
use mathlib.Core.Path.{◌≡◌, refl}
use native.Mathlib.Omega.{arith}
use Rattle.core_forest.specs.Forest.{edges_below}
use Rattle.theory_graph.specs.Cut.{crosses, cut}
use Rattle.theory_graph.specs.Graph.{Edge, NodeSet}
use Rattle.theory_graph.specs.Lists.{table}
use Rattle.theory_graph.specs.SmallGraph.{Canonical}

-- the last entry of a table first
cut_last : (U : NodeSet) (f : ℕ → Edge) (i n : ℕ) → cut U (table f i (suc n)) ≡ crosses (U (f (i + n)).0) (U (f (i + n)).1) + cut U (table f i n)
cut_last U f i zero = let e : i + 0 ≡ i = omega arith in rw e refl
cut_last U f i (suc n) = let e : i + suc n ≡ suc i + n = omega arith in rw e (omega (arith, cut_last U f (suc i) n))

pub edges_cut : (U : NodeSet) (to : ℕ → ℕ) (m : ℕ) → cut U (edges_below to m) ≡ cut U (table (λ e. (to (2 * e), to (2 * e + 1))) 0 m)
edges_cut U to zero = refl
edges_cut U to (suc m) = let e : 0 + m ≡ m = omega arith in omega (arith, edges_cut U to m, rw e at (cut_last U (λ e. (to (2 * e), to (2 * e + 1))) 0 m))

pub canonical_cuts_equal : (E E' : List Edge) → ((U : NodeSet) → cut U E ≡ cut U E') → {S : List ℕ} {h : ℕ} {ρ σ : ℕ → ℕ} → Canonical E S h ρ σ → Canonical E' S h ρ σ
canonical_cuts_equal E E' q c = record { least = λ i z l d t. c.least i z l d (λ (U, a, b, e). t (U, a, b, omega (arith, q U))); rises = c.rises }
