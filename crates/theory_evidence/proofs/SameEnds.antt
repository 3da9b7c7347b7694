-- Laws of edges with the same two ends: what it says of a node set; sets of edges that do not ask which end is written first. Its two cases, and that it is an
-- equivalence, stand in theory_timeline/proofs/RoadLaws.
-- Assumes nothing.
use Prim.Native.Nat.{ℕ}
use mathlib.Core.Bool.{Bool, ◌&&◌, true}
use mathlib.Core.Path.{◌∙◌, ◌≡◌, ap, ap₂, sym}
use lib.Dec.{eqb}
use Rattle.theory_graph.proofs.Booleans.{or_swap}
use Rattle.theory_graph.specs.Graph.{Edge, NodeSet}
use Rattle.theory_timeline.proofs.RoadLaws.{on_ends}
use Rattle.theory_timeline.specs.Roads.{same_ends}

-- one lies across a set's border just where the other does
pub same_ends_side : (U : NodeSet) (e f : Edge) → same_ends e f ≡ true → U f.0 ≡ U f.1 → U e.0 ≡ U e.1
same_ends_side U e f h k = on_ends e f h (λ p q. ap U p ∙ k ∙ ap U (sym q)) (λ p q. ap U p ∙ sym k ∙ ap U (sym q))

-- ---- sets of edges that do not ask which end is written first
abbrev pub Symmetric : (Edge → Bool) → Type 0
Symmetric D = (p q : ℕ) → D (p, q) ≡ D (q, p)

pub symmetric_same_ends : (D : Edge → Bool) → Symmetric D → (e f : Edge) → same_ends e f ≡ true → D e ≡ D f
symmetric_same_ends D s e f h =
    on_ends e f h (λ p q. ap₂ (λ a b. D (a, b)) p q) (λ p q. ap₂ (λ a b. D (a, b)) p q ∙ s f.1 f.0)

pub same_ends_symmetric : (e : Edge) → Symmetric (same_ends e)
same_ends_symmetric e p q = or_swap (eqb e.0 p && eqb e.1 q) (eqb e.0 q && eqb e.1 p)
