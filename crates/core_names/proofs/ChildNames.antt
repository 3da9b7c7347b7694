-- At the words that `number_classes` leaves: of two numbers, one the parent of the other, LEAST of the child is the name that their classes hang on.
-- Assumes nothing.
use Prim.Native.Nat.{◌*◌, ◌+◌, ◌<◌, ℕ}
use mathlib.Core.List.{List, Memᴰ}
use mathlib.Core.Path.{◌≡◌, subst}
use native.Mathlib.Omega.{arith}
use Rattle.core_branches.proofs.SmallForestOf.{root_place}
use Rattle.core_branches.specs.Classes.{CanNumberClasses, ClassNumbers}
use Rattle.core_branches.specs.SmallForest.{ParentPair}
use Rattle.core_forest.specs.Forest.{edges_below}
use Rattle.core_names.proofs.RouteNames.{edge_name}
use Rattle.core_names.specs.EdgeNames.{ChildEnd}
use Rattle.theory_graph.proofs.Lists.{table_in, table_mem}
use Rattle.theory_graph.specs.Cut.{cut}
use Rattle.theory_graph.specs.Graph.{NodeSet}
use Rattle.theory_graph.specs.Lists.{table}
use Rattle.theory_names.specs.Names.{Named, hangs, plain}
use Rattle.core_words.specs.Fields.{ABOVE, ACTIVE, EDGE, LEAST, MEMBER, NAME, POSITION, TO, half, node}

module _ {n m k seen h : ℕ} {a b : List ℕ} (s : CanNumberClasses n m k seen a) (d : ClassNumbers n m k a h b) where
  abbrev S : List ℕ
  S = table (node ACTIVE a) 0 k

  active : (v : ℕ) → Memᴰ v S → (v < n) × (0 < node POSITION a v)
  active v i =
      let (j, l, e) = table_mem (node ACTIVE a) 0 k v i in
      rw e ((s.search.active j (omega arith)).0, s.search.have j (omega arith))

  -- a root is active
  place : (r : ℕ) → r < n → 0 < node POSITION a r → node EDGE a r ≡ 0 → (j : ℕ) × (j < k) × (node ACTIVE a j ≡ r)
  place = root_place s.forest s.marks s.search.search.marked

  rooted : (r : ℕ) → r < n → 0 < node POSITION a r → node EDGE a r ≡ 0 → Memᴰ r S
  rooted r l p z =
      let (j, i, e) = place r l p z in
      subst (λ (v : ℕ). Memᴰ v S) e (table_in (node ACTIVE a) 0 k j (omega arith) (omega arith))

  -- a graph with the edges and names of the words
  module _ (G : Named) (cuts : (U : NodeSet) → cut U (plain G) ≡ cut U (edges_below (half n TO a) m))
      (entry : (e : ℕ) → e < m → Memᴰ ((half n TO a (2 * e), half n TO a (2 * e + 1)), half n NAME a (2 * e)) G) where
    pub child_hangs : (i j x : ℕ) → i < h → j < h → ParentPair (node ABOVE b) i j → ChildEnd (node ABOVE b) i j x → node LEAST b x ≡ hangs G (node MEMBER b i) (node MEMBER b j)
    child_hangs = edge_name (half n NAME a) s.forest s.final S active rooted d.numbers d.tree G cuts entry d.ways d.seen
