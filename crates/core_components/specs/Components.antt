-- The 2-edge-connected components of the nodes of a spanning forest: two of them have one top just where no set that at most one edge leaves parts them.
-- Assumes nothing: these are definitions.
use Rattle.std.specs.Prelude.{◌*◌, ◌+◌, ◌-◌, ◌<◌, ◌≤◌, ℕ, List, ◌≡◌, length}
use Rattle.core_components.specs.Merging.{FinalTops}
use Rattle.core_components.specs.Tops.{OnlyTops}
use Rattle.core_forest.specs.Forest.{ForestAt, edges_below}
use Rattle.theory_graph.specs.Cut.{Inseparable}
use Rattle.core_words.specs.Fields.{EDGE, ORDER, PARENT, POSITION, TO, TOP, half, node}

-- before: a spanning forest, and its seen nodes in the order of the search
pub record CanMergeComponents (n m seen : ℕ) (w : List ℕ) : Type 0 where
  pub few : n ≤ 65536
  pub much : m ≤ 65536
  pub room : 16 * n + 6 * m ≤ length w
  pub forest : ForestAt n m w
  pub less : seen ≤ n
  pub place : (i : ℕ) → i < seen → (node ORDER w i < n) × (node POSITION w (node ORDER w i) ≡ i + 1)
  pub place_of : (u : ℕ) → u < n → 0 < node POSITION w u → (node POSITION w u ≤ seen) × (node ORDER w (node POSITION w u - 1) ≡ u)

-- from a to w: the tops of the components
pub record Components (n m : ℕ) (a w : List ℕ) : Type 0 where
  pub rest : OnlyTops n a w
  pub forest : ForestAt n m w
  pub final : FinalTops n m (half n TO w) (node POSITION w) (node PARENT w) (node EDGE w) (node TOP w)
  pub same : (x y : ℕ) → x < n → y < n → node TOP w x ≡ node TOP w y → Inseparable 1 (edges_below (half n TO w) m) x y
  pub back : (x y : ℕ) → x < n → y < n → 0 < node POSITION w x → 0 < node POSITION w y
      → Inseparable 1 (edges_below (half n TO w) m) x y → node TOP w x ≡ node TOP w y
