-- What `number_classes` takes and gives.
-- Assumes nothing: these are definitions.
use Rattle.std.specs.Prelude.{◌*◌, ◌-◌, ◌<◌, ◌≤◌, ℕ, List, [], ◌∷◌, ◌≡◌, length}
use Rattle.core_branches.specs.Numbers.{Numbers}
use Rattle.core_branches.specs.SmallForest.{SmallForest}
use Rattle.core_branches.specs.Ways.{ParentWays, WayTree}
use Rattle.core_components.specs.Merging.{FinalTops}
use Rattle.core_forest.specs.Forest.{ForestAt, edges_below}
use Rattle.core_forest.specs.Search.{BetweenTrees}
use Rattle.theory_graph.specs.Lists.{table}
use Rattle.theory_graph.specs.SmallGraph.{Canonical}
use Rattle.core_words.specs.Changes.{OnlyFields}
use Rattle.core_words.specs.Fields.{ABOVE, ACTIVE, BRANCH, EDGE, LEAST, LIVE, MARK, MEMBER, NAME, NUMBER, OTHER, PARENT, POSITION, TO, TOP, half, node}

-- before: the components are found, each marked node is one of the k active nodes, and there is no number and no branch yet
pub record CanNumberClasses (n m k seen : ℕ) (w : List ℕ) : Type 0 where
  pub search : BetweenTrees n m k w seen k
  pub forest : ForestAt n m w
  pub final : FinalTops n m (half n TO w) (node POSITION w) (node PARENT w) (node EDGE w) (node TOP w)
  pub marks : (v : ℕ) → v < n → 0 < node MARK w v → (j : ℕ) × (j < k) × (node ACTIVE w j ≡ v)
  pub none : (v : ℕ) → v < n → (node LIVE w v ≡ 0) × (node BRANCH w v ≡ 0) × (node OTHER w v ≡ 0) × (node NUMBER w v ≡ 0)

-- a node whose class has a number
pub record HasNumber (n : ℕ) (w : List ℕ) (v : ℕ) : Type 0 where
  pub room : 16 * n ≤ length w
  pub fit : v < n
  pub top_fit : node TOP w v < n
  pub some : ¬ (node NUMBER w (node TOP w v) ≡ 0)

-- the fields that numbering changes
abbrev pub class_fields : List ℕ
class_fields = LIVE ∷ BRANCH ∷ OTHER ∷ NUMBER ∷ MEMBER ∷ LEAST ∷ []

-- after: h numbers, with MEMBER a node of each, ABOVE its parent number and LEAST the smallest name on the way to it; the number of v's class is one less than NUMBER of v's top
pub record ClassNumbers (n m k : ℕ) (a : List ℕ) (h : ℕ) (w : List ℕ) : Type 0 where
  pub forest : SmallForest (edges_below (half n TO a) m) (table (node ACTIVE a) 0 k) h (node MEMBER w) (λ v. node NUMBER w (node TOP w v) - 1) (node ABOVE w)
  pub canonical : Canonical (edges_below (half n TO a) m) (table (node ACTIVE a) 0 k) h (node MEMBER w) (λ v. node NUMBER w (node TOP w v) - 1)
  pub less : h ≤ n
  -- how the numbers and what is above each were found: what the names of the edges out rest on
  pub numbers : Numbers n h (node TOP a) (node NUMBER w) (node MEMBER w)
  pub seen : (x : ℕ) → x < h → 0 < node POSITION a (node MEMBER w x)
  pub tree : WayTree n m (node POSITION a) (node PARENT a) (node EDGE a) (node TOP a) (node NUMBER w)
  pub ways : ParentWays h (half n NAME a) (node POSITION a) (node PARENT a) (node EDGE a) (node TOP a) (node NUMBER w) (node MEMBER w) (node ABOVE w) (node LEAST w)
  pub placed : (j : ℕ) → j < k → HasNumber n w (node ACTIVE a j)
  pub rest : OnlyFields class_fields n a w
