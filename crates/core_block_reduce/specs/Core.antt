-- What the reduction to blocks takes and gives. It takes words as the contraction does (core_reduce, Loaded): n nodes, m edges by their half-edges, k different
-- active nodes; behind them it needs room for 2 n edges more, where it writes the edges out.
-- After: MAPPED of an active node is its new number, and TO of the half-edges 2 (m + j) and 2 (m + j) + 1 are the ends of the j-th edge out.
-- Assumes nothing: these are definitions.
use Rattle.std.specs.Prelude.{ℕ, ◌+◌, ◌*◌, ◌≤◌, ◌<◌, ◌≡◌, List, length, get_or}
use Rattle.theory_graph.specs.Graph.{Edge}
use Rattle.theory_graph.specs.SmallGraph.{different}
use Rattle.theory_names.specs.Names.{plain}
use Rattle.theory_junctions.specs.ReducedGraph.{IsReducedGraph}
use Rattle.core_words.specs.Fields.{ACTIVE, MAPPED, node}
use Rattle.core_cycles.specs.Writing as Writing
use Rattle.core_reduce.specs.Core.{Loaded, active_in, edges_in}

-- the edges out: e of them, behind the m edges in
abbrev pub edges_behind : ℕ → ℕ → ℕ → List ℕ → List Edge
edges_behind = Writing.edges_behind

pub record CanReduce (n m k : ℕ) (w : List ℕ) : Type 0 where
  pub loaded : Loaded n m k w
  pub room : 28 * n + 6 * m ≤ length w

-- from the words a to b: a reduced graph of h nodes and e edges, at the active nodes, which are k different ones
pub record BlocksReduced (n m k : ℕ) (a b : List ℕ) (h e : ℕ) : Type 0 where
  pub same : length b ≡ length a
  pub past : (i : ℕ) → 28 * n + 6 * m ≤ i → get_or b i 0 ≡ get_or a i 0
  -- the number of a node; that of an active node stands in the words
  pub number : ℕ → ℕ
  pub numbers : (i : ℕ) → i < k → node MAPPED b (node ACTIVE a i) ≡ number (node ACTIVE a i)
  pub active : different (active_in k a) ≡ k
  pub graph : IsReducedGraph (plain (edges_in n m a)) (active_in k a) h (edges_behind n m e b) number
