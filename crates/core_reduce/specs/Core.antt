-- What the contraction on words takes and gives. n nodes, m edges by their half-edges, k different active nodes.
-- Before: TO of half-edge 2e is one end of edge e and that of 2e + 1 the other, and NAME of 2e is the edge's name; ACTIVE of i is the i-th active node, and
-- MARK of an active node is one more than its place among them, 0 of any other node. After: MAPPED of an active node is its new number and ROOT the root of
-- its tree, and LOWER and UPPER of j are the ends of the j-th edge out, NAMED its name.
-- Assumes nothing: these are definitions.
use Rattle.std.specs.Prelude.{ℕ, ◌+◌, ◌*◌, ◌≤◌, ◌<◌, ◌≡◌, List, [], ◌∷◌, eqb, length, get_or}
use Rattle.theory_graph.specs.Lists.{table}
use Rattle.theory_graph.specs.Graph.{joined}
use Rattle.theory_graph.specs.SmallGraph.{Canonical}
use Rattle.theory_names.specs.Names.{Named, plain}
use Rattle.theory_names.specs.NamedSmallGraph.{IsNamedSmallGraph}
use Rattle.core_words.specs.Fields.{ACTIVE, BRANCH, HEAD, LIVE, LOWER, MAPPED, MARK, NAME, NAMED, NUMBER, OTHER, POSITION, ROOT, TO, UPPER, half, node}

-- the fields of a node that start at 0
abbrev pub start_fields : List ℕ
start_fields = NUMBER ∷ OTHER ∷ BRANCH ∷ LIVE ∷ POSITION ∷ HEAD ∷ []

-- the edges with their names, and the active nodes, in the words
abbrev pub edges_in : ℕ → ℕ → List ℕ → Named
edges_in n m w = table (λ e. ((half n TO w (2 * e), half n TO w (2 * e + 1)), half n NAME w (2 * e))) 0 m

abbrev pub active_in : ℕ → List ℕ → List ℕ
active_in k w = table (node ACTIVE w) 0 k

-- the edges out, with theirs
abbrev pub edges_out : ℕ → List ℕ → Named
edges_out e w = table (λ j. ((node LOWER w j, node UPPER w j), node NAMED w j)) 0 e

pub record Loaded (n m k : ℕ) (w : List ℕ) : Type 0 where
  pub few : n ≤ 65536
  pub much : m ≤ 32768
  pub room : 16 * n + 6 * m ≤ length w
  pub less : k ≤ n
  pub ends : (h : ℕ) → h < 2 * m → half n TO w h < n
  pub names : (e : ℕ) → e < m → half n NAME w (2 * e) < 65536
  pub active : (i : ℕ) → i < k → node ACTIVE w i < n
  pub marked : (i : ℕ) → i < k → node MARK w (node ACTIVE w i) ≡ i + 1
  pub marks : (v : ℕ) → v < n → 0 < node MARK w v → (i : ℕ) × (i < k) × (node ACTIVE w i ≡ v)

-- from the words a to b: a named small graph of h nodes and e edges, numbered as document 01 says
pub record Reduced (n m k : ℕ) (a b : List ℕ) (h e : ℕ) : Type 0 where
  pub same : length b ≡ length a
  pub past : (i : ℕ) → 16 * n + 6 * m ≤ i → get_or b i 0 ≡ get_or a i 0
  pub less : h ≤ n
  pub ρ : ℕ → ℕ
  pub σ : ℕ → ℕ
  pub small : IsNamedSmallGraph (edges_in n m a) (active_in k a) h (edges_out e b) ρ σ
  pub canonical : Canonical (plain (edges_in n m a)) (active_in k a) h ρ σ
  pub numbers : (i : ℕ) → i < k → node MAPPED b (node ACTIVE a i) ≡ σ (node ACTIVE a i)
  -- two active nodes have one root just where they are joined
  pub roots : (i : ℕ) → i < k → node ROOT b (node ACTIVE a i) < n
  pub pieces : (i j : ℕ) → i < k → j < k
      → eqb (node ROOT b (node ACTIVE a i)) (node ROOT b (node ACTIVE a j)) ≡ joined (plain (edges_in n m a)) (node ACTIVE a i) (node ACTIVE a j)
