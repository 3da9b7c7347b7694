-- Document 01, "The reply to a query": joined, and the answer 0, 1 or 2, for the edges of a list. Loops and parallel edges are entries like any other.
-- proofs/Published shows that these are the published notions: joined is a route of edges, answer 2 is 2-edge connectivity.
-- Assumes nothing: these are definitions.
use Rattle.std.specs.Prelude.{ℕ, Bool, ◌&&◌, cond, List, [], ◌∷◌, map, eqb}
use Rattle.theory_graph.specs.Lists.{all, filter}

-- an edge is its two ends; document 01's segment
abbrev pub Edge : Type 0
Edge = ℕ × ℕ

-- a set of nodes
abbrev pub NodeSet : Type 0
NodeSet = ℕ → Bool

-- The representative of x's connected component: the first edge gives the component of its second end the representative of its first.
unfoldable pub rep : List Edge → ℕ → ℕ
rep [] x = x
rep (e ∷ E) x = cond (eqb (rep E x) (rep E e.1)) (rep E e.0) (rep E x)

-- x and y are equal, or a route of edges runs between them
unfoldable pub joined : List Edge → ℕ → ℕ → Bool
joined E x y = eqb (rep E x) (rep E y)

-- the list without each single entry in turn
unfoldable pub removals : List Edge → List (List Edge)
removals [] = []
removals (e ∷ E) = E ∷ map (λ l. e ∷ l) (removals E)

-- 2-edge-connected: joined, and joined after the removal of each single edge. Document 01's class of x is the set of all such y.
unfoldable pub two_edge : List Edge → ℕ → ℕ → Bool
two_edge E x y = joined E x y && all (λ l. joined l x y) (removals E)

-- the answer of two nodes
unfoldable pub answer : List Edge → ℕ → ℕ → ℕ
answer E x y = cond (joined E x y) (cond (two_edge E x y) 2 1) 0

-- the edges with both ends in P
abbrev pub induced : NodeSet → List Edge → List Edge
induced P E = filter (λ e. P e.0 && P e.1) E
