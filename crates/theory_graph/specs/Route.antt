-- Routes of edges, as a graph's reader knows them. proofs/Published: joined is that a route runs between the two.
-- Assumes nothing: these are definitions.
use Rattle.std.specs.Prelude.{ℕ, List, ◌∷◌}
use Rattle.theory_graph.specs.Graph.{Edge}

-- E has an edge between p and q, written in either order
pub data Adjacent (p q : ℕ) : List Edge → Type 0 where
  fore : {E : List Edge} → Adjacent p q ((p, q) ∷ E)
  back : {E : List Edge} → Adjacent p q ((q, p) ∷ E)
  next : {e : Edge} {E : List Edge} → Adjacent p q E → Adjacent p q (e ∷ E)

-- a route from x to y along edges of E, each taken either way
pub data Route (E : List Edge) : ℕ → ℕ → Type 0 where
  stay : {x : ℕ} → Route E x x
  step : {x y z : ℕ} → Adjacent x y E → Route E y z → Route E x z
