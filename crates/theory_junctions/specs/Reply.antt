-- Request 8 of document 02, "the loss of a junction": the reply 0, 1 or 2 of two junctions, for the edges of a list.
-- proofs/Replies shows that this is the published notion: reply 1 is that the two are joined and the loss of some third junction, whichever it is, parts them.
-- Assumes nothing: these are definitions.
use Rattle.std.specs.Prelude.{ℕ, Bool, ◌&&◌, ◌||◌, cond, false, not, List, [], ◌∷◌, eqb}
use Rattle.theory_graph.specs.Graph.{Edge, induced, joined}
use Rattle.theory_graph.specs.Lists.{all}
use Rattle.theory_graph.specs.SmallGraph.{no_edge}

-- the edges that do not touch c: what the loss of the junction c leaves
abbrev pub losing : ℕ → List Edge → List Edge
losing c E = induced (λ v. not (eqb v c)) E

-- the ends of the edges
abbrev pub ends_of : List Edge → List ℕ
ends_of [] = []
ends_of (e ∷ E) = e.0 ∷ e.1 ∷ ends_of E

-- no loss of a junction other than x and y parts them; only the ends of edges are tried
unfoldable pub biconnected : List Edge → ℕ → ℕ → Bool
biconnected E x y = all (λ c. eqb c x || (eqb c y || joined (losing c E) x y)) (ends_of E)

-- 0 not joined; 1 joined, and the loss of some third junction parts the two; 2 otherwise
unfoldable pub reply : List Edge → ℕ → ℕ → ℕ
reply E x y = cond (joined E x y) (cond (biconnected E x y) 2 1) 0

-- an edge joins x and y
abbrev pub adjacent : List Edge → ℕ → ℕ → Bool
adjacent [] x y = false
adjacent (e ∷ E) x y = eqb e.0 x && eqb e.1 y || eqb e.0 y && eqb e.1 x || adjacent E x y

-- the reply read off a reduced graph of one query: equal or adjacent 2, otherwise 1 where there is any edge
abbrev pub read_reply : List Edge → ℕ → ℕ → ℕ
read_reply H x y = cond (eqb x y || adjacent H x y) 2 (cond (no_edge H) 0 1)
