-- What a window of one event of the sibling is answered by: the words of its area (junction_step/specs/JunctionArea) are the nodes of its two junctions, the
-- event's tag, two words, and then the ends of its edges, 8 words for the one and 8 for the other.
-- Assumes nothing: these are definitions.
use Rattle.std.specs.Prelude.{◌+◌, ℕ, Bool, ◌&&◌, ◌||◌, cond, List, eqb, get_or}
use Rattle.theory_graph.specs.Graph.{Edge}
use Rattle.theory_graph.specs.Lists.{table}
use Rattle.theory_junctions.specs.Reply.{read_reply}

-- the edges of its area
abbrev pub leaf_graph : ℕ → List ℕ → List Edge
leaf_graph m v = table (λ j. (get_or v (5 + j) 0, get_or v (13 + j) 0)) 0 m

-- an edge joins x and y
abbrev pub hits : Edge → ℕ → ℕ → Bool
hits e x y = eqb e.0 x && eqb e.1 y || eqb e.0 y && eqb e.1 x

-- its byte: by the event's tag, and for a query read off the graph
abbrev pub byte_at : ℕ → List ℕ → ℕ
byte_at m v = cond (eqb (get_or v 2 0) 0) (read_reply (leaf_graph m v) (get_or v 0 0) (get_or v 1 0)) 3
