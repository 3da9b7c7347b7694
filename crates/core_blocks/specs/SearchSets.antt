-- The sets and lists of the theory of junctions, read off the functions of the search: what was seen, what has a parent, the order, the active junctions.
-- Assumes nothing: these are definitions.
use Rattle.std.specs.Prelude.{ℕ, ◌&&◌, not, List, eqb, ltb}
use Rattle.theory_graph.specs.Graph.{NodeSet}
use Rattle.theory_graph.specs.Lists.{table}

-- pos is one more than the place in the search, 0 where a junction was not seen
abbrev pub seen_by : ℕ → (ℕ → ℕ) → NodeSet
seen_by n pos v = ltb v n && ltb 0 (pos v)

-- te is one more than the tree edge to the parent, 0 for a root
abbrev pub child_by : ℕ → (ℕ → ℕ) → (ℕ → ℕ) → NodeSet
child_by n pos te v = seen_by n pos v && not (eqb (te v) 0)

-- the first k values of a field, as a list
abbrev pub first_of : (ℕ → ℕ) → ℕ → List ℕ
first_of f k = table f 0 k
