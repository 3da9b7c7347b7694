-- Document 02, No. 2: for each active entry the number of its connected piece, pieces numbered from 0 by first appearance in the active list.
-- Assumes nothing: these are definitions.
use Rattle.std.specs.Prelude.{ℕ, Bool, List, map, length}
use Rattle.theory_graph.specs.Graph.{Edge, joined}
use Rattle.theory_graph.specs.Lists.{firsts, position}

-- for each entry the number of its group, where groups of equivalent entries are numbered from 0 by first appearance
unfoldable pub numbered : (ℕ → ℕ → Bool) → List ℕ → List ℕ
numbered R S = map (λ a. position (λ c. R c a) (firsts R S)) S

-- for each active entry the number of its piece
unfoldable pub pieces : List Edge → List ℕ → List ℕ
pieces E S = numbered (joined E) S

-- how many pieces hold an active entry
unfoldable pub piece_count : List Edge → List ℕ → ℕ
piece_count E S = length (firsts (joined E) S)
