-- Replies of small graphs, computed by a program that follows document 02's words, with three pairs of graphs that show what the merging of document 000's Lemma 7 needs.
-- Assumes nothing: these are definitions.
use Rattle.std.specs.Prelude.{ℕ, List, [], ◌∷◌, ◌≡◌}
use Rattle.theory_graph.specs.Graph.{Edge}
use Rattle.theory_junctions.specs.Reply.{reply}

-- edges, two junctions, and their reply
pub record Row : Type 0 where
  pub edges : List Edge
  pub x : ℕ
  pub y : ℕ
  pub wanted : ℕ

abbrev asked : List Edge → ℕ → ℕ → ℕ → Row
asked E x y r = record { edges = E; x = x; y = y; wanted = r }

abbrev pub AllHold : List Row → Type 0
AllHold [] = Unit {0}
AllHold (r ∷ rs) = (reply r.edges r.x r.y ≡ r.wanted) × AllHold rs

abbrev pub table : List Row
table =
    asked ((0, 1) ∷ (1, 2) ∷ (2, 3) ∷ []) 0 3 1 ∷
    asked ((0, 1) ∷ (1, 2) ∷ (2, 3) ∷ (3, 0) ∷ []) 0 2 2 ∷
    asked ((0, 2) ∷ (2, 1) ∷ []) 0 1 1 ∷
    asked ((0, 1) ∷ []) 0 1 2 ∷
    asked ((0, 1) ∷ (0, 1) ∷ []) 0 1 2 ∷
    asked ((0, 0) ∷ (1, 2) ∷ []) 0 1 0 ∷
    asked ((0, 1) ∷ (1, 2) ∷ (2, 0) ∷ (2, 3) ∷ (3, 4) ∷ (4, 2) ∷ []) 0 3 1 ∷
    asked ((0, 1) ∷ []) 2 2 2 ∷
    asked ([]) 0 1 0 ∷
    asked ((2, 4) ∷ (0, 3) ∷ (1, 0) ∷ (1, 0) ∷ (2, 3) ∷ (1, 3) ∷ (4, 0) ∷ []) 4 1 2 ∷
    asked ((0, 1) ∷ (1, 0) ∷ (1, 0) ∷ (0, 0) ∷ (2, 2) ∷ (1, 0) ∷ (0, 0) ∷ []) 0 0 2 ∷
    asked ((1, 2) ∷ (2, 1) ∷ (1, 1) ∷ []) 1 3 0 ∷
    asked ((2, 3) ∷ (1, 1) ∷ []) 2 0 0 ∷
    asked ((4, 4) ∷ (0, 4) ∷ (2, 0) ∷ (2, 2) ∷ []) 2 3 0 ∷
    asked ((3, 3) ∷ (1, 0) ∷ (2, 0) ∷ []) 2 3 0 ∷
    asked ((1, 1) ∷ (1, 2) ∷ (0, 1) ∷ (0, 2) ∷ (0, 2) ∷ (0, 0) ∷ []) 0 1 2 ∷
    asked ((2, 4) ∷ (2, 3) ∷ (0, 4) ∷ (2, 2) ∷ (0, 3) ∷ (0, 1) ∷ []) 2 4 2 ∷
    asked ((2, 2) ∷ (4, 0) ∷ (2, 2) ∷ []) 2 1 0 ∷
    asked ((0, 2) ∷ (2, 1) ∷ (1, 0) ∷ (2, 0) ∷ (0, 2) ∷ (2, 1) ∷ (0, 0) ∷ []) 2 2 2 ∷
    asked ((2, 3) ∷ (3, 1) ∷ (0, 0) ∷ (3, 2) ∷ (1, 1) ∷ (4, 1) ∷ (3, 0) ∷ (1, 3) ∷ []) 2 1 1 ∷
    asked ((1, 1) ∷ (0, 1) ∷ (2, 0) ∷ (2, 1) ∷ (1, 2) ∷ (2, 1) ∷ (1, 1) ∷ (1, 1) ∷ []) 1 0 2 ∷
    asked ((2, 0) ∷ (2, 1) ∷ (1, 0) ∷ (0, 1) ∷ (1, 2) ∷ []) 2 2 2 ∷
    asked ((3, 2) ∷ (1, 3) ∷ (2, 2) ∷ (4, 1) ∷ (4, 1) ∷ (1, 2) ∷ (3, 2) ∷ []) 0 3 0 ∷
    asked ((3, 5) ∷ (4, 0) ∷ (4, 1) ∷ (1, 5) ∷ []) 2 0 0 ∷
    asked ((2, 3) ∷ (0, 4) ∷ (2, 0) ∷ (4, 4) ∷ (2, 0) ∷ []) 2 4 1 ∷
    asked ((0, 2) ∷ (0, 4) ∷ (4, 0) ∷ (5, 3) ∷ (4, 1) ∷ (0, 3) ∷ (0, 2) ∷ []) 5 4 1 ∷
    asked ((0, 2) ∷ (2, 1) ∷ []) 0 1 1 ∷
    asked ((2, 0) ∷ (4, 0) ∷ (4, 5) ∷ (3, 0) ∷ (1, 3) ∷ []) 5 1 1 ∷
    asked ((1, 2) ∷ (2, 4) ∷ (5, 2) ∷ (3, 3) ∷ []) 1 5 1 ∷
    asked ((3, 1) ∷ (1, 0) ∷ (1, 0) ∷ (4, 1) ∷ []) 0 4 1 ∷
    []

-- ---- why each condition under which a junction is merged into its top (specs/Classes, `shares`) is needed: a graph, and the graph after a merge that this one
-- condition forbids, with edges added between active junctions; the reply changes. Of these conditions Lemma 7 of document 000 has the
-- second in its words and the first in its proof, and the third nowhere (docs/theory.md, section 13)
abbrev pub merges : List Row
merges =
    -- the top is active: the path 0-2-1 with 2 merged into 0
    asked ((0, 2) ∷ (2, 1) ∷ []) 0 1 1 ∷
    asked ((0, 0) ∷ (0, 1) ∷ []) 0 1 2 ∷
    -- the class has another relevant member: 1 merged into 0 on the triangle 0, 1, 2, with the edges 3-5 and 7-6 added
    asked ((0, 1) ∷ (1, 2) ∷ (2, 0) ∷ (1, 3) ∷ (0, 5) ∷ (0, 6) ∷ (2, 7) ∷ (3, 5) ∷ (7, 6) ∷ []) 3 7 2 ∷
    asked ((0, 0) ∷ (0, 2) ∷ (2, 0) ∷ (0, 3) ∷ (0, 5) ∷ (0, 6) ∷ (2, 7) ∷ (3, 5) ∷ (7, 6) ∷ []) 3 7 1 ∷
    -- the member is the top of two classes: 1 merged into 0, with the edges 3-5 and 4-6 added
    asked ((0, 1) ∷ (1, 3) ∷ (1, 4) ∷ (0, 5) ∷ (0, 6) ∷ (3, 5) ∷ (4, 6) ∷ []) 3 4 2 ∷
    asked ((0, 0) ∷ (0, 3) ∷ (0, 4) ∷ (0, 5) ∷ (0, 6) ∷ (3, 5) ∷ (4, 6) ∷ []) 3 4 1 ∷
    []
