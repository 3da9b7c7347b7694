-- What document 02, No. 2, says of the pieces: of what an accepted contraction was lent, and of what its tables hold afterwards.
-- Assumes nothing: these are definitions.
use Rattle.std.specs.Prelude.{◌<◌, ◌≤◌, ℕ, true, List, ◌↔◌, ◌≡◌, get_or, length, take}
use Rattle.theory_contraction.specs.Contraction.{Lent, Outcome, edges, entries}
use Rattle.theory_graph.specs.Graph.{Edge, answer}
use Rattle.theory_graph.specs.Lists.{pairs}
use Rattle.theory_graph.specs.Pieces.{piece_count}
use Rattle.theory_graph.specs.SmallGraph.{in_order}

-- the edges of the small graph, as a caller reads them from the tables
unfoldable pub small_edges : Outcome → List Edge
small_edges o = pairs (take o.edges o.out_from) (take o.edges o.out_to)

pub record PiecesTell (l : Lent) (o : Outcome) : Type 0 where
  -- two entries' numbers differ exactly when their nodes have answer 0 in the graph given
  pub in_given : (i j : ℕ) → i < l.k → j < l.k
      → (¬ (get_or o.pieces i 0 ≡ get_or o.pieces j 0)) ↔ (answer (edges l) (get_or l.active i 0) (get_or l.active j 0) ≡ 0)
  -- and exactly when the nodes that the map gives them have answer 0 in the small graph
  pub in_small : (i j : ℕ) → i < l.k → j < l.k
      → (¬ (get_or o.pieces i 0 ≡ get_or o.pieces j 0)) ↔ (answer (small_edges o) (get_or o.map i 0) (get_or o.map j 0) ≡ 0)
  -- the numbers are 0 to the count of pieces less one, each is used, and they come in order of first appearance
  pub below : (i : ℕ) → i < l.k → get_or o.pieces i 0 < piece_count (edges l) (entries l)
  pub used : (p : ℕ) → p < piece_count (edges l) (entries l) → (i : ℕ) × (i < l.k) × (get_or o.pieces i 0 ≡ p)
  pub order : in_order 0 (take l.k o.pieces) ≡ true
  -- later entries stay
  pub same : length o.pieces ≡ length l.pieces
  pub later : (i : ℕ) → l.k ≤ i → get_or o.pieces i 0 ≡ get_or l.pieces i 0
