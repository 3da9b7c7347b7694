-- What document 02, No. 5, says of the names of a contraction's edges: of what an accepted contraction was lent, and of what its tables hold afterwards.
-- Assumes nothing: these are definitions.
use Rattle.std.specs.Prelude.{◌<◌, ◌≤◌, ℕ, ◌≡◌, get_or, length, take}
use mathlib.Core.List.{Memᴰ}
use Rattle.theory_contraction.specs.Contraction.{Lent, Outcome, entries, named_edges}
use Rattle.theory_contraction.specs.Pieces.{small_edges}
use Rattle.theory_graph.specs.Lists.{pairs}
use Rattle.theory_names.specs.Names.{Entry, Named, class_node, hangs, least, plain}
use Rattle.theory_names.specs.Trail.{Trail, bridge_names}

-- the edges of the small graph with their names, as a caller reads them from the tables
unfoldable pub small_named : Outcome → Named
small_named o = pairs (small_edges o) (take o.edges o.out_names)

-- a node of the class with the number i
abbrev pub class_of : Lent → ℕ → ℕ
class_of l = class_node l.n (named_edges l) (entries l)

pub record NamesTell (l : Lent) (o : Outcome) : Type 0 where
  -- each edge has a name
  pub edges : plain (small_named o) ≡ small_edges o
  -- the least name among the edges given whose loss parts its two classes
  pub parts : (e : Entry) → Memᴰ e (small_named o) → e.1 ≡ hangs (named_edges l) (class_of l e.0.0) (class_of l e.0.1)
  -- and that is the smallest along it: on every route of edges given between the two classes that takes no edge twice, of the edges that join different classes
  pub along : (e : Entry) → Memᴰ e (small_named o) → (T : Named) → Trail (named_edges l) (class_of l e.0.0) (class_of l e.0.1) T
      → e.1 ≡ least (bridge_names (named_edges l) T)
  -- two active entries hang on the same name in the graph given and, by the map, in the small one
  pub same : (i j : ℕ) → i < l.k → j < l.k
      → hangs (named_edges l) (get_or l.active i 0) (get_or l.active j 0) ≡ hangs (small_named o) (get_or o.map i 0) (get_or o.map j 0)
  -- only as many names are written as there are edges
  pub long : length o.out_names ≡ length l.out_names
  pub later : (i : ℕ) → o.edges ≤ i → get_or o.out_names i 0 ≡ get_or l.out_names i 0
