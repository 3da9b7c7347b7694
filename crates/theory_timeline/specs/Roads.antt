-- Document 02, No. 3: "All segments of a network with the same two ends, in either order, form one road", and answers 1 and 2 are about the loss of a road.
-- First roads among edges, then the road of a segment. A loop at a junction is a road too.
-- Assumes nothing: these are definitions.
use Rattle.std.specs.Prelude.{ℕ, Bool, ◌&&◌, ◌||◌, cond, false, not, ◌≡◌, eqb, get_or}
use mathlib.Core.List.{List, Memᴰ, [], ◌∷◌, map}
use Rattle.call_sizes.specs.Refusal.{seek}
use Rattle.theory_graph.specs.Graph.{Edge, joined}
use Rattle.theory_graph.specs.Lists.{all, filter}
use Rattle.theory_names.specs.Names.{Entry, Named, least, plain}

-- the two edges have the same two ends, in either order
abbrev pub same_ends : Edge → Edge → Bool
same_ends e f = eqb e.0 f.0 && eqb e.1 f.1 || eqb e.0 f.1 && eqb e.1 f.0

-- ---- among edges
-- the edges that are left where the road of e is lost
abbrev pub lose : Edge → List Edge → List Edge
lose e E = filter (λ f. not (same_ends e f)) E

-- joined, and joined after the loss of each single road in turn
abbrev pub two_road : List Edge → ℕ → ℕ → Bool
two_road E x y = joined E x y && all (λ e. joined (lose e E) x y) E

-- the answer of two junctions where the segments E are open, by the loss of roads
unfoldable pub road_answer : List Edge → ℕ → ℕ → ℕ
road_answer E x y = cond (joined E x y) (cond (two_road E x y) 2 1) 0

-- where that answer is 1, the smallest name of an edge whose road's loss parts the two; else 65,535
unfoldable pub road_name : Named → ℕ → ℕ → ℕ
road_name G x y =
    cond (eqb (road_answer (plain G) x y) 1) (least (map (λ (e : Entry). e.1) (filter (λ (e : Entry). not (joined (lose e.0 (plain G)) x y)) G))) 65535

-- no edge of F is of the road of e
abbrev pub Apart : Edge → List Edge → Type 0
Apart e F = (f : Edge) → Memᴰ f F → same_ends e f ≡ false

-- the edges are of different roads: no pair of ends is repeated
abbrev pub DifferentRoads : List Edge → Type 0
DifferentRoads [] = Unit {0}
DifferentRoads (e ∷ E) = Apart e E × DifferentRoads E

-- ---- the roads of the segments segs
-- segments s and t have the same two ends
abbrev pub same_road : List Edge → ℕ → ℕ → Bool
same_road segs s t = same_ends (get_or segs s (0, 0)) (get_or segs t (0, 0))

-- the name of the road of segment s: its smallest segment number, open or not
unfoldable pub road : List Edge → ℕ → ℕ
road segs s = seek (same_road segs s) 0 s
