-- Document 02, No. 9: what evidence for an answer is, and when it is enough.
-- "For 0: a set of junctions that holds exactly one of the two and that no open road leaves. For 1: a route, and a set that holds exactly one of the two and
-- that exactly one open road leaves. For 2: two routes with no road in common, both empty for equal junctions."
-- Assumes nothing: these are definitions.
use Rattle.std.specs.Prelude.{ℕ, Bool, ◌&&◌, ◌||◌, cond, false, not, List, [], ◌∷◌, eqb, leb, get_or, length}
use Rattle.theory_graph.specs.Cut.{cut}
use Rattle.theory_graph.specs.Graph.{Edge, NodeSet}
use Rattle.theory_graph.specs.Lists.{all, range}
use Rattle.theory_evidence.specs.Network.{Network, ends_at, one_road, open_edges, open_segment}

-- the answer claimed, a set with a byte for each junction, and two routes, lists of segments; a claim may leave parts unused
pub record Evidence : Type 0 where
  pub claim : ℕ
  pub set : List ℕ
  pub first : List ℕ
  pub second : List ℕ

abbrev pub evidence : ℕ → List ℕ → List ℕ → List ℕ → Evidence
evidence claim set first second = record { claim = claim; set = set; first = first; second = second }

-- ---- sets
-- "one byte for each junction, 1 inside and 0 outside": the junctions inside
abbrev pub inside : List ℕ → NodeSet
inside set v = eqb (get_or set v 0) 1

-- no byte of the first n is above 1
unfoldable pub is_set : ℕ → List ℕ → Bool
is_set n set = all (λ v. leb (get_or set v 0) 1) (range 0 n)

unfoldable pub exactly_one : Bool → Bool → Bool
exactly_one p q = p && not q || q && not p

-- the set holds exactly one of x and y, and exactly k open roads leave it
unfoldable pub separates : Network → ℕ → List ℕ → ℕ → ℕ → Bool
separates w k set x y = is_set w.n set && (exactly_one (inside set x) (inside set y) && eqb (cut (inside set) (open_edges w)) k)

-- ---- routes
-- x is an end of e
abbrev pub meets : Edge → ℕ → Bool
meets e x = eqb x e.0 || eqb x e.1

-- the other end of e, seen from x
abbrev pub opposite : Edge → ℕ → ℕ
opposite e x = cond (eqb x e.0) e.1 e.0

-- the segments are open, each begins where the one before it ended, in either direction, and they lead from x to y
unfoldable pub leads : Network → List ℕ → ℕ → ℕ → Bool
leads w [] x y = eqb x y
leads w (s ∷ route) x y = open_segment w s && (meets (ends_at w s) x && leads w route (opposite (ends_at w s) x) y)

-- "a list of at most N open segments, the whole of its lent table, that leads from the first junction to the second"
unfoldable pub is_route : Network → List ℕ → ℕ → ℕ → Bool
is_route w route x y = leb (length route) w.n && leads w route x y

-- no segment of the second route is of the road of one of the first
unfoldable pub road_disjoint : Network → List ℕ → List ℕ → Bool
road_disjoint w first second = all (λ s. all (λ t. not (one_road w s t)) second) first

abbrev pub is_empty : List ℕ → Bool
is_empty route = eqb (length route) 0

unfoldable pub two_routes : Network → List ℕ → List ℕ → ℕ → ℕ → Bool
two_routes w first second x y =
    cond (eqb x y) (is_empty first && is_empty second) (is_route w first x y && (is_route w second x y && road_disjoint w first second))

-- ---- evidence
-- it meets what is asked for its claim
unfoldable pub is_enough : Network → ℕ → ℕ → Evidence → Bool
is_enough w x y e =
    cond (eqb e.claim 0) (separates w 0 e.set x y)
    (cond (eqb e.claim 1) (is_route w e.first x y && separates w 1 e.set x y)
    (cond (eqb e.claim 2) (two_routes w e.first e.second x y) false))
