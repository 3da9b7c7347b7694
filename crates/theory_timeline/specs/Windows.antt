-- Document 01, "Windows": the windows of a share, each window's network, active junctions and small graph, and kept.
-- Assumes nothing: these are definitions.
use Rattle.std.specs.Prelude.{◌*◌, ◌+◌, ◌-◌, ◌/◌, max, suc, zero, ℕ, Bool, false, true, List, [], ◌++◌, ◌∷◌, map, eqb, ltb, drop, get_or, length, take}
use Rattle.theory_graph.specs.Contraction.{Contracted, contract, number}
use Rattle.theory_graph.specs.Graph.{Edge}
use Rattle.theory_graph.specs.Lists.{sum}
use Rattle.theory_names.specs.Names.{Entry, Named, contract_named, plain}
use Rattle.theory_timeline.specs.Roads.{road}
use Rattle.theory_timeline.specs.Events.{Event, SegmentSet, active_of, after_all, asks, changes, closes, network_of, open_roads, opens, pick}

-- a network, the segments open at the start, and the list of events
pub record Timeline : Type 0 where
  pub junctions : ℕ
  pub segments : List Edge
  pub start : SegmentSet
  pub events : List Event

abbrev pub size : Timeline → ℕ
size g = length g.events

abbrev pub event : Timeline → ℕ → Event
event g i = get_or g.events i (0, 0)

-- event i is a query; it opens a segment; it closes one; it names one, to open or to close it
abbrev pub asks_at : Timeline → ℕ → Bool
asks_at g i = asks g.junctions (event g i)

abbrev pub opens_at : Timeline → ℕ → Bool
opens_at g i = opens g.junctions (event g i)

abbrev pub closes_at : Timeline → ℕ → Bool
closes_at g i = closes g.junctions (event g i)

abbrev pub changes_at : Timeline → ℕ → Bool
changes_at g i = changes g.junctions (event g i)

-- the segments open at the start, by the starting table: "1 for open at the start and 0 for closed"
abbrev pub at_start : List ℕ → SegmentSet
at_start start s = eqb (get_or start s 0) 1

-- the segments open before event i
unfoldable pub open_before : Timeline → ℕ → SegmentSet
open_before g i = after_all g.junctions (take i g.events) g.start

-- the edges of a set of segments, or of roads by their names, each with its number as its name
abbrev pub edges_of : Timeline → SegmentSet → Named
edges_of g o = pick o 0 g.segments

-- the edges of a set of segments, each with the name of its road
abbrev pub segments_of : Timeline → SegmentSet → Named
segments_of g o = map (λ (e : Entry). (e.0, road g.segments e.1)) (edges_of g o)

-- the roads open before event i, and the graph of what is open then: one edge for each open road, in ascending order of their names, and with them
abbrev pub roads_before : Timeline → ℕ → SegmentSet
roads_before g i = open_roads g.segments (open_before g i)

abbrev pub open_graph : Timeline → ℕ → Named
open_graph g i = edges_of g (roads_before g i)

-- ---- windows
-- a window is its first event and its number of events
abbrev pub Window : Type 0
Window = ℕ × ℕ

-- the events of the first part of a window of n events, with the share p
abbrev pub first_part : ℕ → ℕ → ℕ
first_part p n = max 1 (n * p / 16)

-- a window with all those that it is cut into, of at most k events
unfoldable pub windows_from : ℕ → ℕ → ℕ → ℕ → List Window
windows_from p zero at n = []
windows_from p (suc k) at n =
    elim (ltb n 2) [
      | true ↦ (at, n) ∷ []
      | false ↦ (at, n) ∷ windows_from p k at (first_part p n) ++ windows_from p k (at + first_part p n) (n - first_part p n)
    ]

-- all windows of a list of t events
unfoldable pub windows : ℕ → ℕ → List Window
windows p t = windows_from p t 0 t

-- ---- what a window has
-- its events
unfoldable pub during : Timeline → Window → List Event
during g w = take w.1 (drop w.0 g.events)

-- its network, and its active junctions
unfoldable pub network : Timeline → Window → Named
network g w = network_of g.junctions g.segments (during g w) (open_before g w.0)

unfoldable pub active : Timeline → Window → List ℕ
active g w = active_of g.junctions g.segments (during g w)

-- its small graph, and the node at which a junction stands in it
unfoldable pub small : Timeline → Window → Contracted
small g w = contract g.junctions (plain (network g w)) (active g w)

unfoldable pub stands : Timeline → Window → ℕ → ℕ
stands g w = number g.junctions (plain (network g w)) (active g w)

-- the edges of its small graph with their names: each has the smallest name of a road of the network whose loss parts its two classes
unfoldable pub small_named : Timeline → Window → Named
small_named g w = contract_named g.junctions (network g w) (active g w)

-- kept: the sum of small-graph nodes over all windows
unfoldable pub kept : Timeline → ℕ → ℕ
kept g p = sum (map (λ w. (small g w).nodes) (windows p (size g)))
