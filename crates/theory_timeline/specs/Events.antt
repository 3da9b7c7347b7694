-- Document 01, "Network and list": the events, which segments are open, and what an event or a list of events names; and of document 02, No. 3, which roads.
-- An event is its X and its Y. Assumes nothing: these are definitions.
use Rattle.std.specs.Prelude.{suc, ℕ, Bool, ◌&&◌, ◌||◌, cond, false, not, List, [], ◌∷◌, eqb, get_or, length}
use Rattle.call_kinds.specs.Kinds.{is_closing, is_opening, is_query, kind_of}
use Rattle.theory_graph.specs.Graph.{Edge}
use Rattle.theory_graph.specs.Lists.{any, range}
use Rattle.theory_names.specs.Names.{Named}
use Rattle.theory_timeline.specs.Roads.{road}

abbrev pub Event : Type 0
Event = ℕ × ℕ

-- ---- kinds, by document 01's table (call_kinds/specs/Kinds), where there are n junctions
abbrev pub asks : ℕ → Event → Bool
asks n e = is_query (kind_of n e.0)

abbrev pub opens : ℕ → Event → Bool
opens n e = is_opening (kind_of n e.0)

abbrev pub closes : ℕ → Event → Bool
closes n e = is_closing (kind_of n e.0)

-- the event names a segment: it opens or closes one
abbrev pub changes : ℕ → Event → Bool
changes n e = opens n e || closes n e

-- ---- segments
-- a set of segments by their numbers, or of roads by their names
abbrev pub SegmentSet : Type 0
SegmentSet = ℕ → Bool

-- the event opens or closes segment s
abbrev pub names : ℕ → Event → ℕ → Bool
names n e s = changes n e && eqb s e.1

-- some event of the list does
abbrev pub named : ℕ → List Event → ℕ → Bool
named n [] s = false
named n (e ∷ evs) s = names n e s || named n evs s

-- the open segments after an event, and after a list of events
abbrev pub after : ℕ → Event → SegmentSet → SegmentSet
after n e o s = cond (names n e s) (opens n e) (o s)

abbrev pub after_all : ℕ → List Event → SegmentSet → SegmentSet
after_all n [] o = o
after_all n (e ∷ evs) o = after_all n evs (after n e o)

-- ---- roads, by their names
-- the open roads, where the segments of o are open: "open while any of its segments is"
unfoldable pub open_roads : List Edge → SegmentSet → SegmentSet
open_roads segs o r = any (λ s. o s && eqb r (road segs s)) (range 0 (length segs))

-- the event opens or closes a segment of road r
abbrev pub names_road : ℕ → List Edge → Event → ℕ → Bool
names_road n segs e r = changes n e && eqb r (road segs e.1)

-- some event of the list does
abbrev pub named_roads : ℕ → List Edge → List Event → SegmentSet
named_roads n segs [] r = false
named_roads n segs (e ∷ evs) r = names_road n segs e r || named_roads n segs evs r

-- the edges of the segments of a set, or of the roads of a set of names, in ascending order, each with its number as its name; the first of the list has the
-- number i
abbrev pub pick : SegmentSet → ℕ → List Edge → Named
pick t i [] = []
pick t i (e ∷ es) = cond (t i) ((e, i) ∷ pick t (suc i) es) (pick t (suc i) es)

-- the two junctions of an event: those that a query names, or both ends of the segment that it names
abbrev pub ends : ℕ → List Edge → Event → ℕ × ℕ
ends n segs e = cond (asks n e) e (get_or segs e.1 (0, 0))

-- ---- a list of events over n junctions, where the segments of o are open before it
-- its network: "one edge for each road that is open before it and that has no segment named in it", with the road's name
unfoldable pub network_of : ℕ → List Edge → List Event → SegmentSet → Named
network_of n segs evs o = pick (λ r. open_roads segs o r && not (named_roads n segs evs r)) 0 segs

-- its active junctions, in the order of its events
unfoldable pub active_of : ℕ → List Edge → List Event → List ℕ
active_of n segs [] = []
active_of n segs (e ∷ evs) = (ends n segs e).0 ∷ (ends n segs e).1 ∷ active_of n segs evs
