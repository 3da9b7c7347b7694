-- A network with one set of open segments, as the checker of evidence is lent it (document 02, No. 9), in the words of the replay's theory: its segments, and the
-- graph of its open roads, which answers are about. The open set has the form of the starting table.
-- Assumes nothing: these are definitions.
use Rattle.std.specs.Prelude.{ℕ, Bool, ◌&&◌, List, ltb, get_or}
use Rattle.theory_graph.specs.Graph.{Edge}
use Rattle.theory_graph.specs.Lists.{table}
use Rattle.theory_names.specs.Names.{plain}
use Rattle.theory_timeline.specs.Events.{open_roads, pick}
use Rattle.theory_timeline.specs.Roads.{same_ends}
use Rattle.theory_timeline.specs.Windows.{at_start}

-- n junctions and m segments, segment s between a[s] and b[s], open where opened[s] is 1; entries past m are ignored
pub record Network : Type 0 where
  pub n : ℕ
  pub m : ℕ
  pub a : List ℕ
  pub b : List ℕ
  pub opened : List ℕ

abbrev pub network : ℕ → ℕ → List ℕ → List ℕ → List ℕ → Network
network n m a b opened = record { n = n; m = m; a = a; b = b; opened = opened }

-- the two ends of segment s, and all segments
abbrev pub ends_at : Network → ℕ → Edge
ends_at w s = (get_or w.a s 0, get_or w.b s 0)

unfoldable pub segments : Network → List Edge
segments w = table (ends_at w) 0 w.m

-- s is a segment, and open
abbrev pub open_segment : Network → ℕ → Bool
open_segment w s = ltb s w.m && at_start w.opened s

-- the segments s and t are of one road: they have the same two ends, in either order
abbrev pub one_road : Network → ℕ → ℕ → Bool
one_road w s t = same_ends (ends_at w s) (ends_at w t)

-- an edge for each open road, in ascending order of their names, as in the replay's graph of what is open before an event
unfoldable pub open_edges : Network → List Edge
open_edges w = plain (pick (open_roads (segments w) (at_start w.opened)) 0 (segments w))
