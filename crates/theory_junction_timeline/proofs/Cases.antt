-- Every row of the sibling's cases holds, by computing both sides.
-- Assumes nothing.
use mathlib.Core.Path.{refl}
use Rattle.theory_graph.specs.Graph.{answer, joined, removals, rep, two_edge}
use Rattle.theory_junctions.specs.Reply.{biconnected, reply}
use Rattle.theory_timeline.specs.Events.{open_roads}
use Rattle.theory_timeline.specs.Roads.{road}
use Rattle.theory_timeline.specs.Windows as W
use Rattle.theory_timeline.specs.Replay as R
use Rattle.call_kinds.specs.Kinds as K
use Rattle.theory_junction_timeline.specs.Cases.{AllBeside, AllHold, beside, table}
use Rattle.theory_junction_timeline.specs.JunctionReplay.{junction_byte, junction_bytes, junction_done, junction_fault, junction_refused, replay_junctions}

-- the replay's byte and the sibling's of one query
pub beside_cases : AllBeside beside
unfolding K.is_query K.is_opening K.is_closing K.kind_of rep joined removals two_edge answer biconnected reply road open_roads W.open_before R.byte R.given junction_byte
beside_cases = (refl, (refl, tt))

pub cases : AllHold table
unfolding K.is_query K.is_opening K.is_closing K.kind_of rep joined biconnected reply road open_roads W.open_before R.queries R.open_at_end R.given R.event_fault R.fault_at R.list_faults
    junction_byte junction_bytes junction_fault junction_done junction_refused replay_junctions
cases = (refl, (refl, (refl, (refl, (refl, (refl, (refl, (refl, (refl, (refl, (refl, (refl, (refl, (refl, (refl, (refl, (refl, (refl, (refl, (refl, (refl, tt)))))))))))))))))))))
