-- One theorem over the table of worked cases: every row holds, by computing both sides.
-- Assumes nothing.
use mathlib.Core.Path.{refl}
use Rattle.theory_evidence.specs.Call.{check_evidence, evidence_fault, evidence_faults}
use Rattle.theory_evidence.specs.Cases.{AllHold, table}
use Rattle.theory_evidence.specs.Evidence.{is_enough, exactly_one, is_route, is_set, leads, separates, road_disjoint, two_routes}
use Rattle.theory_evidence.specs.Network.{open_edges, segments}
use Rattle.theory_timeline.specs.Events.{open_roads}
use Rattle.theory_timeline.specs.Roads.{road}

pub cases : AllHold table
unfolding road open_roads segments open_edges is_set exactly_one separates leads is_route road_disjoint two_routes is_enough evidence_faults evidence_fault check_evidence
cases = (refl, (refl, (refl, (refl, (refl, (refl, (refl, (refl, (refl, (refl, (refl, (refl, (refl, (refl, (refl, (refl, (refl, (refl, (refl, (refl, (refl, (refl, (refl, (refl, (refl, (refl, (refl, (refl, (refl, (refl, (refl, (refl, (refl, tt)))))))))))))))))))))))))))))))))
