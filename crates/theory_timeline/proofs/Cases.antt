-- One theorem over the table of the cases that document 01 marks P and those of document 02, Nos. 1 to 3 and 5 to 7: every row holds, by computing both sides.
-- Assumes nothing.
use mathlib.Core.Path.{refl}
use Rattle.theory_graph.specs.Contraction.{contract, kept, kept_classes, linked, number, parts, third, without}
use Rattle.theory_graph.specs.Graph.{answer, joined, removals, rep, two_edge}
use Rattle.theory_graph.specs.Pieces.{numbered, pieces}
use Rattle.theory_names.specs.Names.{class_node, contract_named, hangs}
use Rattle.theory_timeline.specs.Cases.{AllHold, table}
use Rattle.theory_timeline.specs.Events.{active_of, network_of, open_roads}
use Rattle.theory_timeline.specs.Roads.{road}
use Rattle.theory_timeline.specs.Windows as W
use Rattle.theory_timeline.specs.Replay as R
use Rattle.theory_timeline.specs.Program as P
use Rattle.call_kinds.specs.Kinds as K
use Rattle.theory_contraction.specs.Contraction as C

pub cases : AllHold table
unfolding K.is_query K.is_opening K.is_closing K.kind_of rep joined removals two_edge answer without parts kept third linked kept_classes number contract numbered pieces active_of road open_roads network_of W.open_before W.windows_from
    W.windows W.during W.network W.active W.small W.small_named W.stands W.kept hangs class_node contract_named R.byte R.bytes R.name_at R.names_at R.queries R.open_at_end R.given R.event_fault R.fault_at R.list_faults R.faults R.fault R.done
    R.refused R.replay P.input_faults P.input_fault P.input_lent P.spell P.decimal P.query_line P.query_lines P.totals_line P.refused_line P.printed P.output_with P.output
    C.edges C.named_edges C.entries C.faults C.fault C.done C.refused C.contraction
cases = (refl, (refl, (refl, (refl, (refl, (refl, (refl, (refl, (refl, (refl, (refl, (refl, (refl, (refl, (refl, (refl, (refl, (refl, (refl, (refl, (refl, (refl, (refl, (refl, (refl, (refl, (refl, (refl, (refl, (refl, (refl, (refl, (refl, (refl, (refl, (refl, (refl, (refl, (refl, (refl, (refl, (refl, (refl, (refl, (refl, (refl, (refl, (refl, (refl, (refl, (refl, (refl, tt))))))))))))))))))))))))))))))))))))))))))))))))))))
