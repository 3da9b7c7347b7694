-- Every row of the tables of replies holds, by computing both sides.
-- Assumes nothing.
use mathlib.Core.Path.{refl}
use Rattle.theory_graph.specs.Graph.{joined, rep}
use Rattle.theory_junctions.specs.Cases.{AllHold, merges, table}
use Rattle.theory_junctions.specs.Reply.{biconnected, reply}

pub cases : AllHold table
unfolding rep joined biconnected reply
cases = (refl, (refl, (refl, (refl, (refl, (refl, (refl, (refl, (refl, (refl, (refl, (refl, (refl, (refl, (refl, (refl, (refl, (refl, (refl, (refl, (refl, (refl, (refl, (refl, (refl, (refl, (refl, (refl, (refl, (refl, tt))))))))))))))))))))))))))))))

pub merge_cases : AllHold merges
unfolding rep joined biconnected reply
merge_cases = (refl, (refl, (refl, (refl, (refl, (refl, tt))))))
