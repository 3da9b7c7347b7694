use native.Mathlib.Omega.{arith}
use Rattle.core_names.proofs.NamingLaws.{naming_more}
use Rattle.core_names.proofs.name_edges.Goals as goal

pub loop-j-preserved : goal.loop-j-preserved
loop-j-preserved c =
    (omega arith, naming_more c.requires c.loop-j.invariant.1 (omega arith) c.name_edge.ensures)
