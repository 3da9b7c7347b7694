use Rattle.core_cycles.proofs.WriteLaws.{mapping_more}
use native.Mathlib.Omega.{arith}
use Rattle.core_cycles.proofs.map_actives.Goals as goal

pub loop-i-preserved : goal.loop-i-preserved
loop-i-preserved c =
    (omega arith, mapping_more c.requires c.loop-i.invariant.1 (omega arith) c.get-v.ensures.0 c.get-x.ensures.0 c.put.ensures)
