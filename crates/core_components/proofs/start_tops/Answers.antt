use native.Mathlib.Omega.{arith}
use Rattle.core_components.proofs.CompressionLaws.{own_more}
use Rattle.core_components.proofs.start_tops.Goals as goal

pub loop-v-preserved : goal.loop-v-preserved
loop-v-preserved c =
    (omega arith, own_more (omega arith) c.loop-v.invariant.1 c.put.ensures)
