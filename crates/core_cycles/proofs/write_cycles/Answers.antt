use native.Mathlib.Omega.{arith}
use Rattle.core_cycles.proofs.WriteLaws.{node_can, writing_more}
use Rattle.core_cycles.proofs.write_cycles.Goals as goal

pub write_node-e-requires : goal.write_node-e-requires
write_node-e-requires c =
    node_can c.requires c.loop-i.invariant.1 (omega arith) c.get-v.ensures.0

pub loop-i-preserved : goal.loop-i-preserved
loop-i-preserved c =
    (omega arith, writing_more c.requires c.loop-i.invariant.1 (omega arith) c.get-v.ensures.0 c.write_node-e.ensures)
