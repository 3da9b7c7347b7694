use Rattle.core_words.proofs.ClearLaws.{cleared_more}
use native.Mathlib.Omega.{arith}
use Rattle.core_reduce.proofs.clear_nodes.Goals as goal

pub loop-v-preserved : goal.loop-v-preserved
loop-v-preserved c =
    (omega arith, cleared_more c.loop-v.invariant.1 c.clear_node.ensures)
