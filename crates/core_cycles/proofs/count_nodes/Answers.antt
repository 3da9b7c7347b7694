use Prim.Native.Nat.{◌-◌}
use native.Mathlib.Omega.{arith}
use Rattle.core_cycles.proofs.CountLaws.{counting_down, counting_more, counting_none, node_can}
use Rattle.core_cycles.proofs.count_nodes.Goals as goal

pub loop-i-init : goal.loop-i-init
loop-i-init c = counting_none c.requires

pub count_node-requires : goal.count_node-requires
count_node-requires c =
    node_can (c.loop-i.i - 1) c.requires (counting_down c.loop-i-test.true c.loop-i.invariant)
    (omega arith) c.get-v.ensures.0

pub loop-i-preserved : goal.loop-i-preserved
loop-i-preserved c =
    counting_more (c.loop-i.i - 1) c.requires (counting_down c.loop-i-test.true c.loop-i.invariant)
    (omega arith) c.get-v.ensures.0 c.count_node.ensures
