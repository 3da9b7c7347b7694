use mathlib.Core.Path.{◌≡◌}
use native.Mathlib.Omega.{arith}
use Rattle.core_cycles.proofs.NumberingLaws.{node_can, numbering_more, numbering_none}
use Rattle.core_cycles.proofs.number_nodes.Goals as goal

pub loop-i-init : goal.loop-i-init
loop-i-init c = (omega arith, numbering_none c.requires)

pub number_node-h-requires : goal.number_node-h-requires
number_node-h-requires c =
    node_can c.requires c.loop-i.invariant.1 (omega arith) c.get-v.ensures.0

pub loop-i-preserved : goal.loop-i-preserved
loop-i-preserved c =
    (omega arith, numbering_more c.requires c.loop-i.invariant.1 (omega arith) c.get-v.ensures.0 c.number_node-h.ensures)

pub returns : goal.returns
returns c = let e : c.loop-i.i ≡ c.args.seen = omega arith in rw e at c.loop-i.invariant.1
