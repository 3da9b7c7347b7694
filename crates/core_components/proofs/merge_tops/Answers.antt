use native.Mathlib.Omega.{arith}
use Rattle.core_components.proofs.PathLaws.{loop_can, loop_can', loop_more, loop_more', loop_none}
use Rattle.core_components.proofs.merge_tops.Goals as goal

pub loop-a-init : goal.loop-a-init
loop-a-init c = loop_none c.requires.0 c.requires.1 c.requires.2 c.requires.3

pub merge_parent-b-requires : goal.merge_parent-b-requires
merge_parent-b-requires c =
    loop_can' c.requires.0 c.loop-a.invariant c.loop-a-test.true (omega arith)

pub loop-a-preserved-then-pa-pb : goal.loop-a-preserved-then-pa-pb
loop-a-preserved-then-pa-pb c =
    (loop_more' c.requires.0 c.loop-a.invariant c.loop-a-test.true
    (omega (arith, c.if-pa-pb.true, c.get-pb.ensures.0, c.get-pa.ensures.0)) c.merge_parent-b.ensures).0

pub merge_parent-a-requires : goal.merge_parent-a-requires
merge_parent-a-requires c =
    loop_can c.requires.0 c.loop-a.invariant c.loop-a-test.true (omega arith)

pub loop-a-preserved : goal.loop-a-preserved
loop-a-preserved c =
    (loop_more c.requires.0 c.loop-a.invariant c.loop-a-test.true
    (omega (arith, c.if-pa-pb.false, c.get-pb.ensures.0, c.get-pa.ensures.0)) c.merge_parent-a.ensures).0
