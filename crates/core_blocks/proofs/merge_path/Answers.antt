use native.Mathlib.Omega.{arith}
use Rattle.core_blocks.proofs.PathLaws.{class_can, loop_done, loop_left, loop_right}
use Rattle.core_blocks.proofs.merge_path.Goals as goal

pub merge_class-a-requires : goal.merge_class-a-requires
merge_class-a-requires c =
    class_can c.requires c.loop-a.invariant c.loop-a.a c.loop-a.invariant.left.fit

pub loop-a-smaller-then-j-i : goal.loop-a-smaller-then-j-i
loop-a-smaller-then-j-i c =
    let m = loop_left c.requires c.loop-a.invariant c.loop-a-test.true (omega (arith, c.if-j-i.true, c.get-j.ensures.0, c.get-i.ensures.0)) c.merge_class-a.ensures in omega (arith, m.1)

pub loop-a-preserved-then-j-i : goal.loop-a-preserved-then-j-i
loop-a-preserved-then-j-i c =
    (loop_left c.requires c.loop-a.invariant c.loop-a-test.true (omega (arith, c.if-j-i.true, c.get-j.ensures.0, c.get-i.ensures.0)) c.merge_class-a.ensures).0

pub merge_class-b-requires : goal.merge_class-b-requires
merge_class-b-requires c =
    class_can c.requires c.loop-a.invariant c.loop-a.b c.loop-a.invariant.right.fit

pub loop-a-smaller : goal.loop-a-smaller
loop-a-smaller c =
    let m = loop_right c.requires c.loop-a.invariant c.loop-a-test.true (omega (arith, c.if-j-i.false, c.get-j.ensures.0, c.get-i.ensures.0)) c.merge_class-b.ensures in omega (arith, m.1)

pub loop-a-preserved : goal.loop-a-preserved
loop-a-preserved c =
    (loop_right c.requires c.loop-a.invariant c.loop-a-test.true (omega (arith, c.if-j-i.false, c.get-j.ensures.0, c.get-i.ensures.0)) c.merge_class-b.ensures).0

pub returns : goal.returns
returns c = loop_done c.requires c.loop-a.invariant (omega arith)
