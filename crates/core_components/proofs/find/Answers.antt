use Rattle.core_components.proofs.FindLaws.{finding_more}
use Rattle.core_components.proofs.find.Goals as goal

pub loop-u-preserved : goal.loop-u-preserved
loop-u-preserved c =
    let l = c.loop-u.invariant in
    (finding_more l c.loop-u-test.true c.get-t.ensures.0 c.put.ensures c.get-u-in-loop-u.ensures.0).0
