use mathlib.Core.Path.{◌∙◌}
use Rattle.replay_roads.proofs.CountingLaws.{can_count, counting_closed, counting_open}
use Rattle.replay_roads.proofs.count_start.Goals as goal
use Rattle.replay_roads.proofs.count_start.Goals.{then-entry-eq1, else-entry-eq1}

pub count_segment-requires : goal.count_segment-requires
count_segment-requires c = can_count c.loop-s.invariant c.loop-s-test.true

pub loop-s-preserved : goal.loop-s-preserved
loop-s-preserved c =
    let g = c.loop-s.invariant in
    let l = c.loop-s-test.true in
    elim c.if-entry-eq1.branch [
      | then-entry-eq1 w ↦ counting_open g l w.if-entry-eq1.true (w.work-is ∙ w.count_segment.ensures)
      | else-entry-eq1 w ↦ rw w.work-is (counting_closed g l w.if-entry-eq1.false)
    ]
