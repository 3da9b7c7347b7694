-- One segment or edge more.
-- Assumes nothing.
use Rattle.std.proofs.Common.{arith, ◌∙◌}
use Rattle.call_sizes.proofs.RefusalLaws.{good_ends, seek_more}
use Rattle.call_sizes.specs.Refusal.{bad_ends}
use Rattle.call_sizes.proofs.first_bad_end.Goals as goal

pub loop-s-preserved : goal.loop-s-preserved
loop-s-preserved c =
    let a = c.args in
    record {
      in_range = omega arith;
      none_bad = c.loop-s.invariant.none_bad ∙ seek_more (bad_ends a.n a.from.now a.to.now) c.loop-s.s a.m (omega arith)
          (good_ends a.n a.from.now a.to.now c.loop-s.s (omega arith) (omega arith));
    }
