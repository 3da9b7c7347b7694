use native.Mathlib.Omega.{arith}
use Rattle.replay_events.proofs.WritingLaws.{placed_all, placed_more, placed_none}
use Rattle.replay_events.proofs.put_junctions.Goals as goal

pub loop-i-init : goal.loop-i-init
loop-i-init c = placed_none _ _ _ _ _ _

pub loop-i-preserved : goal.loop-i-preserved
loop-i-preserved c = placed_more c.loop-i.invariant c.loop-i-test.true c.requires.events c.put_ends.ensures

pub returns : goal.returns
returns c = placed_all c.loop-i.invariant (omega (arith, c.loop-i.invariant.most))
