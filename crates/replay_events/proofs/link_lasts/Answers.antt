use mathlib.Core.Path.{refl}
use Rattle.replay_events.proofs.WritingLaws.{lasts_more, lasts_none}
use Rattle.replay_events.proofs.link_lasts.Goals as goal

pub loop-i-init : goal.loop-i-init
loop-i-init c = lasts_none _ _

pub loop-i-preserved : goal.loop-i-preserved
loop-i-preserved c = lasts_more c.requires c.loop-i.invariant c.loop-i-test.true _ refl c.link_event.ensures
