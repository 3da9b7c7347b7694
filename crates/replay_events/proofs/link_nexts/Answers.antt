use mathlib.Core.Path.{refl}
use native.Mathlib.Omega.{arith}
use Rattle.replay_events.proofs.WritingLaws.{nexts_at, nexts_more, nexts_none}
use Rattle.replay_events.proofs.link_nexts.Goals as goal

pub loop-i-init : goal.loop-i-init
loop-i-init c = nexts_none _ _

pub loop-i-preserved : goal.loop-i-preserved
loop-i-preserved c = nexts_more c.requires (nexts_at c.loop-i.invariant (omega arith)) _ refl c.link_event.ensures
