use mathlib.Core.Path.{◌≡◌}
use lib.ListN.{length}
use native.Mathlib.Omega.{arith}
use Rattle.replay_events.proofs.TaggingLaws.{tag_need, tagged_more, tagged_none}
use Rattle.replay_events.proofs.tags.Counts.put_tags.Goals as goal

pub loop-i-init : goal.loop-i-init
loop-i-init c = tagged_none _ _ _ _ _ _

pub put_tag-requires : goal.put_tag-requires
put_tag-requires c = tag_need c.requires c.loop-i.invariant c.loop-i-test.true

pub loop-i-preserved : goal.loop-i-preserved
loop-i-preserved c = tagged_more c.requires c.loop-i.invariant c.loop-i-test.true c.put_tag.ensures

pub returns : goal.returns
returns c = let e : c.loop-i.i ≡ length c.args.x.now = omega arith in rw e at c.loop-i.invariant
