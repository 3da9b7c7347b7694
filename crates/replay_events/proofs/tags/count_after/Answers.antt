-- Written out, so that a wrong count after a closing is refused by the equation that is false.
use mathlib.Core.Path.{◌∙◌, ap, sym}
use native.Mathlib.Omega.{arith}
use Rattle.replay_events.specs.Tagging.{count_after}
use Rattle.replay_events.proofs.tags.count_after.Goals as goal

pub returns-in-Closes : goal.returns-in-Closes
unfolding count_after
returns-in-Closes c = (sym (ap (λ k. count_after k c.args.c) (sym c.kind_of.ensures.value ∙ c.in-Closes.is)), omega arith)
