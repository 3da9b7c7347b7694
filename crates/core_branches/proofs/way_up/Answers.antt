use mathlib.Core.Path.{ap}
use native.Mathlib.Omega.{arith}
use Rattle.core_branches.proofs.WayLaws.{going_more, going_start}
use Rattle.core_words.specs.Links.{link_word}
use Rattle.core_branches.proofs.way_up.Goals as goal

pub loop-step-init : goal.loop-step-init
loop-step-init c = going_start c.requires c.step_up-step.ensures

pub loop-step-preserved : goal.loop-step-preserved
loop-step-preserved c =
    going_more c.requires c.loop-step.invariant (ap link_word c.in_default.is) c.step_up-step-in-loop-step.ensures (omega arith)
