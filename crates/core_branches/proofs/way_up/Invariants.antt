-- `way_up` meets its contract. The loop's invariant: the way goes on from the class that it has come to, or ends there where that has a number.
use Rattle.core_branches.proofs.WayLaws.{GoingUp}
use Rattle.core_words.specs.Fields.{POSITION, node}
use Rattle.core_words.specs.Links.{link_word}
use Rattle.core_branches.proofs.way_up.Given as goal

abbrev pub invariant-loop-step : goal.invariant-loop-step
invariant-loop-step l = GoingUp l.n l.v l.work l.step.top (link_word l.step.number) l.name

abbrev pub decreases-loop-step : goal.decreases-loop-step
decreases-loop-step l = node POSITION l.work l.step.top
