-- Each way out is one case of the definition.
use mathlib.Core.Path.{◌∙◌}
use native.Mathlib.Omega.{arith}
use Rattle.replay_step.proofs.BesideLaws.{adds_back, adds_back_named, adds_front, adds_front_named, adds_query}
use Rattle.replay_step.proofs.beside.adds_key.Goals as goal

pub returns-then-tag-eq0 : goal.returns-then-tag-eq0
returns-then-tag-eq0 c = adds_query _ _ _ _ _ _ (omega arith)

pub returns-then-next-part : goal.returns-then-next-part
returns-then-next-part c = adds_front_named _ _ _ _ _ _ (λ z. omega arith) (omega arith) (omega arith)

pub returns-then-e-part : goal.returns-then-e-part
returns-then-e-part c = c.is_open_after.ensures ∙ adds_front _ _ _ _ _ _ (λ z. omega arith) (omega arith) (omega arith)

pub returns-then-w-last : goal.returns-then-w-last
returns-then-w-last c = adds_back_named _ _ _ _ _ _ (λ z. omega arith) (omega arith) (omega arith)

pub returns : goal.returns
returns c = c.was_open.ensures ∙ adds_back _ _ _ _ _ _ (λ z. omega arith) (omega arith) (omega arith)
