-- Either answer is that of the rows.
-- Assumes nothing.
use Rattle.std.proofs.Common.{sym, ◌∙◌}
use Rattle.call_sizes.proofs.RefusalLaws.{pairs_accepted, pairs_refused}
use Rattle.call_sizes.proofs.check_pairs.Goals as goal

pub returns : goal.returns
returns c =
    let a = c.args in
    let (v, h) = pairs_accepted a.refusal a.pairs.now (sym c.any_below.ensures ∙ c.if-any_below.false) in
    record { value = v; rows = h }

pub returns-then-any_below : goal.returns-then-any_below
returns-then-any_below c =
    let a = c.args in
    let (v, h) = pairs_refused a.refusal a.pairs.now (sym c.any_below.ensures ∙ c.if-any_below.true) in
    record { value = v; rows = h }
