-- Each check's refusal is the first fault where those before it accept.
-- Assumes nothing.
use Rattle.std.proofs.Common.{refl, ◌∙◌}
use Rattle.call_sizes.proofs.RefusalLaws.{passed_on}
use Rattle.contraction_checks.proofs.FaultLaws.{ends_refuse, entries_decide, lengths_refuse, sizes_refuse}
use Rattle.contraction_checks.proofs.check.Goals as goal

pub returns-in_err-check : goal.returns-in_err-check
returns-in_err-check c =
    passed_on _ _ c.from_residual.ensures.1 ∙ sizes_refuse _ _ c.in_err-check.ensures.refused

pub returns-in_err-check_pairs : goal.returns-in_err-check_pairs
returns-in_err-check_pairs c =
    passed_on _ _ c.from_residual-in_err-check_pairs.ensures.1
    ∙ lengths_refuse _ c.in_ok-check.ensures.refused _ (rw c.required.ensures at (c.in_err-check_pairs.ensures.rows refl))

pub returns-in_err-check_ends : goal.returns-in_err-check_ends
returns-in_err-check_ends c =
    passed_on _ _ c.from_residual-in_err-check_ends.ensures.1
    ∙ ends_refuse _ c.in_ok-check.ensures.refused (rw c.required.ensures at (c.in_ok-check_pairs.ensures.rows refl)) _ c.in_err-check_ends.ensures

pub returns : goal.returns
returns c =
    entries_decide _ c.in_ok-check.ensures.refused (rw c.required.ensures at (c.in_ok-check_pairs.ensures.rows refl)) c.in_ok-check_ends.ensures c.check_entries.ensures
