-- The starting table behind the ends, the ends, the events.
-- Assumes nothing.
use Rattle.std.proofs.Common.{subst, sym}
use Rattle.replay_checks.proofs.CheckLaws.{ends_refused, events_refused, list_passed, refusal_returned, start_refused}
use Rattle.replay_checks.specs.Check.{CheckedList}
use Rattle.replay_checks.proofs.check_list.Goals as goal

pub returns-in_err-check_start : goal.returns-in_err-check_start
returns-in_err-check_start c =
    subst (CheckedList c.args.l) (sym (refusal_returned _ _ c.from_residual-in_err-check_start.ensures.1))
    (start_refused c.requires c.in_ok-check_ends.ensures c.in_err-check_start.ensures)

pub returns-in_err-check_ends : goal.returns-in_err-check_ends
returns-in_err-check_ends c = subst (CheckedList c.args.l) (sym (refusal_returned _ _ c.from_residual.ensures.1)) (ends_refused c.requires c.in_err-check_ends.ensures)

pub returns-in_err-held : goal.returns-in_err-held
returns-in_err-held c =
    subst (CheckedList c.args.l) (sym (refusal_returned _ _ c.from_residual-in_err-held.ensures.1))
    (events_refused c.requires c.in_ok-check_ends.ensures c.in_ok-check_start.ensures _ c.from_table.ensures.1 c.in_err-held.ensures)

pub returns : goal.returns
returns c = list_passed c.requires c.in_ok-check_ends.ensures c.in_ok-check_start.ensures _ c.from_table.ensures.1 c.in_ok-held.ensures c.count.ensures
