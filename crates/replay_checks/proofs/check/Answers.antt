-- The sizes, the lengths and the share, then the list.
-- Assumes nothing.
use Rattle.std.proofs.Common.{[], ◌∷◌, ◌++◌, length, subst, sym}
use Rattle.replay_checks.proofs.CheckLaws.{bounds_refused, can_check, list_checked, own_checked, refusal_returned, size_refused, within}
use Rattle.replay_checks.specs.Check.{CheckedTables}
use Rattle.replay_checks.proofs.check.Goals as goal

pub returns-in_err-check : goal.returns-in_err-check
returns-in_err-check c = λ names words.
    let a = c.args in
    subst (CheckedTables _ _ _) (sym (refusal_returned _ _ c.from_residual.ensures.1)) (size_refused a.l _ a.l.p a.answers.now names words c.in_err-check.ensures.refused)

pub required-need-requires : goal.required-need-requires
required-need-requires c = let s = within c.args.l c.in_ok-check.ensures.refused in (c.requires, s.t_fits, s.n_fits, s.m_fits)

pub returns-in_err-check_bounds : goal.returns-in_err-check_bounds
returns-in_err-check_bounds c = λ names words.
    let a = c.args in
    own_checked a.l _ a.l.p a.answers.now names words (subst (CheckedTables _ _ _) (sym (refusal_returned _ _ c.from_residual-in_err-check_bounds.ensures.1))
    (rw c.required-need.ensures at (bounds_refused (a.others.now ++ (length a.work.now, c.required-need.result) ∷ []) a.l a.answers.now a.l.p
    (within a.l c.in_ok-check.ensures.refused) c.in_err-check_bounds.ensures)))

pub check_list-requires : goal.check_list-requires
check_list-requires c =
    let a = c.args in
    can_check (a.others.now ++ (length a.work.now, c.required-need.result) ∷ []) a.l a.answers.now a.l.p (within a.l c.in_ok-check.ensures.refused) c.in_ok-check_bounds.ensures

pub returns : goal.returns
returns c = λ names words.
    let a = c.args in
    own_checked a.l _ a.l.p a.answers.now names words (rw c.required-need.ensures at (list_checked (a.others.now ++ (length a.work.now, c.required-need.result) ∷ []) a.l a.answers.now a.l.p
    (within a.l c.in_ok-check.ensures.refused) c.in_ok-check_bounds.ensures _ c.check_list.ensures))
