-- The lengths and the share, then the list.
-- Assumes nothing.
use Rattle.std.proofs.Common.{[], ◌++◌, ◌∙◌, ◌≡◌, List, ap, subst, sym, ℕ}
use Rattle.std.proofs.lemmas.List.{append-nil}
use Rattle.call_sizes.specs.Refusal.{Refusal, first_fault}
use Rattle.replay_checks.proofs.CheckLaws.{bounds_refused, can_check, list_checked, refusal_returned}
use Rattle.replay_checks.specs.Check.{CheckedTables, bound_faults, tables_of}
use Rattle.theory_timeline.specs.Replay.{Lent}
use Rattle.replay_checks.proofs.check_lengths.Goals as goal

-- with no lengths behind them
alone : (own : List (ℕ × ℕ)) (l : Lent) (p : ℕ) {f : Refusal} → f ≡ first_fault (bound_faults (own ++ []) l p) → f ≡ first_fault (bound_faults own l p)
alone own l p e = e ∙ ap (λ (k : List (ℕ × ℕ)). first_fault (bound_faults k l p)) (append-nil own)

pub returns-in_err-check_bounds : goal.returns-in_err-check_bounds
returns-in_err-check_bounds c =
    let a = c.args in
    subst (CheckedTables _ _ _) (sym (refusal_returned _ _ c.from_residual.ensures.1))
    (bounds_refused a.own.now a.l a.answers.now a.l.p c.requires (alone a.own.now (tables_of a.l a.answers.now) a.l.p c.in_err-check_bounds.ensures))

pub check_list-requires : goal.check_list-requires
check_list-requires c =
    let a = c.args in
    can_check a.own.now a.l a.answers.now a.l.p c.requires (alone a.own.now (tables_of a.l a.answers.now) a.l.p c.in_ok-check_bounds.ensures)

pub returns : goal.returns
returns c =
    let a = c.args in
    list_checked a.own.now a.l a.answers.now a.l.p c.requires (alone a.own.now (tables_of a.l a.answers.now) a.l.p c.in_ok-check_bounds.ensures) _ c.check_list.ensures
