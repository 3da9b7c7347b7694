-- Each check's first fault, behind those that found none.
-- Assumes nothing.
use Rattle.std.proofs.Common.{◌++◌, refl}
use Rattle.replay_checks.proofs.CheckLaws.{lengths_behind, lengths_refused, long_refused, own_refused, refusal_returned, share_left}
use Rattle.replay_checks.specs.Check.{tables_of}
use Rattle.replay_checks.proofs.check_bounds.Goals as goal

pub returns-in_err-check_pairs-2 : goal.returns-in_err-check_pairs-2
returns-in_err-check_pairs-2 c =
    let a = c.args in
    rw (refusal_returned _ _ c.from_residual-in_err-check_pairs-2.ensures.1)
    (own_refused (a.others.now ++ a.more.now) (tables_of a.l a.answers.now) a.l.p (c.in_ok-check_pairs.ensures.rows refl) _
    (lengths_refused a.others.now a.more.now _ (c.in_err-check_pairs-2.ensures.rows refl)))

pub returns-in_err-check_pairs-3 : goal.returns-in_err-check_pairs-3
returns-in_err-check_pairs-3 c =
    let a = c.args in
    rw (refusal_returned _ _ c.from_residual-in_err-check_pairs-3.ensures.1)
    (own_refused (a.others.now ++ a.more.now) (tables_of a.l a.answers.now) a.l.p (c.in_ok-check_pairs.ensures.rows refl) _
    (lengths_behind a.others.now a.more.now (c.in_ok-check_pairs-2.ensures.rows refl) (c.in_err-check_pairs-3.ensures.rows refl)))

pub returns-in_err-check_pairs-4 : goal.returns-in_err-check_pairs-4
returns-in_err-check_pairs-4 c =
    let a = c.args in
    rw (refusal_returned _ _ c.from_residual-in_err-check_pairs-4.ensures.1)
    (long_refused (a.others.now ++ a.more.now) (tables_of a.l a.answers.now) a.l.p (c.in_ok-check_pairs.ensures.rows refl)
    (lengths_behind a.others.now a.more.now (c.in_ok-check_pairs-2.ensures.rows refl) (c.in_ok-check_pairs-3.ensures.rows refl)) _ (c.in_err-check_pairs-4.ensures.rows refl))

pub returns : goal.returns
returns c =
    let a = c.args in
    share_left (a.others.now ++ a.more.now) (tables_of a.l a.answers.now) a.l.p (c.in_ok-check_pairs.ensures.rows refl)
    (lengths_behind a.others.now a.more.now (c.in_ok-check_pairs-2.ensures.rows refl) (c.in_ok-check_pairs-3.ensures.rows refl)) (c.in_ok-check_pairs-4.ensures.rows refl)
    (c.check_pairs-5.ensures.rows refl)
