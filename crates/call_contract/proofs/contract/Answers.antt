-- Where the check accepts, the contraction is that of a call without a fault; its refusal is the outcome's. That there is no fault then Rattle would find by
-- itself; it stands here so that a wrong check is refused as such.
-- Assumes nothing.
use Rattle.call_contract.proofs.OutcomeLaws.{faultless, outcome_done, outcome_refused}
use Rattle.theory_contraction.specs.Contraction.{lent}
use Rattle.call_contract.proofs.contract.Goals as goal

pub contracted-requires : goal.contracted-requires
contracted-requires c =
    let a = c.args in
    faultless (lent a.n a.m a.k a.from.now a.to.now a.names.now a.active.now a.map.now a.out_from.now a.out_to.now a.out_names.now a.pieces.now a.work.now) c.in_ok-check.ensures

pub returns : goal.returns
returns c = outcome_done _ c.in_ok-check.ensures c.contracted.ensures

pub returns-in_err-check : goal.returns-in_err-check
returns-in_err-check c = outcome_refused _ _ _ c.from_residual.ensures.1 c.in_err-check.ensures
