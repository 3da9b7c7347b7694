-- Where a fault is found the outcome is its refusal, and where none is found the one of an accepted call.
-- Assumes nothing.
use Rattle.std.proofs.Common.{◌≡◌, ap, arith, sym, ◌∙◌}
use Rattle.std.specs.Prelude.{IsErrAnd, Result}
use Rattle.std.proofs.lemmas.Result.{err_from_is_err_and}
use Rattle.theory_contraction.proofs.Acceptance.{contraction_done, contraction_refused}
use Rattle.theory_contraction.specs.Contraction.{Faultless, Lent, Outcome, contraction, done, fault, refused}
use Rattle.call_contract.specs.Reply.{outcome}
use Rattle.call_sizes.proofs.RefusalLaws.{number_positive}
use Rattle.call_sizes.specs.Numbers.{numbers_of}
use Rattle.call_sizes.specs.Refusal as definition
use Rattle.call_sizes.specs.declared.Refusal.{Refusal}
use Rattle.core_reduce.specs.declared.Counts.{Counts}

module _ (l : Lent) where
  pub outcome_refused : (r : Result Counts Refusal) (e : Refusal) → IsErrAnd r (λ d. d ≡ e) → numbers_of e ≡ fault l
      → outcome r l.map l.out_from l.out_to l.out_names l.pieces l.work ≡ contraction l
  unfolding refused
  outcome_refused r e h q =
      let p = err_from_is_err_and r h in
      let c = ap (λ (f : definition.Refusal). f.0) q in
      rw (p.1, p.2) (ap (refused l) q ∙ sym (contraction_refused l (λ z. omega (arith, number_positive e))))

  pub faultless : (0, 0) ≡ fault l → Faultless l
  faultless e = ap (λ (f : definition.Refusal). f.0) (sym e)

  pub outcome_done : (0, 0) ≡ fault l → {o : Outcome} → o ≡ done l → o ≡ contraction l
  outcome_done e q = q ∙ sym (contraction_done l (faultless e))
