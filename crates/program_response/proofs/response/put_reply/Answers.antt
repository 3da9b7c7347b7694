-- The lines of the queries and the totals, or the line of the refusal.
-- Assumes nothing.
use Rattle.std.proofs.Common.{ap, arith, length, Result, sym}
use Rattle.call_sizes.specs.Numbers.{number_of, place_of}
use Rattle.call_sizes.specs.declared.Refusal.{Refusal}
use Rattle.program_printing.proofs.TextLaws.{wrote_as, wrote_then}
use Rattle.theory_timeline.specs.Call.{outcome}
use Rattle.theory_timeline.specs.Program.{printed}
use Rattle.theory_timeline.specs.declared.Totals.{Totals}
use Rattle.program_response.proofs.ResponseLaws.{refused_most, totals_most}
use Rattle.program_response.proofs.response.put_reply.Goals as goal

pub returns-in-Ok : goal.returns-in-Ok
unfolding printed
returns-in-Ok c =
    let a = c.args in
    let t = c.in-Ok.totals in
    let w = c.put_queries-at.ensures in (
      λ names work.
          wrote_as (ap (λ (k : Result Totals Refusal). printed a.n (length a.x.now) a.x.now (outcome k a.answers.now names work)) (sym c.in-Ok.is))
          (wrote_then _ _ w.0 c.put_totals.ensures),
      omega (arith, c.put_totals.ensures.next, w.1, totals_most t.queries t.«open» t.kept),
    )

pub returns-in-Err : goal.returns-in-Err
unfolding printed
returns-in-Err c =
    let a = c.args in
    let r = c.in-Err.refusal in (
      λ names work.
          wrote_as (ap (λ (k : Result Totals Refusal). printed a.n (length a.x.now) a.x.now (outcome k a.answers.now names work)) (sym c.in-Err.is))
          c.put_refused.ensures,
      omega (arith, c.put_refused.ensures.next, refused_most (number_of r) (place_of r)),
    )
