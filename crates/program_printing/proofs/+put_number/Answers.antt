-- The digits in front of the last one, then the last one.
-- Assumes nothing.
use Rattle.std.proofs.Common.{◌%◌, ◌+◌, ◌/◌, [], ◌∷◌, arith, refl, sym}
use Rattle.program_printing.proofs.TextLaws.{decimal_more, wrote_as, wrote_then}
use Rattle.theory_timeline.specs.Program.{decimal}
use Rattle.program_printing.proofs.+put_number.Goals as goal

pub returns : goal.returns
returns t c =
    let n = c.args.n in
    wrote_as (sym (decimal_more n c.if-n-lt10.false (omega arith)))
    (wrote_then (decimal (n / 10)) ((48 + n % 10) ∷ []) c.put_number-next.ensures (record { table = refl; next = omega arith }))
