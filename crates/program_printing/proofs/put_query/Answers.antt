-- Two numbers and two texts, each written where the one before ends, within the longest line.
-- Assumes nothing.
use Rattle.std.proofs.Common.{[], ◌∷◌, arith}
use Rattle.program_printing.proofs.TextLaws.{decimal_most, wrote_then}
use Rattle.theory_timeline.specs.Program.{decimal, query_line}
use Rattle.program_printing.proofs.put_query.Goals as goal

pub returns : goal.returns
unfolding query_line
returns c =
    let w = wrote_then (decimal c.args.i) _ c.put_number-a.ensures
    (wrote_then (32 ∷ []) _ c.put_text-b.ensures
    (wrote_then (decimal c.from.result) _ c.put_number-c.ensures c.put_text.ensures)) in
    (rw c.from.ensures at w, omega (arith, decimal_most c.args.i, decimal_most c.from.result))
