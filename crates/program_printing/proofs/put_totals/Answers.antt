-- Three texts and three numbers by turns, each written where the one before ends, and the line's end.
-- Assumes nothing.
use Rattle.std.proofs.Common.{[], ◌∷◌}
use Rattle.program_printing.proofs.TextLaws.{wrote_then}
use Rattle.theory_timeline.specs.Program.{decimal, totals_line}
use Rattle.program_printing.proofs.put_totals.Goals as goal

pub returns : goal.returns
unfolding totals_line
returns c =
    let t = c.args.totals in
    wrote_then (97 ∷ 115 ∷ 107 ∷ 115 ∷ 32 ∷ []) _ c.put_text-a.ensures
    (wrote_then (decimal t.queries) _ c.put_number-b.ensures
    (wrote_then (32 ∷ 111 ∷ 112 ∷ 101 ∷ 110 ∷ 32 ∷ []) _ c.put_text-c.ensures
    (wrote_then (decimal t.«open») _ c.put_number-d.ensures
    (wrote_then (32 ∷ 107 ∷ 101 ∷ 112 ∷ 116 ∷ 32 ∷ []) _ c.put_text-e.ensures
    (wrote_then (decimal t.kept) _ c.put_number-f.ensures c.put_text.ensures)))))
