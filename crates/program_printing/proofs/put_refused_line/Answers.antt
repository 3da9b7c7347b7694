-- Two texts and two numbers by turns, each written where the one before ends, and the line's end.
-- Assumes nothing.
use Rattle.std.proofs.Common.{[], ◌∷◌}
use Rattle.program_printing.proofs.TextLaws.{wrote_then}
use Rattle.theory_timeline.specs.Program.{decimal, refused_line}
use Rattle.program_printing.proofs.put_refused_line.Goals as goal

pub returns : goal.returns
unfolding refused_line
returns c =
    wrote_then (114 ∷ 101 ∷ 102 ∷ 117 ∷ 115 ∷ 101 ∷ 100 ∷ 32 ∷ []) _ c.put_text-a.ensures
    (wrote_then (decimal c.args.code) _ c.put_number-b.ensures
    (wrote_then (32 ∷ 97 ∷ 116 ∷ 32 ∷ []) _ c.put_text-c.ensures
    (wrote_then (decimal c.args.place) _ c.put_number-d.ensures c.put_text.ensures)))
