-- The whole table is filled at the end.
-- Assumes nothing.
use Rattle.std.proofs.Common.{arith, length, ◌+◌}
use Rattle.program_reading.proofs.ReadingLaws.{filled, words_long}
use Rattle.theory_timeline.specs.Program.{words16}
use Rattle.program_reading.proofs.fill.Goals as goal

pub returns : goal.returns
returns c =
    let a = c.args in
    rw (← c.loop-j.auto.table) (filled (words16 a.input.now) a.i c.loop-j.table (omega (arith, words_long a.input.now (a.i + length a.table.now))) (λ k h. c.loop-j.invariant k (omega arith)))
