-- The entries before j are filled.
use Rattle.std.proofs.Common.{◌≡◌, ◌+◌, ◌<◌, get_or, ℕ}
use Rattle.theory_timeline.specs.Program.{words16}
use Rattle.program_reading.proofs.fill.Given as goal

abbrev pub invariant-loop-j : goal.invariant-loop-j
invariant-loop-j l = (k : ℕ) → k < l.j → get_or l.table k 0 ≡ get_or (words16 l.input) (l.i + k) 0
