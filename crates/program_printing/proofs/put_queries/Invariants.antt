-- The lines of the events so far are written, at most 42 bytes each.
use Rattle.std.proofs.Common.{◌*◌, ◌≤◌, length}
use Rattle.program_printing.specs.Printing.{Wrote}
use Rattle.theory_timeline.specs.Program.{query_lines}
use Rattle.program_printing.proofs.put_queries.Given as goal

abbrev pub invariant-loop-i : goal.invariant-loop-i
invariant-loop-i l = record {
  short : l.at ≤ 42 * length l.yielded;
  lines : Wrote 0 (query_lines l.n l.x l.answers 0 (length l.yielded)) l.initial.out l.out l.at;
}
