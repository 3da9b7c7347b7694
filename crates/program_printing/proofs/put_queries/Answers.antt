-- One event more.
-- Assumes nothing.
use Rattle.std.proofs.Common.{◌∙◌, ap, arith, length, length-append, sym, ◌≡◌}
use Rattle.program_printing.proofs.TextLaws.{line_met, lines_snoc, lines_zero, wrote_as, wrote_none, wrote_then}
use Rattle.theory_timeline.proofs.EventLoops.{all_met, event_met}
use Rattle.theory_timeline.specs.Program.{query_lines}
use Rattle.program_printing.proofs.put_queries.Goals as goal

pub loop-i-init : goal.loop-i-init
loop-i-init c = let a = c.args in record { short = omega arith; lines = wrote_as (sym (lines_zero a.n a.x.now a.answers.now)) (wrote_none 0 a.out.now) }

pub loop-i-preserved : goal.loop-i-preserved
loop-i-preserved c =
    let a = c.args in
    let i = c.loop-i.invariant in
    let e = event_met a.x.now a.answers.now c.into_iter-i-iterator.result (cc) (cc) (cc) c.loop-i.yielded c.loop-i.i-iterator c.next.new.self c.loop-i.yielded_by _ c.next.ensures.steps _ c.in-Some.is in
    rw length-append (record {
      short = omega (arith, i.short, c.put_event-at.ensures.1);
      lines = wrote_as (sym (lines_snoc a.n a.x.now a.answers.now 0 _)) (wrote_then _ _ i.lines (wrote_as (line_met a.n a.x.now a.answers.now e) c.put_event-at.ensures.0));
    })

pub returns : goal.returns
returns c =
    let a = c.args in
    let i = c.loop-i.invariant in
    let e : length c.loop-i.yielded ≡ length a.x.now = all_met a.x.now a.answers.now c.into_iter-i-iterator.result (cc) (cc) (cc) c.loop-i.yielded c.loop-i.i-iterator c.next.new.self c.loop-i.yielded_by _ c.next.ensures.steps c.in-None.is ∙ omega arith in
    (wrote_as (ap (query_lines a.n a.x.now a.answers.now 0) e) i.lines, omega arith)
