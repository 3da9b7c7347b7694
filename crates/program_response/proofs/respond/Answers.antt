-- By the header, the reply of the replay or the refusal of the program is written.
-- Assumes nothing.
use Rattle.std.proofs.Common.{arith}
use Rattle.call_sizes.specs.Numbers.{number_of, place_of}
use Rattle.program_printing.proofs.TextLaws.{wrote_as}
use Rattle.program_response.proofs.ResponseLaws.{header_read, output_accepted, output_refused, refused_most, work_accepted, work_refused}
use Rattle.program_response.proofs.respond.Goals as goal

pub replay_input-requires : goal.replay_input-requires
replay_input-requires c = (header_read c.args.input.now c.in-Ok.ensures, omega arith)

pub returns-in-Ok : goal.returns-in-Ok
returns-in-Ok c =
    let a = c.args in
    let w = c.replay_input.ensures in
    record {
      wrote = (wrote_as (output_accepted a.input.now c.in-Ok.ensures a.work.now) w.wrote.0, w.wrote.1);
      work_after = work_accepted a.input.now c.in-Ok.ensures a.work.now w.work_after;
    }

pub returns-in-Err : goal.returns-in-Err
returns-in-Err c =
    let a = c.args in
    let r = c.in-Err.refusal in
    let w = c.put_refused.ensures in
    record {
      wrote = (wrote_as (output_refused a.input.now r c.in-Err.ensures a.work.now) w, omega (arith, w.next, refused_most (number_of r) (place_of r)));
      work_after = work_refused a.input.now r c.in-Err.ensures a.work.now;
    }
