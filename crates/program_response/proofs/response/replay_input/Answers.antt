-- The five tables are filled from the input, so the replay is lent what the input lends.
-- Assumes nothing.
use Rattle.std.proofs.Common.{◌*◌, ◌+◌, ◌≡◌, arith, drop, length, length-take-le, replicate, take, List, ℕ}
use Rattle.program_printing.proofs.TextLaws.{wrote_as}
use Rattle.program_response.proofs.ResponseLaws.{replied, table_is}
use Rattle.program_response.proofs.response.replay_input.Goals as goal

pub returns : goal.returns
returns c =
    let i = c.args.input.now in
    let r = c.requires.0 in
    let m = c.args.header.m in
    let t = c.args.header.t in
    let segments : List ℕ = take m (replicate 64 0) in
    let events : List ℕ = take t (replicate 32 0) in
    let all : length segments ≡ m = length-take-le m (replicate 64 0) (omega (arith, r.few_segments)) in
    let each : length events ≡ t = length-take-le t (replicate 32 0) (omega (arith, r.few_events)) in
    let a = table_is i r 4 m segments (drop m (replicate 64 0)) c.fill.ensures all (omega arith) in
    let b = table_is i r (4 + m) m segments (drop m (replicate 64 0)) c.fill-2.ensures all (omega arith) in
    let s = table_is i r (4 + 2 * m) m segments (drop m (replicate 64 0)) c.fill-3.ensures all (omega arith) in
    let x = table_is i r (4 + 3 * m) t events (drop t (replicate 32 0)) c.fill-4.ensures each (omega arith) in
    let y = table_is i r (4 + 3 * m + t) t events (drop t (replicate 32 0)) c.fill-5.ensures each (omega arith) in
    let n = c.replay-reply.new in
    let (print, left) = replied i r c.args.header.p c.args.work.now a b s x y c.replay-reply.result n.answers n.names n.work c.replay-reply.ensures.as_defined in
    record { wrote = (wrote_as print (c.put_reply.ensures.0 n.names n.work), c.put_reply.ensures.1); work_after = left }
