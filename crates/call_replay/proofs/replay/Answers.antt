-- The check, the list, the queries, the work table cleared.
use mathlib.Core.Path.{sym}
use lib.Seq.{length-take-le}
use native.Mathlib.Omega.{arith}
use Rattle.call_replay.proofs.CallLaws.{grants, list_ready, refused_is, replay_is, work_need}
use Rattle.replay_checks.proofs.CheckLaws.{refusal_returned}
use Rattle.call_replay.proofs.replay.Goals as goal

pub returns-in_err-open_at_end : goal.returns-in_err-open_at_end
returns-in_err-open_at_end c =
    let (e, k) = refused_is _ _ (c.in_err-open_at_end.ensures c.args.names.now c.args.work.now) in
    rw (refusal_returned _ _ c.from_residual.ensures.1) (record { as_defined = e; keeps_demand3 = k })

pub required-need-requires : goal.required-need-requires
required-need-requires c =
    let g = grants (c.in_ok-open_at_end.ensures c.args.names.now c.args.work.now) in
    (omega arith, g.t_fits, g.n_fits, g.m_fits)

pub slice_bounds-replay_list-end : goal.slice_bounds-replay_list-end
slice_bounds-replay_list-end c =
    work_need (c.in_ok-open_at_end.ensures c.args.names.now c.args.work.now) _ c.required-need.ensures

pub slice_bounds-replay_list-end-2 : goal.slice_bounds-replay_list-end-2
slice_bounds-replay_list-end-2 c =
    sym (length-take-le _ _ (work_need (c.in_ok-open_at_end.ensures c.args.names.now c.args.work.now) _ c.required-need.ensures))

pub replay_list-kept-requires : goal.replay_list-kept-requires
replay_list-kept-requires c =
    list_ready (c.in_ok-open_at_end.ensures c.args.names.now c.args.work.now) _ c.required-need.ensures

pub count_queries-queries-requires : goal.count_queries-queries-requires
count_queries-queries-requires c =
    omega (arith, (grants (c.in_ok-open_at_end.ensures c.args.names.now c.args.work.now)).exact.x_exact)

pub clear-requires : goal.clear-requires
clear-requires c =
    omega (arith, work_need (c.in_ok-open_at_end.ensures c.args.names.now c.args.work.now) _ c.required-need.ensures)

pub returns : goal.returns
returns c =
    let d = c.replay_list-kept in
    let (e, k) = replay_is (c.in_ok-open_at_end.ensures c.args.names.now c.args.work.now) _ c.required-need.ensures d.ensures
    d.new.work _ c.count_queries-queries.ensures d.auto.work c.clear.ensures in
    record { as_defined = e; keeps_demand3 = k }
