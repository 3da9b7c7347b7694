-- Event by event; the set changes as the event says.
-- Assumes nothing.
use Rattle.std.proofs.Common.{◌∙◌, inl, inr, length-append, subst, sym}
use Rattle.theory_timeline.proofs.EventLoops.{all_met, event_met}
use Rattle.replay_checks.proofs.CheckLaws.{event_fits, event_passes, event_refused, events_pass, refusal_returned, set_closed, set_kept, set_opened}
use Rattle.replay_checks.specs.Check.{CheckedEvents}
use Rattle.replay_checks.proofs.check_events.Goals as goal

pub returns-in_err-check_event : goal.returns-in_err-check_event
returns-in_err-check_event c =
    let l = c.args.l in
    let e = event_met l.x.now l.y.now c.into_iter-i-iterator.result (cc) (cc) (cc) c.loop-i.yielded c.loop-i.i-iterator c.next.new.self c.loop-i.yielded_by _ c.next.ensures.steps _ c.in-Some.is in
    subst (CheckedEvents _ _ _ _ _) (sym (refusal_returned _ _ c.from_residual.ensures.1)) (event_refused c.requires c.loop-i.invariant e c.in_err-check_event.ensures)

pub loop-i-preserved-in-Opens : goal.loop-i-preserved-in-Opens
loop-i-preserved-in-Opens c =
    let l = c.args.l in
    let e = event_met l.x.now l.y.now c.into_iter-i-iterator.result (cc) (cc) (cc) c.loop-i.yielded c.loop-i.i-iterator c.next.new.self c.loop-i.yielded_by _ c.next.ensures.steps _ c.in-Some.is in
    let h = c.in_ok-check_event.ensures in
    rw length-append (event_passes c.requires c.loop-i.invariant e h _
    (set_opened (event_fits c.requires c.loop-i.invariant e h) (sym c.kind_of.ensures.value ∙ c.in-Opens.is) _ c.opened-held.ensures))

pub loop-i-preserved-in-Closes : goal.loop-i-preserved-in-Closes
loop-i-preserved-in-Closes c =
    let l = c.args.l in
    let e = event_met l.x.now l.y.now c.into_iter-i-iterator.result (cc) (cc) (cc) c.loop-i.yielded c.loop-i.i-iterator c.next.new.self c.loop-i.yielded_by _ c.next.ensures.steps _ c.in-Some.is in
    let h = c.in_ok-check_event.ensures in
    rw length-append (event_passes c.requires c.loop-i.invariant e h _
    (set_closed (event_fits c.requires c.loop-i.invariant e h) (sym c.kind_of.ensures.value ∙ c.in-Closes.is) _ c.closed-held.ensures))

pub loop-i-preserved : goal.loop-i-preserved
loop-i-preserved c =
    let l = c.args.l in
    let e = event_met l.x.now l.y.now c.into_iter-i-iterator.result (cc) (cc) (cc) c.loop-i.yielded c.loop-i.i-iterator c.next.new.self c.loop-i.yielded_by _ c.next.ensures.steps _ c.in-Some.is in
    let h = c.in_ok-check_event.ensures in
    rw length-append (event_passes c.requires c.loop-i.invariant e h _ (set_kept (event_fits c.requires c.loop-i.invariant e h)
    (elim c.in-Query.is [ inl k ↦ inl (sym c.kind_of.ensures.value ∙ k) | inr k ↦ inr (sym c.kind_of.ensures.value ∙ k) ])))

pub returns : goal.returns
returns c =
    let l = c.args.l in
    events_pass c.requires c.loop-i.invariant
    (all_met l.x.now l.y.now c.into_iter-i-iterator.result (cc) (cc) (cc) c.loop-i.yielded c.loop-i.i-iterator c.next.new.self c.loop-i.yielded_by _ c.next.ensures.steps c.in-None.is)
