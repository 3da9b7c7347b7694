-- The events' words and the roads' counts, the whole list's area, the windows.
use mathlib.Core.Path.{◌∙◌}
use native.Mathlib.Omega.{arith}
use Rattle.replay_windows.proofs.WholeListLaws.{empty_replied, list_replied, whole_need, window_need}
use Rattle.replay_windows.proofs.list.replay_list.Goals as goal

pub returns-then-t-eq0 : goal.returns-then-t-eq0
returns-then-t-eq0 g c = empty_replied g.met.D.By.Reduction.reduces g.met.D.Replies.parts c.requires c.if-t-eq0.true

pub whole-w-requires : goal.whole-w-requires
whole-w-requires g c =
    whole_need g.met.D.By.Reduction.reduces g.met.D.Replies.parts c.requires (omega arith) c.write_events.ensures c.write_events.auto.work

pub window-requires : goal.window-requires
window-requires g c =
    window_need g.met.D.By.Reduction.reduces g.met.D.Replies.parts c.requires (omega arith) c.write_events.ensures c.write_events.auto.work c.whole-w.ensures
    (c.whole-w.auto.work ∙ c.write_events.auto.work)

pub returns : goal.returns
returns g c =
    list_replied g.met.D.By.Reduction.reduces g.met.D.Replies.parts c.requires (omega arith) c.write_events.ensures c.write_events.auto.work c.whole-w.ensures
    (c.whole-w.auto.work ∙ c.write_events.auto.work) c.window.ensures
