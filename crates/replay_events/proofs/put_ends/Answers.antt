-- By the kind.
use Prim.Native.Nat.{◌*◌, ◌+◌}
use mathlib.Core.Path.{◌∙◌, ap, sym}
use lib.ListN.{set}
use Rattle.theory_timeline.specs.Events.{Event}
use Rattle.replay_events.proofs.WritingLaws.{ends_asked, ends_named}
use Rattle.replay_events.proofs.put_ends.Goals as goal
use Rattle.replay_events.proofs.put_ends.Goals.{then-is_query, else-is_query}

pub returns : goal.returns
returns c =
    let a = c.args in
    let asks = sym c.is_query.ensures in
    ap (λ (e : Event). set (set a.work.now (2 * a.i) e.0) (2 * a.i + 1) e.1) (elim c.if-is_query.branch [
      | then-is_query w ↦ w.near-is ∙ sym (ends_asked a.n a.a.now a.b.now a.x a.y (asks ∙ w.if-is_query.true))
      | else-is_query w ↦ (let q = asks ∙ w.if-is_query.false in let (k, l) = c.requires.1 q in w.near-is ∙ sym (ends_named a.n a.a.now a.b.now a.x a.y q k l))
    ])
