-- The count of the event's key becomes 0. Rattle would find this by itself; it stands here so that a wrong count is refused as such.
-- Assumes nothing.
use Rattle.std.proofs.Common.{◌+◌, ℕ, arith, set, subst, sym}
use Rattle.replay_start.proofs.StartLaws.{clear_put}
use Rattle.replay_start.specs.Start.{Cleared}
use Rattle.replay_start.proofs.load.clear_event.Goals as goal

pub returns : goal.returns
returns c =
    let a = c.args in
    subst (λ (k : ℕ). Cleared a.from a.i (a.i + 1) a.counts a.work.now (set a.work.now (a.counts + k) 0)) (sym c.key-key.ensures)
    (clear_put c.requires (λ z. omega arith))
