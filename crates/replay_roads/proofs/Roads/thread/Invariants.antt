-- Segment by segment, backwards.
use Prim.Native.Nat.{◌≤◌}
use mathlib.Core.Path.{◌≡◌}
use lib.ListN.{length}
use Rattle.replay_roads.specs.InWords.{InWords}
use Rattle.replay_roads.proofs.Roads.thread.Given as goal

abbrev pub invariant-loop-s : goal.invariant-loop-s
invariant-loop-s l = (l.s ≤ length l.self.a.now) × (length l.work ≡ length l.initial.work) × InWords l.self l.work l.s 0 0
