-- Junction by junction.
use Prim.Native.Nat.{◌≤◌}
use mathlib.Core.Path.{◌≡◌}
use lib.ListN.{length}
use Rattle.replay_roads.specs.InWords.{InWords}
use Rattle.replay_roads.proofs.Roads.walk_all.Given as goal

abbrev pub invariant-loop-v : goal.invariant-loop-v
invariant-loop-v l = (l.v ≤ l.self.n) × (length l.work ≡ length l.initial.work) × InWords l.self l.work 0 l.v 0
