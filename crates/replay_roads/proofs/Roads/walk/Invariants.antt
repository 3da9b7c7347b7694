-- Along the thread.
use Prim.Native.Nat.{◌-◌}
use mathlib.Core.Path.{◌≡◌}
use lib.ListN.{length}
use Rattle.std.specs.Option.{unwrap_or}
use Rattle.replay_roads.proofs.RoadWordLaws.{Along}
use Rattle.replay_roads.proofs.Roads.walk.Given as goal

abbrev pub invariant-loop-next : goal.invariant-loop-next
invariant-loop-next l =
    (length l.work ≡ length l.initial.work) × Along l.self.n l.self.a.now l.self.b.now l.self.place l.work l.v l.next

abbrev pub decreases-loop-next : goal.decreases-loop-next
decreases-loop-next l = l.m - unwrap_or l.next l.m
