-- Events without a fault so far, with the set open before the next one.
use Rattle.std.proofs.Common.{length}
use Rattle.call_open_set.specs.OpenSet.{is_open}
use Rattle.replay_checks.proofs.CheckLaws.{Passing}
use Rattle.replay_checks.proofs.check_events.Given as goal

abbrev pub invariant-loop-i : goal.invariant-loop-i
invariant-loop-i l = Passing l.fn.l (is_open l.initial.held) l.held (length l.yielded)
