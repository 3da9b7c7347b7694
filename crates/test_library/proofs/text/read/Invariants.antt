-- The loop ends, since each read that goes on puts at least one byte more.
use Rattle.std.proofs.Common.{◌-◌, ◌≤◌}
use Rattle.test_library.proofs.text.read.Given as goal

abbrev pub invariant-loop-count : goal.invariant-loop-count
invariant-loop-count g l = l.count ≤ 65536

abbrev pub decreases-loop-count : goal.decreases-loop-count
decreases-loop-count g l = 65536 - l.count
