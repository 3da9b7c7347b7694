-- The loop's invariant: no segment or edge before s has a bad end.
-- Assumes nothing.
use Rattle.std.proofs.Common.{◌-◌, ◌≡◌, ◌≤◌}
use Rattle.call_sizes.specs.Refusal.{bad_ends, seek}
use Rattle.call_sizes.proofs.first_bad_end.Given as goal

abbrev pub invariant-loop-s : goal.invariant-loop-s
invariant-loop-s l = record {
  in_range : l.s ≤ l.m;
  none_bad : seek (bad_ends l.n l.from l.to) 0 l.m ≡ seek (bad_ends l.n l.from l.to) l.s (l.m - l.s);
}
