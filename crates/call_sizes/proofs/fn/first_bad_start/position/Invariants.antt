-- Each entry is asked whether it is above 1. Rattle would find this by itself; it stands here so that a wrong test is refused as such.
-- Assumes nothing.
use Rattle.std.proofs.Common.{◌≡◌, nat_lt}
use Rattle.call_sizes.proofs.fn.first_bad_start.position.Given as goal

abbrev pub ensures : goal.ensures
ensures l r = r ≡ nat_lt 1 l.entry
