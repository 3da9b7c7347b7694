-- Each pair is asked whether its first number is below its second. Rattle would find this by itself; it stands here so that a wrong test is refused as such.
-- Assumes nothing.
use Rattle.std.proofs.Common.{◌≡◌, nat_lt}
use Rattle.call_sizes.proofs.fn.any_below.any.Given as goal

abbrev pub ensures : goal.ensures
ensures l r = r ≡ nat_lt l.first l.second
