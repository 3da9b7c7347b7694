-- The struct says what the check replies. Rattle would find this by itself; it stands here so that a wrong struct is refused as such.
-- Assumes nothing.
use Rattle.std.proofs.Common.{◌∙◌}
use Rattle.call_replies.proofs.sizes.Goals as goal

pub returns : goal.returns
returns c = c.from.ensures ∙ c.check.ensures.outcome
