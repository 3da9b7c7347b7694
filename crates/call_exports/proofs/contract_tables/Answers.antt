-- The struct says what the reply says, and that is as defined. Rattle would find this by itself; it stands here so that tables in each other's place are refused
-- as such.
-- Assumes nothing.
use Rattle.std.proofs.Common.{◌∙◌}
use Rattle.call_exports.proofs.contract_tables.Goals as goal

pub returns : goal.returns
returns c = c.from.ensures _ _ _ _ _ _ ∙ c.contract.ensures
