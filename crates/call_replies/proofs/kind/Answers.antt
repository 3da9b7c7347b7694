-- The number is that of the kind. Rattle would find this by itself; it stands here so that a wrong number is refused as such.
-- Assumes nothing.
use Rattle.std.proofs.Common.{ap, ◌∙◌}
use Rattle.call_kinds.specs.Kinds.{kind_number}
use Rattle.call_replies.proofs.kind.Goals as goal

pub returns : goal.returns
returns c = c.kind_number.ensures ∙ ap kind_number c.kind_of-kind.ensures.value
