-- The text stands in its place, and all else as it was.
-- Assumes nothing.
use Rattle.program_printing.proofs.TextLaws.{wrote_text}
use Rattle.program_printing.proofs.put_text.Goals as goal

pub returns : goal.returns
returns c = let a = c.args in wrote_text a.at a.text.now a.out.now _ c.requires c.copy_from_slice.ensures.after
