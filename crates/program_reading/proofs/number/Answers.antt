-- Two bytes, the lower first, are the definition's number.
-- Assumes nothing.
use Rattle.std.proofs.Common.{arith}
use Rattle.program_reading.proofs.ReadingLaws.{word_at}
use Rattle.program_reading.proofs.number.Goals as goal

pub returns : goal.returns
returns c = omega (arith, c.from_le_bytes.ensures, word_at c.args.input.now c.args.i c.requires)
