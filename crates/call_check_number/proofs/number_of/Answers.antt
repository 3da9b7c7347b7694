-- The fold over the bytes is the definition's, from 1.
-- Assumes nothing.
use Rattle.std.proofs.Common.{rules}
use Rattle.std.proofs.lemmas.Iterator.{YieldsList-from_slice}
use Rattle.std.proofs.lemmas.Iterator.Consumers.{fold_from_yields_List}
use Rattle.call_check_number.specs.CheckNumber.{check_number, with_byte}
use Rattle.call_check_number.proofs.number_of.Goals as goal

pub returns : goal.returns
unfolding check_number
returns c = fold_from_yields_List _ with_byte 1 _ c.fold.ensures.ran (YieldsList-from_slice c.args.bytes.now cc) (λ a x b q k. search rules)
