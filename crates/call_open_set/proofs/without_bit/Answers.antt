-- `without_bit` meets its contract: of the word's digits only that of b changes, to 0.
use Rattle.call_open_set.proofs.OpenSetLaws.{off_digit, one_bit}
use Rattle.call_open_set.proofs.without_bit.Goals as goal

pub returns : goal.returns
returns c = rw (one_bit c.args.b c.requires) (off_digit c.args.b c.args.w c.requires)
