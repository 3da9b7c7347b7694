-- `with_bit` meets its contract: of the word's digits only that of b changes, to 1.
use mathlib.Core.Path.{◌∙◌, ap}
use lib.Bits.{bit_or}
use Rattle.call_open_set.proofs.OpenSetLaws.{one_bit, or_digit}
use Rattle.call_open_set.specs.OpenSet.{digits}
use Rattle.call_open_set.proofs.with_bit.Goals as goal

pub returns : goal.returns
returns c =
    let w = c.args.w in
    ap (λ x. digits 64 (bit_or w x)) (one_bit c.args.b c.requires) ∙ or_digit 64 c.args.b w c.requires
