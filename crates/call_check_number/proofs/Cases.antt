-- One theorem over the table of specs/Cases: every row holds, by computing both sides. Assumes nothing.
use Rattle.std.proofs.Common.{◌≡◌, map, refl}
use Rattle.call_check_number.specs.Cases.{given, said, table}
use Rattle.call_check_number.specs.CheckNumber.{check_number, with_byte}

pub cases : map given table ≡ map said table
unfolding check_number with_byte
cases = refl
