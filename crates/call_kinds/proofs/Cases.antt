-- One theorem over the table of specs/Cases: every row holds, by computing both sides. Assumes nothing.
use mathlib.Core.List.{map}
use mathlib.Core.Path.{◌≡◌, refl}
use Rattle.call_kinds.specs.Cases.{given, said, table}
use Rattle.call_kinds.specs.Kinds.{kind_of}

pub cases : map given table ≡ map said table
unfolding kind_of
cases = refl
