-- The number and the place of each refusal, by document 01's table, "What is returned on refusal", and document 02's No. 1 and No. 7.
-- Assumes nothing: these are definitions.
use Rattle.std.specs.Prelude.{ℕ, Err, Ok, Result}
use Rattle.call_sizes.specs.Refusal.{Refusal}
use Rattle.call_sizes.specs.declared.Refusal as declared
use Rattle.call_sizes.specs.declared.Refusal.TheVariants.{ClosesClosed, End, Entry, InputLength, LongTable, NamesNothing, OpensOpen, ProgramLimit, Share, ShortTable, Size, Start}

abbrev pub number_of : declared.Refusal → ℕ
number_of Size = 1
number_of ShortTable = 2
number_of Share = 3
number_of (End s) = 4
number_of (NamesNothing i) = 5
number_of (OpensOpen i) = 6
number_of (ClosesClosed i) = 7
number_of (Entry i) = 8
number_of InputLength = 9
number_of ProgramLimit = 10
number_of (Start s) = 11
number_of LongTable = 12

abbrev pub place_of : declared.Refusal → ℕ
place_of Size = 0
place_of ShortTable = 0
place_of Share = 0
place_of (End s) = s
place_of (NamesNothing i) = i
place_of (OpensOpen i) = i
place_of (ClosesClosed i) = i
place_of (Entry i) = i
place_of InputLength = 0
place_of ProgramLimit = 0
place_of (Start s) = s
place_of LongTable = 0

-- both, as a pair
abbrev pub numbers_of : declared.Refusal → Refusal
numbers_of r = (number_of r, place_of r)

-- what a check or a call refuses by: (0, 0) where it refuses nothing
abbrev pub refused_by : {T : Type 0} → Result T declared.Refusal → Refusal
refused_by (Ok v) = (0, 0)
refused_by (Err r) = numbers_of r
