-- The reader's call on the answer table. Assumes nothing: these are definitions.
use Rattle.std.specs.Prelude.{ℕ, cond, List, [], leb, length, take}

-- "the table's own first T bytes, or its empty part when T is larger than the table"
abbrev pub first_or_none : List ℕ → ℕ → List ℕ
first_or_none table t = cond (leb t (length table)) (take t table) []
