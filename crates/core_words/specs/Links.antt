-- The word of a field that names something or nothing: 0 for nothing, else one more than what it names.
-- Assumes nothing: these are definitions.
use Rattle.std.specs.Prelude.{ℕ, ◌+◌, Option, Some, None}

abbrev pub link_word : Option ℕ → ℕ
link_word None = 0
link_word (Some x) = x + 1
