-- Cases of the kind of an event as one table: N, X, and the kind that document 01's table gives. proofs/Cases proves every row.
-- Assumes nothing: these are definitions.
use Rattle.std.specs.Prelude.{ℕ, List, [], ◌∷◌}
use Rattle.call_kinds.specs.Kinds.{kind_of}
use Rattle.call_kinds.specs.declared.Kind.{Kind}
use Rattle.call_kinds.specs.declared.Kind.TheVariants.{Closes, None, Opens, Query}

abbrev pub Case : Type 0
Case = ℕ × ℕ × Kind

abbrev pub table : List Case
table =
    -- of three junctions the first and the last, and the one behind it
    (3, 0, Query)
    ∷ (3, 2, Query)
    ∷ (3, 3, None)
    -- no junctions
    ∷ (0, 0, None)
    -- the most junctions
    ∷ (4096, 4095, Query)
    ∷ (4096, 4096, None)
    -- 65,535 opens and 65,534 closes, whatever N is, and the number before them is of no kind
    ∷ (0, 65535, Opens)
    ∷ (4096, 65535, Opens)
    ∷ (0, 65534, Closes)
    ∷ (4096, 65534, Closes)
    ∷ (0, 65533, None)
    ∷ (4096, 65533, None)
    -- past the limits two rows may hold a number, and the first counts: of 65,535 junctions 65,534 is one
    ∷ (65535, 65534, Query)
    ∷ []

-- what the definition gives for a row, and what the row says
abbrev pub given : Case → Kind
given c = kind_of c.0 c.1

abbrev pub said : Case → Kind
said c = c.2
