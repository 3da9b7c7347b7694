-- Cases of the check number as one table: an answer table, T, and the outcome that the call must have, worked out by hand or by another program.
-- proofs/Cases proves every row.
-- Assumes nothing: these are definitions.
use Rattle.std.specs.Prelude.{ℕ, false, true, List, [], ◌∷◌, ◌++◌, replicate}
use Rattle.call_check_number.specs.CheckNumber.{CheckNumberOutcome, number_of_first}

abbrev pub Case : Type 0
Case = List ℕ × ℕ × CheckNumberOutcome

abbrev pub number : ℕ → CheckNumberOutcome
number h = record { accepted = true; code = 0; place = 0; number = h }

abbrev pub refused : ℕ → CheckNumberOutcome
refused c = record { accepted = false; code = c; place = 0; number = 0 }

-- the answers of document 01's example
abbrev pub example : List ℕ
example = 3 ∷ 3 ∷ 1 ∷ 3 ∷ 2 ∷ []

abbrev pub table : List Case
table =
    -- no bytes: 1
    ([], 0, number 1)
    ∷ (example, 0, number 1)
    -- one byte: 31 + 0 + 1, and 31 + 255 + 1
    ∷ (0 ∷ [], 1, number 32)
    ∷ (255 ∷ [], 1, number 287)
    -- the example, byte by byte
    ∷ (example, 1, number 35)
    ∷ (example, 2, number 1089)
    ∷ (example, 3, number 33761)
    ∷ (example, 4, number 1046595)
    ∷ (example, 5, number 32444448)
    -- entries past T do not count
    ∷ (example ++ 9 ∷ 9 ∷ [], 5, number 32444448)
    -- the order of the bytes does
    ∷ (1 ∷ 2 ∷ [], 2, number 1026)
    ∷ (2 ∷ 1 ∷ [], 2, number 1056)
    -- the number is reduced: seven openings; the largest number; just 4,294,967,296
    ∷ (replicate 7 3, 7, number 1116191587)
    ∷ (117 ∷ 30 ∷ 18 ∷ 28 ∷ 23 ∷ 2 ∷ [], 6, number 4294967295)
    ∷ (117 ∷ 30 ∷ 18 ∷ 28 ∷ 23 ∷ 3 ∷ [], 6, number 0)
    -- two tables that share a number, of any bytes and of answers
    ∷ (0 ∷ 31 ∷ [], 2, number 1024)
    ∷ (1 ∷ 0 ∷ [], 2, number 1024)
    ∷ (0 ∷ 1 ∷ 2 ∷ 0 ∷ 2 ∷ 0 ∷ 0 ∷ 0 ∷ 0 ∷ 1 ∷ 0 ∷ 0 ∷ 1 ∷ [], 13, number 3994301987)
    ∷ (1 ∷ 0 ∷ 0 ∷ 0 ∷ 0 ∷ 0 ∷ 2 ∷ 1 ∷ 0 ∷ 0 ∷ 2 ∷ 1 ∷ 0 ∷ [], 13, number 3994301987)
    -- a table shorter than T: 2, also where T is 4,096; T above 4,096: 1, whatever the table
    ∷ (example, 6, refused 2)
    ∷ (example, 4096, refused 2)
    ∷ (example, 4097, refused 1)
    ∷ []

-- what the definition gives for a row, and what the row says
abbrev pub given : Case → CheckNumberOutcome
given c = number_of_first c.0 c.1

abbrev pub said : Case → CheckNumberOutcome
said c = c.2
