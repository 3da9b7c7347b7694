-- Document 02, No. 4: the check number of the first T bytes of an answer table, its refusals, and what the call replies.
-- Assumes nothing: these are definitions.
use Rattle.std.specs.Prelude.{ℕ, ◌+◌, ◌*◌, ◌%◌, Bool, true, false, Err, Ok, Result, List, [], ◌∷◌, length, take, ◌==◌, nat_lt}
use mathlib.Core.List.{foldl}
use Rattle.call_sizes.specs.Numbers.{number_of, place_of}
use Rattle.call_sizes.specs.Refusal.{Refusal, Row, first_fault, row, short_rows}
use Rattle.call_sizes.specs.Sizes.{if_accepted}
use Rattle.call_sizes.specs.declared.Refusal as declared

-- ---- the number
-- "each byte a turns h into 31h + a + 1, reduced modulo 4,294,967,296"
unfoldable pub with_byte : ℕ → ℕ → ℕ
with_byte h a = (31 * h + a + 1) % 4294967296

-- "It starts at 1", and takes the bytes in their order.
-- Equal bytes have equal numbers (`same_bytes`). Equal numbers do not show that the bytes are equal: specs/Cases has two tables of thirteen answers that
-- share one. Bytes that differ in one place only have different numbers (`one_differs`).
unfoldable pub check_number : List ℕ → ℕ
check_number bytes = foldl with_byte 1 bytes

-- ---- the call
-- 1: T is above 4,096; then 2: the table is shorter than T
abbrev pub check_number_faults : List ℕ → ℕ → List Row
check_number_faults table t = row (nat_lt 4096 t) 1 0 ∷ short_rows ((length table, t) ∷ [])

-- the refusal's number and its place, 0 where the call is accepted, and then the check number
pub record CheckNumberOutcome : Type 0 where
  -- whether the reply is the one of an accepted call: with the numbers alone, a refusal with the number 0 could pass for the check number 0
  pub accepted : Bool
  pub code : ℕ
  pub place : ℕ
  pub number : ℕ

-- what each case of the reply says, in document 01's numbers
abbrev pub check_number_outcome : Result ℕ declared.Refusal → CheckNumberOutcome
check_number_outcome (Ok h) = record { accepted = true; code = 0; place = 0; number = h }
check_number_outcome (Err r) = record { accepted = false; code = number_of r; place = place_of r; number = 0 }

-- the outcome that a table's first t bytes must have
abbrev pub number_of_first : List ℕ → ℕ → CheckNumberOutcome
number_of_first table t =
    let f : Refusal = first_fault (check_number_faults table t) in
    record { accepted = (f.0 == 0); code = f.0; place = f.1; number = if_accepted f (check_number (take t table)) }
