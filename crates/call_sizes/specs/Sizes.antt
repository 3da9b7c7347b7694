-- The limits of document 01, "Network and list" and "Contraction", and what the sizes' check replies.
-- Assumes nothing: these are definitions.
use Rattle.std.specs.Prelude.{ℕ, Bool, cond, false, true, Err, List, [], ◌∷◌, Ok, Result, eqb, ltb}
use Rattle.call_sizes.specs.Numbers.{number_of, place_of}
use Rattle.call_sizes.specs.Refusal.{Refusal, Row, first_fault, row}
use Rattle.call_sizes.specs.declared.Refusal as declared
use Rattle.call_sizes.specs.declared.Sizes.{Sizes}

-- refusal 1: more than 4,096 junctions (nodes), 8,192 segments (edges), 4,096 events or 8,192 active entries
abbrev pub size_faults : ℕ → ℕ → ℕ → ℕ → List Row
size_faults n m t k = row (ltb 4096 n) 1 0 ∷ row (ltb 8192 m) 1 0 ∷ row (ltb 4096 t) 1 0 ∷ row (ltb 8192 k) 1 0 ∷ []

-- the number and the place, 0 where the sizes are within the limits, and then the sizes
pub record SizesOutcome : Type 0 where
  -- whether the reply is the one of an accepted call: with the numbers alone, a refusal with the number 0 could pass for an empty result
  pub accepted : Bool
  pub code : ℕ
  pub place : ℕ
  pub n : ℕ
  pub m : ℕ
  pub t : ℕ
  pub k : ℕ

-- what each case of the reply says, in document 01's numbers
abbrev pub sizes_outcome : Result Sizes declared.Refusal → SizesOutcome
sizes_outcome (Ok s) = record { accepted = true; code = 0; place = 0; n = s.n; m = s.m; t = s.t; k = s.k }
sizes_outcome (Err r) = record { accepted = false; code = number_of r; place = place_of r; n = 0; m = 0; t = 0; k = 0 }

abbrev pub if_accepted : Refusal → ℕ → ℕ
if_accepted f x = cond (eqb f.0 0) x 0

-- the outcome that the sizes n, m, t and k must have
abbrev pub check_sizes : ℕ → ℕ → ℕ → ℕ → SizesOutcome
check_sizes n m t k =
    let f : Refusal = first_fault (size_faults n m t k) in
    record { accepted = eqb f.0 0; code = f.0; place = f.1; n = if_accepted f n; m = if_accepted f m; t = if_accepted f t; k = if_accepted f k }
