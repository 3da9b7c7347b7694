-- The checker of evidence as a public call: its faults in their order, and what it returns. It only reads what it is lent.
-- "Sizes, ends and the open set, given in the form of the starting table, are checked as in the replay by 1, 2, 4 and 11. 2 covers a set below N bytes where
-- the claim is 0 or 1; parts the claim doesn't need aren't read, nor is their length. A queried junction that doesn't exist is then refused by 5, place 0.
-- Evidence that falls short, a set byte above 1 or a claim above 2 is refused by 13, after those, place 0."
-- Assumes nothing: these are definitions.
use Rattle.std.specs.Prelude.{ℕ, Bool, cond, not, List, [], ◌++◌, ◌∷◌, eqb, leb, ltb, length}
use Rattle.call_sizes.specs.Refusal.{Refusal, Row, bad_ends, bad_start, first_fault, row, seek, short_rows}
use Rattle.call_sizes.specs.Sizes.{size_faults}
use Rattle.theory_evidence.specs.Evidence.{Evidence, is_enough}
use Rattle.theory_evidence.specs.Network.{Network}

-- the bytes that a set must have: none where the claim needs no set
abbrev pub set_length : ℕ → ℕ → ℕ
set_length n claim = cond (leb claim 1) n 0

-- refusal 2: the length of each table, and its least length. A route has none: it is the whole of its table
abbrev pub table_lengths : Network → Evidence → List (ℕ × ℕ)
table_lengths w e =
    (length w.a, w.m) ∷ (length w.b, w.m) ∷ (length w.opened, w.m) ∷ (length e.set, set_length w.n e.claim) ∷ []

abbrev pub short_tables : Network → Evidence → List Row
short_tables w e = short_rows (table_lengths w e)

-- 4 at the first segment with an end not below n, then 11 at the first entry of the open set above 1
abbrev pub bad_segments : Network → List Row
bad_segments w =
    let s : ℕ = seek (bad_ends w.n w.a w.b) 0 w.m in
    let u : ℕ = seek (bad_start w.opened) 0 w.m in
    row (ltb s w.m) 4 s ∷ row (ltb u w.m) 11 u ∷ []

-- 5 where a queried junction does not exist, then 13 where the evidence is not enough for its claim
abbrev pub bad_query : Network → ℕ → ℕ → Evidence → List Row
bad_query w x y e = row (leb w.n x) 5 0 ∷ row (leb w.n y) 5 0 ∷ row (not (is_enough w x y e)) 13 0 ∷ []

unfoldable pub evidence_faults : Network → ℕ → ℕ → Evidence → List Row
evidence_faults w x y e = size_faults w.n w.m 0 0 ++ (short_tables w e ++ (bad_segments w ++ bad_query w x y e))

unfoldable pub evidence_fault : Network → ℕ → ℕ → Evidence → Refusal
evidence_fault w x y e = first_fault (evidence_faults w x y e)

pub record EvidenceOutcome : Type 0 where
  -- whether the reply is the one of an accepted call: with the numbers alone, a refusal with the number 0 could pass for it
  pub accepted : Bool
  -- 0, or the refusal's number; and its place
  pub code : ℕ
  pub place : ℕ

-- the outcome that a call with this network, these two junctions and this evidence must have
unfoldable pub check_evidence : Network → ℕ → ℕ → Evidence → EvidenceOutcome
check_evidence w x y e =
    let f : Refusal = evidence_fault w x y e in
    record { accepted = eqb f.0 0; code = f.0; place = f.1 }
