-- Laws of the call's first fault, by what has been checked before it: the sizes, the lengths, the ends of the edges, the active entries.
-- Assumes nothing.
use Rattle.std.proofs.Common.{◌≡◌, ℕ, List, [], ◌++◌, ◌∷◌, arith, ltb}
use Rattle.theory_contraction.specs.Contraction.{Lent, bad_entry, fault, faults, short_tables, table_lengths}
use Rattle.call_sizes.proofs.RefusalLaws.{first_refuses, rest_decides, short_numbered, sizes_numbered}
use Rattle.call_sizes.specs.Numbers.{numbers_of}
use Rattle.call_sizes.specs.Refusal.{Refusal, Row, bad_ends, first_fault, row, seek}
use Rattle.call_sizes.specs.Sizes.{size_faults}
use Rattle.call_sizes.specs.declared.Refusal as declared

module _ (l : Lent) where
  -- the rows of each check
  abbrev sizes : List Row
  sizes = size_faults l.n l.m 0 l.k

  abbrev ends : List Row
  ends = let s : ℕ = seek (bad_ends l.n l.from l.to) 0 l.m in row (ltb s l.m) 4 s ∷ []

  abbrev entries : List Row
  entries = let i : ℕ = seek (bad_entry l.n l.active) 0 l.k in row (ltb i l.k) 8 i ∷ []

  pub sizes_refuse : (r : declared.Refusal) → numbers_of r ≡ first_fault sizes → numbers_of r ≡ fault l
  unfolding fault faults
  sizes_refuse r e = first_refuses sizes (short_tables l ++ ends ++ entries) r e

  module _ (s : (0, 0) ≡ first_fault sizes) where
    behind_sizes : {f : Refusal} → f ≡ first_fault (short_tables l ++ ends ++ entries) → f ≡ fault l
    unfolding fault faults
    behind_sizes e = rest_decides sizes (short_tables l ++ ends ++ entries) (sizes_numbered l.n l.m 0 l.k) s e

    pub lengths_refuse : (r : declared.Refusal) → numbers_of r ≡ first_fault (short_tables l) → numbers_of r ≡ fault l
    lengths_refuse r e = behind_sizes (first_refuses (short_tables l) (ends ++ entries) r e)

    module _ (t : (0, 0) ≡ first_fault (short_tables l)) where
      behind_lengths : {f : Refusal} → f ≡ first_fault (ends ++ entries) → f ≡ fault l
      behind_lengths e = behind_sizes (rest_decides (short_tables l) (ends ++ entries) (short_numbered (table_lengths l)) t e)

      pub ends_refuse : (r : declared.Refusal) → numbers_of r ≡ first_fault ends → numbers_of r ≡ fault l
      ends_refuse r e = behind_lengths (first_refuses ends entries r e)

      pub entries_decide : {f : Refusal} → (0, 0) ≡ first_fault ends → f ≡ first_fault entries → f ≡ fault l
      entries_decide u e = behind_lengths (rest_decides ends entries (λ h. omega arith, tt) u e)
