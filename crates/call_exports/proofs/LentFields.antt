-- The fields of a struct by which a call is lent its tables, by their kinds. In order: the kinds; each as a place of a signature of one lifetime, and
-- as a type; the machine values, and that the types allow no other; and that those are of the fields' MIR types.
-- Not here: the code that takes such a struct apart (`LentCode`), and the contract of a call that is lent one (`LentCall`).
-- `rows_lawful` takes `Logic`. The rest assumes nothing.
use mathlib.Core.List.{List, [], ◌∷◌}
use seplogic.Ra.Ura.{Ura}
use mir.Syntax.{Width, named}
use mir.Val.{Val}
use types.Logic.{Logic}
use contract.Lifetimes.{Lfts, lft_at}
use denote.Laws.{Ises, Lawfuls, Spells, Tellss, valss}
use denote.Plain.{UInt, uint_Lawful, uint_Tells, uint_vals}
use denote.RattleType.{Denots, RattleType, flat}
use denote.Signature.{Slot, mut_slice, plain, shr_slice, types_at}
use denote.Slice.{mut_slice_Lawful, mut_slice_Tells, mut_slice_vals, shr_slice_Lawful, shr_slice_Tells, shr_slice_vals}

-- an unsigned number, a table of such numbers that is only read, and one that may be written. A usize is a number of 64 bits.
pub data FieldKind : Type 0 where
  number read written : Width → FieldKind

abbrev slot_of : FieldKind → Slot 1
slot_of (number w) = plain (λ _. UInt w)
slot_of (read w) = shr_slice 0 tt (λ _. UInt w)
slot_of (written w) = mut_slice 0 tt (λ _. UInt w)

abbrev pub slots : List FieldKind → List (Slot 1)
slots [] = []
slots (k ∷ ks) = slot_of k ∷ slots ks

module _ (κs : Lfts 1) where
  abbrev pub rows : List FieldKind → List RattleType
  rows ks = types_at (slots ks) κs

  -- ---- machine values: a number's, and a slice's pointer and length
  abbrev pub spelled : (ks : List FieldKind) → Spells (rows ks)
  spelled [] = tt
  spelled (number w ∷ ks) = (uint_vals w, spelled ks)
  spelled (read w ∷ ks) = (shr_slice_vals, spelled ks)
  spelled (written w ∷ ks) = (mut_slice_vals, spelled ks)

  abbrev pub vals : (ks : List FieldKind) → Denots (rows ks) → List Val
  vals ks x = flat (rows ks) (valss (rows ks) (spelled ks) x)

  pub spelled_tell : (ks : List FieldKind) → Tellss (rows ks) (Ises (rows ks)) (spelled ks)
  spelled_tell [] = tt
  spelled_tell (number w ∷ ks) = (uint_Tells w, spelled_tell ks)
  spelled_tell (read w ∷ ks) = (shr_slice_Tells (named 0) (lft_at 1 0 tt κs) (UInt w), spelled_tell ks)
  spelled_tell (written w ∷ ks) = (mut_slice_Tells (named 0) (lft_at 1 0 tt κs) (UInt w), spelled_tell ks)

  module _ {M : Type 1} {𝓤 : Ura M} (𝓛 : Logic 𝓤) where
    pub rows_lawful : (ks : List FieldKind) → Lawfuls 𝓛 (rows ks)
    rows_lawful [] = tt
    rows_lawful (number w ∷ ks) = (uint_Lawful 𝓛 w, rows_lawful ks)
    rows_lawful (read w ∷ ks) = (shr_slice_Lawful 𝓛 (named 0) (lft_at 1 0 tt κs) (UInt w), rows_lawful ks)
    rows_lawful (written w ∷ ks) = (mut_slice_Lawful 𝓛 (named 0) (lft_at 1 0 tt κs) (UInt w), rows_lawful ks)
