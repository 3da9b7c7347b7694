-- Laws of reading: a table filled number by number, and the faults of an input.
-- Assumes nothing.
use Prim.Native.Nat.{◌*◌, ◌+◌, ◌<◌, ◌≤◌, suc, zero, ℕ}
use mathlib.Core.List.{List, [], ◌∷◌}
use mathlib.Core.Path.{◌∙◌, ◌≡◌, ap₂, refl, sym}
use lib.ListN.{drop, get_or, length, length-drop, take}
use lib.Seq.{ext_get_or, get_or-drop, get_or-take, length-take-le}
use native.Mathlib.Omega.{arith}
use borrow.Author.Tests.{le-ltb, lt-ltb, ne_eqb}
use Rattle.theory_timeline.specs.Program.{events_of, input_fault, input_faults, input_length, junctions_of, segments_of, words16}

pub word_at : (bs : List ℕ) (i : ℕ) → 2 * i + 1 < length bs → get_or (words16 bs) i 0 ≡ get_or bs (2 * i) 0 + 256 * get_or bs (2 * i + 1) 0
word_at [] i l = absurd (omega arith)
word_at (a ∷ []) i l = absurd (omega arith)
word_at (a ∷ b ∷ bs) zero l = refl
word_at (a ∷ b ∷ bs) (suc i) l =
    let e : 2 * suc i ≡ suc (suc (2 * i)) = omega arith in
    let f : 2 * suc i + 1 ≡ suc (suc (2 * i + 1)) = omega arith in
    word_at bs i (omega arith) ∙ sym (ap₂ (λ (x y : ℕ). get_or (a ∷ b ∷ bs) x 0 + 256 * get_or (a ∷ b ∷ bs) y 0) e f)

-- two bytes make a number
pub words_long : (bs : List ℕ) (k : ℕ) → 2 * k ≤ length bs → k ≤ length (words16 bs)
words_long bs zero l = omega arith
words_long [] (suc k) l = absurd (omega arith)
words_long (a ∷ []) (suc k) l = absurd (omega arith)
words_long (a ∷ b ∷ bs) (suc k) l = omega (arith, words_long bs k (omega arith))

-- a table of the numbers from i on, entry by entry
pub filled : (ws : List ℕ) (i : ℕ) (xs : List ℕ) → i + length xs ≤ length ws → ((k : ℕ) → k < length xs → get_or xs k 0 ≡ get_or ws (i + k) 0)
    → xs ≡ take (length xs) (drop i ws)
filled ws i xs l f =
    ext_get_or 0 xs (take (length xs) (drop i ws)) (sym long) λ k h. f k h ∙ sym (get_or-take (length xs) (drop i ws) k 0 h ∙ get_or-drop i ws k 0)
  where
    long : length (take (length xs) (drop i ws)) ≡ length xs
    long = length-take-le (length xs) (drop i ws) (omega (arith, length-drop i ws))

-- ---- the faults of an input, in their order
module _ (I : List ℕ) where
  abbrev N : ℕ
  N = junctions_of (words16 I)

  abbrev M : ℕ
  M = segments_of (words16 I)

  abbrev T : ℕ
  T = events_of (words16 I)

  pub many_junctions : 8 ≤ length I → 176 < N → input_fault I ≡ (10, 0)
  unfolding input_fault input_faults
  many_junctions a b = simp (le-ltb (length I) 8 a, lt-ltb 176 N b)

  pub many_segments : 8 ≤ length I → N ≤ 176 → 64 < M → input_fault I ≡ (10, 0)
  unfolding input_fault input_faults
  many_segments a b c = simp (le-ltb (length I) 8 a, le-ltb 176 N b, lt-ltb 64 M c)

  pub many_events : 8 ≤ length I → N ≤ 176 → M ≤ 64 → 32 < T → input_fault I ≡ (10, 0)
  unfolding input_fault input_faults
  many_events a b c e = simp (le-ltb (length I) 8 a, le-ltb 176 N b, le-ltb 64 M c, lt-ltb 32 T e)

  pub other_length : 8 ≤ length I → N ≤ 176 → M ≤ 64 → T ≤ 32 → ¬ (length I ≡ 2 * input_length M T) → input_fault I ≡ (9, 0)
  unfolding input_fault input_faults
  other_length a b c e f = simp (le-ltb (length I) 8 a, le-ltb 176 N b, le-ltb 64 M c, le-ltb 32 T e, ne_eqb (length I) (2 * input_length M T) f)
