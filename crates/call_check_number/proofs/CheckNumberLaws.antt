-- Laws of the check number, for the user: equal first bytes have equal outcomes, bytes that differ in one place have different numbers, and where the numbers
-- part a byte differs.
-- Assumes nothing.
use Rattle.std.proofs.Common.{◌≡◌, ℕ, ◌+◌, ◌*◌, ◌/◌, ◌%◌, ◌<◌, ltb, List, [], ◌∷◌, ◌++◌, length, get_or, take, sym, ap, ◌∙◌, add-one, arith, length-take, take-suc, take-take, ltb-false, ltb-true, le-ltb, lt-ltb}
use mathlib.Core.List.{foldl, foldl-append}
use Rattle.theory_graph.proofs.Booleans.{on_bool}
use Rattle.call_check_number.specs.CheckNumber.{check_number, number_of_first, with_byte}

-- ---- equal bytes
-- two tables with the same first t bytes have the same outcome, number and refusal alike
pub same_bytes : (t : ℕ) (xs ys : List ℕ) → take t xs ≡ take t ys → number_of_first xs t ≡ number_of_first ys t
same_bytes t xs ys e = first xs ∙ ap (λ (bytes : List ℕ). number_of_first bytes t) e ∙ sym (first ys)
  where
    -- a table is too short just where its first t bytes are
    short : (table : List ℕ) → ltb (length table) t ≡ ltb (length (take t table)) t
    short table = on_bool (ltb (length table) t)
        (λ q. let l = ltb-true (length table) t q in q ∙ sym (lt-ltb (length (take t table)) t (rw (length-take t table) (omega arith))))
        (λ q. let l = ltb-false (length table) t q in q ∙ sym (le-ltb (length (take t table)) t (rw (length-take t table) (omega arith))))

    first : (table : List ℕ) → number_of_first table t ≡ number_of_first (take t table) t
    first table = simp (short table, take-take t t table (omega arith))

-- ---- bytes that differ
-- 31 has an inverse modulo 2 ^ 32, so a byte keeps different numbers apart
step_tells : (h k a : ℕ) → h < 4294967296 → k < 4294967296 → with_byte h a ≡ with_byte k a → h ≡ k
unfolding with_byte
step_tells h k a l m e = tells ((31 * h + a + 1) / 4294967296) ((31 * k + a + 1) / 4294967296) ((31 * k + a + 1) % 4294967296) (omega (arith, e)) (omega arith)
  where
    -- 3186588639 · 31 = 23 · 2 ^ 32 + 1
    tells : (q p r : ℕ) → 31 * h + a + 1 ≡ 4294967296 * q + r → 31 * k + a + 1 ≡ 4294967296 * p + r → h ≡ k
    tells q p r f g = small (23 * h + 3186588639 * p) (23 * k + 3186588639 * q) (omega (arith, f, g))
      where
        small : (s t : ℕ) → h + 4294967296 * s ≡ k + 4294967296 * t → h ≡ k
        small s t e = omega (arith, e, l, m)

byte_tells : (h a b : ℕ) → a < 256 → b < 256 → with_byte h a ≡ with_byte h b → a ≡ b
unfolding with_byte
byte_tells h a b l m e = omega arith

step_fits : (h a : ℕ) → with_byte h a < 4294967296
unfolding with_byte
step_fits h a = omega arith

-- and so do all the bytes that follow
follow_tells : (bytes : List ℕ) (h k : ℕ) → h < 4294967296 → k < 4294967296 → foldl with_byte h bytes ≡ foldl with_byte k bytes → h ≡ k
follow_tells [] h k l m e = e
follow_tells (a ∷ bytes) h k l m e = step_tells h k a l m (follow_tells bytes (with_byte h a) (with_byte k a) (step_fits h a) (step_fits k a) e)

-- bytes that differ in one place only have different numbers
pub one_differs : (before after : List ℕ) (a b : ℕ) → a < 256 → b < 256 → ¬ (a ≡ b) → ¬ (check_number (before ++ a ∷ after) ≡ check_number (before ++ b ∷ after))
unfolding check_number
one_differs before after a b l m n e = n (byte_tells h a b l m (follow_tells after (with_byte h a) (with_byte h b) (step_fits h a) (step_fits h b) after_h))
  where
    h : ℕ
    h = foldl with_byte 1 before

    after_h : foldl with_byte h (a ∷ after) ≡ foldl with_byte h (b ∷ after)
    after_h = sym (foldl-append with_byte 1 before (a ∷ after)) ∙ e ∙ foldl-append with_byte 1 before (b ∷ after)

-- one byte more
check_more : (table : List ℕ) (t : ℕ) → t < length table → check_number (take (t + 1) table) ≡ with_byte (check_number (take t table)) (get_or table t 0)
unfolding check_number
check_more table t l = rw add-one (ap check_number (take-suc table t 0 l) ∙ foldl-append with_byte 1 (take t table) (get_or table t 0 ∷ []))

-- where the numbers of the first t bytes agree and those of the first t + 1 do not, byte t differs
pub differs_there : (t : ℕ) (xs ys : List ℕ) → t < length xs → t < length ys → check_number (take t xs) ≡ check_number (take t ys)
    → ¬ (check_number (take (t + 1) xs) ≡ check_number (take (t + 1) ys)) → ¬ (get_or xs t 0 ≡ get_or ys t 0)
differs_there t xs ys l m e n f = n (check_more xs t l ∙ ap (λ (h : ℕ). with_byte h (get_or xs t 0)) e ∙ ap (with_byte (check_number (take t ys))) f ∙ sym (check_more ys t m))
