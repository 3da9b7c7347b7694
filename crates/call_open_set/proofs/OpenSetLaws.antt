-- Laws of the set of open segments: the digits of a word after a bit is set or cleared, then the bits of the 128 words and their count; the set after one
-- segment is entered or taken out, the set of no segment, and the set that a starting table gives; and what is known of a word of the array.
-- Assumes nothing.
use Prim.Native.Nat.{◌%◌, ◌*◌, ◌+◌, ◌-◌, ◌/◌, ◌<◌, ◌^◌, ◌≤◌, max, suc, zero, ℕ}
use mathlib.Core.Bool.{Bool, ◌&&◌, cond, false}
use mathlib.Core.List.{List, [], ◌++◌, ◌∷◌, map}
use mathlib.Core.Logic.{◌⊎◌, inl, inr, ⊎_elim}
use mathlib.Core.Path.{◌∙◌, ◌≡◌, ap, ap₂, refl, sym}
use lib.Bits.{bit_or, bit_xor, differ, or_step, or_zero_r, xor_step, xor_zero_r}
use lib.Count.{ones, ones-le, ones_step}
use lib.Dec.{eqb, lit<, ltb}
use lib.ListN.{get_or-append, get_or-eq_default, get_or, length, length-append, length-replicate, length-set, replicate, set}
use lib.Pow.{shl_exact, shr-shr}
use lib.Seq.{get_or-append-add, get_or-set_other, get_or-set_same, set-append_left, set_out, set-set}
use native.Mathlib.Nat.{div-add-mod', div-one, le_of_suc-le-suc, not-suc-le-zero, one-mul, pow-suc, suc-add, zero-add}
use native.Mathlib.Numerals.{one-add}
use native.Mathlib.Omega.{arith}
use borrow.Author.Tests.{eq-eqb, eqb-false, eqb-true, le-ltb, lt-ltb, ltb-false, ltb-true, ne_eqb}
use Rattle.std.proofs.lemmas.List.Sums.{sum_by-cons}
use Rattle.std.specs.List.{sum as total}
use Rattle.theory_graph.proofs.Booleans.{on_bool}
use Rattle.theory_graph.specs.Lists.{sum}
use Rattle.call_open_set.specs.OpenSet.{bits, digits, is_open}
use denote.Array.{Array, each}
use denote.Laws.{Is}
use denote.Plain.{UInt}
use denote.Shadow.{shadow}
use mir.Syntax.{w64}
use mir.Val.{Val}

pub one_bit : (b : ℕ) → b < 64 → (1 * 2 ^ b) % 2 ^ 64 ≡ 2 ^ b
one_bit b l = shl_exact {a = 1} 1 b 64 (omega arith) (omega arith) ∙ one-mul (2 ^ b)

cut : (x a r : ℕ) → x ≡ a * 2 + r → r < 2 → (x % 2 ≡ r) × (x / 2 ≡ a)
cut x a r e l = (omega arith, omega arith)

half : (b : ℕ) → 2 ^ suc b / 2 ≡ 2 ^ b
half b = omega (arith, pow-suc 2 b)

even : (b : ℕ) → 2 ^ suc b % 2 ≡ 0
even b = omega (arith, pow-suc 2 b)

pub or_digit : (k b w : ℕ) → b < k → digits k (bit_or w (2 ^ b)) ≡ set (digits k w) b 1
unfolding digits
or_digit zero b w l = absurd (not-suc-le-zero l)
or_digit (suc k) zero w l =
    let s = cut (bit_or w 1) (bit_or (w / 2) 0) (max (w % 2) 1) (or_step w 1) (omega arith) in
    ap₂ ◌∷◌ (s.0 ∙ omega arith) (ap (digits k) (s.1 ∙ or_zero_r (w / 2)))
or_digit (suc k) (suc b) w l =
    let e = even b in
    let s = cut (bit_or w (2 ^ suc b)) (bit_or (w / 2) (2 ^ suc b / 2)) (max (w % 2) (2 ^ suc b % 2)) (or_step w (2 ^ suc b)) (omega arith) in
    ap₂ ◌∷◌ (s.0 ∙ omega arith) (ap (digits k) (s.1 ∙ ap (bit_or (w / 2)) (half b)) ∙ or_digit k b (w / 2) (le_of_suc-le-suc l))

-- the digit b turned
flip_one : (x : ℕ) → x < 2 → differ x 1 ≡ 1 - x
flip_one x l = ⊎_elim (λ (e : x ≡ 0). rw e) (λ (e : x ≡ 1). rw e) (bit x l)
  where
    bit : (x : ℕ) → x < 2 → (x ≡ 0) ⊎ (x ≡ 1)
    bit zero l = inl refl
    bit (suc zero) l = inr refl
    bit (suc (suc x)) l = absurd (not-suc-le-zero (le_of_suc-le-suc (le_of_suc-le-suc l)))

differ_zero : (x : ℕ) → differ x 0 ≡ x
differ_zero zero = refl
differ_zero (suc x) = refl

pub xor_digit : (k b w : ℕ) → b < k → digits k (bit_xor w (2 ^ b)) ≡ set (digits k w) b (1 - get_or (digits k w) b 0)
unfolding digits
xor_digit zero b w l = absurd (not-suc-le-zero l)
xor_digit (suc k) zero w l =
    let f = flip_one (w % 2) (omega arith) in
    let s = cut (bit_xor w 1) (bit_xor (w / 2) 0) (differ (w % 2) 1) (xor_step w 1) (omega arith) in
    ap₂ ◌∷◌ (s.0 ∙ f) (ap (digits k) (s.1 ∙ xor_zero_r (w / 2)))
xor_digit (suc k) (suc b) w l =
    let f = ap (differ (w % 2)) (even b) ∙ differ_zero (w % 2) in
    let s = cut (bit_xor w (2 ^ suc b)) (bit_xor (w / 2) (2 ^ suc b / 2)) (differ (w % 2) (2 ^ suc b % 2)) (xor_step w (2 ^ suc b)) (omega arith) in
    ap₂ ◌∷◌ (s.0 ∙ f) (ap (digits k) (s.1 ∙ ap (bit_xor (w / 2)) (half b)) ∙ xor_digit k b (w / 2) (le_of_suc-le-suc l))

pub length_digits : (k w : ℕ) → length (digits k w) ≡ k
unfolding digits
length_digits zero w = refl
length_digits (suc k) w = ap suc (length_digits k (w / 2))

-- on, and then turned, is off
pub off_digit : (b w : ℕ) → b < 64 → digits 64 (bit_xor (bit_or w (2 ^ b)) (2 ^ b)) ≡ set (digits 64 w) b 0
off_digit b w l =
    let n : b < length (digits 64 w) = rw length_digits l in
    xor_digit 64 b (bit_or w (2 ^ b)) l ∙ rw (or_digit 64 b w l, set-set, get_or-set_same)

-- the digit b, by a shift and a remainder
pub digit_at : (k b w : ℕ) → b < k → get_or (digits k w) b 0 ≡ w / 2 ^ b % 2
unfolding digits
digit_at zero b w l = absurd (not-suc-le-zero l)
digit_at (suc k) zero w l = rw div-one
digit_at (suc k) (suc b) w l = digit_at k b (w / 2) (le_of_suc-le-suc l) ∙ ap (λ (x : ℕ). x % 2) (shr-shr w 1 b ∙ rw one-add)

pub ones_digits : (k w : ℕ) → w < 2 ^ k → sum (digits k w) ≡ ones w
unfolding digits ones
ones_digits zero w l = let e : w ≡ 0 = omega arith in rw e refl
ones_digits (suc k) w l = ap (λ (x : ℕ). w % 2 + x) (ones_digits k (w / 2) (omega (arith, pow-suc 2 k))) ∙ sym (ones_step w)

-- ---- lists of words

set_append_add : (xs ys : List ℕ) (n v : ℕ) → set (xs ++ ys) (length xs + n) v ≡ xs ++ set ys n v
set_append_add [] ys n v = rw zero-add
set_append_add (x ∷ xs) ys n v = rw suc-add (ap (λ (l : List ℕ). x ∷ l) (set_append_add xs ys n v))

later : (q b : ℕ) → suc q * 64 + b ≡ 64 + (q * 64 + b)
later q b = omega arith

-- a store at b of the word q is a store at 64 q + b of the bits
pub set_bits : (ws : List ℕ) (q b w v : ℕ) → q < length ws → b < 64 → digits 64 w ≡ set (digits 64 (get_or ws q 0)) b v
    → bits (set ws q w) ≡ set (bits ws) (q * 64 + b) v
unfolding bits
set_bits [] q b w v l m e = absurd (not-suc-le-zero l)
set_bits (x ∷ ws) zero b w v l m e =
    let n : b < length (digits 64 x) = rw length_digits m in
    rw (zero-add, e, set-append_left)
set_bits (x ∷ ws) (suc q) b w v l m e =
    ap (λ (l : List ℕ). digits 64 x ++ l) (set_bits ws q b w v (le_of_suc-le-suc l) m e)
    ∙ sym (set_append_add (digits 64 x) (bits ws) (q * 64 + b) v)
    ∙ ap (λ (n : ℕ). set (digits 64 x ++ bits ws) n v) (sym (later q b ∙ ap (λ (n : ℕ). n + (q * 64 + b)) (sym (length_digits 64 x))))

pub get_d_bits : (ws : List ℕ) (q b : ℕ) → q < length ws → b < 64 → get_or (bits ws) (q * 64 + b) 0 ≡ get_or (digits 64 (get_or ws q 0)) b 0
unfolding bits
get_d_bits [] q b l m = absurd (not-suc-le-zero l)
get_d_bits (x ∷ ws) zero b l m =
    let n : b < length (digits 64 x) = rw length_digits m in
    rw (zero-add, get_or-append)
get_d_bits (x ∷ ws) (suc q) b l m =
    ap (λ (n : ℕ). get_or (digits 64 x ++ bits ws) n 0) (later q b ∙ ap (λ (n : ℕ). n + (q * 64 + b)) (sym (length_digits 64 x)))
    ∙ get_or-append-add (digits 64 x) (bits ws) (q * 64 + b) 0 ∙ get_d_bits ws q b (le_of_suc-le-suc l) m

-- the same at a segment's number
pub set_at_segment : (ws : List ℕ) (s w v : ℕ) → length ws ≡ 128 → s < 8192 → digits 64 w ≡ set (digits 64 (get_or ws (s / 64) 0)) (s % 64) v
    → bits (set ws (s / 64) w) ≡ set (bits ws) s v
set_at_segment ws s w v n l e =
    set_bits ws (s / 64) (s % 64) w v (omega arith) (omega arith) e ∙ ap (λ (k : ℕ). set (bits ws) k v) (div-add-mod' s 64)

pub bit_at_segment : (ws : List ℕ) (s : ℕ) → length ws ≡ 128 → s < 8192 → get_or (bits ws) s 0 ≡ get_or ws (s / 64) 0 / 2 ^ (s % 64) % 2
bit_at_segment ws s n l =
    ap (λ (k : ℕ). get_or (bits ws) k 0) (sym (div-add-mod' s 64)) ∙ get_d_bits ws (s / 64) (s % 64) (omega arith) (omega arith)
    ∙ digit_at 64 (s % 64) (get_or ws (s / 64) 0) (omega arith)

length_bits : (ws : List ℕ) → length (bits ws) ≡ length ws * 64
unfolding bits
length_bits [] = refl
length_bits (w ∷ ws) = omega (arith, length-append (digits 64 w) (bits ws), length_digits 64 w, length_bits ws)

-- past the last segment nothing is set, and nothing changes
pub set_past : (ws : List ℕ) (s v : ℕ) → length ws ≡ 128 → 8192 ≤ s → bits ws ≡ set (bits ws) s v
set_past ws s v n l = sym (set_out (bits ws) s v (omega (arith, length_bits ws)))

pub bit_past : (ws : List ℕ) (s : ℕ) → length ws ≡ 128 → 8192 ≤ s → false ≡ is_open ws s
unfolding is_open
bit_past ws s n l = let e : get_or (bits ws) s 0 ≡ 0 = get_or-eq_default (bits ws) 0 (omega (arith, length_bits ws)) in rw e

pub bit_open : (ws : List ℕ) (s : ℕ) → length ws ≡ 128 → s < 8192 → eqb (get_or ws (s / 64) 0 / 2 ^ (s % 64) % 2) 1 ≡ is_open ws s
unfolding is_open
bit_open ws s n l = ap (λ (x : ℕ). eqb x 1) (sym (bit_at_segment ws s n l))

sum_append : (xs ys : List ℕ) → sum (xs ++ ys) ≡ sum xs + sum ys
sum_append [] ys = rw zero-add
sum_append (x ∷ xs) ys = omega (arith, sum_append xs ys)

pub sum_bits : (w : ℕ) (ws : List ℕ) → w < 2 ^ 64 → sum (bits (w ∷ ws)) ≡ ones w + sum (bits ws)
unfolding bits
sum_bits w ws l = sum_append (digits 64 w) (bits ws) ∙ rw (ones_digits 64 w l)

-- ---- one segment stored
-- a store of a bit leaves the words as many as they are
pub stored_length : (words words' : List ℕ) (s v : ℕ) → length words ≡ 128 → bits words' ≡ set (bits words) s v → length words' ≡ 128
stored_length words words' s v l q = omega (arith, length_bits words, length_bits words', ap length q, length-set (bits words) s v)

module _ (words words' : List ℕ) (s v : ℕ) (l : length words ≡ 128) (u : s < 8192) (q : bits words' ≡ set (bits words) s v) where
  pub stored : (k : ℕ) → is_open words' k ≡ cond (eqb k s) (eqb v 1) (is_open words k)
  unfolding is_open
  stored k =
      ap (λ b. eqb (get_or b k 0) 1) q
      ∙ on_bool (eqb k s)
      (λ t. ap (λ j. eqb (get_or (set (bits words) s v) j 0) 1) (eqb-true k s t) ∙ ap (λ j. eqb j 1) (get_or-set_same (bits words) s v 0 (omega (arith, length_bits words)))
      ∙ sym (ap (λ b. cond b (eqb v 1) (eqb (get_or (bits words) k 0) 1)) t))
      (λ t. ap (λ j. eqb j 1) (get_or-set_other (bits words) s k v 0 (eqb-false k s t)) ∙ sym (ap (λ b. cond b (eqb v 1) (eqb (get_or (bits words) k 0) 1)) t))

-- ---- no segment
zero_digits : (k i : ℕ) → get_or (digits k 0) i 0 ≡ 0
unfolding digits
zero_digits zero i = refl
zero_digits (suc k) zero = refl
zero_digits (suc k) (suc i) = zero_digits k i

zero_append : (xs ys : List ℕ) → ((i : ℕ) → get_or xs i 0 ≡ 0) → ((i : ℕ) → get_or ys i 0 ≡ 0) → (i : ℕ) → get_or (xs ++ ys) i 0 ≡ 0
zero_append [] ys p q i = q i
zero_append (x ∷ xs) ys p q zero = p zero
zero_append (x ∷ xs) ys p q (suc i) = zero_append xs ys (λ j. p (suc j)) q i

zero_bits : (k i : ℕ) → get_or (bits (replicate k 0)) i 0 ≡ 0
unfolding bits
zero_bits zero i = refl
zero_bits (suc k) i = zero_append (digits 64 0) (bits (replicate k 0)) (zero_digits 64) (zero_bits k) i

none_open : (k s : ℕ) → is_open (replicate k 0) s ≡ false
unfolding is_open
none_open k s = ap (λ j. eqb j 1) (zero_bits k s)

-- ---- the segments that a starting table opens
-- of the segments before s those are in the set whose entry is 1, and no other is
pub record Filled (start : List ℕ) (s : ℕ) (held : List ℕ) : Type 0 where
  pub words : length held ≡ 128
  pub entered : (u : ℕ) → is_open held u ≡ (ltb u s && eqb (get_or start u 0) 1)

pub filled_none : (start : List ℕ) → Filled start 0 (replicate 128 0)
filled_none start = record {
  words = length-replicate {A = ℕ} 128 0;
  entered = λ u. none_open 128 u ∙ sym (ap (λ (b : Bool). b && eqb (get_or start u 0) 1) (le-ltb u 0 (omega arith)));
}

-- below s + 1 is s, or below s
ltb_next : (f : ℕ → Bool) (s u : ℕ) → cond (eqb u s) (f s) (ltb u s && f u) ≡ (ltb u (s + 1) && f u)
ltb_next f s u =
    on_bool (eqb u s)
    (λ t.
    let e = eqb-true u s t in
    ap (λ (b : Bool). cond b (f s) (ltb u s && f u)) t ∙ sym (ap f e) ∙ sym (ap (λ (b : Bool). b && f u) (lt-ltb u (s + 1) (omega arith))))
    (λ t.
    let n : ¬ (u ≡ s) = eqb-false u s t in
    ap (λ (b : Bool). cond b (f s) (ltb u s && f u)) t ∙ ap (λ (b : Bool). b && f u) (same n))
  where
    same : ¬ (u ≡ s) → ltb u s ≡ ltb u (s + 1)
    same n = on_bool (ltb u s)
        (λ t. t ∙ sym (lt-ltb u (s + 1) (omega (arith, ltb-true u s t))))
        (λ t. t ∙ sym (le-ltb u (s + 1) (omega (arith, ltb-false u s t))))

module _ {start : List ℕ} {s : ℕ} {held : List ℕ} (p : Filled start s held) where
  pub filled_open : s < 8192 → get_or start s 0 ≡ 1 → (next : List ℕ) → bits next ≡ set (bits held) s 1 → Filled start (s + 1) next
  filled_open l e next q = record {
    words = stored_length held next s 1 p.words q;
    entered = λ u.
        stored held next s 1 p.words l q u
        ∙ ap₂ (λ (b c : Bool). cond (eqb u s) b c) (sym (eq-eqb (get_or start s 0) 1 e)) (p.entered u)
        ∙ ltb_next (λ k. eqb (get_or start k 0) 1) s u;
  }

  pub filled_closed : ¬ (get_or start s 0 ≡ 1) → Filled start (s + 1) held
  filled_closed n = record {
    words = p.words;
    entered = λ u. p.entered u ∙ sym (skip u) ∙ ltb_next (λ k. eqb (get_or start k 0) 1) s u;
  }
    where
      skip : (u : ℕ) → cond (eqb u s) (eqb (get_or start s 0) 1) (ltb u s && eqb (get_or start u 0) 1) ≡ (ltb u s && eqb (get_or start u 0) 1)
      skip u = on_bool (eqb u s)
          (λ t.
          ap₂ (λ (b c : Bool). cond b c (ltb u s && eqb (get_or start u 0) 1)) t (ne_eqb (get_or start s 0) 1 n)
          ∙ sym (ap (λ (b : Bool). b && eqb (get_or start u 0) 1) (le-ltb u s (omega (arith, eqb-true u s t)))))
          (λ t. ap (λ (b : Bool). cond b (eqb (get_or start s 0) 1) (ltb u s && eqb (get_or start u 0) 1)) t)

-- ---- what is known of an array of words that is passed
each_fits : (xs : List ℕ) (us : List Val) → shadow (each ℕ (UInt w64).own_val xs us) → (i : ℕ) → get_or xs i 0 < 2 ^ 64
each_fits [] us s i = lit< tt
each_fits (x ∷ xs) [] s i = absurd s
each_fits (x ∷ xs) (u ∷ us) s zero = s.0.1
each_fits (x ∷ xs) (u ∷ us) s (suc i) = each_fits xs us s.1 i

pub word_fits : (xs : List ℕ) (vs : List Val) → Is (Array (UInt w64) 128) xs vs → (i : ℕ) → get_or xs i 0 < 2 ^ 64
word_fits xs vs p i = each_fits xs p.0 p.1.1 i

-- the ones of the words, summed: those of the bits, and no more than there is room for
pub ones_summed : (ws : List ℕ) → ((i : ℕ) → get_or ws i 0 < 2 ^ 64) → total (map ones ws) ≡ sum (bits ws)
unfolding bits
ones_summed [] f = refl
ones_summed (w ∷ ws) f = sum_by-cons (λ n. n) (ones w) (map ones ws) ∙ ap (λ (n : ℕ). ones w + n) (ones_summed ws (λ i. f (suc i))) ∙ sym (sum_bits w ws (f 0))

pub ones_most : (ws : List ℕ) → ((i : ℕ) → get_or ws i 0 < 2 ^ 64) → total (map ones ws) ≤ 64 * length ws
ones_most [] f = omega arith
ones_most (w ∷ ws) f = omega (arith, sum_by-cons (λ n. n) (ones w) (map ones ws), ones-le 64 w (f 0), ones_most ws (λ i. f (suc i)))
