-- Laws of the set of open segments in words: one segment entered or taken out as an event says, the segments that a starting table opens, and how many
-- there are.
-- Assumes nothing.
use Prim.Native.Nat.{◌+◌, ◌-◌, ◌/◌, ◌<◌, ◌≤◌, suc, zero, ℕ}
use mathlib.Core.Bool.{Bool, ◌&&◌, cond, false, true}
use mathlib.Core.List.{List, [], ◌++◌, ◌∷◌}
use mathlib.Core.Path.{◌∙◌, ◌≡◌, ap, ap₂, fun_ext, refl, sym}
use lib.Dec.{eqb, ltb}
use lib.ListN.{get_or-eq_default, get_or, length, set}
use native.Mathlib.Numerals.{add-one}
use native.Mathlib.Omega.{arith}
use borrow.Author.Tests.{eqb-true, ltb-false, ltb-true}
use Rattle.call_open_set.proofs.OpenSetLaws.{stored}
use Rattle.call_open_set.specs.OpenSet.{bits, digits, is_open}
use Rattle.theory_graph.proofs.Booleans.{and_elim, contradict, on_bool}
use Rattle.theory_graph.specs.Lists.{sum}
use Rattle.theory_timeline.proofs.Acceptance.{sound_fine}
use Rattle.theory_timeline.proofs.Counting.{count, count_cons, count_split}
use Rattle.theory_timeline.proofs.TagLaws.{open_next}
use Rattle.theory_timeline.specs.Events.{Event, after, changes, names, opens}
use Rattle.theory_timeline.specs.Replay.{open_at_end}
use Rattle.theory_timeline.specs.Steps.{Sound}
use Rattle.theory_timeline.specs.Windows.{Timeline, at_start, changes_at, event, open_before, opens_at, size}

-- ---- an event
module _ (n : ℕ) (held next : List ℕ) (e : Event) (v : ℕ) (l : length held ≡ 128) (c : changes n e ≡ true) (u : e.1 < 8192) (b : eqb v 1 ≡ opens n e)
    (q : bits next ≡ set (bits held) e.1 v) where
  pub event_stored : is_open next ≡ after n e (is_open held)
  event_stored =
      fun_ext (λ k. stored held next e.1 v l u q k ∙ ap (λ c. cond (eqb k e.1) c (is_open held k)) b
      ∙ sym (ap (λ c. cond (c && eqb k e.1) (opens n e) (is_open held k)) c))

pub event_stays : (n : ℕ) (held : List ℕ) (e : Event) → changes n e ≡ false → is_open held ≡ after n e (is_open held)
event_stays n held e c = fun_ext (λ k. sym (ap (λ c. cond (c && eqb k e.1) (opens n e) (is_open held k)) c))

-- ---- at the start
-- a starting table opens nothing past its end
start_past : (start : List ℕ) (s : ℕ) → length start ≤ s → at_start start s ≡ false
start_past start s l = ap (λ j. eqb j 1) (get_or-eq_default start 0 l)

-- so its first m entries are all that count where it has m
pub start_all : (m : ℕ) (start : List ℕ) → length start ≡ m → (λ s. ltb s m && eqb (get_or start s 0) 1) ≡ at_start start
start_all m start e = fun_ext (λ s. on_bool (ltb s m)
    (λ t. ap (λ b. b && at_start start s) t)
    (λ t. ap (λ b. b && at_start start s) t ∙ sym (start_past start s (omega (arith, ltb-false s m t)))))

pub start_below : (start : List ℕ) (s : ℕ) → at_start start s ≡ true → s < length start
start_below start s h = on_bool (ltb s (length start))
    (λ t. ltb-true s (length start) t)
    (λ t. contradict h (start_past start s (ltb-false s (length start) t)))

-- ---- how many
-- nothing from a on: a longer range counts no more
count_none : (f : ℕ → Bool) (i k : ℕ) → ((j : ℕ) → i ≤ j → f j ≡ false) → count f i k ≡ 0
count_none f i zero e = refl
count_none f i (suc k) e = count_cons f i k ∙ ap₂ (λ (b : Bool) (c : ℕ). cond b 1 0 + c) (e i (omega arith)) (count_none f (suc i) k (λ j a. e j (omega arith)))

count_longer : (f : ℕ → Bool) (a b : ℕ) → a ≤ b → ((j : ℕ) → a ≤ j → f j ≡ false) → count f 0 b ≡ count f 0 a
count_longer f a b l e =
    let s : b ≡ a + (b - a) = omega arith in
    ap (λ (m : ℕ). count f 0 m) s ∙ omega (arith, count_split f 0 a (b - a), count_none f (0 + a) (b - a) (λ j u. e j (omega arith)))

pub count_both : (f : ℕ → Bool) (a b : ℕ) → ((j : ℕ) → a ≤ j → f j ≡ false) → ((j : ℕ) → b ≤ j → f j ≡ false) → count f 0 a ≡ count f 0 b
count_both f a b p q = on_bool (ltb a b) (λ t. sym (count_longer f a b (omega (arith, ltb-true a b t)) p)) (λ t. count_longer f b a (ltb-false a b t) q)

-- what is open at the start is a segment
abbrev pub StartsBelow : Timeline → Type 0
StartsBelow g = (s : ℕ) → g.start s ≡ true → s < length g.segments

-- and then what is open before an event is one
pub open_below : (g : Timeline) → Sound g → StartsBelow g → (i : ℕ) → i ≤ size g → (s : ℕ) → open_before g i s ≡ true → s < length g.segments
unfolding open_before
open_below g o b zero l s h = b s h
open_below g o b (suc i) l s h = go (names g.junctions (event g i) s) refl (ap (λ (f : ℕ → Bool). f s) (sym (open_suc ∙ open_next g i (omega arith))) ∙ h) (open_below g o b i (omega arith) s)
  where
    open_suc : open_before g (suc i) ≡ open_before g (i + 1)
    open_suc = ap (open_before g) (sym (add-one i))

    go : (b : Bool) → names g.junctions (event g i) s ≡ b → cond b (opens_at g i) (open_before g i s) ≡ true → (open_before g i s ≡ true → s < length g.segments) → s < length g.segments
    go true q h f = and_elim (changes_at g i) (eqb s (event g i).1) q λ u v. let k = (sound_fine g o i (omega arith)).segment
        u in omega (arith, eqb-true s (event g i).1 v)
    go false q h f = f h

-- ---- the ones of a set
abbrev Bits : List ℕ → Type 0
Bits xs = (i : ℕ) → get_or xs i 0 ≤ 1

digit_bits : (k n : ℕ) → Bits (digits k n)
unfolding digits
digit_bits zero n i = omega arith
digit_bits (suc k) n zero = omega arith
digit_bits (suc k) n (suc i) = digit_bits k (n / 2) i

append_bits : (xs ys : List ℕ) → Bits xs → Bits ys → Bits (xs ++ ys)
append_bits [] ys p q i = q i
append_bits (x ∷ xs) ys p q zero = p zero
append_bits (x ∷ xs) ys p q (suc i) = append_bits xs ys (λ j. p (suc j)) q i

all_bits : (ws : List ℕ) → Bits (bits ws)
unfolding bits
all_bits [] i = omega arith
all_bits (w ∷ ws) i = append_bits (digits 64 w) (bits ws) (digit_bits 64 w) (all_bits ws) i

count_shift : (f : ℕ → Bool) (i k : ℕ) → count f (suc i) k ≡ count (λ j. f (suc j)) i k
count_shift f i zero = refl
count_shift f i (suc k) = count_cons f (suc i) k ∙ ap (λ (c : ℕ). cond (f (suc i)) 1 0 + c) (count_shift f (suc i) k) ∙ sym (count_cons (λ j. f (suc j)) i k)

ones_count : (xs : List ℕ) → Bits xs → sum xs ≡ count (λ s. eqb (get_or xs s 0) 1) 0 (length xs)
ones_count [] b = refl
ones_count (x ∷ xs) b =
    let f : ℕ → Bool = λ s. eqb (get_or (x ∷ xs) s 0) 1 in
    ap₂ ◌+◌ (one x (b 0)) (ones_count xs (λ i. b (suc i)) ∙ sym (count_shift f 0 (length xs))) ∙ sym (count_cons f 0 (length xs))
  where
    one : (x : ℕ) → x ≤ 1 → x ≡ cond (eqb x 1) 1 0
    one zero l = refl
    one (suc zero) l = refl
    one (suc (suc x)) l = absurd (omega arith)

pub open_count : (g : Timeline) → Sound g → StartsBelow g → (held : List ℕ) → is_open held ≡ open_before g (size g) → sum (bits held) ≡ open_at_end g
unfolding is_open open_at_end
open_count g o b held q =
    ones_count (bits held) (all_bits held)
    ∙ count_both (is_open held) (length (bits held)) (length g.segments)
    (λ j l. ap (λ (k : ℕ). eqb k 1) (get_or-eq_default (bits held) 0 l))
    (λ j l. on_bool (is_open held j) (λ t. absurd (omega (arith, open_below g o b (size g) (omega arith) j (ap (λ (f : ℕ → Bool). f j) (sym q) ∙ t)))) (λ t. t))
    ∙ ap (λ (f : ℕ → Bool). count f 0 (length g.segments)) q
