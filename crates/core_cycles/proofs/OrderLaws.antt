-- Laws of the order of the search as a list: cut at a place, and what comes after it. Then of lists that are filtered and counted.
-- Assumes nothing.
use Prim.Native.Nat.{◌+◌, ◌-◌, ◌<◌, ◌≤◌, suc, ℕ}
use mathlib.Core.Bool.{Bool, ◌&&◌, false, not, true}
use mathlib.Core.List.{List, Memᴰ, [], ◌++◌, ◌∷◌}
use mathlib.Core.Logic.{inr}
use mathlib.Core.Path.{◌∙◌, ◌≡◌, ap, refl, sym}
use lib.Dec.{eqb, ltb}
use lib.ListN.{length}
use native.Mathlib.Omega.{arith}
use borrow.Author.Tests.{eq-eqb, eqb-false, eqb-true, le-ltb, lt-ltb, ne_eqb}
use Rattle.theory_graph.proofs.Booleans.{on_bool}
use Rattle.theory_graph.proofs.Lists.{filter_length, mem_append}
use Rattle.theory_graph.proofs.TableLaws.{table_append}
use Rattle.theory_graph.specs.Lists.{filter, table}
use Rattle.theory_junctions.specs.Blocks.{last_of}
use Rattle.theory_junctions.specs.Classes.{count, single, tick}
use Rattle.theory_junctions.specs.Reduce.{Rising}
use Rattle.core_cycles.specs.Numbering.{last_code}

-- the entries from place i on
pub table_from : (f : ℕ → ℕ) (i seen : ℕ) → i < seen → table f i (seen - i) ≡ f i ∷ table f (i + 1) (seen - (i + 1))
table_from f i seen l = ap (table f i) e ∙ ap (λ j. f i ∷ table f j (seen - (i + 1))) s
  where
    e : seen - i ≡ suc (seen - (i + 1))
    e = omega arith

    s : suc i ≡ i + 1
    s = omega arith

-- the whole, cut at place i
pub table_cut : (f : ℕ → ℕ) (i seen : ℕ) → i < seen → table f 0 seen ≡ table f 0 i ++ f i ∷ table f (i + 1) (seen - (i + 1))
table_cut f i seen l = ap (table f 0) e ∙ table_append f 0 i (seen - i) ∙ ap (λ j. table f 0 i ++ table f j (seen - i)) z ∙ ap (λ xs. table f 0 i ++ xs) (table_from f i seen l)
  where
    e : seen ≡ i + (seen - i)
    e = omega arith

    z : 0 + i ≡ i
    z = omega arith

-- what comes after v
pub rising_after : (pos : ℕ → ℕ) (ps : List ℕ) (v : ℕ) (ds : List ℕ) → Rising pos (ps ++ v ∷ ds) → (w : ℕ) → Memᴰ w (ps ++ v ∷ ds) → pos v < pos w → Memᴰ w ds
rising_after pos [] v ds r w (Memᴰ.head e) l = absurd (omega (arith, ap pos e))
rising_after pos [] v ds r w (Memᴰ.tail m) l = m
rising_after pos (p ∷ ps) v ds r w (Memᴰ.head e) l = absurd (omega (arith, ap pos e, r.0 v (mem_append ps (v ∷ ds) (inr (Memᴰ.head refl)))))
rising_after pos (p ∷ ps) v ds r w (Memᴰ.tail m) l = rising_after pos ps v ds r.1 w m l

-- ---- counts
pub filter_few : (f : ℕ → Bool) (xs : List ℕ) → length (filter f xs) ≤ length xs
filter_few f xs = omega (arith, filter_length f xs)

pub count_few : (f : ℕ → Bool) (xs : List ℕ) → count f xs ≤ length xs
count_few f [] = omega arith
count_few f (x ∷ xs) = omega (arith, count_few f xs, one (f x))
  where
    one : (b : Bool) → tick b ≤ 1
    one true = omega arith
    one false = omega arith

-- what comes before v
pub rising_before : (pos : ℕ → ℕ) (ps : List ℕ) (v : ℕ) (ds : List ℕ) → Rising pos (ps ++ v ∷ ds) → (w : ℕ) → Memᴰ w ps → pos w < pos v
rising_before pos [] v ds r w x'' = elim x'' [ ]
rising_before pos (p ∷ ps) v ds r w (Memᴰ.head e) = omega (arith, ap pos e, r.0 v (mem_append ps (v ∷ ds) (inr (Memᴰ.head refl))))
rising_before pos (p ∷ ps) v ds r w (Memᴰ.tail m) = rising_before pos ps v ds r.1 w m

pub count_append : (f : ℕ → Bool) (xs ys : List ℕ) → count f (xs ++ ys) ≡ count f xs + count f ys
count_append f [] ys = omega arith
count_append f (x ∷ xs) ys = omega (arith, count_append f xs ys)

pub append-nil : {A : Type 0} (xs : List A) → xs ++ [] ≡ xs
append-nil [] = refl
append-nil (x ∷ xs) = ap (λ l. x ∷ l) (append-nil xs)

-- ---- the last entry
pub last_in : (u : ℕ) (us : List ℕ) → Memᴰ (last_of u us) (u ∷ us)
last_in u [] = Memᴰ.head refl
last_in u (w ∷ us) = Memᴰ.tail (last_in w us)

pub last_either : {A : Type 0} (t : ℕ) (us : List ℕ) → (last_of t us ≡ t → A) → (Memᴰ (last_of t us) us → A) → A
last_either t [] f g = f refl
last_either t (u ∷ us) f g = g (last_in u us)

last_snoc : (u v : ℕ) (us : List ℕ) → last_of u (us ++ v ∷ []) ≡ v
last_snoc u v [] = refl
last_snoc u v (w ∷ us) = last_snoc w v us

pub code_snoc : (f : ℕ → ℕ) (us : List ℕ) (v : ℕ) → last_code f (us ++ v ∷ []) ≡ suc (f v)
code_snoc f [] v = refl
code_snoc f (u ∷ us) v = ap (λ x. suc (f x)) (last_snoc u v us)

pub code_same : (f g : ℕ → ℕ) (us : List ℕ) → ((u : ℕ) → Memᴰ u us → f u ≡ g u) → last_code f us ≡ last_code g us
code_same f g [] h = refl
code_same f g (u ∷ us) h = ap suc (h (last_of u us) (last_in u us))

-- ---- tests
pub and_off : (x : Bool) {y : Bool} → y ≡ false → (x && y) ≡ false
and_off true e = e
and_off false e = refl

and-true : (x : Bool) → (x && true) ≡ x
and-true true = refl
and-true false = refl

pub and_rotate : (a b c d : Bool) → (a && (b && (c && d))) ≡ (d && (a && (b && c)))
and_rotate a b c true = ap (λ x. a && (b && x)) (and-true c)
and_rotate a b c false = and_off a (and_off b (and_off c refl))

pub not_positive : (x : ℕ) → not (ltb 0 x) ≡ eqb x 0
not_positive x = on_bool (eqb x 0)
    (λ e. ap not (le-ltb 0 x (omega (arith, eqb-true x 0 e))) ∙ sym e)
    (λ e. let ne = eqb-false x 0 e in ap not (lt-ltb 0 x (omega (arith, ne))) ∙ sym e)

pub single_length : (us : List ℕ) → single us ≡ eqb (length us) 1
single_length [] = sym (ne_eqb 0 1 (λ e. omega arith))
single_length (u ∷ []) = sym (eq-eqb (length (u ∷ [])) 1 (omega arith))
single_length (u ∷ w ∷ us) = sym (ne_eqb (length (u ∷ w ∷ us)) 1 (λ e. omega arith))
