-- Booleans: statements proved by computing them at every value; cases that keep the equation; the majority of three.
-- Assumes nothing.
use mathlib.Core.Bool.{Bool, ◌&&◌, ◌||◌, false, not, true, true≢false}
use mathlib.Core.Path.{◌∙◌, ◌≡◌, ap, ap₂, refl, sym}
use lib.Dec.{T}

pub T_and : (a b : Bool) → T (a && b) → T a × T b
T_and true b t = (tt, t)
T_and false b t = absurd t

abbrev pub all1 : (Bool → Bool) → Bool
all1 f = f true && f false

abbrev pub all2 : (Bool → Bool → Bool) → Bool
all2 f = all1 (λ a. all1 (f a))

abbrev pub all3 : (Bool → Bool → Bool → Bool) → Bool
all3 f = all1 (λ a. all2 (f a))

abbrev pub all4 : (Bool → Bool → Bool → Bool → Bool) → Bool
all4 f = all1 (λ a. all3 (f a))

pub taut1 : (f : Bool → Bool) → T (all1 f) → (b : Bool) → T (f b)
taut1 f t true = (T_and (f true) (f false) t).0
taut1 f t false = (T_and (f true) (f false) t).1

pub taut2 : (f : Bool → Bool → Bool) → T (all2 f) → (a b : Bool) → T (f a b)
taut2 f t a = taut1 (f a) (taut1 (λ a. all1 (f a)) t a)

pub taut3 : (f : Bool → Bool → Bool → Bool) → T (all3 f) → (a b c : Bool) → T (f a b c)
taut3 f t a = taut2 (f a) (taut1 (λ a. all2 (f a)) t a)

pub taut4 : (f : Bool → Bool → Bool → Bool → Bool) → T (all4 f) → (a b c d : Bool) → T (f a b c d)
taut4 f t a = taut3 (f a) (taut1 (λ a. all3 (f a)) t a)

-- cases on a Boolean that is computed, keeping the equation
pub on_bool : {A : Type 0} (b : Bool) → (b ≡ true → A) → (b ≡ false → A) → A
on_bool true f g = f refl
on_bool false f g = g refl

pub or_elim : {A : Type 0} (a b : Bool) → (a || b) ≡ true → (a ≡ true → A) → (b ≡ true → A) → A
or_elim true b h f g = f refl
or_elim false b h f g = g h

pub and_elim : {A : Type 0} (a b : Bool) → (a && b) ≡ true → (a ≡ true → b ≡ true → A) → A
and_elim true b h f = f refl h
and_elim false b h f = absurd (true≢false (sym h))

pub contradict : {A : Type 0} {b : Bool} → b ≡ true → b ≡ false → A
contradict p q = absurd (true≢false (sym p ∙ q))

pub or_neither : (a b : Bool) → (a || b) ≡ false → (a ≡ false) × (b ≡ false)
or_neither true b h = contradict refl h
or_neither false b h = (refl, h)

pub or_swap : (a b : Bool) → (a || b) ≡ (b || a)
or_swap true true = refl
or_swap true false = refl
or_swap false true = refl
or_swap false false = refl

pub and_swap : (a b : Bool) → (a && b) ≡ (b && a)
and_swap true true = refl
and_swap true false = refl
and_swap false true = refl
and_swap false false = refl

abbrev pub majority : Bool → Bool → Bool → Bool
majority a b c = a && (b || c) || b && c

pub majority_not : (a b c : Bool) → majority (not a) (not b) (not c) ≡ not (majority a b c)
majority_not true true c = refl
majority_not true false true = refl
majority_not true false false = refl
majority_not false true true = refl
majority_not false true false = refl
majority_not false false c = refl

-- ---- majority
pub majority_swap12 : (a b c : Bool) → majority a b c ≡ majority b a c
majority_swap12 true true c = refl
majority_swap12 true false true = refl
majority_swap12 true false false = refl
majority_swap12 false true true = refl
majority_swap12 false true false = refl
majority_swap12 false false c = refl

pub majority_swap23 : (a b c : Bool) → majority a b c ≡ majority a c b
majority_swap23 true true true = refl
majority_swap23 true true false = refl
majority_swap23 true false true = refl
majority_swap23 true false false = refl
majority_swap23 false true true = refl
majority_swap23 false true false = refl
majority_swap23 false false true = refl
majority_swap23 false false false = refl

pub majority_same : (a c : Bool) → majority a a c ≡ a
majority_same true c = refl
majority_same false c = refl

pub majority_ap : {a b c s t r : Bool} → a ≡ s → b ≡ t → c ≡ r → majority a b c ≡ majority s t r
majority_ap {c} {s} {t} p q r = ap₂ (λ x y. majority x y c) p q ∙ ap (λ z. majority s t z) r

pub bool_iff : (a b : Bool) → (a ≡ true → b ≡ true) → (b ≡ true → a ≡ true) → a ≡ b
bool_iff true b f g = sym (f refl)
bool_iff false true f g = g refl
bool_iff false false f g = refl
