-- Numbers in base ten: a number of one digit, and the last digit of a larger one.
-- Assumes nothing.
use Prim.Native.Nat.{◌%◌, ◌+◌, ◌/◌, ◌<◌, ◌≤◌, suc, ℕ}
use mathlib.Core.Bool.{Bool, false, true}
use mathlib.Core.List.{List, [], ◌∷◌}
use mathlib.Core.Path.{◌≡◌, ap}
use borrow.Author.Tests.{le-ltb, lt-ltb}
use Rattle.theory_timeline.specs.Program.{decimal, spell}

pub spell_one : (k n : ℕ) (rest : List ℕ) → n < 10 → spell (suc k) n rest ≡ (48 + n) ∷ rest
unfolding spell
spell_one k n rest l = ap (λ (b : Bool). elim b as (λ x. List ℕ) [ true ↦ (48 + n) ∷ rest | false ↦ spell k (n / 10) ((48 + n % 10) ∷ rest) ]) (lt-ltb n 10 l)

pub spell_more : (k n : ℕ) (rest : List ℕ) → 10 ≤ n → spell (suc k) n rest ≡ spell k (n / 10) ((48 + n % 10) ∷ rest)
unfolding spell
spell_more k n rest l = ap (λ (b : Bool). elim b as (λ x. List ℕ) [ true ↦ (48 + n) ∷ rest | false ↦ spell k (n / 10) ((48 + n % 10) ∷ rest) ]) (le-ltb n 10 l)

pub decimal_one : (n : ℕ) → n < 10 → decimal n ≡ (48 + n) ∷ []
unfolding decimal
decimal_one n l = spell_one 19 n [] l
