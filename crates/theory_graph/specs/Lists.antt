-- Words on lists that the definitions use: filter, any, all, member, range, table, position, firsts, sum, pairs, over, Distinct. Their laws stand in proofs/Lists
-- and proofs/DistinctLists.
-- Assumes nothing: these are definitions.
use Rattle.std.specs.Prelude.{◌+◌, suc, zero, ℕ, Bool, ◌&&◌, ◌||◌, cond, false, not, true, eqb, drop, length}
use mathlib.Core.List.{List, Memᴰ, [], ◌++◌, ◌∷◌}

-- the entries that pass the test, in their order
abbrev pub filter : {A : Type 0} → (A → Bool) → List A → List A
filter f [] = []
filter f (x ∷ xs) = cond (f x) (x ∷ filter f xs) (filter f xs)

-- some entry passes
abbrev pub any : {A : Type 0} → (A → Bool) → List A → Bool
any f [] = false
any f (x ∷ xs) = f x || any f xs

-- every entry passes
abbrev pub all : {A : Type 0} → (A → Bool) → List A → Bool
all f [] = true
all f (x ∷ xs) = f x && all f xs

-- a stands in the list
abbrev pub member : List ℕ → ℕ → Bool
member [] a = false
member (x ∷ xs) a = eqb a x || member xs a

-- i, i + 1 and so on, n of them
abbrev pub range : ℕ → ℕ → List ℕ
range i zero = []
range i (suc n) = i ∷ range (suc i) n

-- the values f i, f (i + 1) and so on, n of them
abbrev pub table : {A : Type 0} → (ℕ → A) → ℕ → ℕ → List A
table f i zero = []
table f i (suc n) = f i ∷ table f (suc i) n

-- the index of the first entry that passes
abbrev pub position : (ℕ → Bool) → List ℕ → ℕ
position f [] = 0
position f (x ∷ xs) = cond (f x) 0 (suc (position f xs))

-- the first entry of each group of equivalent entries, in order of first appearance
abbrev pub firsts : (ℕ → ℕ → Bool) → List ℕ → List ℕ
firsts R [] = []
firsts R (x ∷ xs) = x ∷ filter (λ y. not (R x y)) (firsts R xs)

abbrev pub sum : List ℕ → ℕ
sum [] = 0
sum (x ∷ xs) = x + sum xs

-- two parallel arrays as a list of pairs
abbrev pub pairs : {A B : Type 0} → List A → List B → List (A × B)
pairs [] ys = []
pairs (x ∷ xs) [] = []
pairs (x ∷ xs) (y ∷ ys) = (x, y) ∷ pairs xs ys

-- a table whose first entries are written over by xs
abbrev pub over : List ℕ → List ℕ → List ℕ
over xs table = xs ++ drop (length xs) table

-- no entry occurs twice
abbrev pub Distinct : List ℕ → Type 0
Distinct [] = Unit {0}
Distinct (u ∷ us) = (¬ Memᴰ u us) × Distinct us
