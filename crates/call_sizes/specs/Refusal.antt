-- Refusals: a call is refused by the first fault that holds of a list of faults, in the order of document 01's table, each with its number and its place.
-- Each call lists its own faults. Assumes nothing: these are definitions.
use Rattle.std.specs.Prelude.{◌+◌, suc, zero, ℕ, Bool, ◌||◌, cond, List, [], ◌∷◌, leb, ltb, get_or, None, Option, Some}

-- a test, and the number and the place that are returned where it holds
pub record Row : Type 0 where
  pub test : Bool
  pub code : ℕ
  pub place : ℕ

abbrev pub row : Bool → ℕ → ℕ → Row
row t c p = record { test = t; code = c; place = p }

-- the number and the place of a refusal; (0, 0) where nothing is refused
abbrev pub Refusal : Type 0
Refusal = ℕ × ℕ

abbrev pub first_fault : List Row → Refusal
first_fault [] = (0, 0)
first_fault (r ∷ rs) = cond r.test (r.code, r.place) (first_fault rs)

-- the refusal by a number c, place 0, where the first number of some pair is below the second
abbrev pub below_rows : ℕ → List (ℕ × ℕ) → List Row
below_rows c [] = []
below_rows c (t ∷ ts) = row (ltb t.0 t.1) c 0 ∷ below_rows c ts

-- refusal 2: a table is shorter than it must be. Each table by its length and its least length
abbrev pub short_rows : List (ℕ × ℕ) → List Row
short_rows = below_rows 2

-- refusal 12 (document 02, No. 7): a table is longer than its size. Each table by its size and its length
abbrev pub long_rows : List (ℕ × ℕ) → List Row
long_rows = below_rows 12

-- the first number from i on, of k, that passes; i + k where none does
abbrev pub seek : (ℕ → Bool) → ℕ → ℕ → ℕ
seek f i zero = i
seek f i (suc k) = cond (f i) i (seek f (i + 1) k)

-- the first number below m that passes, if any
abbrev pub first_of : (ℕ → Bool) → ℕ → Option ℕ
first_of f m = cond (ltb (seek f 0 m) m) (Some (seek f 0 m)) None

-- refusal 4: segment or edge s has an end not below n
abbrev pub bad_ends : ℕ → List ℕ → List ℕ → ℕ → Bool
bad_ends n from to s = leb n (get_or from s 0) || leb n (get_or to s 0)

-- refusal 11 (document 02, No. 1): the starting entry of segment s is above 1
abbrev pub bad_start : List ℕ → ℕ → Bool
bad_start start s = ltb 1 (get_or start s 0)
