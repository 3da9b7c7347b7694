-- The open segments: a set of 8,192 bits in 128 words, read as the list of its bits. Entry s is 1 where segment s is open, and 0 elsewhere.
-- Assumes nothing: these are definitions.
use Rattle.std.specs.Prelude.{◌%◌, ◌/◌, suc, zero, ℕ, Bool, List, [], ◌++◌, ◌∷◌, eqb, get_or}

-- the k lowest binary digits of n, the lowest first
unfoldable pub digits : ℕ → ℕ → List ℕ
digits zero n = []
digits (suc k) n = n % 2 ∷ digits k (n / 2)

-- the digits of each word, 64 to a word
unfoldable pub bits : List ℕ → List ℕ
bits [] = []
bits (w ∷ ws) = digits 64 w ++ bits ws

-- segment s is in the set of these words
unfoldable pub is_open : List ℕ → ℕ → Bool
is_open words s = eqb (get_or (bits words) s 0) 1
