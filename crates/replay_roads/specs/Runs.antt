-- Runs of words: several tables stand one behind the other in the lent words, each from a place of its own on, and each is read as a function.
-- Assumes nothing: these are definitions.
use Rattle.std.specs.Prelude.{◌+◌, ◌<◌, ℕ, List, ◌≡◌, get_or, length}

-- word i of the run that begins at place f
abbrev pub run : ℕ → List ℕ → ℕ → ℕ
run f w i = get_or w (f + i) 0

-- the k words from place f on are x, and the words before them are as they were
pub record Filled (f k x : ℕ) (w z : List ℕ) : Type 0 where
  pub long : length z ≡ length w
  pub here : (i : ℕ) → i < k → run f z i ≡ x
  pub front : (d : ℕ) → d < f → get_or z d 0 ≡ get_or w d 0
