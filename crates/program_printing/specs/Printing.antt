-- What printing writes. Assumes nothing: these are definitions.
use Rattle.std.specs.Prelude.{◌+◌, ℕ, List, ◌≡◌, length}
use Rattle.std.proofs.lemmas.List.Edits.{sets}

-- from a to b the text is written at `at`, and the next goes to r
pub record Wrote (at : ℕ) (text a b : List ℕ) (r : ℕ) : Type 0 where
  pub table : b ≡ sets a at text
  pub next : r ≡ at + length text
