-- What a loop over the words leaves as it is: all but some fields of the nodes.
-- Assumes nothing: these are definitions.
use Rattle.std.specs.Prelude.{ℕ, ◌<◌, false, List, ◌≡◌, length}
use Rattle.theory_graph.specs.Lists.{member}
use Rattle.core_words.specs.Fields.{node, half}

-- from a to b only the fields fs of the n nodes change; every other field, and every word behind the nodes, stays
pub record OnlyFields (fs : List ℕ) (n : ℕ) (a b : List ℕ) : Type 0 where
  pub same : length b ≡ length a
  pub nodes : (j : ℕ) → j < 16 → member fs j ≡ false → node j b ≡ node j a
  pub halves : (j : ℕ) → half n j b ≡ half n j a
