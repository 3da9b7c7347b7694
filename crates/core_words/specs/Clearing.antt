-- Fields that are set to 0, at one node and at the first nodes.
-- Assumes nothing: these are definitions.
use Rattle.std.specs.Prelude.{ℕ, ◌<◌, true, List, ◌≡◌}
use Rattle.theory_graph.specs.Lists.{member}
use Rattle.core_words.specs.Changes.{OnlyFields}
use Rattle.core_words.specs.Fields.{node, update}

-- from a to b the fields fs of node v become 0, and nothing else changes
pub record ClearedNode (fs : List ℕ) (n v : ℕ) (a b : List ℕ) : Type 0 where
  pub rest : OnlyFields fs n a b
  pub zero : (j : ℕ) → j < 16 → member fs j ≡ true → node j b ≡ update (node j a) v 0

-- the fields fs of the first i nodes are 0, and only these fields have changed
pub record Cleared (fs : List ℕ) (n i : ℕ) (a b : List ℕ) : Type 0 where
  pub rest : OnlyFields fs n a b
  pub zero : (j : ℕ) → j < 16 → member fs j ≡ true → (v : ℕ) → v < i → node j b v ≡ 0
