-- The numbers of the active nodes, as the caller finds them: MAPPED of an active node becomes the number of its class.
-- Assumes nothing: these are definitions.
use Rattle.std.specs.Prelude.{ℕ, ◌*◌, ◌-◌, ◌<◌, ◌≤◌, List, [], ◌∷◌, ◌≡◌, length}
use Rattle.core_branches.specs.Classes.{HasNumber}
use Rattle.core_words.specs.Changes.{OnlyFields}
use Rattle.core_words.specs.Fields.{ACTIVE, MAPPED, NUMBER, TOP, node}

pub record CanWrite (n k : ℕ) (w : List ℕ) : Type 0 where
  pub room : 16 * n ≤ length w
  pub less : k ≤ n
  pub placed : (i : ℕ) → i < k → HasNumber n w (node ACTIVE w i)

-- the first i active nodes have their numbers
pub record WritingNumbers (n : ℕ) (a : List ℕ) (i : ℕ) (w : List ℕ) : Type 0 where
  pub rest : OnlyFields (MAPPED ∷ []) n a w
  pub numbers : (j : ℕ) → j < i → node MAPPED w (node ACTIVE a j) ≡ node NUMBER a (node TOP a (node ACTIVE a j)) - 1
