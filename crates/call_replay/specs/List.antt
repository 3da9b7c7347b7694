-- What the checks find; what the windows of a whole list are given, and what they leave.
-- Assumes nothing: these are definitions.
use Rattle.std.specs.Prelude.{◌*◌, ◌+◌, ◌≤◌, ℕ, List, Result, length}
use Rattle.call_sizes.specs.declared.Refusal.{Refusal}
use Rattle.replay_checks.specs.Check.{CheckedTables}
use Rattle.replay_events.specs.Writing.{list_of}
use Rattle.replay_start.specs.Whole.{ListReadyOf}
use Rattle.replay_windows.specs.Descent.{Replied, Written}
use Rattle.theory_timeline.specs.Replay.{Lent, own_lengths}

-- the first fault by the lengths of the replay's own tables, too; where there is none, how many segments are open at the end
abbrev pub ReplayChecked : Lent → ℕ → Result ℕ Refusal → Type 0
ReplayChecked l p r = CheckedTables (own_lengths l) l p r

-- a list without a fault, tables of just its sizes, and room
pub record ListReady (n p : ℕ) (a b start x y answers names work : List ℕ) : Type 0 where
  pub ready : ListReadyOf (192 * length x + 16 * n + 8 * length a) n p a b start x y answers work
  pub names_long : length x ≤ length names

abbrev pub ListReplied : ℕ → ℕ → List ℕ → List ℕ → List ℕ → List ℕ → List ℕ → Written → Written → ℕ → Type 0
ListReplied n p a b start x y before after kept = Replied (list_of n a b start x y) 0 (length x) p before after kept
