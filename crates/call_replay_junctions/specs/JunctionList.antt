-- What the checks of the sibling find; what the windows of a whole list are given, and what they leave.
-- Assumes nothing: these are definitions.
use Rattle.std.specs.Prelude.{◌*◌, ◌+◌, ℕ, List, ◌≡◌, Result, length}
use Rattle.std.proofs.lemmas.List.Edits.{sets}
use Rattle.call_sizes.specs.declared.Refusal.{Refusal}
use Rattle.replay_checks.specs.Check.{CheckedTables}
use Rattle.replay_events.specs.Writing.{list_of}
use Rattle.replay_start.specs.Whole.{ListReadyOf}
use Rattle.theory_graph.specs.Lists.{table}
use Rattle.theory_timeline.specs.Replay.{Lent}
use Rattle.theory_junction_timeline.specs.JunctionReplay.{junction_byte, junction_lengths}

-- the first fault, by the length of the sibling's work table too; where there is none, how many segments are open at the end
abbrev pub JunctionChecked : Lent → ℕ → Result ℕ Refusal → Type 0
JunctionChecked l p r = CheckedTables (junction_lengths l) l p r

-- a list without a fault, tables of just its sizes, and room
abbrev pub JunctionListReady : ℕ → ℕ → List ℕ → List ℕ → List ℕ → List ℕ → List ℕ → List ℕ → List ℕ → Type 0
JunctionListReady n p a b start x y answers work = ListReadyOf (345 * length x + 28 * n + 8 * length a) n p a b start x y answers work

abbrev pub JunctionListReplied : ℕ → List ℕ → List ℕ → List ℕ → List ℕ → List ℕ → List ℕ → List ℕ → Type 0
JunctionListReplied n a b start x y before after = after ≡ sets before 0 (table (junction_byte (list_of n a b start x y)) 0 (length x))
