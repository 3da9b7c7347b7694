-- A whole list, in either replay: what it is given, and what it leaves.
-- Assumes nothing: these are definitions.
use Rattle.std.specs.Prelude.{◌*◌, ◌+◌, ◌≤◌, ℕ, List, length}
use Rattle.replay_events.specs.Writing.{CanWriteEvents}
use Rattle.theory_timeline.specs.DemandThree.{Allowed}
use Rattle.theory_timeline.specs.Windows.{Timeline}

-- A list without a fault, tables that are long enough for its events, and words behind the events and the roads: for its area and the reduction of its graph, and
-- for its windows.
pub record ListReadyBy {T : Type 0} (words window : ℕ) (room : ℕ → ℕ → ℕ → ℕ) (Long : ℕ → T → Type 0) (n p : ℕ) (a b start x y : List ℕ) (t : T) (work : List ℕ) : Type 0 where
  pub events : CanWriteEvents n a b start x y work
  pub share : Allowed p
  pub long : Long (length x) t
  pub whole : 5 * length x + 2 * length a + words * length x + room n (length a) (length x) ≤ length work
  pub windows : 5 * length x + 2 * length a + window * length x ≤ length work

-- the replies of all its t events are written
pub record ListRepliedBy {T : Type 0} (Same : T → T → Type 0) (Wrote : Timeline → ℕ → ℕ → ℕ → T → T → ℕ → Type 0) (g : Timeline) (p t : ℕ) (before after : T) (kept : ℕ) : Type 0 where
  pub same : Same before after
  pub replied : Wrote g p 0 t before after kept
