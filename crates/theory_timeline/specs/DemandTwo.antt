-- Demand 2 at the windows of one event: the answer of a query is read off its small graph. One node is 2, two joined nodes 1, two others 0.
-- And so is its name: that of the one edge, 65,535 where there is none.
-- Assumes nothing: these are definitions.
use Rattle.std.specs.Prelude.{◌<◌, ℕ, cond, ◌≡◌, get_or}
use mathlib.Core.List.{Memᴰ}
use Rattle.theory_graph.specs.SmallGraph.{read_off}
use Rattle.theory_names.specs.NamedSmallGraph.{read_name}
use Rattle.theory_timeline.specs.Replay.{Lent, Outcome, given}
use Rattle.theory_timeline.specs.Windows.{asks_at, small, small_named, windows}

-- each event has a window of its own, and an accepted replay's byte of it is 3, or read off that window's small graph; its name is 65,535, or read off it too
pub record Demand2 (l : Lent) (p : ℕ) (r : Outcome) : Type 0 where
  pub window : (i : ℕ) → i < l.t → Memᴰ (i, 1) (windows p l.t)
  pub byte : (i : ℕ) → i < l.t → get_or r.answers i 0
      ≡ cond (asks_at (given l) i) (read_off (small (given l) (i, 1)).nodes (small (given l) (i, 1)).edges) 3
  pub name : (i : ℕ) → i < l.t → get_or r.names i 0 ≡ cond (asks_at (given l) i) (read_name (small_named (given l) (i, 1))) 65535
