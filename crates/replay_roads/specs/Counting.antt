-- The segments of each road that are open at the start are counted in one pass over the starting table, by the names of the roads. From place q on stand the names,
-- and behind them the counts. In order: the whole; one segment; the pass.
-- Assumes nothing: these are definitions.
use Rattle.std.specs.Prelude.{◌*◌, ◌+◌, ◌<◌, ◌≤◌, ℕ, ◌&&◌, List, ◌≡◌, eqb, get_or, length, set}
use Rattle.theory_graph.specs.Lists.{filter, pairs, range}
use Rattle.theory_timeline.specs.Events.{SegmentSet}
use Rattle.theory_timeline.specs.Roads.{road}
use Rattle.theory_timeline.specs.Tags.{open_segments}
use Rattle.theory_timeline.specs.Windows.{at_start}
use Rattle.replay_roads.specs.Naming.{SegmentTables}
use Rattle.replay_roads.specs.Runs.{run}

-- ---- the whole
-- the segments of two tables with ends below n, and the starting table
pub record RoadTables (n : ℕ) (a b start : List ℕ) : Type 0 where
  pub segments : SegmentTables n a b
  pub start_long : length start ≡ length a

-- from place q on: the name of each segment's road, and behind these names, by the name of a road, how many of its segments are open at the start
pub record RoadsCounted (a b start : List ℕ) (q : ℕ) (w z : List ℕ) : Type 0 where
  pub long : length z ≡ length w
  pub names : (s : ℕ) → s < length a → get_or z (q + s) 0 ≡ road (pairs a b) s
  pub counts : (r : ℕ) → r < length a → get_or z (q + length a + r) 0 ≡ open_segments (pairs a b) (at_start start) r

-- ---- one segment
-- segment s, of m segments, has a name, whose count may grow
pub record CanCount (m q s : ℕ) (w : List ℕ) : Type 0 where
  pub room : q + 2 * m ≤ length w
  pub less : s < m
  pub name : run q w s < m
  pub count : run (q + m) w (run q w s) < 8192

-- the words with segment s counted: one more of its road
abbrev pub one_more : ℕ → ℕ → ℕ → List ℕ → List ℕ
one_more m q s w = set w (q + m + run q w s) (run (q + m) w (run q w s) + 1)

-- ---- the pass
-- of the first k segments, how many of o have the name r
unfoldable pub count_open : SegmentSet → (ℕ → ℕ) → ℕ → ℕ → ℕ
count_open o name k r = length (filter (λ s. o s && eqb r (name s)) (range 0 k))

-- the first k segments are counted, by the names that stood in the words w, which stay
pub record Counting (start : List ℕ) (q : ℕ) (w z : List ℕ) (k : ℕ) : Type 0 where
  pub much : length start ≤ 8192
  pub most : k ≤ length start
  pub room : q + 2 * length start ≤ length w
  pub fits : (s : ℕ) → s < length start → run q w s < length start
  pub long : length z ≡ length w
  pub names : (s : ℕ) → s < length start → run q z s ≡ run q w s
  pub counts : (r : ℕ) → r < length start → run (q + length start) z r ≡ count_open (at_start start) (run q w) k r
