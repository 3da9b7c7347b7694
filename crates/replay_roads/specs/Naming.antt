-- The naming of roads in time linear in junctions and segments. The segments are threaded by their lower end, in ascending order; then, for each lower end v in
-- turn, the thread of v is walked, and for each higher end h the first segment from v to h is kept: it is the name of every later segment with these ends.
-- In order: ends; threads; names; both in the words; the names alone. The number m of the segments stands for 'no segment'.
-- Assumes nothing: these are definitions.
use Rattle.std.specs.Prelude.{◌*◌, ◌+◌, ◌<◌, ◌≤◌, max, min, ℕ, List, Option, None, Some, ◌≡◌, cond, get_or, length, ltb}
use Rattle.theory_graph.specs.Graph.{Edge}
use Rattle.theory_graph.specs.Lists.{pairs}
use Rattle.theory_timeline.specs.Roads.{road}
use Rattle.replay_roads.specs.Runs.{run}

-- ---- ends
-- the lower and the higher end of segment s
unfoldable pub low : List Edge → ℕ → ℕ
low segs s = min (get_or segs s (0, 0)).0 (get_or segs s (0, 0)).1

unfoldable pub high : List Edge → ℕ → ℕ
high segs s = max (get_or segs s (0, 0)).0 (get_or segs s (0, 0)).1

-- the segments of two tables, with ends below n
pub record SegmentTables (n : ℕ) (a b : List ℕ) : Type 0 where
  pub much : length a ≤ 8192
  pub b_long : length b ≡ length a
  pub ends : (s : ℕ) → s < length a → (get_or a s 0 < n) × (get_or b s 0 < n)

-- ---- threads
-- c is the first segment from k on whose end is v, or m where there is none
pub record FirstFrom (end : ℕ → ℕ) (v k m c : ℕ) : Type 0 where
  pub past : k ≤ c
  pub most : c ≤ m
  pub at : c < m → end c ≡ v
  pub gap : (t : ℕ) → k ≤ t → t < c → end t ≡ v → ⊥

-- the segments from s on are threaded: the head of v is the first of them whose end is v, and the link of each the next with its end
pub record Threads (end : ℕ → ℕ) (n m s : ℕ) (head link : ℕ → ℕ) : Type 0 where
  pub heads : (v : ℕ) → v < n → FirstFrom end v s m (head v)
  pub links : (t : ℕ) → s ≤ t → t < m → FirstFrom end (end t) (t + 1) m (link t)

-- ---- names
-- The segments with a lower end below v are named, and of those with the lower end v the ones below k; `first` has, for the higher end of each of the latter,
-- its name, and whatever else it has is the name of a road with that higher end.
pub record Naming (segs : List Edge) (n m v k : ℕ) (name first : ℕ → ℕ) : Type 0 where
  pub lower : (t : ℕ) → t < m → low segs t < v → name t ≡ road segs t
  pub here : (t : ℕ) → t < k → low segs t ≡ v → name t ≡ road segs t
  pub kept : (t : ℕ) → t < k → low segs t ≡ v → first (high segs t) ≡ road segs t
  pub fits : (h : ℕ) → h < n → first h < m → (high segs (first h) ≡ h) × (road segs (first h) ≡ first h)

-- ---- in the words
-- the segment that a word s names, of m segments
abbrev pub segment_or_none : ℕ → ℕ → Option ℕ
segment_or_none m s = cond (ltb s m) (Some s) None

-- from place q on: the names, n heads, n firsts, and the links
pub record RoadWords (n : ℕ) (a b : List ℕ) (q : ℕ) (w : List ℕ) (s v k : ℕ) : Type 0 where
  pub tables : SegmentTables n a b
  pub room : q + 2 * length a + 2 * n ≤ length w
  pub threads : Threads (low (pairs a b)) n (length a) s (run (q + length a) w) (run (q + length a + 2 * n) w)
  pub naming : Naming (pairs a b) n (length a) v k (run q w) (run (q + length a + n) w)

-- the names alone
pub record RoadsNamed (a b : List ℕ) (q : ℕ) (w z : List ℕ) : Type 0 where
  pub long : length z ≡ length w
  pub names : (s : ℕ) → s < length a → run q z s ≡ road (pairs a b) s
