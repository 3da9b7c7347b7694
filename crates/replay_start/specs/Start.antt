-- What is loaded for the whole list, piece by piece: the counts of the roads that its events name become 0, and then the roads that still have a count are
-- loaded as edges. The count of a road stands, by its name, from place `counts` on, behind the words of the events.
-- Assumes nothing: these are definitions.
use Rattle.std.specs.Prelude.{◌*◌, ◌+◌, ◌-◌, ◌<◌, ◌≤◌, ℕ, Bool, cond, List, ◌≡◌, ltb, drop, get_or, length}
use Rattle.core_words.specs.Fields.{NAME, TO, half}
use Rattle.replay_events.specs.Writing.{names_tag}
use Rattle.replay_roads.specs.Runs.{run}
use Rattle.theory_graph.specs.Lists.{any, range}
use Rattle.theory_names.specs.Names.{Entry}
use Rattle.theory_timeline.specs.Tags.{key_of}

-- ---- the keys that events name
-- the tags of the events whose words stand from `from` on, three to an event
abbrev pub tags_from : ℕ → List ℕ → ℕ → ℕ
tags_from from w j = get_or w (from + 3 * j) 0

-- one of the events from i up to j names the key s
abbrev pub named_by : ℕ → ℕ → ℕ → List ℕ → ℕ → Bool
named_by from i j w s = any (names_tag (tags_from from w) s) (range i (j - i))

-- t events, and a count for the key of each
pub record ClearReady (from t counts : ℕ) (w : List ℕ) : Type 0 where
  pub much : t ≤ 4096
  pub apart : from + 3 * t ≤ counts
  pub room : counts ≤ length w
  pub keys : (j : ℕ) → j < t → 0 < tags_from from w j → counts + key_of (tags_from from w j) < length w

-- the counts of the keys of the events from i up to j are 0, and nothing else changes
pub record Cleared (from i j counts : ℕ) (w z : List ℕ) : Type 0 where
  pub long : length z ≡ length w
  pub front : (d : ℕ) → d < counts → get_or z d 0 ≡ get_or w d 0
  pub left : (r : ℕ) → counts + r < length w → run counts z r ≡ cond (named_by from i j w r) 0 (run counts w r)

-- ---- the roads that are loaded
-- road j has a count
abbrev pub fixed : ℕ → List ℕ → ℕ → Bool
fixed counts w j = ltb 0 (run counts w j)

-- its edge, with its name
abbrev pub segment : List ℕ → List ℕ → ℕ → Entry
segment a b j = ((get_or a j 0, get_or b j 0), j)

-- k edges are loaded of a graph that has n nodes and whose words stand from s on, behind the counts; the roads from i up to j are to be loaded
pub record LoadReady (n s : ℕ) (a b : List ℕ) (counts i j k : ℕ) (v : List ℕ) : Type 0 where
  pub b_long : length b ≡ length a
  pub apart : counts + length a ≤ s
  pub order : i ≤ j
  pub inside : j ≤ length a
  pub much : length a ≤ 8192
  pub many : n ≤ 65536
  pub few : k ≤ i
  pub room : s + 16 * n + 6 * (k + (j - i)) ≤ length v
  pub nodes : (u : ℕ) → u < length a → (get_or a u 0 < n) × (get_or b u 0 < n)
  pub ends : (h : ℕ) → h < 2 * k → half n TO (drop s v) h < n
  pub names : (h : ℕ) → h < k → half n NAME (drop s v) (2 * h) < 65536
