-- What the passes over the events write: word k of event j stands at 2 t + 3 j + k, behind the 2 t junctions. The links by the tags, and the whole.
-- Assumes nothing: these are definitions.
use Rattle.std.specs.Prelude.{◌*◌, ◌+◌, ◌-◌, ◌<◌, ◌≤◌, ℕ, Bool, ◌&&◌, cond, false, true, List, ◌≡◌, eqb, ltb, get_or, length, set, take}
use Rattle.call_sizes.specs.Refusal.{seek}
use Rattle.theory_graph.specs.Lists.{pairs}
use Rattle.call_kinds.specs.Kinds.{is_query}
use Rattle.replay_events.specs.Kinds.{kind_at}
use Rattle.replay_step.specs.Area.{EventsIn}
use Rattle.theory_timeline.specs.Steps.{Sound}
use Rattle.theory_timeline.specs.Tags.{key_of, open_count, seek_last}
use Rattle.theory_timeline.specs.Windows.{Timeline, at_start}

-- ---- by tags
-- the tags that stand in the words
abbrev pub tags_in : ℕ → List ℕ → ℕ → ℕ
tags_in t w j = get_or w (2 * t + 3 * j) 0

-- the tag names the key k
abbrev pub names_tag : (ℕ → ℕ) → ℕ → ℕ → Bool
names_tag T k j = ltb 0 (T j) && eqb k (key_of (T j))

unfoldable pub last_by : (ℕ → ℕ) → ℕ → ℕ
last_by T j = cond (ltb 0 (T j)) (seek_last (names_tag T (key_of (T j))) j) 0

unfoldable pub next_by : (ℕ → ℕ) → ℕ → ℕ → ℕ
next_by T t j = cond (ltb 0 (T j)) (seek (names_tag T (key_of (T j))) (j + 1) (t - (j + 1))) 0

-- ---- in the words
-- room for two junctions an event, and each event that is no query names a segment
pub record CanPlace (n : ℕ) (a b x y w : List ℕ) : Type 0 where
  pub events : length y ≡ length x
  pub room : 2 * length x ≤ length w
  pub named : (i : ℕ) → i < length x → is_query (kind_at n x i) ≡ false → (get_or y i 0 < length a) × (get_or y i 0 < length b)

-- from w to z word k of the events from a up to b becomes f, and nothing else changes
pub record Written (t k : ℕ) (f : ℕ → ℕ) (a b : ℕ) (w z : List ℕ) : Type 0 where
  pub long : length z ≡ length w
  pub here : (j : ℕ) → a ≤ j → j < b → get_or z (2 * t + 3 * j + k) 0 ≡ f j
  pub else : (d : ℕ) → ((j : ℕ) → a ≤ j → j < b → d ≡ 2 * t + 3 * j + k → ⊥) → get_or z d 0 ≡ get_or w d 0

-- t events, each tag of which has a key below 8,192
pub record TagsFit (t : ℕ) (w : List ℕ) : Type 0 where
  pub much : t ≤ 4096
  pub room : 5 * t ≤ length w
  pub keys : (j : ℕ) → j < t → tags_in t w j ≤ 32768

pub record LinkRoom (t i k : ℕ) (w : List ℕ) : Type 0 where
  pub less : i < t
  pub part : k < 3
  pub some : 0 < k
  pub much : t ≤ 4096
  pub room : 5 * t ≤ length w
  pub key : tags_in t w i ≤ 32768

-- one event: the head of its key becomes its word, and v the head; 0 for a query
pub record LinkedEvent (t i k v : ℕ) (heads w heads' w' : List ℕ) : Type 0 where
  pub change : ltb 0 (tags_in t w i) ≡ true
      → (w' ≡ set w (2 * t + 3 * i + k) (get_or heads (key_of (tags_in t w i)) 0)) × (heads' ≡ set heads (key_of (tags_in t w i)) v)
  pub query : ltb 0 (tags_in t w i) ≡ false → (w' ≡ set w (2 * t + 3 * i + k) 0) × (heads' ≡ heads)

-- ---- the whole
-- the list of these tables
abbrev pub list_of : ℕ → List ℕ → List ℕ → List ℕ → List ℕ → List ℕ → Timeline
list_of n a b start x y = record { junctions = n; segments = pairs a b; start = at_start start; events = pairs x y }

-- a list without a fault, and room for what is written: 5 t words at the front, and behind them the names of the roads, their counts, and scratch
pub record CanWriteEvents (n : ℕ) (a b start x y w : List ℕ) : Type 0 where
  pub sound : Sound (list_of n a b start x y)
  pub segments : length b ≡ length a
  pub start_long : length start ≡ length a
  pub events : length y ≡ length x
  pub much : length x ≤ 4096
  pub room : 5 * length x + 2 * length a + 2 * n ≤ length w

-- the events stand in the words, and behind the names how many segments of each road are open at the end
pub record EventsWritten (n : ℕ) (a b start x y z : List ℕ) : Type 0 where
  pub events : EventsIn (list_of n a b start x y) (0, length x) (λ u. u) (take (5 * length x) z)
  pub counts : (r : ℕ) → r < length a → get_or z (5 * length x + length a + r) 0 ≡ open_count (list_of n a b start x y) (length x) r
