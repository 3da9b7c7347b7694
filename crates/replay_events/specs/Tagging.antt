-- The pass that makes the tags, with a count of open segments for each road. The name of a segment's road stands from place `names` on, the count of a road,
-- by its name, from place `counts` on; the tag of event i stands at 2 t + 3 i. Tags and counts are given by the kinds of the events, by the names, and by the
-- counts before the first event.
-- Assumes nothing: these are definitions.
use Rattle.std.specs.Prelude.{◌*◌, ◌+◌, ◌-◌, ◌<◌, ◌≤◌, suc, zero, ℕ, ◌&&◌, cond, false, not, true, List, ◌≡◌, eqb, ltb, get_or, length, set}
use Rattle.call_kinds.specs.Kinds.{is_closing, is_query, kind_of}
use Rattle.call_kinds.specs.declared.Kind.{Kind}
use Rattle.call_kinds.specs.declared.Kind.TheVariants.{Closes, None, Opens, Query}
use Rattle.replay_events.specs.Kinds.{kind_at}
use Rattle.replay_roads.specs.Runs.{run}
use Rattle.theory_timeline.specs.Tags.{bit}

-- ---- one event
-- the count of a road after an event of this kind that names one of its segments
unfoldable pub count_after : Kind → ℕ → ℕ
count_after k c = elim k [ Query ↦ c | Opens ↦ c + 1 | Closes ↦ c - 1 | None ↦ c ]

-- the tag of such an event by its road, and by the counts before and after it
abbrev pub tag_by : ℕ → ℕ → ℕ → ℕ
tag_by r c d = 1 + 4 * r + 2 * bit (ltb 0 c) + bit (ltb 0 d)

-- an event that names segment s: its road has a name below 8,192 and a count, and where it closes, an open segment
pub record ChangeReady (n x s names counts at : ℕ) (w : List ℕ) : Type 0 where
  pub room : at < length w
  pub segment : names + s < length w
  pub name : run names w s < 8192
  pub road : counts + run names w s < length w
  pub most : run counts w (run names w s) ≤ 12288
  pub some : is_closing (kind_of n x) ≡ true → 0 < run counts w (run names w s)

-- its road's count changes, and its tag is written
abbrev pub ChangePut : (n x s names counts at : ℕ) (w z : List ℕ) → Type 0
ChangePut n x s names counts at w z = (r c d : ℕ) → r ≡ run names w s → c ≡ run counts w r → d ≡ count_after (kind_of n x) c
    → z ≡ set (set w (counts + r) d) at (tag_by r c d)

-- any event: the tag of a query is 0
pub record TagReady (n x s names counts at : ℕ) (w : List ℕ) : Type 0 where
  pub room : at < length w
  pub named : is_query (kind_of n x) ≡ false → ChangeReady n x s names counts at w

pub record TagPut (n x s names counts at : ℕ) (w z : List ℕ) : Type 0 where
  pub query : is_query (kind_of n x) ≡ true → z ≡ set w at 0
  pub change : is_query (kind_of n x) ≡ false → ChangePut n x s names counts at w z

-- ---- all events
-- the count of road r before event i: N gives the name of a segment's road, C the counts before the first event
unfoldable pub counts_by : ℕ → List ℕ → List ℕ → (ℕ → ℕ) → (ℕ → ℕ) → ℕ → ℕ → ℕ
counts_by n x y N C zero r = C r
counts_by n x y N C (suc i) r =
    cond (not (is_query (kind_at n x i)) && eqb r (N (get_or y i 0))) (count_after (kind_at n x i) (counts_by n x y N C i r)) (counts_by n x y N C i r)

-- the count of the road that event i names, before it
abbrev pub count_at : ℕ → List ℕ → List ℕ → (ℕ → ℕ) → (ℕ → ℕ) → ℕ → ℕ
count_at n x y N C i = counts_by n x y N C i (N (get_or y i 0))

-- the tag of event i
unfoldable pub tags_by : ℕ → List ℕ → List ℕ → (ℕ → ℕ) → (ℕ → ℕ) → ℕ → ℕ
tags_by n x y N C i =
    cond (is_query (kind_at n x i)) 0 (tag_by (N (get_or y i 0)) (count_at n x y N C i) (count_after (kind_at n x i) (count_at n x y N C i)))

-- events that name segments with a road below 8,192 and a count of it; where one closes, some segment of its road is open
pub record TagsReady (n : ℕ) (x y : List ℕ) (names counts : ℕ) (w : List ℕ) : Type 0 where
  pub much : length x ≤ 4096
  pub y_long : length y ≡ length x
  pub apart : (5 * length x ≤ names) × (names ≤ counts) × (counts ≤ length w)
  pub named : (i : ℕ) → i < length x → is_query (kind_at n x i) ≡ false
      → (names + get_or y i 0 < counts) × (run names w (get_or y i 0) < 8192) × (counts + run names w (get_or y i 0) < length w)
      × (run counts w (run names w (get_or y i 0)) ≤ 8192)
  pub some : (i : ℕ) → i < length x → is_closing (kind_at n x i) ≡ true → 0 < count_at n x y (run names w) (run counts w) i

-- the tags of the first i events are written, and the counts are those before event i; before the counts nothing else changes
pub record Tagged (n : ℕ) (x y : List ℕ) (names counts : ℕ) (w z : List ℕ) (i : ℕ) : Type 0 where
  pub long : length z ≡ length w
  pub tags : (j : ℕ) → j < i → get_or z (2 * length x + 3 * j) 0 ≡ tags_by n x y (run names w) (run counts w) j
  pub counted : (r : ℕ) → counts + r < length w → run counts z r ≡ counts_by n x y (run names w) (run counts w) i r
  pub else : (d : ℕ) → d < counts → ((j : ℕ) → j < i → d ≡ 2 * length x + 3 * j → ⊥) → get_or z d 0 ≡ get_or w d 0
