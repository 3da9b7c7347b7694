-- What a step reads of an event, in three words: its tag, and which events behind and before it name the same key. With them the roads that a part adds
-- are told event by event, and neither the tables of the events nor a set of open segments goes down the windows.
-- A key is the name of the road of the segment that an event names. The tags come from one pass over the events with a count of open segments for each road.
-- Assumes nothing: these are definitions.
use Rattle.std.specs.Prelude.{◌%◌, ◌*◌, ◌+◌, ◌-◌, ◌/◌, suc, zero, ℕ, Bool, ◌&&◌, cond, List, [], ◌∷◌, eqb, leb, ltb, length}
use Rattle.call_sizes.specs.Refusal.{seek}
use Rattle.theory_graph.specs.Graph.{Edge}
use Rattle.theory_graph.specs.Lists.{filter, range}
use Rattle.theory_names.specs.Names.{Entry, Named}
use Rattle.theory_timeline.specs.Events.{SegmentSet, ends, names_road}
use Rattle.theory_timeline.specs.Roads.{road}
use Rattle.theory_timeline.specs.Windows.{Timeline, Window, changes_at, event, open_before, roads_before, size}

-- ---- the words of an event
-- the key that an event names: the road of its segment
abbrev pub key : Timeline → ℕ → ℕ
key g i = road g.segments (event g i).1

-- event i opens or closes a segment of the road k
abbrev pub names_key : Timeline → ℕ → ℕ → Bool
names_key g k i = names_road g.junctions g.segments (event g i) k

-- how many segments of road r are open, where the segments of o are; the road is open where this is not 0. And before event i of a list.
unfoldable pub open_segments : List Edge → SegmentSet → ℕ → ℕ
open_segments segs o r = length (filter (λ s. o s && eqb r (road segs s)) (range 0 (length segs)))

abbrev pub open_count : Timeline → ℕ → ℕ → ℕ
open_count g i r = open_segments g.segments (open_before g i) r

abbrev pub bit : Bool → ℕ
bit b = cond b 1 0

-- 1 + 4 · key + 2 · (open just before) + (open just after)
unfoldable pub tag : Timeline → ℕ → ℕ
tag g i = 1 + 4 * key g i + 2 * bit (roads_before g i (key g i)) + bit (roads_before g (i + 1) (key g i))

-- the next event that names the key of event i; the number of events where there is none
unfoldable pub next : Timeline → ℕ → ℕ
next g i = seek (names_key g (key g i)) (i + 1) (size g - (i + 1))

-- one more than the last of the first k numbers that passes; 0 where none does
abbrev pub seek_last : (ℕ → Bool) → ℕ → ℕ
seek_last f zero = 0
seek_last f (suc k) = cond (f k) (suc k) (seek_last f k)

-- one more than the last event before event i that names its key; 0 where there is none
unfoldable pub last : Timeline → ℕ → ℕ
last g i = seek_last (names_key g (key g i)) i

-- the words of event i: 0 where it names no segment
unfoldable pub word : Timeline → ℕ → ℕ → ℕ
word g zero i = cond (changes_at g i) (tag g i) 0
word g (suc zero) i = cond (changes_at g i) (next g i) 0
word g (suc (suc k)) i = cond (changes_at g i) (last g i) 0

-- those of the n events from i on
unfoldable pub event_words : Timeline → ℕ → ℕ → List ℕ
event_words g i zero = []
event_words g i (suc n) = word g 0 i ∷ word g 1 i ∷ word g 2 i ∷ event_words g (suc i) n

-- ---- what a step adds
-- what a tag says
abbrev pub key_of : ℕ → ℕ
key_of t = (t - 1) / 4

abbrev pub was_open : ℕ → Bool
was_open t = eqb ((t - 1) / 2 % 2) 1

abbrev pub is_open_after : ℕ → Bool
is_open_after t = eqb ((t - 1) % 2) 1

-- Event i of the window w, beside its part c, adds its key by its words t, x and y: before the part where the next event of the key lies behind the part
-- and the key is open after it, behind the part where the last event of the key lies before the window and the key is open before it.
unfoldable pub adds : Window → Window → ℕ → ℕ → ℕ → ℕ → Bool
adds w c i t x y = ltb 0 t && cond (ltb i c.0) (leb (c.0 + c.1) x && is_open_after t) (leb y w.0 && was_open t)

-- event i of a list does
abbrev pub adds_event : Timeline → Window → Window → ℕ → Bool
adds_event g w c i = adds w c i (word g 0 i) (word g 1 i) (word g 2 i)

-- of n events from i on, the entries of those that pass
abbrev pub pick_events : (ℕ → Bool) → (ℕ → Entry) → ℕ → ℕ → Named
pick_events f E i zero = []
pick_events f E i (suc n) = cond (f i) (E i ∷ pick_events f E (suc i) n) (pick_events f E (suc i) n)

-- the two junctions of event i
abbrev pub ends_at : Timeline → ℕ → Edge
ends_at g i = ends g.junctions g.segments (event g i)

-- the edge between them, with the key of event i as its name
abbrev pub entry_at : Timeline → ℕ → Entry
entry_at g i = (ends_at g i, key g i)
