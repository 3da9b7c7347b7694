-- The parts of a check. Assumes nothing: these are definitions.
use Rattle.std.specs.Prelude.{◌≤◌, ℕ, cond, not, IfOk, List, [], ◌++◌, ◌≡◌, Result, eqb, ltb, get_or, length, take}
use Rattle.call_open_set.specs.OpenSet.{bits, is_open}
use Rattle.call_sizes.specs.Numbers.{refused_by}
use Rattle.call_sizes.specs.Refusal.{Refusal, Row, first_fault, row, seek, short_rows}
use Rattle.call_sizes.specs.declared.Refusal as declared
use Rattle.theory_graph.specs.Lists.{pairs, sum}
use Rattle.theory_timeline.specs.Call.{lent_of}
use Rattle.theory_timeline.specs.Events.{Event, SegmentSet, after_all}
use Rattle.theory_timeline.specs.Replay.{Exact, Lent, event_fault, faults_with, given, lengths_with, list_faults, long_tables, open_at_end, share_faults}
use Rattle.theory_timeline.specs.Windows.{at_start}
use Rattle.theory_timeline.specs.declared.EventList.{EventList}

-- ---- events
-- event i, by its fault, where the segments of o are open before it
abbrev pub event_row : ℕ → ℕ → SegmentSet → Event → ℕ → Row
event_row n m o e i = row (not (eqb (event_fault n m o e) 0)) (event_fault n m o e) i

-- the fault of event i of a list, over n junctions and m segments, where those of o are open before it
unfoldable pub fault_of : ℕ → ℕ → SegmentSet → List Event → ℕ → ℕ
fault_of n m o evs i = event_fault n m (after_all n (take i evs) o) (get_or evs i (0, 0))

-- the first event of t that shows a fault
unfoldable pub events_fault : ℕ → ℕ → SegmentSet → List Event → ℕ → Refusal
events_fault n m o evs t =
    let i : ℕ = seek (λ i. not (eqb (fault_of n m o evs i) 0)) 0 t in
    cond (ltb i t) (fault_of n m o evs i, i) (0, 0)

-- an event without a fault, over at most 8,192 segments, where those of a set are open
pub record EventFits (n : ℕ) (held : List ℕ) (x y : ℕ) : Type 0 where
  pub words : length held ≡ 128
  pub m : ℕ
  pub much : m ≤ 8192
  pub fine : event_fault n m (is_open held) (x, y) ≡ 0

-- the first fault, and where there is none the set that is open at the end
pub record CheckedEvents (n m : ℕ) (o : SegmentSet) (evs : List Event) (t : ℕ) (r : Result (List ℕ) declared.Refusal) : Type 0 where
  pub refusal : refused_by r ≡ events_fault n m o evs t
  pub last : IfOk r (λ held. is_open held ≡ after_all n evs o)

-- ---- a whole input
-- refusals 2, 12 and 3, where the call's own tables have the lengths and least lengths of `rest`
abbrev pub bound_faults : List (ℕ × ℕ) → Lent → ℕ → List Row
bound_faults rest l p = short_rows (lengths_with rest l) ++ (long_tables l ++ share_faults p)

-- a list with its sizes within the limits
pub record SizesFit (l : EventList) : Type 0 where
  pub n_fits : l.n ≤ 4096
  pub m_fits : l.m ≤ 8192
  pub t_fits : l.t ≤ 4096

-- what is known where neither a size nor a length is refused
pub record CanCheckList (l : EventList) : Type 0 where
  pub sizes : SizesFit l
  pub exact : Exact l.m l.t l.a.now l.b.now l.start.now l.x.now l.y.now

-- what both replays are lent; of the tables that a call has beside them only the lengths play a part
abbrev pub tables_of : EventList → List ℕ → Lent
tables_of l answers = lent_of l answers [] []

-- the first fault of the ends, the starting table and the events; where there is none, the ones of the set that is open at the end
pub record CheckedList (l : EventList) (r : Result ℕ declared.Refusal) : Type 0 where
  pub refusal : refused_by r ≡ first_fault (list_faults (tables_of l []))
  pub last : IfOk r (λ open_last. (held : List ℕ) × (is_open held ≡ after_all l.n (pairs l.x.now l.y.now) (at_start l.start.now)) × (open_last ≡ sum (bits held)))

-- the first fault, by the lengths of `rest` too; where there is none, how many segments are open at the end
pub record CheckedTables (rest : List (ℕ × ℕ)) (l : Lent) (p : ℕ) (r : Result ℕ declared.Refusal) : Type 0 where
  pub refusal : refused_by r ≡ first_fault (faults_with rest l p)
  pub open_last : IfOk r (λ k. k ≡ open_at_end (given l))
