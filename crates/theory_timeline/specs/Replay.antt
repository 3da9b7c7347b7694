-- The replay as a public call: what it is lent, its faults in their order, the answer bytes, the names and the three numbers, and what each lent table holds
-- afterwards.
-- Assumes nothing: these are definitions.
use Rattle.std.specs.Prelude.{◌*◌, ◌+◌, ℕ, Bool, cond, false, not, true, List, [], ◌++◌, ◌∷◌, map, ◌≡◌, eqb, ltb, length, replicate}
use Rattle.theory_graph.specs.Graph.{answer}
use Rattle.theory_graph.specs.Lists.{filter, over, pairs, range}
use Rattle.theory_names.specs.Names.{hangs, plain}
use Rattle.call_kinds.specs.Kinds.{kind_of}
use Rattle.call_kinds.specs.declared.Kind.{Kind}
use Rattle.call_kinds.specs.declared.Kind.TheVariants.{Closes, None, Opens, Query}
use Rattle.call_sizes.specs.Refusal.{Refusal, Row, first_fault, long_rows, row, seek, short_rows, bad_ends, bad_start}
use Rattle.call_sizes.specs.Sizes.{size_faults}
use Rattle.theory_timeline.specs.Events.{Event, SegmentSet}
use Rattle.theory_timeline.specs.Windows.{Timeline, asks_at, at_start, event, kept, open_before, open_graph, size}

-- ---- what a replay finds
-- the answer byte of event i: 3 where it opens or closes, else the answer over the roads open before it, each of them one edge
unfoldable pub byte : Timeline → ℕ → ℕ
byte g i = cond (asks_at g i) (answer (plain (open_graph g i)) (event g i).0 (event g i).1) 3

unfoldable pub bytes : Timeline → List ℕ
bytes g = map (byte g) (range 0 (size g))

-- the name that event i gets: "at a query with answer 1, the smallest name of an open road whose loss parts the two junctions; at every other event 65,535"
unfoldable pub name_at : Timeline → ℕ → ℕ
name_at g i = cond (asks_at g i) (hangs (open_graph g i) (event g i).0 (event g i).1) 65535

unfoldable pub names_at : Timeline → List ℕ
names_at g = map (name_at g) (range 0 (size g))

-- the queries, and the segments open at the end
unfoldable pub queries : Timeline → ℕ
queries g = length (filter (asks_at g) (range 0 (size g)))

unfoldable pub open_at_end : Timeline → ℕ
open_at_end g = length (filter (open_before g (size g)) (range 0 (length g.segments)))

-- ---- what is lent
pub record Lent : Type 0 where
  pub n : ℕ
  pub m : ℕ
  pub t : ℕ
  pub a : List ℕ
  pub b : List ℕ
  pub start : List ℕ
  pub x : List ℕ
  pub y : List ℕ
  pub answers : List ℕ
  pub names : List ℕ
  pub work : List ℕ

-- the network and the list. No entry of their tables is ignored: each table has just its size, or the call is refused (2, 12)
unfoldable pub given : Lent → Timeline
given l = record { junctions = l.n; segments = pairs l.a l.b; start = at_start l.start; events = pairs l.x l.y }

-- the required length of the work table
abbrev pub required : ℕ → ℕ → ℕ → ℕ
required t n m = 256 * t + 32 * n + 8 * m + 2048

-- ---- faults
-- the fault of an event with this Y, by its kind, where the segments of o are open before it and there are n junctions and m segments: 0, 5, 6 or 7
abbrev pub fault_of_kind : ℕ → ℕ → SegmentSet → ℕ → Kind → ℕ
fault_of_kind n m o y Query = cond (ltb y n) 0 5
fault_of_kind n m o y Opens = cond (ltb y m) (cond (o y) 6 0) 5
fault_of_kind n m o y Closes = cond (ltb y m) (cond (o y) 0 7) 5
fault_of_kind n m o y None = 5

unfoldable pub event_fault : ℕ → ℕ → SegmentSet → Event → ℕ
event_fault n m o e = fault_of_kind n m o e.1 (kind_of n e.0)

-- the fault of event i
unfoldable pub fault_at : Lent → ℕ → ℕ
fault_at l i = event_fault l.n l.m (open_before (given l) i) (event (given l) i)

-- refusal 2: the length of each table, and its least length. First the tables that the sibling (document 02, No. 8) is lent too, which `rest` follow
abbrev pub lengths_with : List (ℕ × ℕ) → Lent → List (ℕ × ℕ)
lengths_with rest l =
    (length l.a, l.m)
    ∷ (length l.b, l.m)
    ∷ (length l.start, l.m)
    ∷ (length l.x, l.t)
    ∷ (length l.y, l.t)
    ∷ (length l.answers, l.t)
    ∷ rest

-- the name table, and the work table
abbrev pub own_lengths : Lent → List (ℕ × ℕ)
own_lengths l = (length l.names, l.t) ∷ (length l.work, required l.t l.n l.m) ∷ []

abbrev pub table_lengths : Lent → List (ℕ × ℕ)
table_lengths l = lengths_with (own_lengths l) l

abbrev pub short_tables : Lent → List Row
short_tables l = short_rows (table_lengths l)

-- document 02, No. 7: "A, B, the starting table, X and Y must have exactly their stated lengths"
pub record Exact (m t : ℕ) (a b start x y : List ℕ) : Type 0 where
  pub a_exact : length a ≡ m
  pub b_exact : length b ≡ m
  pub start_exact : length start ≡ m
  pub x_exact : length x ≡ t
  pub y_exact : length y ≡ t

-- refusal 12: the size of each of these tables, and its length. The tables that are written may be longer: entries past the sizes are ignored there, and stay
abbrev pub read_lengths : Lent → List (ℕ × ℕ)
read_lengths l =
    (l.m, length l.a) ∷ (l.m, length l.b) ∷ (l.m, length l.start) ∷ (l.t, length l.x) ∷ (l.t, length l.y) ∷ []

abbrev pub long_tables : Lent → List Row
long_tables l = long_rows (read_lengths l)

-- refusal 3: the share is below 4 or above 12
abbrev pub share_faults : ℕ → List Row
share_faults p = row (ltb p 4) 3 0 ∷ row (ltb 12 p) 3 0 ∷ []

-- 4 at the first segment with an end not below N, then 11 at the first starting entry above 1, then the first event that shows 5, 6 or 7
unfoldable pub list_faults : Lent → List Row
list_faults l =
    let s : ℕ = seek (bad_ends l.n l.a l.b) 0 l.m in
    let u : ℕ = seek (bad_start l.start) 0 l.m in
    let i : ℕ = seek (λ i. not (eqb (fault_at l i) 0)) 0 l.t in
    row (ltb s l.m) 4 s ∷ row (ltb u l.m) 11 u ∷ row (ltb i l.t) (fault_at l i) i ∷ []

-- 1, 2, 12, 3, then those of the list; 2 speaks of the tables of `rest` too
abbrev pub faults_with : List (ℕ × ℕ) → Lent → ℕ → List Row
faults_with rest l p = size_faults l.n l.m l.t 0 ++ (short_rows (lengths_with rest l) ++ (long_tables l ++ (share_faults p ++ list_faults l)))

unfoldable pub faults : Lent → ℕ → List Row
faults l p = faults_with (own_lengths l) l p

unfoldable pub fault : Lent → ℕ → Refusal
fault l p = first_fault (faults l p)

-- nothing is wrong with what is lent
abbrev pub Faultless : Lent → ℕ → Type 0
Faultless l p = (fault l p).0 ≡ 0

-- ---- what is returned, and what the tables hold afterwards
pub record Outcome : Type 0 where
  -- whether the reply is the one of an accepted call: with the numbers alone, a refusal with the number 0 could pass for an empty result
  pub accepted : Bool
  -- 0, or the refusal's number; and its place
  pub code : ℕ
  pub place : ℕ
  pub queries : ℕ
  pub opened : ℕ
  pub kept : ℕ
  -- the tables that may be written; the others are only read
  pub answers : List ℕ
  pub names : List ℕ
  pub work : List ℕ

unfoldable pub done : Lent → ℕ → Outcome
done l p = record {
  accepted = true;
  code = 0;
  place = 0;
  queries = queries (given l);
  opened = open_at_end (given l);
  kept = kept (given l) p;
  answers = over (bytes (given l)) l.answers;
  names = over (names_at (given l)) l.names;
  work = over (replicate (required l.t l.n l.m) 0) l.work;
}

unfoldable pub refused : Lent → Refusal → Outcome
refused l f = record {
  accepted = false;
  code = f.0;
  place = f.1;
  queries = 0;
  opened = 0;
  kept = 0;
  answers = l.answers;
  names = l.names;
  work = l.work;
}

-- the outcome that a call with these sizes, tables and share must have
unfoldable pub replay : Lent → ℕ → Outcome
replay l p = elim (eqb (fault l p).0 0) [ true ↦ done l p | false ↦ refused l (fault l p) ]
