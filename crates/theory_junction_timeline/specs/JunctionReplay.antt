-- Document 02, No. 8, "the loss of a junction": the sibling of the replay, on the same tables but for the name table. The byte of a query, the faults in their
-- order, the outcome and what the lent tables hold afterwards.
-- It cites, of theory_timeline: Lent, given, the rows of each refusal, open_graph, queries, open_at_end; of theory_junctions: reply.
-- Assumes nothing: these are definitions.
use Rattle.std.specs.Prelude.{◌*◌, ◌+◌, ℕ, Bool, ◌&&◌, cond, false, not, true, List, [], ◌∷◌, map, ◌≡◌, eqb, get_or, length, replicate}
use Rattle.theory_graph.specs.Lists.{over, range}
use Rattle.theory_names.specs.Names.{plain}
use Rattle.theory_junctions.specs.Reply.{reply}
use Rattle.call_sizes.specs.Refusal.{Refusal, first_fault}
use Rattle.theory_timeline.specs.Events.{SegmentSet}
use Rattle.theory_timeline.specs.Replay.{Lent, faults_with, given, open_at_end, queries}
use Rattle.theory_timeline.specs.Windows.{Timeline, asks_at, event, open_graph, size}

-- ---- what the sibling finds
-- the byte of event i: 3 where it opens or closes; else, over the roads open before it, "0 if the two junctions aren't joined, 1 if they are joined and the loss
-- of some third junction parts them, and 2 otherwise"
unfoldable pub junction_byte : Timeline → ℕ → ℕ
junction_byte g i = cond (asks_at g i) (reply (plain (open_graph g i)) (event g i).0 (event g i).1) 3

unfoldable pub junction_bytes : Timeline → List ℕ
junction_bytes g = map (junction_byte g) (range 0 (size g))

-- of the segments of o those that do not meet junction c: what its loss leaves
unfoldable pub sparing : Timeline → ℕ → SegmentSet → SegmentSet
sparing g c o s = o s && (not (eqb (get_or g.segments s (0, 0)).0 c) && not (eqb (get_or g.segments s (0, 0)).1 c))

-- ---- faults
-- the required length of the work table
abbrev pub junction_required : ℕ → ℕ → ℕ → ℕ
junction_required t n m = 1024 * t + 32 * n + 8 * m + 2048

-- refusal 2 speaks of the work table too, and of no name table: what a Lent has in its place is never looked at
abbrev pub junction_lengths : Lent → List (ℕ × ℕ)
junction_lengths l = (length l.work, junction_required l.t l.n l.m) ∷ []

-- "the same refusals": 1, 2, 12, 3, then those of the list
unfoldable pub junction_fault : Lent → ℕ → Refusal
junction_fault l p = first_fault (faults_with (junction_lengths l) l p)

-- nothing is wrong with what is lent
abbrev pub JunctionFaultless : Lent → ℕ → Type 0
JunctionFaultless l p = (junction_fault l p).0 ≡ 0

-- ---- what is returned, and what the tables hold afterwards
pub record JunctionOutcome : Type 0 where
  -- whether the reply is the one of an accepted call
  pub accepted : Bool
  -- 0, or the refusal's number; and its place
  pub code : ℕ
  pub place : ℕ
  pub queries : ℕ
  pub opened : ℕ
  -- the tables that may be written; the others are only read
  pub answers : List ℕ
  pub work : List ℕ

unfoldable pub junction_done : Lent → JunctionOutcome
junction_done l = record {
  accepted = true;
  code = 0;
  place = 0;
  queries = queries (given l);
  opened = open_at_end (given l);
  answers = over (junction_bytes (given l)) l.answers;
  work = over (replicate (junction_required l.t l.n l.m) 0) l.work;
}

unfoldable pub junction_refused : Lent → Refusal → JunctionOutcome
junction_refused l f = record {
  accepted = false;
  code = f.0;
  place = f.1;
  queries = 0;
  opened = 0;
  answers = l.answers;
  work = l.work;
}

-- the outcome that a call with these sizes, tables and share must have
unfoldable pub replay_junctions : Lent → ℕ → JunctionOutcome
replay_junctions l p = elim (eqb (junction_fault l p).0 0) [ true ↦ junction_done l | false ↦ junction_refused l (junction_fault l p) ]
