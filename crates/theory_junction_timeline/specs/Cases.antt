-- Lists of the sibling as one table: what the definitions give, and what a slow program that removes each junction in turn gave.
-- proofs/Cases proves every row. A call is seen by its numbers and its answer table.
-- Assumes nothing: these are definitions.
use Rattle.std.specs.Prelude.{ℕ, List, [], ◌∷◌, ◌≡◌, length, replicate}
use Rattle.theory_timeline.specs.Replay.{Lent, byte, given}
use Rattle.theory_junction_timeline.specs.JunctionReplay.{JunctionOutcome, junction_byte, junction_required, replay_junctions}

-- code, place, queries, open, the answer table
abbrev pub Seen : Type 0
Seen = ℕ × ℕ × ℕ × ℕ × List ℕ

-- the sizes are the lengths of A and of X; answers of the least length, filled with 9; the work table has `work` entries, each of them 7
abbrev pub lent_with : ℕ → List ℕ → ℕ → List ℕ → List ℕ → List ℕ → List ℕ → Lent
lent_with work start n a b x y = record {
  n = n;
  m = length a;
  t = length x;
  a = a;
  b = b;
  start = start;
  x = x;
  y = y;
  answers = replicate (length x) 9;
  names = [];
  work = replicate work 7;
}

abbrev pub sibling_with : ℕ → List ℕ → ℕ → List ℕ → List ℕ → List ℕ → List ℕ → ℕ → Seen
sibling_with work start n a b x y p =
    let r : JunctionOutcome = replay_junctions (lent_with work start n a b x y) p in (r.code, r.place, r.queries, r.opened, r.answers)

-- with a work table of the least length, and the share 8
abbrev pub sibling : List ℕ → ℕ → List ℕ → List ℕ → List ℕ → List ℕ → Seen
sibling start n a b x y = sibling_with (junction_required (length x) n (length a)) start n a b x y 8

-- document 01's example: a triangle of segments, opened one after the other, with two queries of 0 and 2
abbrev pub triangle : ℕ → Seen
triangle = sibling_with 7288 (0 ∷ 0 ∷ 0 ∷ []) 3 (0 ∷ 1 ∷ 2 ∷ []) (1 ∷ 2 ∷ 0 ∷ []) (65535 ∷ 65535 ∷ 0 ∷ 65535 ∷ 0 ∷ []) (0 ∷ 1 ∷ 2 ∷ 2 ∷ 2 ∷ [])

-- two cycles of three roads each, which share junction 2
abbrev pub two_cycles : List ℕ → List ℕ → Seen
two_cycles = sibling (replicate 6 1) 5 (0 ∷ 1 ∷ 2 ∷ 2 ∷ 3 ∷ 4 ∷ []) (1 ∷ 2 ∷ 0 ∷ 3 ∷ 4 ∷ 2 ∷ [])

abbrev pub table : List (Seen × Seen)
table =
    -- the path 0-1-2: 0 and 2 are parted by the loss of 1; no third junction parts 0 and 1
    (sibling (1 ∷ 1 ∷ []) 3 (0 ∷ 1 ∷ []) (1 ∷ 2 ∷ []) (0 ∷ 0 ∷ []) (2 ∷ 1 ∷ []), (0, 0, 2, 2, 1 ∷ 2 ∷ []))
    -- a cycle of four: 2; with one of its roads closed: 1
    ∷ (
      sibling (replicate 4 1) 4 (0 ∷ 1 ∷ 2 ∷ 3 ∷ []) (1 ∷ 2 ∷ 3 ∷ 0 ∷ []) (0 ∷ 65534 ∷ 0 ∷ []) (2 ∷ 3 ∷ 3 ∷ []),
      (0, 0, 2, 3, 2 ∷ 3 ∷ 1 ∷ []),
    )
    -- from one cycle to the other the shared junction parts, though no road does; along one of them none
    ∷ (two_cycles (0 ∷ 0 ∷ 2 ∷ []) (3 ∷ 1 ∷ 4 ∷ []), (0, 0, 3, 6, 1 ∷ 2 ∷ 2 ∷ []))
    ∷ (two_cycles (4 ∷ []) (0 ∷ []), (0, 0, 1, 6, 1 ∷ []))
    -- two segments between 0 and 1, one in each order: their ends are joined, and no third junction parts them; 1 parts 0 and 2
    ∷ (sibling (1 ∷ 1 ∷ 1 ∷ []) 3 (0 ∷ 1 ∷ 1 ∷ []) (1 ∷ 0 ∷ 2 ∷ []) (0 ∷ 0 ∷ []) (1 ∷ 2 ∷ []), (0, 0, 2, 3, 2 ∷ 1 ∷ []))
    -- one carriageway of two closes: the road stays, and the reply
    ∷ (sibling (replicate 4 1) 3 (0 ∷ 1 ∷ 1 ∷ 2 ∷ []) (1 ∷ 0 ∷ 2 ∷ 1 ∷ []) (0 ∷ 65534 ∷ 0 ∷ []) (2 ∷ 1 ∷ 2 ∷ []), (0, 0, 2, 3, 1 ∷ 3 ∷ 1 ∷ []))
    -- a junction with itself, nothing open
    ∷ (sibling [] 2 [] [] (1 ∷ []) (1 ∷ []), (0, 0, 1, 0, 2 ∷ []))
    -- a loop joins nothing
    ∷ (sibling (0 ∷ []) 2 (0 ∷ []) (0 ∷ []) (65535 ∷ 0 ∷ 0 ∷ []) (0 ∷ 1 ∷ 0 ∷ []), (0, 0, 2, 1, 3 ∷ 0 ∷ 2 ∷ []))
    -- two pieces: 0
    ∷ (sibling (1 ∷ 1 ∷ []) 4 (0 ∷ 2 ∷ []) (1 ∷ 3 ∷ []) (0 ∷ []) (3 ∷ []), (0, 0, 1, 2, 0 ∷ []))
    -- two ways from 0 to 3 over different junctions: 2; with one of them closed: 1
    ∷ (
      sibling (replicate 4 1) 4 (0 ∷ 1 ∷ 0 ∷ 2 ∷ []) (1 ∷ 3 ∷ 2 ∷ 3 ∷ []) (0 ∷ 65534 ∷ 0 ∷ []) (3 ∷ 3 ∷ 3 ∷ []),
      (0, 0, 2, 3, 2 ∷ 3 ∷ 1 ∷ []),
    )
    -- the example, with two shares
    ∷ (triangle 8, (0, 0, 2, 3, 3 ∷ 3 ∷ 1 ∷ 3 ∷ 2 ∷ []))
    ∷ (triangle 12, (0, 0, 2, 3, 3 ∷ 3 ∷ 1 ∷ 3 ∷ 2 ∷ []))
    -- no events, two of three segments open
    ∷ (sibling (1 ∷ 0 ∷ 1 ∷ []) 3 (0 ∷ 1 ∷ 2 ∷ []) (1 ∷ 2 ∷ 0 ∷ []) [] [], (0, 0, 0, 2, []))
    -- refusals: the share, a work table with one entry too few, an end out of range, a starting entry above 1, and of events
    ∷ (triangle 3, (3, 0, 0, 0, 9 ∷ 9 ∷ 9 ∷ 9 ∷ 9 ∷ []))
    ∷ (sibling_with 3175 (1 ∷ []) 3 (0 ∷ []) (1 ∷ []) (0 ∷ []) (1 ∷ []) 8, (2, 0, 0, 0, 9 ∷ []))
    ∷ (sibling_with 3176 (1 ∷ []) 3 (0 ∷ []) (1 ∷ []) (0 ∷ []) (1 ∷ []) 8, (0, 0, 1, 1, 2 ∷ []))
    ∷ (sibling (1 ∷ []) 2 (0 ∷ []) (2 ∷ []) (0 ∷ []) (1 ∷ []), (4, 0, 0, 0, 9 ∷ []))
    ∷ (sibling (2 ∷ []) 2 (0 ∷ []) (1 ∷ []) (0 ∷ []) (1 ∷ []), (11, 0, 0, 0, 9 ∷ []))
    ∷ (sibling (0 ∷ []) 2 (0 ∷ []) (1 ∷ []) (2 ∷ []) (1 ∷ []), (5, 0, 0, 0, 9 ∷ []))
    ∷ (sibling (1 ∷ []) 2 (0 ∷ []) (1 ∷ []) (65535 ∷ []) (0 ∷ []), (6, 0, 0, 0, 9 ∷ []))
    ∷ (sibling (0 ∷ []) 2 (0 ∷ []) (1 ∷ []) (0 ∷ 65534 ∷ []) (1 ∷ 0 ∷ []), (7, 1, 0, 0, 9 ∷ 9 ∷ []))
    ∷ []

-- ---- beside the replay: its byte of event 0, by the loss of a road, and the sibling's
abbrev pub both_bytes : Lent → ℕ × ℕ
both_bytes l = (byte (given l) 0, junction_byte (given l) 0)

abbrev pub beside : List ((ℕ × ℕ) × (ℕ × ℕ))
beside =
    -- two cycles share junction 2: between them no road parts, and that junction does
    (both_bytes (lent_with 0 (replicate 6 1) 5 (0 ∷ 1 ∷ 2 ∷ 2 ∷ 3 ∷ 4 ∷ []) (1 ∷ 2 ∷ 0 ∷ 3 ∷ 4 ∷ 2 ∷ []) (0 ∷ []) (3 ∷ [])), (2, 1))
    -- neighbours over one road: it parts them, and no third junction does
    ∷ (both_bytes (lent_with 0 (1 ∷ []) 2 (0 ∷ []) (1 ∷ []) (0 ∷ []) (1 ∷ [])), (1, 2))
    ∷ []

abbrev pub AllBeside : List ((ℕ × ℕ) × (ℕ × ℕ)) → Type 0
AllBeside [] = Unit {0}
AllBeside (r ∷ rs) = (r.0 ≡ r.1) × AllBeside rs

-- every case gives what is wanted
abbrev pub AllHold : List (Seen × Seen) → Type 0
AllHold [] = Unit {0}
AllHold (r ∷ rs) = (r.0 ≡ r.1) × AllHold rs
