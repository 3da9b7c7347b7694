-- Document 01, "The program", with the starting table of document 02, No. 1: the bytes that `replay` writes for the bytes that it reads.
-- Assumes nothing: these are definitions.
use Rattle.std.specs.Prelude.{◌%◌, ◌*◌, ◌+◌, ◌/◌, suc, zero, ℕ, false, not, true, List, [], ◌++◌, ◌∷◌, ◌≡◌, eqb, ltb, drop, get_or, length, replicate, take}
use Rattle.call_kinds.specs.Kinds.{is_query, kind_of}
use Rattle.call_sizes.specs.Refusal.{Refusal, Row, first_fault, row}
use Rattle.theory_timeline.specs.Replay.{Lent, Outcome, replay}

-- ---- the input
-- bytes as 16-bit little-endian numbers
abbrev pub words16 : List ℕ → List ℕ
words16 [] = []
words16 (a ∷ []) = []
words16 (a ∷ b ∷ bs) = (a + 256 * b) ∷ words16 bs

-- the sizes and the share, at the front
abbrev pub junctions_of : List ℕ → ℕ
junctions_of ws = get_or ws 0 0

abbrev pub segments_of : List ℕ → ℕ
segments_of ws = get_or ws 1 0

abbrev pub events_of : List ℕ → ℕ
events_of ws = get_or ws 2 0

abbrev pub share_of : List ℕ → ℕ
share_of ws = get_or ws 3 0

-- the numbers that an input with these sizes has: N, M, T, p, then A, B, the starting table, X, Y
abbrev pub input_length : ℕ → ℕ → ℕ
input_length m t = 4 + 3 * m + 2 * t

-- fewer than 8 bytes give 9; then 10 for a size above the program's limits; then 9 for any other length
unfoldable pub input_faults : List ℕ → List Row
input_faults bytes =
    let ws : List ℕ = words16 bytes in
    row (ltb (length bytes) 8) 9 0
    ∷ row (ltb 176 (junctions_of ws)) 10 0
    ∷ row (ltb 64 (segments_of ws)) 10 0
    ∷ row (ltb 32 (events_of ws)) 10 0
    ∷ row (not (eqb (length bytes) (2 * input_length (segments_of ws) (events_of ws)))) 9 0
    ∷ []

unfoldable pub input_fault : List ℕ → Refusal
input_fault bytes = first_fault (input_faults bytes)

-- what the program lends to the replay: the tables of its input, an answer table, a name table, and its work table
unfoldable pub input_lent : List ℕ → List ℕ → Lent
input_lent work bytes =
    let ws : List ℕ = words16 bytes in
    let m : ℕ = segments_of ws in
    let t : ℕ = events_of ws in
    record {
      n = junctions_of ws;
      m = m;
      t = t;
      a = take m (drop 4 ws);
      b = take m (drop (4 + m) ws);
      start = take m (drop (4 + 2 * m) ws);
      x = take t (drop (4 + 3 * m) ws);
      y = take t (drop (4 + 3 * m + t) ws);
      answers = replicate 32 0;
      names = replicate 32 0;
      work = work;
    }

-- ---- the output
-- a number in base ten, as ASCII digits, in front of what follows; at most k digits
unfoldable pub spell : ℕ → ℕ → List ℕ → List ℕ
spell zero n rest = rest
spell (suc k) n rest = elim (ltb n 10) [ true ↦ (48 + n) ∷ rest | false ↦ spell k (n / 10) ((48 + n % 10) ∷ rest) ]

unfoldable pub decimal : ℕ → List ℕ
decimal n = spell 20 n []

-- "i answer"
unfoldable pub query_line : ℕ → ℕ → List ℕ
query_line i answer = decimal i ++ (32 ∷ (decimal answer ++ (10 ∷ [])))

-- one line for each query of the k events from i on, by the table X: the event's place and its answer
unfoldable pub query_lines : ℕ → List ℕ → List ℕ → ℕ → ℕ → List ℕ
query_lines n x answers i zero = []
query_lines n x answers i (suc k) =
    let rest : List ℕ = query_lines n x answers (suc i) k in
    elim (is_query (kind_of n (get_or x i 0))) [ true ↦ query_line i (get_or answers i 0) ++ rest | false ↦ rest ]

-- "asks q open o kept k"
unfoldable pub totals_line : ℕ → ℕ → ℕ → List ℕ
totals_line q o k =
    97 ∷ 115 ∷ 107 ∷ 115 ∷ 32 ∷ (decimal q
    ++ (32 ∷ 111 ∷ 112 ∷ 101 ∷ 110 ∷ 32 ∷ (decimal o
    ++ (32 ∷ 107 ∷ 101 ∷ 112 ∷ 116 ∷ 32 ∷ (decimal k ++ (10 ∷ []))))))

-- "refused c at i"
unfoldable pub refused_line : ℕ → ℕ → List ℕ
refused_line c i = 114 ∷ 101 ∷ 102 ∷ 117 ∷ 115 ∷ 101 ∷ 100 ∷ 32 ∷ (decimal c ++ (32 ∷ 97 ∷ 116 ∷ 32 ∷ (decimal i ++ (10 ∷ []))))

-- what is printed of the replay of t events over n junctions, with the table X
unfoldable pub printed : ℕ → ℕ → List ℕ → Outcome → List ℕ
printed n t x r =
    elim r.accepted [
      | true ↦ query_lines n x r.answers 0 t ++ totals_line r.queries r.opened r.kept
      | false ↦ refused_line r.code r.place
    ]

-- what is printed of the replay of an input, with a given work table and share
abbrev pub printed_input : List ℕ → List ℕ → ℕ → List ℕ
printed_input work bytes p =
    let l : Lent = input_lent work bytes in
    printed l.n l.t l.x (replay l p)

-- the bytes written for the bytes read, with a given work table
unfoldable pub output_with : List ℕ → List ℕ → List ℕ
output_with work bytes =
    elim (eqb (input_fault bytes).0 0) [
      | true ↦ printed_input work bytes (share_of (words16 bytes))
      | false ↦ refused_line (input_fault bytes).0 (input_fault bytes).1
    ]

-- "It lends a work table of 16,384 numbers"
unfoldable pub output : List ℕ → List ℕ
output = output_with (replicate 16384 0)

-- no input is answered by a refusal with this number. proofs/OutputLaws proves it of 2 and of 12: the parts of an input have just their sizes, and the
-- program's own tables are long enough
abbrev pub NeverAnswers : ℕ → Type 0
NeverAnswers c = (bytes : List ℕ) (i : ℕ) → ¬ (output bytes ≡ refused_line c i)
