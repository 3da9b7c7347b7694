-- The cases that document 01 marks P and those of document 02, Nos. 1 to 3 and 5 to 7, as one table: what the definitions of the calls give, and what the documents say.
-- proofs/Cases proves every row.
-- A replay is seen by its numbers and its answer table, or by its answers and its name table; a contraction by its numbers and tables but for the names, or by
-- its edges with the table of their names; the program by the bytes that it writes.
-- Assumes nothing: these are definitions.
use Rattle.std.specs.Prelude.{◌%◌, ◌*◌, ◌/◌, suc, ℕ, List, [], ◌∷◌, ◌≡◌, length, replicate, take}
use Rattle.theory_timeline.specs.Program.{output}
use Rattle.theory_contraction.specs.Contraction as C
use Rattle.theory_timeline.specs.Replay as R

-- ---- what is seen
-- code, place, queries, open, kept, the answer table
abbrev pub Replayed : Type 0
Replayed = ℕ × ℕ × ℕ × ℕ × ℕ × List ℕ

-- code, place, nodes, edges, the map table, the edges' first and second ends, the table of pieces
abbrev pub Contracted : Type 0
Contracted = ℕ × ℕ × ℕ × ℕ × List ℕ × List ℕ × List ℕ × List ℕ

-- code, the answer table, the name table
abbrev pub Watched : Type 0
Watched = ℕ × List ℕ × List ℕ

-- code, the edges' first and second ends, the table of their names
abbrev pub Spliced : Type 0
Spliced = ℕ × List ℕ × List ℕ × List ℕ

pub data Seen : Type 0 where
  replayed : Replayed → Seen
  contracted : Contracted → Seen
  watched : Watched → Seen
  spliced : Spliced → Seen
  wrote : List ℕ → Seen

-- m segments and t events; answers and work of the least lengths, filled with 9 and with 7
abbrev pub replay_lent : ℕ → ℕ → List ℕ → List ℕ → ℕ → List ℕ → List ℕ → List ℕ → List ℕ → R.Lent
replay_lent m t names start n a b x y = record {
  n = n;
  m = m;
  t = t;
  a = a;
  b = b;
  start = start;
  x = x;
  y = y;
  answers = replicate t 9;
  names = names;
  work = replicate (R.required t n m) 7;
}

abbrev pub replay_sized : ℕ → ℕ → List ℕ → ℕ → List ℕ → List ℕ → List ℕ → List ℕ → ℕ → Seen
replay_sized m t start n a b x y p =
    let r : R.Outcome = R.replay (replay_lent m t (replicate t 9) start n a b x y) p in
    replayed (r.code, r.place, r.queries, r.opened, r.kept, r.answers)

-- the sizes being the lengths of A and of X
abbrev pub replay_from : List ℕ → ℕ → List ℕ → List ℕ → List ℕ → List ℕ → ℕ → Seen
replay_from start n a b x y p = replay_sized (length a) (length x) start n a b x y p

-- its names, with the share 8
abbrev pub names_with : List ℕ → List ℕ → ℕ → List ℕ → List ℕ → List ℕ → List ℕ → Seen
names_with names start n a b x y =
    let r : R.Outcome = R.replay (replay_lent (length a) (length x) names start n a b x y) 8 in
    watched (r.code, r.answers, r.names)

-- with a name table that is filled with 9 and has one entry more than it must have
abbrev pub names_from : List ℕ → ℕ → List ℕ → List ℕ → List ℕ → List ℕ → Seen
names_from start n a b x y = names_with (replicate (suc (length x)) 9) start n a b x y

-- with nothing open at the start, as document 01's cases are
abbrev pub replay_of : ℕ → List ℕ → List ℕ → List ℕ → List ℕ → ℕ → Seen
replay_of n a = replay_from (replicate (length a) 0) n a

-- an open segment 0-1 and a query of its ends: M and T are 1, and these entries stand behind those of A, B, the starting table, X and Y
abbrev pub behind : ℕ → List ℕ → List ℕ → List ℕ → List ℕ → List ℕ → Seen
behind n a b start x y = replay_sized 1 1 (1 ∷ start) n (0 ∷ a) (1 ∷ b) (0 ∷ x) (1 ∷ y) 8

-- with these tables of names, in and out, and of pieces; edge tables and map filled with 9
abbrev pub contraction_lent : List ℕ → List ℕ → List ℕ → ℕ → List ℕ → List ℕ → List ℕ → C.Lent
contraction_lent names out_names pieces n from to active = record {
  n = n;
  m = length from;
  k = length active;
  from = from;
  to = to;
  names = names;
  active = active;
  map = replicate (length active) 9;
  out_from = replicate (2 * length active) 9;
  out_to = replicate (2 * length active) 9;
  out_names = out_names;
  pieces = pieces;
  work = replicate (C.required n (length from)) 7;
}

-- each edge with the name 0
abbrev pub contraction_with : List ℕ → ℕ → List ℕ → List ℕ → List ℕ → Seen
contraction_with pieces n from to active =
    let r : C.Outcome = C.contraction (contraction_lent (replicate (length from) 0) (replicate (2 * length active) 9) pieces n from to active) in
    contracted (r.code, r.place, r.nodes, r.edges, r.map, take r.edges r.out_from, take r.edges r.out_to, r.pieces)

-- its names
abbrev pub spliced_with : List ℕ → List ℕ → ℕ → List ℕ → List ℕ → List ℕ → Seen
spliced_with out_names names n from to active =
    let r : C.Outcome = C.contraction (contraction_lent names out_names (replicate (length active) 9) n from to active) in
    spliced (r.code, take r.edges r.out_from, take r.edges r.out_to, r.out_names)

abbrev pub spliced_of : List ℕ → ℕ → List ℕ → List ℕ → List ℕ → Seen
spliced_of names n from to active = spliced_with (replicate (2 * length active) 9) names n from to active

-- with a table of pieces that is filled with 9 and has one entry more than it must have
abbrev pub contraction_of : ℕ → List ℕ → List ℕ → List ℕ → Seen
contraction_of n from to active = contraction_with (replicate (suc (length active)) 9) n from to active

-- numbers as the program reads them
abbrev pub bytes_of : List ℕ → List ℕ
bytes_of [] = []
bytes_of (w ∷ ws) = (w % 256) ∷ (w / 256) ∷ bytes_of ws

-- the example: a triangle of segments, opened one after the other, with two queries of 0 and 2
abbrev pub example : ℕ → Seen
example = replay_of 3 (0 ∷ 1 ∷ 2 ∷ []) (1 ∷ 2 ∷ 0 ∷ []) (65535 ∷ 65535 ∷ 0 ∷ 65535 ∷ 0 ∷ []) (0 ∷ 1 ∷ 2 ∷ 2 ∷ 2 ∷ [])

-- ---- the table
abbrev pub Case : Type 0
Case = Seen × Seen

abbrev pub table : List Case
table =
    -- the example with p = 8, and as the program prints it
    (example 8, replayed (0, 0, 2, 3, 19, 3 ∷ 3 ∷ 1 ∷ 3 ∷ 2 ∷ []))
    ∷ (
      wrote (output (bytes_of (3 ∷ 3 ∷ 5 ∷ 8 ∷ 0 ∷ 1 ∷ 2 ∷ 1 ∷ 2 ∷ 0 ∷ 0 ∷ 0 ∷ 0 ∷ 65535 ∷ 65535 ∷ 0 ∷ 65535 ∷ 0 ∷ 0 ∷ 1 ∷ 2 ∷ 2 ∷ 2 ∷ []))),
      -- "2 1", "4 2", "asks 2 open 3 kept 19"
      wrote (50 ∷ 32 ∷ 49 ∷ 10 ∷ 52 ∷ 32 ∷ 50 ∷ 10
          ∷ 97 ∷ 115 ∷ 107 ∷ 115 ∷ 32 ∷ 50 ∷ 32 ∷ 111 ∷ 112 ∷ 101 ∷ 110 ∷ 32 ∷ 51 ∷ 32 ∷ 107 ∷ 101 ∷ 112 ∷ 116 ∷ 32 ∷ 49 ∷ 57 ∷ 10 ∷ []),
    )
    -- with p = 12 the answers are the same and kept is 20
    ∷ (example 12, replayed (0, 0, 2, 3, 20, 3 ∷ 3 ∷ 1 ∷ 3 ∷ 2 ∷ []))
    -- junction 1 with itself, nothing open: 2
    ∷ (replay_of 2 [] [] (1 ∷ []) (1 ∷ []) 8, replayed (0, 0, 1, 0, 1, 2 ∷ []))
    -- 0 and 1, nothing open: 0
    ∷ (replay_of 2 [] [] (0 ∷ []) (1 ∷ []) 8, replayed (0, 0, 1, 0, 2, 0 ∷ []))
    -- one segment 0-1 open: 1; two such, which are one road: 1
    ∷ (replay_of 2 (0 ∷ []) (1 ∷ []) (65535 ∷ 0 ∷ []) (0 ∷ 1 ∷ []) 8, replayed (0, 0, 1, 1, 6, 3 ∷ 1 ∷ []))
    ∷ (replay_of 2 (0 ∷ 0 ∷ []) (1 ∷ 1 ∷ []) (65535 ∷ 65535 ∷ 0 ∷ []) (0 ∷ 1 ∷ 1 ∷ []) 8, replayed (0, 0, 1, 2, 10, 3 ∷ 3 ∷ 1 ∷ []))
    -- segment 0-0 open, N = 2: query of 0 and 1 gives 0
    ∷ (replay_of 2 (0 ∷ []) (0 ∷ []) (65535 ∷ 0 ∷ []) (0 ∷ 1 ∷ []) 8, replayed (0, 0, 1, 1, 5, 3 ∷ 0 ∷ []))
    -- path 0-1-2 to 0, 2: two nodes, edge 0 1
    ∷ (contraction_of 3 (0 ∷ 1 ∷ []) (1 ∷ 2 ∷ []) (0 ∷ 2 ∷ []), contracted (0, 0, 2, 1, 0 ∷ 1 ∷ [], 0 ∷ [], 1 ∷ [], 0 ∷ 0 ∷ 9 ∷ []))
    -- star with centre 3, active 0, 1, 2: four nodes, edges 0 3, 1 3, 2 3
    ∷ (
      contraction_of 4 (0 ∷ 1 ∷ 2 ∷ []) (3 ∷ 3 ∷ 3 ∷ []) (0 ∷ 1 ∷ 2 ∷ []),
      contracted (0, 0, 4, 3, 0 ∷ 1 ∷ 2 ∷ [], 0 ∷ 1 ∷ 2 ∷ [], 3 ∷ 3 ∷ 3 ∷ [], 0 ∷ 0 ∷ 0 ∷ 9 ∷ []),
    )
    -- triangle, all active: one node, no edge
    ∷ (contraction_of 3 (0 ∷ 1 ∷ 2 ∷ []) (1 ∷ 2 ∷ 0 ∷ []) (0 ∷ 1 ∷ 2 ∷ []), contracted (0, 0, 1, 0, 0 ∷ 0 ∷ 0 ∷ [], [], [], 0 ∷ 0 ∷ 0 ∷ 9 ∷ []))
    -- no active entries: no nodes
    ∷ (contraction_of 2 (0 ∷ []) (1 ∷ []) [], contracted (0, 0, 0, 0, [], [], [], 9 ∷ []))
    -- active 1, 1 of two nodes: one node, map 0 0
    ∷ (contraction_of 2 [] [] (1 ∷ 1 ∷ []), contracted (0, 0, 1, 0, 0 ∷ 0 ∷ [], [], [], 0 ∷ 0 ∷ 9 ∷ []))
    -- p = 3 refused by 3, with the answer table as it was; p = 4 accepted
    ∷ (example 3, replayed (3, 0, 0, 0, 0, 9 ∷ 9 ∷ 9 ∷ 9 ∷ 9 ∷ []))
    ∷ (example 4, replayed (0, 0, 2, 3, 19, 3 ∷ 3 ∷ 1 ∷ 3 ∷ 2 ∷ []))
    -- T = 0 with two of three segments open at the start: 0, 2, 0
    ∷ (replay_from (1 ∷ 0 ∷ 1 ∷ []) 3 (0 ∷ 1 ∷ 2 ∷ []) (1 ∷ 2 ∷ 0 ∷ []) [] [] 8, replayed (0, 0, 0, 2, 0, []))
    -- the triangle open at the start: 0 and 2 have answer 2, and 1 once a segment has closed
    ∷ (
      replay_from (1 ∷ 1 ∷ 1 ∷ []) 3 (0 ∷ 1 ∷ 2 ∷ []) (1 ∷ 2 ∷ 0 ∷ []) (0 ∷ 65534 ∷ 0 ∷ []) (2 ∷ 2 ∷ 2 ∷ []) 8,
      replayed (0, 0, 2, 2, 9, 2 ∷ 3 ∷ 1 ∷ []),
    )
    -- the same segments open, which no event names: 2
    ∷ (replay_from (1 ∷ 1 ∷ 1 ∷ []) 3 (0 ∷ 1 ∷ 2 ∷ []) (1 ∷ 2 ∷ 0 ∷ []) (0 ∷ []) (2 ∷ []) 8, replayed (0, 0, 1, 3, 1, 2 ∷ []))
    -- opens a segment that is open at the start: 6
    ∷ (replay_from (1 ∷ []) 2 (0 ∷ []) (1 ∷ []) (65535 ∷ []) (0 ∷ []) 8, replayed (6, 0, 0, 0, 0, 9 ∷ []))
    -- the first starting entry above 1: 11 with its segment as place, before the fault of an event
    ∷ (replay_from (1 ∷ 2 ∷ 3 ∷ []) 3 (0 ∷ 1 ∷ 2 ∷ []) (1 ∷ 2 ∷ 0 ∷ []) (9 ∷ []) (9 ∷ []) 8, replayed (11, 1, 0, 0, 0, 9 ∷ []))
    -- with an end out of range at a later segment: 4
    ∷ (replay_from (2 ∷ 0 ∷ 0 ∷ []) 3 (0 ∷ 1 ∷ 2 ∷ []) (1 ∷ 2 ∷ 3 ∷ []) (9 ∷ []) (9 ∷ []) 8, replayed (4, 2, 0, 0, 0, 9 ∷ []))
    -- two segments between 0 and 1, drawn once in each order, are one road: 1
    ∷ (replay_of 2 (0 ∷ 1 ∷ []) (1 ∷ 0 ∷ []) (65535 ∷ 65535 ∷ 0 ∷ []) (0 ∷ 1 ∷ 1 ∷ []) 8, replayed (0, 0, 1, 2, 10, 3 ∷ 3 ∷ 1 ∷ []))
    -- both open at the start: once one has closed the answer stays 1, and with the other it is 0
    ∷ (
      replay_from (1 ∷ 1 ∷ []) 2 (0 ∷ 1 ∷ []) (1 ∷ 0 ∷ []) (65534 ∷ 0 ∷ 65534 ∷ 0 ∷ []) (0 ∷ 1 ∷ 1 ∷ 1 ∷ []) 8,
      replayed (0, 0, 2, 0, 14, 3 ∷ 1 ∷ 3 ∷ 0 ∷ []),
    )
    -- a triangle with two segments for its side 0-1, all open: 2; and these two the only way: 1
    ∷ (replay_from (1 ∷ 1 ∷ 1 ∷ 1 ∷ []) 3 (0 ∷ 1 ∷ 2 ∷ 1 ∷ []) (1 ∷ 2 ∷ 0 ∷ 0 ∷ []) (0 ∷ []) (1 ∷ []) 8, replayed (0, 0, 1, 4, 1, 2 ∷ []))
    ∷ (replay_from (1 ∷ 0 ∷ 0 ∷ 1 ∷ []) 3 (0 ∷ 1 ∷ 2 ∷ 1 ∷ []) (1 ∷ 2 ∷ 0 ∷ 0 ∷ []) (0 ∷ []) (1 ∷ []) 8, replayed (0, 0, 1, 2, 2, 1 ∷ []))
    -- kept of such a list: the second segment of side 0-1 opens, then 0 and 2 are asked for. The side is in no network of a window that names one of its two
    -- segments, though the other is open throughout: 3 nodes for both events, 2 for the first, 1 for the query.
    ∷ (
      replay_from (1 ∷ 1 ∷ 1 ∷ 0 ∷ []) 3 (0 ∷ 1 ∷ 2 ∷ 1 ∷ []) (1 ∷ 2 ∷ 0 ∷ 0 ∷ []) (65535 ∷ 0 ∷ []) (3 ∷ 2 ∷ []) 8,
      replayed (0, 0, 1, 4, 6, 3 ∷ 2 ∷ []),
    )
    -- a loop at a junction is a road, and two of them are one: they join nothing
    ∷ (replay_from (1 ∷ 1 ∷ []) 2 (0 ∷ 0 ∷ []) (0 ∷ 0 ∷ []) (65534 ∷ 0 ∷ []) (1 ∷ 1 ∷ []) 8, replayed (0, 0, 1, 1, 5, 3 ∷ 0 ∷ []))
    -- edges 0-2 and 1-3, active 3, 0, 1, 2: two pieces, which the entries meet in turn, the one of node 3 first
    ∷ (
      contraction_of 4 (0 ∷ 1 ∷ []) (2 ∷ 3 ∷ []) (3 ∷ 0 ∷ 1 ∷ 2 ∷ []),
      contracted (0, 0, 4, 2, 0 ∷ 1 ∷ 2 ∷ 3 ∷ [], 0 ∷ 1 ∷ [], 2 ∷ 3 ∷ [], 0 ∷ 1 ∷ 0 ∷ 1 ∷ 9 ∷ []),
    )
    -- one edge 0-1, active 2, 1, 2, 0, where 2 has no edge: a repeated entry has its piece again
    ∷ (contraction_of 3 (0 ∷ []) (1 ∷ []) (2 ∷ 1 ∷ 2 ∷ 0 ∷ []), contracted (0, 0, 3, 1, 0 ∷ 1 ∷ 0 ∷ 2 ∷ [], 1 ∷ [], 2 ∷ [], 0 ∷ 1 ∷ 0 ∷ 1 ∷ 9 ∷ []))
    -- a table of pieces with one entry for two: 2, and it stays as it was
    ∷ (contraction_with (9 ∷ []) 2 [] [] (0 ∷ 1 ∷ []), contracted (2, 0, 0, 0, 9 ∷ 9 ∷ [], [], [], 9 ∷ []))
    -- a path 0-1-2-3 whose roads have the names 1, 2, 0 on the way: 0 and 3 hang on road 0, 0 and 2 on road 1
    ∷ (
      names_from (1 ∷ 1 ∷ 1 ∷ []) 4 (2 ∷ 0 ∷ 1 ∷ []) (3 ∷ 1 ∷ 2 ∷ []) (0 ∷ 0 ∷ []) (3 ∷ 2 ∷ []),
      watched (0, 1 ∷ 1 ∷ [], 0 ∷ 1 ∷ 9 ∷ []),
    )
    -- two bridges, 4 and 3, and a cycle of the roads 0, 1, 2 between: 0 and 4 hang on road 3; on the cycle the answer is 2 and there is no name
    ∷ (
      names_from (1 ∷ 1 ∷ 1 ∷ 1 ∷ 1 ∷ []) 5 (1 ∷ 2 ∷ 3 ∷ 3 ∷ 0 ∷ []) (2 ∷ 3 ∷ 1 ∷ 4 ∷ 1 ∷ []) (0 ∷ 1 ∷ []) (4 ∷ 3 ∷ []),
      watched (0, 1 ∷ 2 ∷ [], 3 ∷ 65535 ∷ 9 ∷ []),
    )
    -- a bridge of two segments, of which only the larger is open: its name is 0. Once that has closed the answer is 0 and there is no name.
    ∷ (
      names_from (0 ∷ 1 ∷ []) 2 (0 ∷ 1 ∷ []) (1 ∷ 0 ∷ []) (0 ∷ 65534 ∷ 0 ∷ []) (1 ∷ 1 ∷ 1 ∷ []),
      watched (0, 1 ∷ 3 ∷ 0 ∷ [], 0 ∷ 65535 ∷ 65535 ∷ 9 ∷ []),
    )
    -- a name table with one entry for two events: 2, and it stays as it was
    ∷ (names_with (9 ∷ []) [] 2 [] [] (0 ∷ 0 ∷ []) (1 ∷ 1 ∷ []), watched (2, 9 ∷ 9 ∷ [], 9 ∷ []))
    -- a path of three edges with the names 7, 3, 5 becomes one edge with the name 3, and only one name is written
    ∷ (spliced_of (7 ∷ 3 ∷ 5 ∷ []) 4 (0 ∷ 1 ∷ 2 ∷ []) (1 ∷ 2 ∷ 3 ∷ []) (0 ∷ 3 ∷ []), spliced (0, 0 ∷ [], 1 ∷ [], 3 ∷ 9 ∷ 9 ∷ 9 ∷ []))
    -- two parallel edges with the names 1 and 2, then one with the name 8: the loss of one of the two parts nothing
    ∷ (spliced_of (1 ∷ 2 ∷ 8 ∷ []) 3 (0 ∷ 1 ∷ 1 ∷ []) (1 ∷ 0 ∷ 2 ∷ []) (0 ∷ 2 ∷ []), spliced (0, 0 ∷ [], 1 ∷ [], 8 ∷ 9 ∷ 9 ∷ 9 ∷ []))
    -- 65,535 is a name like any other
    ∷ (
      spliced_of (65535 ∷ 65535 ∷ 65534 ∷ []) 4 (0 ∷ 1 ∷ 2 ∷ []) (1 ∷ 2 ∷ 3 ∷ []) (0 ∷ 2 ∷ 3 ∷ []),
      spliced (0, 0 ∷ 1 ∷ [], 1 ∷ 2 ∷ [], 65535 ∷ 65534 ∷ 9 ∷ 9 ∷ 9 ∷ 9 ∷ []),
    )
    -- one name for two edges, and three names out where four are needed: 2, and nothing changes
    ∷ (spliced_of (7 ∷ []) 3 (0 ∷ 1 ∷ []) (1 ∷ 2 ∷ []) (0 ∷ 2 ∷ []), spliced (2, [], [], 9 ∷ 9 ∷ 9 ∷ 9 ∷ []))
    ∷ (spliced_with (9 ∷ 9 ∷ 9 ∷ []) (7 ∷ 3 ∷ []) 3 (0 ∷ 1 ∷ []) (1 ∷ 2 ∷ []) (0 ∷ 2 ∷ []), spliced (2, [], [], 9 ∷ 9 ∷ 9 ∷ []))
    -- an event of no kind is refused by 5 at its place: X = N; X = 65,533; X = 0 where there are no junctions
    ∷ (replay_of 3 [] [] (2 ∷ 3 ∷ []) (0 ∷ 0 ∷ []) 8, replayed (5, 1, 0, 0, 0, 9 ∷ 9 ∷ []))
    ∷ (replay_of 3 (0 ∷ []) (1 ∷ []) (65535 ∷ 65533 ∷ []) (0 ∷ 0 ∷ []) 8, replayed (5, 1, 0, 0, 0, 9 ∷ 9 ∷ []))
    ∷ (replay_of 0 [] [] (0 ∷ []) (0 ∷ []) 8, replayed (5, 0, 0, 0, 0, 9 ∷ []))
    -- A, B, the starting table, X and Y of just their sizes; then each of them with one entry more: 12
    ∷ (behind 2 [] [] [] [] [], replayed (0, 0, 1, 1, 2, 1 ∷ []))
    ∷ (behind 2 (0 ∷ []) [] [] [] [], replayed (12, 0, 0, 0, 0, 9 ∷ []))
    ∷ (behind 2 [] (0 ∷ []) [] [] [], replayed (12, 0, 0, 0, 0, 9 ∷ []))
    ∷ (behind 2 [] [] (0 ∷ []) [] [], replayed (12, 0, 0, 0, 0, 9 ∷ []))
    ∷ (behind 2 [] [] [] (0 ∷ []) [], replayed (12, 0, 0, 0, 0, 9 ∷ []))
    ∷ (behind 2 [] [] [] [] (0 ∷ []), replayed (12, 0, 0, 0, 0, 9 ∷ []))
    -- A with one entry more, and N = 4,097: 1; and Y without an entry: 2; and p = 3, with ends, starting entry and event out of range: 12
    ∷ (behind 4097 (0 ∷ []) [] [] [] [], replayed (1, 0, 0, 0, 0, 9 ∷ []))
    ∷ (replay_sized 1 1 (1 ∷ []) 2 (0 ∷ 0 ∷ []) (1 ∷ []) (0 ∷ []) [] 8, replayed (2, 0, 0, 0, 0, 9 ∷ []))
    ∷ (replay_sized 1 1 (2 ∷ []) 2 (9 ∷ 0 ∷ []) (9 ∷ []) (9 ∷ []) (9 ∷ []) 3, replayed (12, 0, 0, 0, 0, 9 ∷ []))
    -- the program: N = 177 is "refused 10 at 0"
    ∷ (wrote (output (bytes_of (177 ∷ 0 ∷ 0 ∷ 8 ∷ []))), wrote (114 ∷ 101 ∷ 102 ∷ 117 ∷ 115 ∷ 101 ∷ 100 ∷ 32 ∷ 49 ∷ 48 ∷ 32 ∷ 97 ∷ 116 ∷ 32 ∷ 48 ∷ 10 ∷ []))
    ∷ []

-- every row holds: what is computed is what the documents say
abbrev pub AllHold : List Case → Type 0
AllHold [] = Unit {0}
AllHold (r ∷ rs) = (r.0 ≡ r.1) × AllHold rs
