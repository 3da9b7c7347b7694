-- Worked cases of the checker's call, as one table: what the definition gives, and what document 02 asks for. proofs/Cases proves every row.
-- A call is seen by the number and the place that it returns: 0 at 0 where the evidence is accepted. Assumes nothing: these are definitions.
use Rattle.std.specs.Prelude.{ℕ, List, [], ◌∷◌, ◌≡◌, length}
use Rattle.theory_evidence.specs.Call.{EvidenceOutcome, check_evidence}
use Rattle.theory_evidence.specs.Evidence.{Evidence, evidence}
use Rattle.theory_evidence.specs.Network.{Network, network}

-- tables of just the least lengths
abbrev pub net : ℕ → List ℕ → List ℕ → List ℕ → Network
net n a b opened = network n (length a) a b opened

abbrev pub seen : Network → ℕ → ℕ → Evidence → ℕ × ℕ
seen w x y e =
    let r : EvidenceOutcome = check_evidence w x y e in
    (r.code, r.place)

-- two junctions and no segment
abbrev pub bare : Network
bare = net 2 [] [] []

-- one segment 0-1; the same as two carriageways, the second written the other way round
abbrev pub single : Network
single = net 2 (0 ∷ []) (1 ∷ []) (1 ∷ [])

abbrev pub dual : Network
dual = net 2 (0 ∷ 1 ∷ []) (1 ∷ 0 ∷ []) (1 ∷ 1 ∷ [])

-- of the two carriageways only the second is open
abbrev pub half : Network
half = net 2 (0 ∷ 1 ∷ []) (1 ∷ 0 ∷ []) (0 ∷ 1 ∷ [])

-- segments 0-1, 1-2, 2-0, all open; and with the last one closed
abbrev pub triangle : Network
triangle = net 3 (0 ∷ 1 ∷ 2 ∷ []) (1 ∷ 2 ∷ 0 ∷ []) (1 ∷ 1 ∷ 1 ∷ [])

abbrev pub path : Network
path = net 3 (0 ∷ 1 ∷ 2 ∷ []) (1 ∷ 2 ∷ 0 ∷ []) (1 ∷ 1 ∷ 0 ∷ [])

abbrev pub Case : Type 0
Case = (ℕ × ℕ) × (ℕ × ℕ)

abbrev pub table : List Case
table =
    -- a junction with itself: two empty routes, and nothing else
    (seen bare 1 1 (evidence 2 [] [] []), (0, 0))
    ∷ (seen triangle 1 1 (evidence 2 [] (1 ∷ 1 ∷ []) []), (13, 0))
    ∷ (seen bare 1 1 (evidence 0 (1 ∷ 0 ∷ []) [] []), (13, 0))
    -- nothing open: a set around either of the two, and no set around both
    ∷ (seen bare 0 1 (evidence 0 (1 ∷ 0 ∷ []) [] []), (0, 0))
    ∷ (seen bare 0 1 (evidence 0 (0 ∷ 1 ∷ []) [] []), (0, 0))
    ∷ (seen bare 0 1 (evidence 0 (1 ∷ 1 ∷ []) [] []), (13, 0))
    -- one segment: a route and a set; an answer 0 falls short
    ∷ (seen single 0 1 (evidence 1 (1 ∷ 0 ∷ []) (0 ∷ []) []), (0, 0))
    ∷ (seen single 0 1 (evidence 0 (1 ∷ 0 ∷ []) [] []), (13, 0))
    -- two carriageways are one road: answer 1, and not 2
    ∷ (seen dual 0 1 (evidence 1 (1 ∷ 0 ∷ []) (1 ∷ []) []), (0, 0))
    ∷ (seen dual 0 1 (evidence 2 [] (0 ∷ []) (1 ∷ [])), (13, 0))
    -- also where only the carriageway that does not name the road is open
    ∷ (seen half 0 1 (evidence 1 (1 ∷ 0 ∷ []) (1 ∷ []) []), (0, 0))
    ∷ (seen half 0 1 (evidence 0 (1 ∷ 0 ∷ []) [] []), (13, 0))
    -- a triangle: two ways round; a set that two roads leave falls short
    ∷ (seen triangle 0 2 (evidence 2 [] (2 ∷ []) (0 ∷ 1 ∷ [])), (0, 0))
    ∷ (seen triangle 0 2 (evidence 1 (1 ∷ 0 ∷ 0 ∷ []) (2 ∷ []) []), (13, 0))
    -- a route may turn round, within n segments
    ∷ (seen path 0 1 (evidence 1 (1 ∷ 0 ∷ 0 ∷ []) (0 ∷ 0 ∷ 0 ∷ []) []), (0, 0))
    ∷ (seen path 0 2 (evidence 1 (1 ∷ 0 ∷ 0 ∷ []) (0 ∷ 0 ∷ 0 ∷ 1 ∷ []) []), (13, 0))
    -- a closed segment, a number that is no segment, a gap
    ∷ (seen path 0 2 (evidence 1 (1 ∷ 0 ∷ 0 ∷ []) (2 ∷ []) []), (13, 0))
    ∷ (seen path 0 2 (evidence 1 (1 ∷ 0 ∷ 0 ∷ []) (3 ∷ []) []), (13, 0))
    ∷ (seen path 0 2 (evidence 1 (1 ∷ 0 ∷ 0 ∷ []) (1 ∷ []) []), (13, 0))
    ∷ (seen path 0 1 (evidence 1 (1 ∷ 0 ∷ 0 ∷ []) (1 ∷ []) []), (13, 0))
    -- what the claim does not need is not read, nor are entries past the sizes
    ∷ (seen bare 0 1 (evidence 0 (1 ∷ 0 ∷ []) (9 ∷ []) (9 ∷ [])), (0, 0))
    ∷ (seen triangle 0 2 (evidence 2 (9 ∷ []) (2 ∷ []) (0 ∷ 1 ∷ [])), (0, 0))
    ∷ (seen (network 2 1 (0 ∷ 7 ∷ []) (1 ∷ 7 ∷ []) (1 ∷ 7 ∷ [])) 0 1 (evidence 1 (1 ∷ 0 ∷ 9 ∷ []) (0 ∷ []) (9 ∷ [])), (0, 0))
    -- a byte above 1, a claim above 2
    ∷ (seen bare 0 1 (evidence 0 (2 ∷ 0 ∷ []) [] []), (13, 0))
    ∷ (seen bare 0 1 (evidence 3 [] [] []), (13, 0))
    -- refusals before it: sizes, a short table, a short set where the claim needs it, ends, the open set, junctions
    ∷ (seen (network 4097 0 [] [] []) 0 1 (evidence 2 [] [] []), (1, 0))
    ∷ (seen (network 2 1 (0 ∷ []) (1 ∷ []) []) 0 1 (evidence 2 [] [] []), (2, 0))
    ∷ (seen bare 0 1 (evidence 0 (1 ∷ []) [] []), (2, 0))
    ∷ (seen bare 0 1 (evidence 2 (1 ∷ []) [] []), (13, 0))
    ∷ (seen (net 2 (0 ∷ 0 ∷ []) (1 ∷ 2 ∷ []) (1 ∷ 2 ∷ [])) 0 5 (evidence 2 [] [] []), (4, 1))
    ∷ (seen (net 2 (0 ∷ 0 ∷ []) (1 ∷ 1 ∷ []) (1 ∷ 2 ∷ [])) 0 5 (evidence 2 [] [] []), (11, 1))
    ∷ (seen bare 0 2 (evidence 3 [] [] []), (5, 0))
    ∷ (seen bare 2 0 (evidence 3 [] [] []), (5, 0))
    ∷ []

-- every row holds
abbrev pub AllHold : List Case → Type 0
AllHold [] = Unit {0}
AllHold (r ∷ rs) = (r.0 ≡ r.1) × AllHold rs
