-- The contraction as a public call: what it is lent, its faults in their order, what it returns, and what each lent table holds afterwards.
-- The contraction itself is defined in the crate theory_graph, specs/Contraction, the pieces in its specs/Pieces, and the names of its edges in the crate
-- theory_names, specs/Names. Assumes nothing: these are definitions.
use Rattle.std.specs.Prelude.{ℕ, ◌+◌, ◌*◌, Bool, true, false, List, [], ◌∷◌, ◌++◌, map, ◌≡◌, eqb, leb, ltb, length, get_or, take, replicate}
use Rattle.theory_graph.specs.Lists.{pairs, over}
use Rattle.theory_graph.specs.Graph.{Edge}
use Rattle.theory_graph.specs.Contraction.{Contracted, contract}
use Rattle.theory_graph.specs.Pieces as graph
use Rattle.theory_names.specs.Names.{Entry, Named, contract_named}
use Rattle.call_sizes.specs.Refusal.{Row, row, Refusal, bad_ends, first_fault, seek, short_rows}
use Rattle.call_sizes.specs.Sizes.{size_faults}

-- the sizes and the tables that are lent
pub record Lent : Type 0 where
  pub n : ℕ
  pub m : ℕ
  pub k : ℕ
  pub from : List ℕ
  pub to : List ℕ
  pub names : List ℕ
  pub active : List ℕ
  pub map : List ℕ
  pub out_from : List ℕ
  pub out_to : List ℕ
  pub out_names : List ℕ
  pub pieces : List ℕ
  pub work : List ℕ

-- the sizes and the tables of a call as one record
abbrev pub lent : ℕ → ℕ → ℕ → List ℕ → List ℕ → List ℕ → List ℕ → List ℕ → List ℕ → List ℕ → List ℕ → List ℕ → List ℕ → Lent
lent n m k from to names active map out_from out_to out_names pieces work = record {
  n = n;
  m = m;
  k = k;
  from = from;
  to = to;
  names = names;
  active = active;
  map = map;
  out_from = out_from;
  out_to = out_to;
  out_names = out_names;
  pieces = pieces;
  work = work;
}

-- the words that a contraction of n nodes and m edges needs
abbrev pub required : ℕ → ℕ → ℕ
required n m = 16 * n + 8 * m + 512

-- the edges and the active entries that count: entries past the sizes are ignored
unfoldable pub edges : Lent → List Edge
edges l = pairs (take l.m l.from) (take l.m l.to)

-- the edges with their names
unfoldable pub named_edges : Lent → Named
named_edges l = pairs (edges l) (take l.m l.names)

unfoldable pub entries : Lent → List ℕ
entries l = take l.k l.active

-- ---- faults
-- active entry i is not below n
abbrev pub bad_entry : ℕ → List ℕ → ℕ → Bool
bad_entry n active i = leb n (get_or active i 0)

-- each table's length, and the least that it must have
abbrev pub table_lengths : Lent → List (ℕ × ℕ)
table_lengths l =
    (length l.from, l.m)
    ∷ (length l.to, l.m)
    ∷ (length l.names, l.m)
    ∷ (length l.active, l.k)
    ∷ (length l.map, l.k)
    ∷ (length l.out_from, 2 * l.k)
    ∷ (length l.out_to, 2 * l.k)
    ∷ (length l.out_names, 2 * l.k)
    ∷ (length l.pieces, l.k)
    ∷ (length l.work, required l.n l.m)
    ∷ []

-- refusal 2
abbrev pub short_tables : Lent → List Row
short_tables l = short_rows (table_lengths l)

-- 1, 2, then 4 at the first edge with an end not below n, then 8 at the first active entry not below n
unfoldable pub faults : Lent → List Row
faults l =
    let e : ℕ = seek (bad_ends l.n l.from l.to) 0 l.m in
    let a : ℕ = seek (bad_entry l.n l.active) 0 l.k in
    size_faults l.n l.m 0 l.k ++ short_tables l ++ row (ltb e l.m) 4 e ∷ row (ltb a l.k) 8 a ∷ []

unfoldable pub fault : Lent → Refusal
fault l = first_fault (faults l)

-- nothing is wrong with what is lent
abbrev pub Faultless : Lent → Type 0
Faultless l = (fault l).0 ≡ 0

-- ---- what is returned, and what the tables hold afterwards
pub record Outcome : Type 0 where
  -- whether the reply is the one of an accepted call: with the numbers alone, a refusal with the number 0 could pass for an empty result
  pub accepted : Bool
  -- 0, or the refusal's number; and its place
  pub code : ℕ
  pub place : ℕ
  pub nodes : ℕ
  pub edges : ℕ
  -- the tables that may be written; the others are only read
  pub map : List ℕ
  pub out_from : List ℕ
  pub out_to : List ℕ
  pub out_names : List ℕ
  pub pieces : List ℕ
  pub work : List ℕ

unfoldable pub done : Lent → Outcome
done l =
    let c : Contracted = contract l.n (edges l) (entries l) in
    record {
      accepted = true;
      code = 0;
      place = 0;
      nodes = c.nodes;
      edges = length c.edges;
      map = over c.map l.map;
      out_from = over (map (λ (e : Edge). e.0) c.edges) l.out_from;
      out_to = over (map (λ (e : Edge). e.1) c.edges) l.out_to;
      out_names = over (map (λ (e : Entry). e.1) (contract_named l.n (named_edges l) (entries l))) l.out_names;
      pieces = over (graph.pieces (edges l) (entries l)) l.pieces;
      work = over (replicate (required l.n l.m) 0) l.work;
    }

unfoldable pub refused : Lent → Refusal → Outcome
refused l f =
    record {
      accepted = false;
      code = f.0;
      place = f.1;
      nodes = 0;
      edges = 0;
      map = l.map;
      out_from = l.out_from;
      out_to = l.out_to;
      out_names = l.out_names;
      pieces = l.pieces;
      work = l.work;
    }

-- the outcome that a call with these sizes and tables must have
unfoldable pub contraction : Lent → Outcome
contraction l = elim (eqb (fault l).0 0) [ true ↦ done l | false ↦ refused l (fault l) ]
