-- What loading a graph gives: all active entries entered, the ends and the names of the edges stored, and both together; and what numbering the trees takes and gives.
-- Assumes nothing: these are definitions.
use Rattle.std.specs.Prelude.{◌*◌, ◌+◌, ◌<◌, ◌≤◌, ℕ, List, ◌≡◌, eqb, get_or, length, take}
use Rattle.core_reduce.specs.Core.{Loaded, active_in, edges_in}
use Rattle.theory_graph.specs.Lists.{firsts, over, pairs, table}
use Rattle.theory_graph.specs.Pieces.{numbered}
use Rattle.core_loading.specs.Loading.{Entered, Past}
use Rattle.core_words.specs.Fields.{ACTIVE, MARK, NAME, ROOT, TO, half, node}

-- from a to b all of S are entered
pub record Entries (n : ℕ) (S : List ℕ) (a b : List ℕ) (d : ℕ) : Type 0 where
  pub same : length b ≡ length a
  pub past : Past (16 * n) a b
  pub entered : Entered n S d (node MARK b) (node ACTIVE b)

-- from a to b the ends and the names of the first s of m edges are stored
pub record Edges (n m : ℕ) (from to names a b : List ℕ) (s : ℕ) : Type 0 where
  pub same : length b ≡ length a
  pub past : Past (16 * n + 6 * m) a b
  pub nodes : (j : ℕ) → j < 16 → (v : ℕ) → v < n → node j b v ≡ node j a v
  pub ends : (e : ℕ) → e < s → (half n TO b (2 * e) ≡ get_or from e 0) × (half n TO b (2 * e + 1) ≡ get_or to e 0)
  pub named : (e : ℕ) → e < s → half n NAME b (2 * e) ≡ get_or names e 0

-- what can be loaded
pub record Loadable (n m k : ℕ) (from to names active w : List ℕ) : Type 0 where
  pub few : n ≤ 65536
  pub much : m ≤ 32768
  pub room : 16 * n + 6 * m ≤ length w
  pub from_length : m ≤ length from
  pub to_length : m ≤ length to
  pub names_length : m ≤ length names
  pub active_length : k ≤ length active
  pub ends : (e : ℕ) → e < m → (get_or from e 0 < n) × (get_or to e 0 < n)
  pub entries : (i : ℕ) → i < k → get_or active i 0 < n

-- from a to b all is loaded: the edges as they are given, with their names, and of the active entries the d different ones
pub record Prepared (n m k : ℕ) (from to names active a b : List ℕ) (d : ℕ) : Type 0 where
  pub same : length b ≡ length a
  pub past : Past (16 * n + 6 * m) a b
  pub loaded : Loaded n m d b
  pub edges : edges_in n m b ≡ pairs (pairs (take m from) (take m to)) (take m names)
  pub actives : active_in d b ≡ firsts eqb (take k active)

-- the roots of the trees that the first k active entries lie in
abbrev pub roots_of : ℕ → List ℕ → List ℕ → List ℕ
roots_of k active w = table (λ i. node ROOT w (get_or active i 0)) 0 k

-- the trees can be numbered
pub record CanNumber (n k : ℕ) (active pieces w : List ℕ) : Type 0 where
  pub few : n ≤ 65536
  pub room : 16 * n ≤ length w
  pub active_length : k ≤ length active
  pub pieces_length : k ≤ length pieces
  pub entries : (i : ℕ) → i < k → (get_or active i 0 < n) × (node ROOT w (get_or active i 0) < n)

-- from the table p to q the number of each entry's tree is written, by first appearance of its root; the words go from a to b
pub record TreesNumbered (n k : ℕ) (active a b p q : List ℕ) : Type 0 where
  pub same : length b ≡ length a
  pub past : Past (16 * n) a b
  pub filled : q ≡ over (numbered eqb (roots_of k active a)) p
