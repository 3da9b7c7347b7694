-- The parts of loading a graph into the words: no mark at first, a node entered as active, where it is not yet, and an edge stored.
-- Assumes nothing: these are definitions.
use Rattle.std.specs.Prelude.{◌*◌, ◌+◌, ◌<◌, ◌≤◌, ℕ, List, [], ◌++◌, ◌∷◌, ◌≡◌, eqb, get_or, length}
use Rattle.theory_graph.specs.Lists.{firsts, table}
use Rattle.core_words.specs.Fields.{ACTIVE, MARK, NAME, TO, half, node}

-- from the words a to b every entry from i on stays
abbrev pub Past : ℕ → List ℕ → List ℕ → Type 0
Past i a b = (j : ℕ) → i ≤ j → get_or b j 0 ≡ get_or a j 0

-- no node is marked
abbrev pub Unmarked : ℕ → List ℕ → Type 0
Unmarked n w = (v : ℕ) → v < n → node MARK w v ≡ 0

-- The entries S are entered: act lists the d different ones in order of first appearance, and mark is one more than a node's place among them.
pub record Entered (n : ℕ) (S : List ℕ) (d : ℕ) (mark act : ℕ → ℕ) : Type 0 where
  pub active : table act 0 d ≡ firsts eqb S
  pub below : (i : ℕ) → i < d → act i < n
  pub marked : (i : ℕ) → i < d → mark (act i) ≡ i + 1
  pub marks : (v : ℕ) → v < n → 0 < mark v → (i : ℕ) × (i < d) × (act i ≡ v)

-- from a to b one more entry v is entered: r different ones in place of d
pub record Entering (n d v : ℕ) (a b : List ℕ) (r : ℕ) : Type 0 where
  pub same : length b ≡ length a
  pub past : Past (16 * n) a b
  pub else : (j : ℕ) → j < 16 → ¬ (j ≡ MARK) → ¬ (j ≡ ACTIVE) → node j b ≡ node j a
  pub more : (S : List ℕ) → Entered n S d (node MARK a) (node ACTIVE a) → Entered n (S ++ (v ∷ [])) r (node MARK b) (node ACTIVE b)

-- from w to z edge j is stored, with the ends a and b and the name c
pub record PutEdge (n j a b c : ℕ) (w z : List ℕ) : Type 0 where
  pub same : length z ≡ length w
  pub past : Past (16 * n + 6 * j + 6) w z
  pub first : half n TO z (2 * j) ≡ a
  pub second : half n TO z (2 * j + 1) ≡ b
  pub name : half n NAME z (2 * j) ≡ c
  pub else : (h : ℕ) → h < 2 * j → half n TO z h ≡ half n TO w h
  pub else_name : (h : ℕ) → h < 2 * j → half n NAME z h ≡ half n NAME w h
  pub nodes : (i : ℕ) → i < 16 → (v : ℕ) → v < n → node i z v ≡ node i w v
