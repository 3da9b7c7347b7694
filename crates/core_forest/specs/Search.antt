-- The breadth-first search that makes the forest, over functions that are read off the words: what holds between its steps, and what each step asks for and
-- ensures.
-- Each half-edge that leaves a finished node leads to a seen node of the same root, and a seen node that is not finished has the current root; so at the end
-- the ends of each edge have the same root, and no argument about closure is needed.
-- Assumes nothing: these are definitions.
use Rattle.std.specs.Prelude.{◌*◌, ◌+◌, ◌-◌, ◌<◌, ◌≤◌, suc, zero, ℕ, cond, List, [], ◌∷◌, ◌⊎◌, ◌≡◌, eqb, length}
use Rattle.core_forest.specs.AdjacencyLists.{AdjacencyLists, origin}
use Rattle.core_forest.specs.Forest.{HasParent, Joins, Root}
use Rattle.core_words.specs.Changes.{OnlyFields}
use Rattle.core_words.specs.Fields.{ACTIVE, EDGE, MARK, ORDER, PARENT, POSITION, ROOT, TO, half, node, update}

pub record CanAppend (n : ℕ) (w : List ℕ) (seen v p t r : ℕ) : Type 0 where
  pub few : n ≤ 65536
  pub room : 16 * n ≤ length w
  pub less : seen < n
  pub fit : v < n
  pub fit_p : p < n
  pub fit_t : t ≤ 65536
  pub fit_r : r < n

-- the fields that the search changes
abbrev pub search_fields : List ℕ
search_fields = ORDER ∷ POSITION ∷ PARENT ∷ ROOT ∷ EDGE ∷ []

abbrev pub Searched : ℕ → List ℕ → List ℕ → Type 0
Searched n a b = OnlyFields search_fields n a b

pub record Appended (n seen v p t r : ℕ) (a b : List ℕ) : Type 0 where
  pub rest : Searched n a b
  pub ord : node ORDER b ≡ update (node ORDER a) seen v
  pub pos : node POSITION b ≡ update (node POSITION a) v (seen + 1)
  pub par : node PARENT b ≡ update (node PARENT a) v p
  pub te : node EDGE b ≡ update (node EDGE a) v t
  pub root : node ROOT b ≡ update (node ROOT a) v r

-- at how many of the first n places p is not 0
unfoldable pub count_nonzero : (ℕ → ℕ) → ℕ → ℕ
count_nonzero p zero = 0
count_nonzero p (suc n) = cond (eqb (p n) 0) 0 1 + count_nonzero p n

-- `seen` nodes stand in the order; the first `done` of them are finished: all their half-edges have been followed; the others are of the tree of r
pub record Search (n m : ℕ) (mark to ord pos par te root : ℕ → ℕ) (done seen r : ℕ) : Type 0 where
  pub some : done ≤ seen
  pub count : count_nonzero pos n ≡ seen
  pub place : (i : ℕ) → i < seen → (ord i < n) × (pos (ord i) ≡ i + 1)
  pub place_of : (u : ℕ) → u < n → 0 < pos u → (pos u ≤ seen) × (ord (pos u - 1) ≡ u)
  pub kind : (u : ℕ) → u < n → 0 < pos u → Root par te root u ⊎ HasParent n m to pos par te root u
  pub first : (u : ℕ) → u < n → 0 < pos u → (0 < pos (root u)) × (pos (root u) ≤ pos u)
  pub marked : (u : ℕ) → u < n → 0 < pos u → 0 < mark (root u)
  pub pending : (u : ℕ) → u < n → done < pos u → root u ≡ r
  pub out : (h : ℕ) → h < 2 * m → 0 < pos (origin to h) → pos (origin to h) ≤ done → (0 < pos (to h)) × (root (to h) ≡ root (origin to h))

abbrev pub SearchAt : ℕ → ℕ → List ℕ → ℕ → ℕ → ℕ → Type 0
SearchAt n m w = Search n m (node MARK w) (half n TO w) (node ORDER w) (node POSITION w) (node PARENT w) (node EDGE w) (node ROOT w)

-- the tree edge of a new node v to its parent p
pub record TreeEdge (n m : ℕ) (to pos root : ℕ → ℕ) (v p t r : ℕ) : Type 0 where
  pub edge : ℕ
  pub is : t ≡ edge + 1
  pub less : edge < m
  pub join : Joins to edge v p
  pub fit : p < n
  pub seen : 0 < pos p
  pub same : root p ≡ r

-- v, at place `done`, is being followed: its half-edges from k on lead to seen nodes of the tree
pub record Scanning (n m : ℕ) (w : List ℕ) (done seen r v k : ℕ) : Type 0 where
  pub lists : AdjacencyLists n m w
  pub search : SearchAt n m w done seen r
  pub fit : v < n
  pub fit_r : r < n
  pub mark : 0 < node MARK w r
  pub at : node POSITION w v ≡ done + 1
  pub part : (h : ℕ) → k ≤ h → h < 2 * m → origin (half n TO w) h ≡ v → (0 < node POSITION w (half n TO w h)) × (node ROOT w (half n TO w h) ≡ r)

-- what the search keeps: the other fields, the half-edges, and that a node was seen
pub record SearchKeeps (n : ℕ) (a b : List ℕ) : Type 0 where
  pub rest : Searched n a b
  pub more : (u : ℕ) → u < n → 0 < node POSITION a u → 0 < node POSITION b u

abbrev pub Visited : ℕ → ℕ → List ℕ → List ℕ → ℕ → ℕ → ℕ → ℕ → ℕ → Type 0
Visited n m w w' done seen r v h = SearchKeeps n w w' × Scanning n m w' done seen r v h

pub record CanVisit (n m : ℕ) (w : List ℕ) (done seen r v h : ℕ) : Type 0 where
  pub scan : Scanning n m w done seen r v (h + 1)
  pub less : h < 2 * m
  pub leaves : origin (half n TO w) h ≡ v

-- the tree of r is searched
pub record Growing (n m : ℕ) (w : List ℕ) (done seen r : ℕ) : Type 0 where
  pub lists : AdjacencyLists n m w
  pub search : SearchAt n m w done seen r
  pub fit_r : r < n
  pub mark : 0 < node MARK w r

pub record Grown (n m : ℕ) (w w' : List ℕ) (done seen r : ℕ) : Type 0 where
  pub keeps : SearchKeeps n w w'
  pub search : SearchAt n m w' done seen r

-- between two trees: the first j active nodes are seen
pub record BetweenTrees (n m k : ℕ) (w : List ℕ) (seen j : ℕ) : Type 0 where
  pub lists : AdjacencyLists n m w
  pub active : (i : ℕ) → i < k → (node ACTIVE w i < n) × (0 < node MARK w (node ACTIVE w i))
  pub all : k ≤ n
  pub search : SearchAt n m w seen seen 0
  pub have : (i : ℕ) → i < j → 0 < node POSITION w (node ACTIVE w i)
