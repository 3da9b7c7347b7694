-- The blocks of a search as they stand in the words, and how many relevant nodes each class has. A node is relevant if it is active or the top of a class with a relevant
-- node. Functions of the words: `to` the ends of half-edges, `act` the active nodes, `ord` the order of the search, `te` one more than the tree edge, `par` the parent,
-- `top` the first node of a class, `mark` not 0 at active nodes; `members` at a class's first node the number of its relevant nodes, `below` at a node the number of
-- classes with relevant nodes right below it.
-- Assumes nothing: these are definitions.
use Rattle.std.specs.Prelude.{◌*◌, ◌+◌, ◌-◌, ◌<◌, ◌≤◌, ℕ, not, true, List, [], ◌∷◌, ◌⊎◌, ◌≡◌, eqb, ltb, length}
use Rattle.theory_graph.specs.Graph.{NodeSet}
use Rattle.theory_graph.specs.Lists.{member, table}
use Rattle.theory_junctions.specs.Blocks.{Blocks}
use Rattle.theory_junctions.specs.Reduce.{Relevance, Search, classes_among, members_in}
use Rattle.core_words.specs.Changes.{OnlyFields}
use Rattle.core_words.specs.Fields.{ACTIVE, BRANCH, EDGE, LIVE, MARK, MEMBER, ORDER, OTHER, PARENT, TO, TOP, half, node, update}
use Rattle.core_forest.specs.Forest.{edges_below}

-- ---- second uses of fields
-- at the first node of a class: the number of its relevant nodes
abbrev pub MEMBERS : ℕ
MEMBERS = LIVE

-- the number of classes with relevant nodes right below a node
abbrev pub BELOW : ℕ
BELOW = BRANCH

-- at the first node of a class: one more than the number of its last relevant node so far, 0 for none
abbrev pub LAST : ℕ
LAST = OTHER

-- one more than the number that the edge to a node in its cycle comes from, 0 for no edge
abbrev pub FROM : ℕ
FROM = MEMBER

-- ---- the blocks
pub record BlocksBy (n m k seen : ℕ) (to act ord te par top mark : ℕ → ℕ) : Type 0 where
  pub blocks : Blocks (edges_below to m)
  -- the relevant nodes
  pub rel : NodeSet
  pub search : Search (edges_below to m) blocks (member (table act 0 k)) (table ord 0 seen)
  pub relevance : Relevance (edges_below to m) blocks (member (table act 0 k)) rel
  pub less : seen ≤ n
  pub placed : (i : ℕ) → i < seen → ord i < n
  pub child : (i : ℕ) → i < seen → blocks.child (ord i) ≡ not (eqb (te (ord i)) 0)
  pub child_fit : (v : ℕ) → blocks.child v ≡ true → v < n
  pub parent : (v : ℕ) → blocks.par v ≡ par v
  pub parent_fit : (i : ℕ) → i < seen → par (ord i) < n
  pub first : (v : ℕ) → v < n → blocks.first v ≡ top v
  pub marks : (v : ℕ) → v < n → member (table act 0 k) v ≡ ltb 0 (mark v)

-- the counts after the nodes from place i on
pub record CountsBy (n m k seen i : ℕ) (to act ord te par top mark members below : ℕ → ℕ) : Type 0 where
  pub is : BlocksBy n m k seen to act ord te par top mark
  pub members_are : (c : ℕ) → c < n → members c ≡ length (members_in is.blocks is.rel (table ord i (seen - i)) c)
  pub below_are : (t : ℕ) → t < n → below t ≡ classes_among is.blocks is.rel (table ord 0 seen) (table ord i (seen - i)) t

-- at the words
abbrev pub BlocksAt : ℕ → ℕ → ℕ → ℕ → List ℕ → Type 0
BlocksAt n m k seen w = BlocksBy n m k seen (half n TO w) (node ACTIVE w) (node ORDER w) (node EDGE w) (node PARENT w) (node TOP w) (node MARK w)

abbrev pub CountsAt : ℕ → ℕ → ℕ → ℕ → ℕ → List ℕ → Type 0
CountsAt n m k seen i w = CountsBy n m k seen i (half n TO w) (node ACTIVE w) (node ORDER w) (node EDGE w) (node PARENT w) (node TOP w) (node MARK w) (node MEMBERS w) (node BELOW w)

-- ---- one node is counted
pub record CanCountNode (n : ℕ) (w : List ℕ) (v : ℕ) : Type 0 where
  pub few : n ≤ 65536
  pub room : 16 * n ≤ length w
  pub fit : v < n
  pub top_fit : ¬ (node EDGE w v ≡ 0) → node TOP w v < n
  pub parent_fit : ¬ (node EDGE w v ≡ 0) → node PARENT w (node TOP w v) < n
  pub members_few : ¬ (node EDGE w v ≡ 0) → node MEMBERS w (node TOP w v) ≤ 65536
  pub below_few : ¬ (node EDGE w v ≡ 0) → node BELOW w (node PARENT w (node TOP w v)) ≤ 65536

-- the fields that counting changes
abbrev pub count_fields : List ℕ
count_fields = MEMBERS ∷ BELOW ∷ []

-- v is relevant and no root: its class has one relevant node more, and with the first of them its top one class more
pub record NodeCounted (n v t : ℕ) (a b : List ℕ) : Type 0 where
  pub is : node TOP a v ≡ t
  pub child : ¬ (node EDGE a v ≡ 0)
  pub relevant : ¬ (node MARK a v + node BELOW a v ≡ 0)
  pub rest : OnlyFields count_fields n a b
  pub members : node MEMBERS b ≡ update (node MEMBERS a) t (node MEMBERS a t + 1)
  pub below : ((node MEMBERS a t ≡ 0) × (node BELOW b ≡ update (node BELOW a) (node PARENT a t) (node BELOW a (node PARENT a t) + 1)))
      ⊎ (¬ (node MEMBERS a t ≡ 0) × (node BELOW b ≡ node BELOW a))

abbrev pub CountedNode : ℕ → ℕ → List ℕ → List ℕ → Type 0
CountedNode n v a b = ((b ≡ a) × ((node EDGE a v ≡ 0) ⊎ (node MARK a v + node BELOW a v ≡ 0))) ⊎ NodeCounted n v (node TOP a v) a b

-- ---- all nodes
pub record CanCount (n m k seen : ℕ) (w : List ℕ) : Type 0 where
  pub few : n ≤ 65536
  pub room : 16 * n ≤ length w
  pub blocks : BlocksAt n m k seen w
  pub none : (v : ℕ) → v < n → (node MEMBERS w v ≡ 0) × (node BELOW w v ≡ 0)

-- the nodes from place i on are counted
pub record Counting (n m k seen i : ℕ) (a w : List ℕ) : Type 0 where
  pub rest : OnlyFields count_fields n a w
  pub counts : CountsAt n m k seen i w
