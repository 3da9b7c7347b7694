-- The layout of the contraction's words: field k of node v stands at 16 v + k, and field k of half-edge h, where there are n nodes, at 16 n + 3 h + k.
-- Each field is read as a function from nodes (half-edges) to numbers, and a store changes one function at one place.
-- Assumes nothing: these are definitions.
use Rattle.std.specs.Prelude.{◌*◌, ◌+◌, ◌<◌, ℕ, cond, List, ◌≡◌, eqb, get_or, length}

-- Fields of a node. Some have a second use, with a name of its own.
-- 1 + the place of a node among the active nodes, 0 for none (in)
abbrev pub MARK : ℕ
MARK = 0

-- the number of an active node's class (out)
abbrev pub MAPPED : ℕ
MAPPED = 0

-- at i: the i-th active node (in)
abbrev pub ACTIVE : ℕ
ACTIVE = 1

-- 1 + the first half-edge of a node's adjacency list, 0 for none
abbrev pub HEAD : ℕ
HEAD = 2

-- at a number: 1 + the first of its larger children, 0 for none
abbrev pub CHILD : ℕ
CHILD = 2

-- at i: the i-th node of the search
abbrev pub ORDER : ℕ
ORDER = 3

-- 1 + the place of a node in the search, 0 unseen
abbrev pub POSITION : ℕ
POSITION = 4

-- at j: the smaller end of the j-th edge (out)
abbrev pub LOWER : ℕ
LOWER = 4

-- the parent of a node in the forest
abbrev pub PARENT : ℕ
PARENT = 5

-- at j: the larger end of the j-th edge (out)
abbrev pub UPPER : ℕ
UPPER = 5

-- the top of a node's class
abbrev pub TOP : ℕ
TOP = 6

-- at a top: 1 + an active node at or below its class, 0 for none
abbrev pub LIVE : ℕ
LIVE = 7

-- at a top: 1 + the last branch that was reported to its class, 0 for none
abbrev pub BRANCH : ℕ
BRANCH = 8

-- at a number: 1 + the next in a list of larger children, 0 for none
abbrev pub SIBLING : ℕ
SIBLING = 8

-- at a top: 1 + another branch, 0 for none
abbrev pub OTHER : ℕ
OTHER = 9

-- at a number: 1 + the number of the nearest kept class above, 0 for none
abbrev pub ABOVE : ℕ
ABOVE = 9

-- at a top: 1 + the number of its class, 0 for none
abbrev pub NUMBER : ℕ
NUMBER = 10

-- at a number: a node of its class
abbrev pub MEMBER : ℕ
MEMBER = 11

-- the root of a node's tree
abbrev pub ROOT : ℕ
ROOT = 12

-- 1 + the edge of a node to its parent, 0 at a root
abbrev pub EDGE : ℕ
EDGE = 13

-- at a number: the smallest name between its class and the nearest kept class above, where there is one
abbrev pub LEAST : ℕ
LEAST = 14

-- at j: the name of the j-th edge (out)
abbrev pub NAMED : ℕ
NAMED = 15

-- Fields of a half-edge.
-- the far end of a half-edge (in)
abbrev pub TO : ℕ
TO = 0

-- 1 + the next half-edge at the same node, 0 for none
abbrev pub NEXT : ℕ
NEXT = 1

-- at the first half-edge of an edge: the edge's name (in)
abbrev pub NAME : ℕ
NAME = 2

unfoldable pub node : ℕ → List ℕ → ℕ → ℕ
node k w v = get_or w (16 * v + k) 0

unfoldable pub half : ℕ → ℕ → List ℕ → ℕ → ℕ
half n k w h = get_or w (16 * n + 3 * h + k) 0

-- f with the value x at v
unfoldable pub update : (ℕ → ℕ) → ℕ → ℕ → ℕ → ℕ
update f v x u = cond (eqb u v) x (f u)

-- from a to b field k of node v is set to x; every other field, and the half-edges behind node v, stay
pub record Put (k v x : ℕ) (a b : List ℕ) : Type 0 where
  pub same : length b ≡ length a
  pub here : node k b ≡ update (node k a) v x
  pub else : (j : ℕ) → j < 16 → (j ≡ k → ⊥) → node j b ≡ node j a
  pub halves : (n : ℕ) → v < n → (j : ℕ) → half n j b ≡ half n j a

-- from a to b field k of half-edge h is set to x; the other fields of each half-edge, and all nodes, stay
pub record PutHalf (n k h x : ℕ) (a b : List ℕ) : Type 0 where
  pub same : length b ≡ length a
  pub here : half n k b ≡ update (half n k a) h x
  pub else : (j : ℕ) → j < 3 → (j ≡ k → ⊥) → half n j b ≡ half n j a
  pub nodes : (j : ℕ) → j < 16 → (v : ℕ) → v < n → node j b v ≡ node j a v
