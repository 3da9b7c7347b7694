-- Document 01, "Contraction": which classes are kept, which are joined, how they are numbered, and the result with its edges in order.
-- A class is given by any of its nodes. Assumes nothing: these are definitions.
use Rattle.std.specs.Prelude.{suc, ℕ, Bool, ◌&&◌, ◌||◌, cond, not, List, [], ◌++◌, ◌∷◌, map, leb, length}
use Rattle.theory_graph.specs.Graph.{Edge, induced, joined, two_edge}
use Rattle.theory_graph.specs.Lists.{any, filter, firsts, position, range}

-- the graph without z's class: the edges that touch no node of it
unfoldable pub without : List Edge → ℕ → List Edge
without E z = induced (λ v. not (two_edge E z v)) E

-- The parts that are left of z's piece when its class is taken away, and that hold an active node: the first active node of each.
unfoldable pub parts : List Edge → List ℕ → ℕ → List ℕ
parts E S z = firsts (joined (without E z)) (filter (λ a. joined E z a && not (two_edge E z a)) S)

-- z's class holds an active node, or at least three such parts are left
unfoldable pub kept : List Edge → List ℕ → ℕ → Bool
kept E S z = any (two_edge E z) S || leb 3 (length (parts E S z))

-- v lies in a third kept class, beside those of x and y
unfoldable pub third : List Edge → List ℕ → ℕ → ℕ → ℕ → Bool
third E S x y v = kept E S v && (not (two_edge E v x) && not (two_edge E v y))

-- the classes of x and y are two, and a route between them meets no third kept class
unfoldable pub linked : List Edge → List ℕ → ℕ → ℕ → Bool
linked E S x y = not (two_edge E x y) && joined (induced (λ v. not (third E S x y v)) E) x y

-- The kept classes in the order of their numbers, each by one of its nodes:
-- those with active nodes in order of first appearance in S, then the others by their smallest node, ascending.
unfoldable pub kept_classes : ℕ → List Edge → List ℕ → List ℕ
kept_classes n E S = firsts (two_edge E) (S ++ filter (kept E S) (range 0 n))

-- the number of a's class
unfoldable pub number : ℕ → List Edge → List ℕ → ℕ → ℕ
number n E S a = position (λ c. two_edge E c a) (kept_classes n E S)

-- The pairs of numbers that are linked, smaller number first, ascending by first, then second.
-- L tells whether two nodes are linked; the first of the list has the number i.
abbrev pub links_from : (ℕ → Bool) → ℕ → ℕ → List ℕ → List Edge
links_from L i j [] = []
links_from L i j (s ∷ ss) = cond (L s) ((i, j) ∷ links_from L i (suc j) ss) (links_from L i (suc j) ss)

abbrev pub links : (ℕ → ℕ → Bool) → ℕ → List ℕ → List Edge
links L i [] = []
links L i (r ∷ rs) = links_from (L r) i (suc i) rs ++ links L (suc i) rs

-- what a contraction gives: the number of nodes, the new number for each active entry, the edges
pub record Contracted : Type 0 where
  pub nodes : ℕ
  pub map : List ℕ
  pub edges : List Edge

-- the contraction of n nodes with the edges E to the active list S
unfoldable pub contract : ℕ → List Edge → List ℕ → Contracted
contract n E S =
    let cs : List ℕ = kept_classes n E S in
    record { nodes = length cs; map = map (λ a. position (λ c. two_edge E c a) cs) S; edges = links (linked E S) 0 cs }
