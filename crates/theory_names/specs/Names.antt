-- Document 02, No. 5: edges that carry names, the name that an answer 1 hangs on, and the names of a contraction's edges.
-- A named graph is a list of entries, each an edge with its name. Without the names it is a graph of the crate theory_graph, whose definitions are used as they are.
-- Assumes nothing: these are definitions.
use Rattle.std.specs.Prelude.{◌*◌, ◌+◌, ◌≤◌, min, ℕ, Bool, cond, not, ◌≡◌, eqb, get_or}
use mathlib.Core.List.{List, Memᴰ, [], ◌∷◌, map}
use Rattle.theory_graph.specs.Contraction.{contract, kept_classes}
use Rattle.theory_graph.specs.Cut.{crosses}
use Rattle.theory_graph.specs.Graph.{Edge, NodeSet, answer, joined}

-- an edge with its name
abbrev pub Entry : Type 0
Entry = Edge × ℕ

abbrev pub Named : Type 0
Named = List Entry

-- the graph without its names
abbrev pub plain : Named → List Edge
plain G = map (λ (e : Entry). e.0) G

-- ---- the name that an answer 1 hangs on
-- the names of the entries whose loss leaves a list that passes the test
abbrev pub loss_names : (List Edge → Bool) → Named → List ℕ
loss_names t [] = []
loss_names t (e ∷ G) = cond (t (plain G)) (e.1 ∷ loss_names (λ F. t (e.0 ∷ F)) G) (loss_names (λ F. t (e.0 ∷ F)) G)

-- the smallest of some names; 65,535 where there is none
abbrev pub least : List ℕ → ℕ
least [] = 65535
least (n ∷ []) = n
least (n ∷ m ∷ ns) = min n (least (m ∷ ns))

-- where the answer of x and y is 1, the smallest name of an entry whose loss parts the two; else 65,535
unfoldable pub hangs : Named → ℕ → ℕ → ℕ
hangs G x y = cond (eqb (answer (plain G) x y) 1) (least (loss_names (λ F. not (joined F x y)) G)) 65535

-- ---- the contraction
-- the node that stands for the class with the number i, in the contraction of n nodes with the entries G to the active list S
unfoldable pub class_node : ℕ → Named → List ℕ → ℕ → ℕ
class_node n G S i = get_or (kept_classes n (plain G) S) i 0

-- The contraction's edges with their names: each has the smallest name of an entry whose loss parts its two classes.
-- That this is the smallest along the route that the edge stands for is a law (proofs/Trails: edge_trail).
unfoldable pub contract_named : ℕ → Named → List ℕ → Named
contract_named n G S = map (λ (e : Edge). (e, hangs G (class_node n G S e.0) (class_node n G S e.1))) (contract n (plain G) S).edges

-- ---- cuts with names
-- what the names of the entries that leave U weigh together, where the name n weighs f n
abbrev pub weigh : (ℕ → ℕ) → NodeSet → Named → ℕ
weigh f U [] = 0
weigh f U (e ∷ G) = crosses (U e.0.0) (U e.0.1) * f e.1 + weigh f U G

-- The sum of the names of the entries that leave U. Where just one entry leaves U it is that entry's name.
abbrev pub cut_names : NodeSet → Named → ℕ
cut_names U G = weigh (λ n. n) U G

-- what leaves a set weighs the same in both, whatever a name weighs: so it is where the entries are the same, in any order and written either way
pub record SameEntries (G H : Named) : Type 0 where
  pub weights : (f : ℕ → ℕ) (U : NodeSet) → weigh f U G ≡ weigh f U H

-- each name is a 16-bit number
abbrev pub Sixteen : Named → Type 0
Sixteen G = (e : Entry) → Memᴰ e G → e.1 ≤ 65535
