-- Worked cases of the definitions, each computed.
-- Assumes nothing.
use mathlib.Core.List.{[], ◌∷◌}
use mathlib.Core.Path.{◌≡◌, refl}
use Rattle.theory_graph.specs.Contraction.{contract, kept, kept_classes, linked, parts, third, without}
use Rattle.theory_graph.specs.Graph.{answer, joined, removals, rep, two_edge}
use Rattle.theory_names.specs.Names.{Named, class_node, contract_named, hangs}

-- a path 0 - 2 - 1: the spliced edge takes the smaller name
path : Named
path = ((0, 2), 7) ∷ ((2, 1), 5) ∷ []

path_hangs : hangs path 0 1 ≡ 5
unfolding path hangs answer joined rep two_edge removals
path_hangs = refl

path_contracted : contract_named 3 path (0 ∷ 1 ∷ []) ≡ ((0, 1), 5) ∷ []
unfolding path contract_named class_node hangs answer contract kept_classes kept parts without third linked two_edge joined rep removals
path_contracted = refl

-- two edges between 2 and 3 in the way: the loss of one of them parts nothing, so that their names do not count
ring : Named
ring = ((0, 2), 9) ∷ ((2, 3), 1) ∷ ((3, 2), 1) ∷ ((3, 1), 4) ∷ []

ring_contracted : contract_named 4 ring (0 ∷ 1 ∷ []) ≡ ((0, 1), 4) ∷ []
unfolding ring contract_named class_node hangs answer contract kept_classes kept parts without third linked two_edge joined rep removals
ring_contracted = refl

-- answer 2, and answer 0
ring_class : hangs ring 2 3 ≡ 65535
unfolding ring hangs answer joined rep two_edge removals
ring_class = refl

ring_apart : hangs ring 0 4 ≡ 65535
unfolding ring hangs answer joined rep two_edge removals
ring_apart = refl

-- a branching without an active node is kept, and each arm keeps its own smallest name
star : Named
star = ((0, 3), 21) ∷ ((3, 1), 18) ∷ ((3, 4), 6) ∷ ((4, 2), 8) ∷ []

star_contracted : contract_named 5 star (2 ∷ 0 ∷ 1 ∷ []) ≡ ((0, 3), 6) ∷ ((1, 3), 21) ∷ ((2, 3), 18) ∷ []
unfolding star contract_named class_node hangs answer contract kept_classes kept parts without third linked two_edge joined rep removals
star_contracted = refl
