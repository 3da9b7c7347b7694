use native.Mathlib.Omega.{arith}
use Rattle.core_forest.proofs.AdjacencyLaws.{even_leaves, linking_self, odd_leaves}
use Rattle.core_forest.proofs.link_edges.Goals as goal

pub link_half-requires : goal.link_half-requires
link_half-requires c =
    (linking_self c.loop-e.invariant.1, omega arith, even_leaves _ c.loop-e.e _ c.get_half-y.ensures.0)

pub link_half-requires-in-loop-e : goal.link_half-requires-in-loop-e
link_half-requires-in-loop-e c =
    (linking_self c.link_half.ensures, omega arith, odd_leaves c.link_half.ensures c.loop-e.e _ c.get_half-x.ensures.0)
