-- The counts of the replay's area: a small graph has few nodes and edges for its events, and so it is one of which a step can be made.
-- Assumes nothing.
use Prim.Native.Nat.{◌*◌, ◌+◌, ◌<◌, ◌≤◌, ℕ}
use mathlib.Core.List.{List}
use mathlib.Core.Path.{◌≡◌, sym}
use lib.Dec.{eqb, ltb}
use lib.ListN.{drop, length, length-drop, length-map, length-take, take}
use native.Mathlib.Omega.{arith}
use borrow.Author.Tests.{ltb-false, ltb-true}
use Rattle.theory_graph.proofs.Booleans.{on_bool}
use Rattle.theory_graph.proofs.EdgeCount.{firsts_most, small_edges, small_edges_most}
use Rattle.theory_graph.proofs.SmallGraphDefinition.{definition_small}
use Rattle.theory_graph.proofs.TableLaws.{pairs_length}
use Rattle.theory_graph.specs.Lists.{pairs, table}
use Rattle.theory_graph.specs.SmallGraph.{different, most_nodes}
use Rattle.theory_names.proofs.NamedSmallCuts.{named_small_carries, named_small_sixteen}
use Rattle.theory_names.proofs.NamedUniqueness.{named_renumbered_small}
use Rattle.theory_names.specs.Names.{Entry, Sixteen}
use Rattle.theory_names.specs.NamedSmallGraph.{IsNamedSmallGraph}
use Rattle.theory_timeline.proofs.Acceptance.{sound_good}
use Rattle.theory_timeline.proofs.DemandThree.{named_is}
use Rattle.theory_timeline.proofs.Networks.{network_sixteen}
use Rattle.theory_timeline.specs.Steps.{Sound}
use Rattle.theory_timeline.specs.Windows.{Timeline, active, during, network, small}
use Rattle.replay_step.proofs.EdgeLaws.{area_table, area_entry}
use Rattle.replay_step.proofs.LoadLaws.{active_length}
use Rattle.replay_step.specs.Area.{Area, SmallArea, area_edges, span}
use Rattle.replay_step.specs.declared.Window.{Window}

-- ---- the counts of an area
most_less : (k n : ℕ) → k ≤ 2 * n → 0 < n → most_nodes k + 2 ≤ 4 * n
most_less k n l p = on_bool (ltb k 2) (λ t. let z = ltb-true k 2 t in rw t (omega arith)) (λ t. let z = ltb-false k 2 t in rw t (omega arith))

active_short : (g : Timeline) (at n : ℕ) → length (active g (at, n)) ≤ 2 * n
unfolding active during
active_short g at n = omega (arith, active_length g.junctions g.segments (take n (drop at g.events)), length-take n (drop at g.events))

module _ {g : Timeline} {w : Window} {v : List ℕ} (a : SmallArea g w v) (some : 0 < w.events) where
  nodes_less : w.nodes + 2 ≤ 4 * w.events
  nodes_less =
      let f = firsts_most eqb (active g (span w)) in
      omega (arith, a.graph.bound, most_less (different (active g (span w))) w.events (omega (arith, active_short g w.at w.events)) some)

  pub area_nodes : w.nodes ≤ 4 * w.events
  area_nodes = omega (arith, nodes_less)

  pub area_small : w.nodes ≡ (small g (span w)).nodes
  area_small = sym a.graph.renumbered.graph.nodes

  module _ (sound : Sound g) (l : 17 * w.events ≤ length v) where
    pub graph : (ρ : ℕ → ℕ) × IsNamedSmallGraph (network g (span w)) (active g (span w)) w.nodes (area_edges w.events w.edges v) ρ a.σ
    graph = (_, named_renumbered_small (named_is g (sound_good g sound) (span w)) a.graph.renumbered)

    edges_less : length (area_edges w.events w.edges v) < 4 * w.events
    edges_less =
        let s = definition_small _ _ _ _ _ _ graph.1.small in
        let m = length-map (area_edges w.events w.edges v) (λ (e : Entry). e.0) in
        on_bool (ltb 0 w.nodes)
        (λ t. omega (arith, small_edges _ _ _ _ _ _ s (ltb-true 0 w.nodes t), nodes_less))
        (λ t. omega (arith, small_edges_most _ _ _ _ _ _ s, ltb-false 0 w.nodes t))

    area_edges_lem : w.edges ≤ 4 * w.events
    area_edges_lem = on_bool (ltb (4 * w.events) w.edges)
        (λ t. let u = ltb-true (4 * w.events) w.edges t in
        let X = take w.edges (drop (5 * w.events) v) in
        let Y = take w.edges (drop (9 * w.events) v) in
        let Z = take w.edges (drop (13 * w.events) v) in
        let x : 4 * w.events ≤ length X = rw (length-take, length-drop) (omega arith) in
        let y : 4 * w.events ≤ length Y = rw (length-take, length-drop) (omega arith) in
        let z : 4 * w.events ≤ length Z = rw (length-take, length-drop) (omega arith) in
        absurd (omega (arith, edges_less, pairs_length (pairs X Y) Z (4 * w.events) (pairs_length X Y (4 * w.events) x y) z)))
        (λ t. ltb-false (4 * w.events) w.edges t)

    pub area_is : area_edges w.events w.edges v ≡ table (area_entry w.events v) 0 w.edges
    area_is = area_table w.events w.edges v l area_edges_lem

    area_names : Sixteen (area_edges w.events w.edges v)
    area_names = named_small_sixteen _ _ _ _ _ _ graph.1 (network_sixteen g (span w) sound.segments_few)

    pub area_of : Area g w v
    area_of = record {
      σ = a.σ;
      graph = record { ρ = graph.0; carries = named_small_carries _ _ _ _ _ _ graph.1; few = area_edges_lem; names = area_names };
      events = a.events;
    }
