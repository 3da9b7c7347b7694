-- The sibling's windows of one event: the byte. What both replays need of their recursion is in replay_windows, PartLaws.
-- Assumes nothing.
use Prim.Native.Nat.{◌*◌, ◌+◌, ◌<◌, ◌≤◌, ℕ}
use mathlib.Core.Bool.{Bool, cond, true}
use mathlib.Core.List.{List}
use mathlib.Core.Path.{◌∙◌, ◌≡◌, ap, ap₂, subst, sym}
use lib.Dec.{eqb}
use lib.ListN.{get_or, length, set, take}
use native.Mathlib.Omega.{arith}
use borrow.Author.Tests.{eqb-false, eqb-true}
use Rattle.theory_graph.proofs.Booleans.{on_bool}
use Rattle.theory_graph.proofs.TableLaws.{table_equal, table_map}
use Rattle.theory_graph.specs.Graph.{Edge}
use Rattle.theory_junctions.specs.Reply.{read_reply}
use Rattle.theory_names.specs.Names.{Entry, plain}
use Rattle.theory_timeline.specs.Steps.{Sound}
use Rattle.theory_timeline.specs.Tags.{ends_at}
use Rattle.theory_timeline.specs.Windows.{Timeline, active, asks_at, event, network, size}
use Rattle.theory_junction_timeline.proofs.JunctionNetworks.{change_byte, leaf_byte}
use Rattle.theory_junction_timeline.specs.JunctionReplay.{junction_byte}
use Rattle.theory_junctions.specs.ReducedGraph.{IsReducedGraph}
use Rattle.replay_step.proofs.LeafLaws.{leaf_asks, leaf_changes, leaf_nodes}
use Rattle.replay_step.specs.Load.{edge_at}
use Rattle.replay_step.specs.declared.Window.{Window}
use Rattle.replay_step.specs.Area.{WindowReadyOf}
use Rattle.replay_step.specs.Reduction.{words_of}
use Rattle.junction_step.proofs.JunctionStepLaws.{graph_table}
use Rattle.junction_step.specs.JunctionArea.{JunctionArea, area_graph}
use Rattle.junction_leaf.specs.JunctionLeaf.{byte_at, leaf_graph}
use Rattle.junction_windows.specs.JunctionDescent.{JunctionReplied}

-- ---- a window of one event
module _ {w : Window} (v : List ℕ) (one : w.events ≡ 1) (l : 29 ≤ length v) (g : Timeline) (sound : Sound g) (i : w.at < size g) (a : JunctionArea g w (take 29 v)) where
  -- a query's are those that it names
  query_ends : asks_at g w.at ≡ true → ends_at g w.at ≡ event g w.at
  query_ends q = ap (λ (b : Bool). cond b (event g w.at) (get_or g.segments (event g w.at).1 (0, 0))) q

  graph_is : area_graph w.events w.edges (take 29 v) ≡ leaf_graph w.edges v
  graph_is =
      let z : 29 * w.events ≡ 29 = omega arith in
      ap (λ (k : ℕ). area_graph w.events w.edges (take k v)) (sym z)
      ∙ graph_table w.events w.edges v (omega arith) a.graph.few
      ∙ table_map (λ (e : Entry). e.0) (edge_at (5 * w.events) (8 * w.events) v) 0 w.edges
      ∙ table_equal _ _ 0 w.edges (λ j b c.
      let x : 5 * w.events + j ≡ 5 + j = omega arith in
      let y : 5 * w.events + 8 * w.events + j ≡ 13 + j = omega arith in
      ap₂ (λ (s t : ℕ). (get_or v s 0, get_or v t 0)) x y)

  -- the byte of a query by its two nodes
  abbrev asked : ℕ
  asked = read_reply (leaf_graph w.edges v) (get_or v 0 0) (get_or v 1 0)

  pub byte_is : byte_at w.edges v ≡ junction_byte g w.at
  byte_is = on_bool (eqb (get_or v 2 0) 0)
      (λ t. let z = eqb-true (get_or v 2 0) 0 t in
      let q = leaf_asks w one 29 v (omega arith) g sound i a.σ a.events z in
      let (e, f) = leaf_nodes w one 29 v (omega arith) g sound i a.σ a.events in
      let G : IsReducedGraph (plain (network g (w.at, 1))) (active g (w.at, 1)) w.nodes (leaf_graph w.edges v) a.σ =
      subst (λ (n : ℕ). IsReducedGraph (plain (network g (w.at, n))) (active g (w.at, n)) w.nodes (leaf_graph w.edges v) a.σ) one
      (subst (λ (H : List Edge). IsReducedGraph (plain (network g (w.at, w.events))) (active g (w.at, w.events)) w.nodes H a.σ) graph_is a.graph.reduced) in
      ap (λ (b : Bool). cond b asked 3) t
      ∙ ap₂ (read_reply (leaf_graph w.edges v)) (e ∙ ap (λ (d : Edge). a.σ d.0) (query_ends q)) (f ∙ ap (λ (d : Edge). a.σ d.1) (query_ends q))
      ∙ sym (leaf_byte g w.at i q w.nodes (leaf_graph w.edges v) a.σ G))
      (λ t. let h = eqb-false (get_or v 2 0) 0 t in ap (λ (b : Bool). cond b asked 3) t ∙ sym (change_byte g w.at (leaf_changes w one 29 v (omega arith) g sound i a.σ a.events h)))

module _ {w : Window} {p : ℕ} {v : List ℕ} (q : WindowReadyOf JunctionArea (words_of 29) (words_of 340) w p v) (one : w.events ≡ 1) where
  pub one_done : (before : List ℕ) {after : List ℕ} (b : ℕ) → b ≡ byte_at w.edges v → after ≡ set before w.at b
      → (g : Timeline) → Sound g → w.at < size g → JunctionArea g w (take 29 v) → JunctionReplied g w.at 1 before after
  one_done before b e x g s i a = x ∙ ap (set before w.at) (e ∙ byte_is v one (omega (arith, q.enough)) g s i a)
