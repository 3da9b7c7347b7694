-- The replay's windows of one event: the byte and the name. What both replays need of their recursion is in PartLaws.
-- Assumes nothing.
use Prim.Native.Nat.{◌*◌, ◌+◌, ◌<◌, ◌≤◌, suc, zero, ℕ}
use mathlib.Core.Bool.{Bool, cond, false, true}
use mathlib.Core.List.{List, Memᴰ, [], ◌∷◌}
use mathlib.Core.Path.{◌∙◌, ◌≡◌, ap, refl, subst, sym}
use lib.Dec.{eqb}
use lib.ListN.{get_or, length, length-take, set, take}
use lib.Seq.{get_or-take}
use native.Mathlib.Omega.{arith}
use borrow.Author.Tests.{eqb-false, eqb-true}
use Rattle.theory_graph.proofs.Booleans.{on_bool}
use Rattle.theory_graph.proofs.Lists.{table_in, table_length}
use Rattle.theory_graph.specs.Graph.{answer}
use Rattle.theory_graph.specs.Lists.{table}
use Rattle.theory_graph.specs.SmallGraph.{read_off}
use Rattle.theory_names.proofs.Hangs.{hangs_none}
use Rattle.theory_names.specs.Names.{Entry, Named, hangs, plain}
use Rattle.theory_names.specs.NamedSmallGraph.{read_name}
use Rattle.theory_timeline.proofs.Leaves.{alone, alone_name, during_one}
use Rattle.theory_timeline.specs.Replay.{byte, name_at}
use Rattle.theory_timeline.specs.Steps.{Sound}
use Rattle.theory_timeline.specs.Windows.{Timeline, active, asks_at, during, event, network, open_before, open_graph, size, small}
use Rattle.replay_step.proofs.AreaCounts.{area_is, area_of, area_small, graph}
use Rattle.replay_step.proofs.EdgeLaws.{area_entry}
use Rattle.replay_step.proofs.LeafLaws.{leaf_asks, leaf_changes}
use Rattle.replay_step.proofs.ShareLaws.{sum_one}
use Rattle.replay_step.specs.Area.{SmallArea, WindowReadyOf, area_edges, span}
use Rattle.replay_step.specs.Reduction.{words_of}
use Rattle.replay_step.specs.declared.Window as W
use Rattle.replay_leaf.proofs.LeafLaws.{byte_3, byte_read}
use Rattle.replay_leaf.specs.Leaf.{byte_by, name_by}
use Rattle.replay_windows.specs.Descent.{Replied, Written}

-- the byte of an event that opens or closes, and of a query, by the counts of its area
byte_change : (g : Timeline) (i : ℕ) → asks_at g i ≡ false → byte g i ≡ 3
unfolding byte
byte_change g i t = ap (λ b. cond b (answer (plain (open_graph g i)) (event g i).0 (event g i).1) 3) t

byte_query : (g : Timeline) (i : ℕ) → asks_at g i ≡ true → byte g i ≡ answer (plain (open_graph g i)) (event g i).0 (event g i).1
unfolding byte
byte_query g i t = ap (λ b. cond b (answer (plain (open_graph g i)) (event g i).0 (event g i).1) 3) t

-- a small graph that says 1 has an edge
read_one : (nodes : ℕ) (H : Named) → read_off nodes (plain H) ≡ 1 → 0 < length H
read_one nodes [] h = absurd (two (eqb nodes 1) h)
  where
    two : (b : Bool) → ¬ (◌≡◌ {A = ℕ} (cond b 2 0) 1)
    two true e = omega arith
    two false e = omega arith
read_one nodes (e ∷ H) h = omega arith

-- the first of some entries
first_name : (f : ℕ → Entry) (k : ℕ) → 0 < k → read_name (table f 0 k) ≡ (f 0).1
first_name f zero l = absurd (omega arith)
first_name f (suc k) l = refl

module _ {w : W.Window} (v : List ℕ) (one : w.events ≡ 1) (l : 17 ≤ length v) (g : Timeline) (sound : Sound g) (i : w.at < size g) (a : SmallArea g w (take 17 v)) where
  changed : ¬ (get_or v 2 0 ≡ 0) → asks_at g w.at ≡ false
  changed = leaf_changes w one 17 v (omega arith) g sound i a.σ a.events

  asked : get_or v 2 0 ≡ 0 → asks_at g w.at ≡ true
  asked = leaf_asks w one 17 v (omega arith) g sound i a.σ a.events

  some : 0 < w.events
  some = omega arith

  enough : 17 * w.events ≤ length (take 17 v)
  enough = rw length-take (omega arith)

  abbrev H : Named
  H = area_edges w.events w.edges (take 17 v)

  alone_here : during g (span w) ≡ event g w.at ∷ []
  alone_here = ap (λ (n : ℕ). during g (w.at, n)) one ∙ during_one g w.at i

  count : length H ≡ w.edges
  count = ap length (area_is a some sound enough) ∙ table_length (area_entry w.events (take 17 v)) 0 w.edges

  -- the byte
  pub byte_is : byte_by (get_or v 2 0) w.nodes w.edges ≡ byte g w.at
  unfolding network active
  byte_is = on_bool (eqb (get_or v 2 0) 0)
      (λ t. let z = eqb-true (get_or v 2 0) 0 t in
      byte_read (get_or v 2 0) w.nodes w.edges H z count
      ∙ sym (byte_query g w.at (asked z)
      ∙ alone g.junctions g.segments (event g w.at) (open_before g w.at) (asked z) (during g (span w)) alone_here w.nodes H _ a.σ (graph a some sound enough).1))
      (λ t. let h = eqb-false (get_or v 2 0) 0 t in sym (byte_3 (get_or v 2 0) w.nodes w.edges h) ∙ sym (byte_change g w.at (changed h)))

  -- a byte 1 is that of a query whose small graph has an edge
  byte_one : byte_by (get_or v 2 0) w.nodes w.edges ≡ 1 → (get_or v 2 0 ≡ 0) × (0 < w.edges)
  byte_one h = on_bool (eqb (get_or v 2 0) 0)
      (λ t.
      let z = eqb-true (get_or v 2 0) 0 t in
      (z, omega (arith, count, read_one w.nodes H (sym (byte_read (get_or v 2 0) w.nodes w.edges H z count) ∙ h))))
      (λ t. absurd (three (byte_3 (get_or v 2 0) w.nodes w.edges (eqb-false (get_or v 2 0) 0 t) ∙ h)))
    where
      three : ¬ (◌≡◌ {A = ℕ} 3 1)
      three e = omega arith

  -- the name of its one edge
  edge_name : 0 < w.edges → read_name H ≡ get_or v 13 0
  edge_name k =
      let z : 13 * w.events + 0 ≡ 13 = omega arith in
      ap read_name (area_is a some sound enough) ∙ first_name (area_entry w.events (take 17 v)) w.edges k
      ∙ ap (λ (j : ℕ). get_or (take 17 v) j 0) z ∙ get_or-take 17 v 13 0 (omega arith)

  pub name_is : name_by (byte_by (get_or v 2 0) w.nodes w.edges) (get_or v 13 0) ≡ name_at g w.at
  unfolding network active byte name_at
  name_is = on_bool (eqb (byte_by (get_or v 2 0) w.nodes w.edges) 1)
      (λ t.
      let (z, k) = byte_one (eqb-true (byte_by (get_or v 2 0) w.nodes w.edges) 1 t) in
      ap (λ b. cond b (get_or v 13 0) 65535) t ∙ sym (edge_name k)
      ∙ sym (alone_name g.junctions g.segments (event g w.at) (open_before g w.at) (asked z) (during g (span w)) alone_here w.nodes H _ a.σ (graph a some sound enough).1)
      ∙ sym (ap (λ b. cond b (hangs (open_graph g w.at) (event g w.at).0 (event g w.at).1) 65535) (asked z)))
      (λ t.
      let n = eqb-false (byte_by (get_or v 2 0) w.nodes w.edges) 1 t in
      ap (λ b. cond b (get_or v 13 0) 65535) t
      ∙ sym (on_bool (asks_at g w.at)
      (λ q. ap (λ b. cond b (hangs (open_graph g w.at) (event g w.at).0 (event g w.at).1) 65535) q
      ∙ hangs_none (open_graph g w.at) (event g w.at).0 (event g w.at).1
      (λ e. n (byte_is ∙ ap (λ b. cond b (answer (plain (open_graph g w.at)) (event g w.at).0 (event g w.at).1) 3) q ∙ e)))
      (λ q. ap (λ b. cond b (hangs (open_graph g w.at) (event g w.at).0 (event g w.at).1) 65535) q)))

  -- which is a 16-bit number
  pub name_fits : byte_by (get_or v 2 0) w.nodes w.edges ≡ 1 → get_or v 13 0 < 65536
  name_fits e =
      let (_, k) = byte_one e in
      let m : Memᴰ (area_entry w.events (take 17 v) 0) H =
      subst (λ (G : Named). Memᴰ (area_entry w.events (take 17 v) 0) G) (sym (area_is a some sound enough))
      (table_in (area_entry w.events (take 17 v)) 0 w.edges 0 (omega arith) (omega arith)) in
      let z : 13 * w.events + 0 ≡ 13 = omega arith in
      omega (arith, (area_of a some sound enough).graph.names (area_entry w.events (take 17 v) 0) m, ap (λ (j : ℕ). get_or (take 17 v) j 0) z ∙ get_or-take 17 v 13 0 (omega arith))

module _ {w : W.Window} {p : ℕ} {v : List ℕ} (r : WindowReadyOf SmallArea (words_of 17) (words_of 187) w p v) (one : w.events ≡ 1) where
  long_enough : 17 ≤ length v
  long_enough = omega (arith, r.enough)

  pub name_need : byte_by (get_or v 2 0) w.nodes w.edges ≡ 1 → get_or v 13 0 < 65536
  name_need = let z : 17 * w.events ≡ 17 = omega arith in name_fits v one long_enough r.g r.sound (omega (arith, r.inside)) (rw z at r.area)

  pub one_done : {before after : Written} (b n : ℕ) → b ≡ byte_by (get_or v 2 0) w.nodes w.edges → n ≡ name_by b (get_or v 13 0)
      → after.answers ≡ set before.answers w.at b → after.names ≡ set before.names w.at n
      → (g : Timeline) → Sound g → w.at < size g → SmallArea g w (take 17 v) → Replied g w.at 1 p before after w.nodes
  one_done {before} {after} b n e f x y g s i a = record {
    answers = x ∙ ap (set before.answers w.at) (e ∙ byte_is v one long_enough g s i a);
    names = y ∙ ap (set before.names w.at) (f ∙ ap (λ (b : ℕ). name_by b (get_or v 13 0)) e ∙ name_is v one long_enough g s i a);
    kept = area_small a (omega arith) ∙ rw one (sym (sum_one p r.share (λ w. (small g w).nodes) w.at));
  }
