-- What a reader of document 02, No. 3, expects: the byte and the name of a query are by the loss of roads, straight from the open segments and with no list
-- of roads in sight; a window's network has just the roads that are open before it and that have no segment named in it; and what a step adds are new roads,
-- as demand 3 adds them. And of No. 6: the events of an accepted list have kinds. And of No. 7: its tables have just their sizes.
-- Assumes nothing.
use Prim.Native.Nat.{◌+◌, ◌<◌, ℕ}
use mathlib.Core.Bool.{◌&&◌, cond, false, not, true}
use mathlib.Core.List.{List, Memᴰ}
use mathlib.Core.Path.{◌∙◌, ◌≡◌, ap, ap₂, subst, sym}
use lib.ListN.{get_or, length}
use native.Mathlib.Omega.{arith}
use borrow.Author.Tests.{not-true}
use Rattle.call_kinds.specs.Kinds.{kind_of}
use Rattle.call_kinds.specs.declared.Kind.TheVariants.{None}
use Rattle.theory_graph.proofs.Booleans.{and_elim, contradict, on_bool}
use Rattle.theory_graph.proofs.TableLaws.{pairs_at}
use Rattle.theory_graph.specs.Graph.{Edge}
use Rattle.theory_timeline.proofs.Acceptance.{accepted_fine}
use Rattle.theory_timeline.proofs.DemandThree.{replay_done}
use Rattle.theory_timeline.proofs.EventLaws.{named_road, road_named}
use Rattle.theory_timeline.proofs.Networks.{around, around_name}
use Rattle.theory_names.specs.Names.{Entry, plain}
use Rattle.theory_timeline.proofs.RoadLaws.{mem_pick, names_apart, names_different, open_name, open_segment, pick_mem, road_ends, road_most}
use Rattle.theory_timeline.proofs.RoadLaws.{road_same, road_twice, roads_answer, same_road_lem, segment_open}
use Rattle.theory_timeline.proofs.RoadNames.{roads_name}
use Rattle.theory_timeline.specs.DemandThree.{NewRoads}
use Rattle.theory_timeline.specs.Events.{Event, SegmentSet, named, named_roads, network_of, open_roads}
use Rattle.theory_timeline.specs.Replay.{Exact, Lent, byte, given, name_at, replay}
use Rattle.theory_timeline.specs.Roads.{road, road_answer, road_name, same_ends, same_road}
use Rattle.theory_timeline.specs.Steps.{added}
use Rattle.theory_timeline.specs.Windows.{Timeline, Window, asks_at, during, edges_of, event, network, open_before, segments_of}

-- 3 where an event opens or closes; else by the segments open before it: joined, and joined after the loss of each single road in turn
pub byte_roads : (g : Timeline) (i : ℕ) → byte g i ≡ cond (asks_at g i) (road_answer (plain (edges_of g (open_before g i))) (event g i).0 (event g i).1) 3
unfolding byte
byte_roads g i = ap (λ (a : ℕ). cond (asks_at g i) a 3) (roads_answer g.segments (open_before g i) (event g i).0 (event g i).1)

-- 65,535 where an event opens or closes; else by the segments open before it, each with the name of its road: at an answer 1 the smallest name of a road
-- whose loss parts the two, at the others 65,535
pub name_roads : (g : Timeline) (i : ℕ) → name_at g i ≡ cond (asks_at g i) (road_name (segments_of g (open_before g i)) (event g i).0 (event g i).1) 65535
unfolding name_at
name_roads g i = ap (λ (a : ℕ). cond (asks_at g i) a 65535) (roads_name g.segments (open_before g i) (event g i).0 (event g i).1)

-- document 02, No. 6: in an accepted list no event has the kind none
pub accepted_kinds : (l : Lent) (p : ℕ) → (replay l p).accepted ≡ true → (i : ℕ) → i < l.t → ¬ (kind_of l.n (get_or l.x i 0) ≡ None)
unfolding given
accepted_kinds l p h i u z =
    let (_, a) = replay_done l p h in
    let x : (event (given l) i).0 ≡ get_or l.x i 0 = ap (λ (e : Event). e.0) (pairs_at l.x l.y i (omega (arith, a.exact.x_exact)) (omega (arith, a.exact.y_exact))) in
    (accepted_fine l p a i u).some (ap (kind_of l.n) x ∙ z)

-- document 02, No. 7: what an accepted replay only reads has exactly its stated length
pub accepted_lengths : (l : Lent) (p : ℕ) → (replay l p).accepted ≡ true → Exact l.m l.t l.a l.b l.start l.x l.y
accepted_lengths l p h = (replay_done l p h).1.exact

-- ---- a window's network, in terms of segments
module _ (g : Timeline) (w : Window) where
  abbrev segs : List Edge
  segs = g.segments

  -- an edge of the network joins the ends of a segment that is open before the window and has the name of its road, and no segment with these ends is named in it
  pub network_road : (e : Entry) → Memᴰ e (network g w)
      → (s : ℕ) × (s < length segs) × (open_before g w.0 s ≡ true) × (same_ends e.0 (get_or segs s (0, 0)) ≡ true) × (e.1 ≡ road segs s) × ((t : ℕ) → same_road segs s t ≡ true → named g.junctions (during g w) t ≡ false)
  unfolding network network_of
  network_road e m =
      let (r, l, h, q) = pick_mem (λ r. open_roads segs (open_before g w.0) r && not (named_roads g.junctions segs (during g w) r)) 0 segs e m in
      let z : 0 + r ≡ r = omega arith in
      and_elim (open_roads segs (open_before g w.0) (0 + r)) (not (named_roads g.junctions segs (during g w) (0 + r))) h λ p n.
      let (s, k, o, x) = open_segment segs (open_before g w.0) (0 + r) p in
      let y : r ≡ road segs s = sym z ∙ x in (
        s,
        k,
        o,
        subst (λ (e : Entry). same_ends e.0 (get_or segs s (0, 0)) ≡ true) (sym q) (road_ends segs r s (ap (road segs) y ∙ road_twice segs s)),
        ap (λ (e : Entry). e.1) q ∙ x,
        λ t u. on_bool (named g.junctions (during g w) t)
            (λ j. contradict (subst (λ (k : ℕ). named_roads g.junctions segs (during g w) k ≡ true) (sym (same_road_lem segs s t u) ∙ sym x) (named_road g.junctions segs (during g w) t j))
            (not-true (named_roads g.junctions segs (during g w) (0 + r)) n))
            (λ j. j),
      )

  -- and each such segment has an edge there with its ends and its road's name
  pub road_network : (s : ℕ) → s < length segs → open_before g w.0 s ≡ true → ((t : ℕ) → same_road segs s t ≡ true → named g.junctions (during g w) t ≡ false)
      → (e : Edge) × Memᴰ (e, road segs s) (network g w) × (same_ends (get_or segs s (0, 0)) e ≡ true)
  unfolding network network_of
  road_network s l o n =
      let z : road segs s ≡ 0 + road segs s = omega arith in (
        get_or segs (road segs s) (0, 0),
        subst (λ (k : ℕ). Memᴰ (get_or segs (road segs s) (0, 0), k) (network g w)) (sym z) (mem_pick (λ r. open_roads segs (open_before g w.0) r && not (named_roads g.junctions segs (during g w) r)) 0 segs (road segs s) (omega (arith, road_most segs s))
            (subst (λ (r : ℕ). (open_roads segs (open_before g w.0) r && not (named_roads g.junctions segs (during g w) r)) ≡ true) z
            (ap₂ (λ a b. a && not b) (segment_open segs (open_before g w.0) s l o) (on_bool (named_roads g.junctions segs (during g w) (road segs s))
            (λ h. let (t, j, x) = road_named g.junctions segs (during g w) (road segs s) h in contradict j (n t (road_ends segs s t x)))
            (λ h. h))))),
        road_same segs s,
      )

  -- what a step adds are new roads, as demand 3 adds them
  pub added_new : (c : Window) → NewRoads (plain (network g w)) (plain (added g w c))
  unfolding network network_of added
  added_new c =
      record {
        different = names_different segs more (λ r h. (more_name r h).0);
        fresh = names_apart segs (around g w) more (λ r h. (around_name g w r h).0) (λ r h. (more_name r h).0)
            (λ r h. on_bool (more r) (λ t. contradict (more_name r t).1 (around_name g w r h).1) (λ t. t));
      }
    where
      more : SegmentSet
      more r = open_roads segs (open_before g c.0) r && (named_roads g.junctions segs (during g w) r && not (named_roads g.junctions segs (during g c) r))

      more_name : (r : ℕ) → more r ≡ true → (road segs r ≡ r) × (named_roads g.junctions segs (during g w) r ≡ true)
      more_name r h = and_elim (open_roads segs (open_before g c.0) r) (named_roads g.junctions segs (during g w) r && not (named_roads g.junctions segs (during g c) r)) h λ p q.
          ((open_name segs (open_before g c.0) r p).0, and_elim (named_roads g.junctions segs (during g w) r) (not (named_roads g.junctions segs (during g c) r)) q λ a b. a)
