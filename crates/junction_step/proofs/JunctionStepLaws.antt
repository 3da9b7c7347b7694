-- The sibling's step: its window's area is as what is loaded asks for, and what is made out of that is a reduced graph of the part's network.
-- Assumes nothing.
use Prim.Native.Nat.{◌*◌, ◌+◌, ◌<◌, ◌≤◌, ℕ}
use mathlib.Core.List.{List, Memᴰ, ◌++◌, map}
use mathlib.Core.Path.{◌∙◌, ◌≡◌, ap, ap₂, subst, sym}
use lib.Dec.{eqb, ltb}
use lib.ListN.{drop, get_or, length, length-drop, take}
use lib.Seq.{get_or-drop, get_or-take, length-take-le}
use native.Mathlib.Omega.{arith}
use borrow.Author.Tests.{ltb-true}
use Rattle.core_reduce.specs.Core.{edges_in}
use Rattle.core_reduce.specs.declared.Counts.{Counts}
use Rattle.theory_graph.proofs.DistinctLists.{distinct_fewer}
use Rattle.theory_graph.proofs.EdgeCount.{firsts_most}
use Rattle.theory_graph.proofs.Ends.{ends_in_of}
use Rattle.theory_graph.proofs.Lists.{firsts_in, firsts_pairwise, map_twice, range_length, range_mem, table_in, table_length}
use Rattle.theory_graph.proofs.TableLaws.{pairs_table, table_equal, table_map}
use Rattle.theory_graph.specs.Cut.{cut}
use Rattle.theory_graph.specs.Graph.{Edge, NodeSet}
use Rattle.theory_graph.specs.Lists.{firsts, range, table}
use Rattle.theory_graph.specs.SmallGraph.{different, image}
use Rattle.theory_names.proofs.NamedCuts.{plain_added, same_cuts}
use Rattle.theory_names.specs.Names.{Entry, Named, plain}
use Rattle.theory_timeline.proofs.Acceptance.{sound_good}
use Rattle.theory_timeline.specs.Steps as Steps
use Rattle.theory_timeline.specs.Steps.{Sound, added}
use Rattle.theory_timeline.specs.Windows.{Timeline, active, size}
use Rattle.theory_junction_timeline.proofs.JunctionNetworks.{distinct_pairwise, part_reduced, reduced_equal}
use Rattle.theory_junctions.specs.ReducedGraph.{IsReducedGraph}
use Rattle.replay_step.proofs.LoadLaws.{edges_are, places_are, window_length, words_are}
use Rattle.replay_step.proofs.StepLaws.{keys_low, places_low, stepped_of}
use Rattle.replay_step.specs.Area.{span}
use Rattle.replay_step.specs.Load.{LoadReady, PartLoaded, edge_at}
use Rattle.replay_step.specs.Reduction.{Reduces, window_of}
use Rattle.replay_step.specs.declared.Graph.{Graph}
use Rattle.replay_step.specs.declared.Part.{Part}
use Rattle.replay_step.specs.declared.Window.{Window}
use Rattle.junction_step.proofs.JunctionAreaLaws.{most_four, most_three}
use Rattle.junction_step.specs.JunctionArea.{IsJunctionPart, JunctionArea, JunctionAreaMade, JunctionStepReady, JunctionStepped, area_graph, junction_room}

-- ---- how many junctions are active
-- no more than there are junctions
different_low : (n : ℕ) (S : List ℕ) → ((a : ℕ) → Memᴰ a S → a < n) → different S ≤ n
different_low n S f =
    omega (arith, range_length 0 n, distinct_fewer (range 0 n) (firsts eqb S) (distinct_pairwise (firsts eqb S) (firsts_pairwise eqb S)) (λ u m. range_mem u 0 n (omega arith) (omega (arith, f u (firsts_in eqb u S m)))))

-- the edges of an area of n events, in words that begin with it, each by itself
pub graph_table : (n m : ℕ) (v : List ℕ) → 29 * n ≤ length v → m ≤ 8 * n → area_graph n m (take (29 * n) v) ≡ plain (table (edge_at (5 * n) (8 * n) v) 0 m)
graph_table n m v h l =
    let u = take (29 * n) v in
    let lu : length u ≡ 29 * n = length-take-le (29 * n) v h in
    pairs_table m (drop (5 * n) u) (drop (13 * n) u) (rw length-drop (omega arith)) (rw length-drop (omega arith))
    ∙ table_equal _ _ 0 m (λ j a b.
    let x : 13 * n + j ≡ 5 * n + 8 * n + j = omega arith in
    ap₂ (λ (x y : ℕ). (x, y)) (get_or-drop (5 * n) u j 0 ∙ get_or-take (29 * n) v (5 * n + j) 0 (omega arith))
    (get_or-drop (13 * n) u j 0 ∙ get_or-take (29 * n) v (13 * n + j) 0 (omega arith) ∙ ap (λ (k : ℕ). get_or v k 0) x))
    ∙ sym (table_map (λ (e : Entry). e.0) (edge_at (5 * n) (8 * n) v) 0 m)

-- ---- the counts of an area
module _ {g : Timeline} (sound : Sound g) {w : Window} (inside : w.at + w.events ≤ size g) (v : List ℕ) (long : 29 * w.events ≤ length v) (a : JunctionArea g w (take (29 * w.events) v)) where
  active_few : (different (active g (span w)) ≤ 2 * w.events) × (different (active g (span w)) ≤ 4096)
  active_few = (
    omega (arith, firsts_most eqb (active g (span w)), window_length g w.at w.events inside),
    omega (arith, different_low g.junctions (active g (span w)) (λ b m. (sound_good g sound).active (span w) b m), sound.few),
  )

  pub area_nodes : (w.nodes ≤ 6 * w.events) × (w.nodes ≤ 12288)
  area_nodes = (omega (arith, a.graph.reduced.nodes, most_three (different (active g (span w))), active_few.0), omega (arith, a.graph.reduced.nodes, most_three (different (active g (span w))), active_few.1))

  edges_length : length (area_graph w.events w.edges (take (29 * w.events) v)) ≡ w.edges
  edges_length =
      ap length (graph_table w.events w.edges v long a.graph.few ∙ table_map (λ (e : Entry). e.0) (edge_at (5 * w.events) (8 * w.events) v) 0 w.edges)
      ∙ table_length (λ j. (edge_at (5 * w.events) (8 * w.events) v j).0) 0 w.edges

  pub area_edges_lem : w.edges ≤ 16384
  area_edges_lem = omega (arith, a.graph.reduced.edges, edges_length, most_four (different (active g (span w))), active_few.1)

-- ---- what is loaded asks for
module _ {w : Window} {p : Part} {v : List ℕ} (st : JunctionStepReady w p.at p.events v) (ip : IsJunctionPart w p) where
  abbrev n : ℕ
  n = w.events

  high : 29 * n ≤ length v
  high = omega (arith, st.room)

  edges_low : (j : ℕ) → j < w.edges → (get_or v (5 * n + j) 0 < w.nodes) × (get_or v (5 * n + 8 * n + j) 0 < w.nodes) × (get_or v (5 * n + 2 * (8 * n) + j) 0 < 65536)
  edges_low j l =
      let a = st.area in
      let f = edge_at (5 * n) (8 * n) v in
      let m : Memᴰ (f j).0 (area_graph n w.edges (take (29 * n) v)) =
      subst (λ (G : List Edge). Memᴰ (f j).0 G) (sym (graph_table n w.edges v high a.graph.few ∙ table_map (λ (e : Entry). e.0) f 0 w.edges))
      (table_in (λ j. (f j).0) 0 w.edges j (omega arith) (omega arith)) in
      let (b, c) = ends_in_of (λ v. ltb v w.nodes) (area_graph n w.edges (take (29 * n) v)) a.graph.reduced.inside m in
      let y : 21 * n + j ≡ 5 * n + 2 * (8 * n) + j = omega arith in (
        ltb-true _ w.nodes b,
        ltb-true _ w.nodes c,
        omega (arith, ap (λ (k : ℕ). get_or v k 0) (sym y) ∙ sym (get_or-take (29 * n) v (21 * n + j) 0 (omega (arith, a.graph.few))), a.graph.sixteen j l),
      )

  pub load_ready : LoadReady w (8 * w.events) p v
  load_ready =
      let a = st.area in
      record {
        starts = st.starts;
        ends = st.ends;
        much = st.much;
        many = st.many;
        few = a.graph.few;
        light = omega (arith, area_edges_lem st.sound st.inside v high a, st.much);
        places = ip.places;
        words = ip.words_at;
        front = omega (arith, ip.area);
        behind = omega (arith, ip.area, ip.scratch);
        room = omega (arith, st.room, ip.scratch);
        nodes = places_low st.g st.sound w st.inside a.σ (29 * n) v (omega arith) a.events (λ b m. a.graph.reduced.place b m);
        keys = keys_low st.g st.sound w st.inside a.σ (29 * n) v (omega arith) a.events;
        edges = edges_low;
      }

  -- ---- what is made
  module _ {z : List ℕ} {l : Graph} (pl : PartLoaded w (8 * w.events) p v z l) (lz : length z ≡ length v) where
    module _ {y : List ℕ} {r : Counts} (am : JunctionAreaMade p l z y r) where
      abbrev c : ℕ
      c = p.events

      part : Steps.Part (span w) (p.at, c)
      part = record { after = st.starts; before = st.ends }

      module _ (g : Timeline) (sound : Sound g) (inside : w.at + w.events ≤ size g) (a : JunctionArea g w (take (29 * w.events) v)) where
        low : 5 * n ≤ 29 * n
        low = omega arith

        abbrev H : List Edge
        H = area_graph n w.edges (take (29 * n) v)

        -- what is loaded is the window's graph with the added roads, but for the order
        loaded_cuts : (U : NodeSet) → cut U (plain (edges_in l.nodes l.edges (drop p.scratch z))) ≡ cut U (H ++ image a.σ (plain (added g (span w) (p.at, c))))
        loaded_cuts U =
            same_cuts (edges_are load_ready pl lz (29 * n) low high g sound inside a.σ a.events) U
            ∙ ap (cut U) (plain_added a.σ (table (edge_at (5 * n) (8 * n) v) 0 w.edges) (added g (span w) (p.at, c)))
            ∙ ap (λ (G : List Edge). cut U (G ++ image a.σ (plain (added g (span w) (p.at, c))))) (sym (graph_table n w.edges v high a.graph.few))

        part_made : JunctionArea g (window_of p r) (take (29 * c) (drop (29 * n) y))
        part_made =
            let T = places_are load_ready pl lz (29 * n) low high g sound inside a.σ a.events in
            let g1 : IsReducedGraph (plain (edges_in l.nodes l.edges (drop p.scratch z))) (map a.σ (active g (p.at, c))) r.nodes
            (area_graph c r.edges (take (29 * c) (drop p.area y))) am.σ =
            rw T at am.graph.reduced in
            subst (λ (k : ℕ). JunctionArea g (window_of p r) (take (29 * c) (drop k y))) ip.area (record {
              σ = λ b. am.σ (a.σ b);
              graph = record {
                reduced = part_reduced g (span w) (p.at, c) part H a.σ a.graph.reduced.same r.nodes _ am.σ (reduced_equal loaded_cuts g1);
                few = am.graph.few;
                sixteen = am.graph.sixteen;
              };
              events = record {
                places = am.places ∙ ap (map am.σ) T ∙ map_twice am.σ a.σ (active g (p.at, c));
                words = am.events ∙ words_are load_ready pl lz (29 * n) low high g sound inside a.σ a.events;
              };
            })

      pub stepped : JunctionStepped w p.at c v y (window_of p r)
      stepped = stepped_of JunctionArea JunctionArea ip pl.front am r part_made

-- ---- what the sibling's reduction owes: a part gets a reduced graph of its network
pub reduces : Reduces JunctionArea JunctionArea 29 8 340 junction_room JunctionAreaMade
reduces = record {
  least = λ n m c. omega arith;
  fewer = λ n m k c h. omega arith;
  loads = λ w p v st ip. load_ready st ip;
  steps = λ w p v st ip z l pl lz y r am. stepped st ip pl lz am;
  whole = λ g sound p l z y r am N T W.
      let s : IsReducedGraph (plain (edges_in l.nodes l.edges (drop p.scratch z))) (active g (p.at, p.events)) r.nodes
      (area_graph p.events r.edges (take (29 * p.events) (drop p.area y))) am.σ =
      rw T at am.graph.reduced in
      record {
        σ = am.σ;
        graph = record {
          reduced = subst (λ (G : Named). IsReducedGraph (plain G) (active g (p.at, p.events)) r.nodes (area_graph p.events r.edges (take (29 * p.events) (drop p.area y))) am.σ) N s;
          few = am.graph.few;
          sixteen = am.graph.sixteen;
        };
        events = record { places = am.places ∙ ap (map am.σ) T; words = am.events ∙ W };
      };
  own = λ g sound w some v h a. a;
  enough = λ w p v q lo c z a b s e f.
      let k = area_nodes q.sound q.inside v (omega (arith, q.enough)) q.area in
      record {
        g = q.g;
        sound = q.sound;
        inside = q.inside;
        area = rw f q.area;
        starts = a;
        ends = b;
        some = s;
        room = omega (arith, q.enough, k.0, q.area.graph.few);
        many = omega (arith, k.1);
        much = q.much;
      };
  fits = λ c n h. omega arith;
  nodes = λ w p v q. let k = area_nodes q.sound q.inside v (omega (arith, q.enough)) q.area in omega (arith, k.1);
}
