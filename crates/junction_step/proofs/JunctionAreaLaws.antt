-- The area of a part, made out of a graph that is loaded: what the reduction needs and leaves, and what the five runs of words written then hold.
-- Assumes nothing.
use Prim.Native.Nat.{◌*◌, ◌+◌, ◌-◌, ◌<◌, ◌≤◌, ℕ}
use mathlib.Core.Bool.{Bool, cond, false, true}
use mathlib.Core.List.{List, Memᴰ, map}
use mathlib.Core.Path.{◌∙◌, ◌≡◌, ap, ap₂, refl, subst, sym}
use lib.Dec.{eqb, ltb}
use lib.ListN.{drop, get_or, length, length-drop, length-map, length-take, take}
use lib.Seq.{drop-drop, get_or-drop, get_or-take, sets, take-take}
use native.Mathlib.Omega.{arith}
use borrow.Author.Tests.{ltb-true}
use borrow.Rule.Slice.PartMut.{put_mid, same_len_mid, take_put}
use Rattle.core_block_reduce.specs.Core.{BlocksReduced, CanReduce, edges_behind}
use Rattle.core_loading.proofs.LoadingLaws.{entered_most}
use Rattle.core_reduce.specs.Core.{active_in, edges_in}
use Rattle.core_reduce.specs.declared.Counts.{Counts}
use Rattle.core_words.specs.Fields.{ACTIVE, MAPPED, TO, half, node}
use Rattle.theory_graph.proofs.ActiveLists.{in_firsts}
use Rattle.theory_graph.proofs.EdgeCount.{firsts_most}
use Rattle.theory_graph.proofs.Ends.{ends_in_of}
use Rattle.theory_graph.proofs.Lists.{map_equal, mem_member, member_mem, table_in, table_length, table_mem}
use Rattle.theory_graph.proofs.TableLaws.{pairs_tables, table_equal, table_get_or}
use Rattle.theory_graph.specs.Graph.{Edge}
use Rattle.theory_graph.specs.Lists.{firsts, member, pairs, table}
use Rattle.theory_graph.specs.SmallGraph.{different}
use Rattle.theory_junctions.proofs.SameColourings.{same_labels}
use Rattle.theory_names.specs.Names.{plain}
use Rattle.theory_junctions.specs.ReducedGraph.{IsReducedGraph, most_edges, most_junctions}
use Rattle.replay_step.proofs.WordLaws.{drop_back, fill_length, front_get, mid_before, mid_less, mid_take, take_less, take_whole}
use Rattle.replay_step.specs.declared.Graph.{Graph}
use Rattle.replay_step.specs.declared.Part.{Part}
use Rattle.replay_step.proofs.RunLaws.{FiveRuns, behind_3, behind_4, behind_5, front_6, long_6, run_1, run_2, run_3, run_4, run_5}
use Rattle.junction_step.specs.JunctionArea.{JunctionAreaMade, JunctionMakeReady, area_graph}

-- ---- the bounds
pub most_four : (k : ℕ) → most_edges k ≤ 4 * k
most_four k = go (ltb k 2)
  where
    go : (b : Bool) → cond b 0 (4 * k - 6) ≤ 4 * k
    go true = omega arith
    go false = omega arith

pub most_three : (k : ℕ) → most_junctions k ≤ 3 * k
most_three k = go (ltb k 2)
  where
    go : (b : Bool) → cond b k (3 * k - 3) ≤ 3 * k
    go true = omega arith
    go false = omega arith

-- ---- what the reduction needs
module _ {p : Part} {l : Graph} {w : List ℕ} (q : JunctionMakeReady p l w) where
  abbrev s : ℕ
  s = p.scratch

  abbrev c : ℕ
  c = p.events

  abbrev A : ℕ
  A = p.area

  abbrev n : ℕ
  n = l.nodes

  abbrev m : ℕ
  m = l.edges

  -- the part's places
  abbrev T : List ℕ
  T = take (2 * c) (drop p.places w)

  abbrev L : List ℕ
  L = take (length w - s) (drop s w)

  same_L : L ≡ drop s w
  same_L = take_whole s w

  pub can_reduce : CanReduce n m l.active L
  can_reduce =
      let r = q.ready in
      let e = r.entered in
      record {
        loaded = record {
          few = r.many;
          much = r.few;
          room = rw (length-take, length-drop) (omega (arith, r.room));
          less = entered_most e;
          ends = rw same_L r.ends;
          names = rw same_L r.names;
          active = rw same_L e.below;
          marked = rw same_L e.marked;
          marks = rw same_L e.marks;
        };
        room = rw (length-take, length-drop) (omega (arith, q.enough));
      }

  -- w₁: the reduction's words put back; then the places, the words of the events, and three runs of ends are written
  module _ {zs : List ℕ} {r : Counts} (K : BlocksReduced n m l.active L zs r.nodes r.edges) (lz : length zs ≡ length L) where
    abbrev e : ℕ
    e = r.edges

    abbrev w₁ : List ℕ
    w₁ = put_mid s (length w - s) w zs

    high : s ≤ length w
    high = omega (arith, q.enough)

    behind_1 : drop s w₁ ≡ zs
    behind_1 = drop_back s w zs high

    front_1 : take s w₁ ≡ take s w
    front_1 = take_put s (length w - s) w zs high

    length_1 : length w₁ ≡ length w
    length_1 = same_len_mid s (length w - s) w zs lz

    length_T : length T ≡ 2 * c
    length_T = rw (length-take, length-drop) (omega (arith, q.ready.places, q.behind, high))

    list_L : active_in l.active L ≡ firsts eqb T
    list_L = rw same_L q.ready.entered.active

    active_is : l.active ≡ different T
    active_is = sym (table_length (node ACTIVE L) 0 l.active) ∙ ap length list_L

    active_low : l.active ≤ 2 * c
    active_low = omega (arith, active_is, firsts_most eqb T, length_T)

    edges_out : length (edges_behind n m e zs) ≡ e
    edges_out = table_length {A = Edge} (λ j. (half n TO zs (2 * (m + j)), half n TO zs (2 * (m + j) + 1))) 0 e

    few_out : e ≤ 8 * c
    few_out = omega (arith, K.graph.edges, edges_out, K.active, most_four (different (active_in l.active L)), active_low)

    nodes_out : r.nodes ≤ 6 * c
    nodes_out = omega (arith, K.graph.nodes, K.active, most_three (different (active_in l.active L)), active_low)

    T_1 : take (2 * c) (drop p.places w₁) ≡ T
    T_1 = mid_less p.places (2 * c) s w w₁ (omega (arith, q.ready.places, q.behind)) (omega (arith, length_1, high, q.ready.places, q.behind))
        (omega (arith, high, q.ready.places, q.behind)) front_1

    pub map_need : (p.places + 2 * c ≤ A) × (A + 2 * c ≤ s) × (s + 16 * n ≤ length w₁) × ((i : ℕ) → i < 2 * c → get_or w₁ (p.places + i) 0 < n)
    map_need = (
      q.ready.places,
      omega (arith, q.behind),
      omega (arith, q.enough, length_1),
      λ i u. omega (arith, q.ready.nodes i u, front_get s (p.places + i) w w₁ front_1 (omega (arith, q.ready.places, q.behind))),
    )

    -- where the edges out begin
    abbrev F : ℕ
    F = s + 16 * n + 6 * m

    pub ends_need : (z : List ℕ) → length z ≡ length w
        → (A + 5 * c + e ≤ F) × (A + 13 * c + e ≤ F) × (A + 21 * c + e ≤ F) × (F + 6 * e ≤ length z)
    ends_need z h = (omega (arith, few_out, q.behind), omega (arith, few_out, q.behind), omega (arith, few_out, q.behind), omega (arith, few_out, q.enough))

    module _ {w₂ w₃ w₄ w₅ w₆ : List ℕ} (e₂ : w₂ ≡ sets w₁ A (map (node MAPPED (drop s w₁)) (take (2 * c) (drop p.places w₁))))
        (e₃ : w₃ ≡ sets w₂ (A + 2 * c) (take (3 * c) (drop p.words w₂))) (e₄ : w₄ ≡ sets w₃ (A + 5 * c) (table (λ j. get_or w₃ (F + 6 * j) 0) 0 e))
        (e₅ : w₅ ≡ sets w₄ (A + 13 * c) (table (λ j. get_or w₄ (F + 3 + 6 * j) 0) 0 e)) (e₆ : w₆ ≡ sets w₅ (A + 21 * c) (table (λ j. get_or w₅ (F + 6 * j) 0) 0 e)) where
      -- what is written, run by run
      abbrev M : List ℕ
      M = map (node MAPPED (drop s w₁)) (take (2 * c) (drop p.places w₁))

      abbrev W : List ℕ
      W = take (3 * c) (drop p.words w₂)

      abbrev X : List ℕ
      X = table (λ j. get_or w₃ (F + 6 * j) 0) 0 e

      abbrev Y : List ℕ
      Y = table (λ j. get_or w₄ (F + 3 + 6 * j) 0) 0 e

      abbrev N : List ℕ
      N = table (λ j. get_or w₅ (F + 6 * j) 0) 0 e

      length_M : length M ≡ 2 * c
      length_M = length-map (take (2 * c) (drop p.places w₁)) (node MAPPED (drop s w₁)) ∙ ap length T_1 ∙ length_T

      length_2 : length w₂ ≡ length w
      length_2 = fill_length w₁ A M e₂ ∙ length_1

      length_W : length W ≡ 3 * c
      length_W = rw (length-take, length-drop) (omega (arith, length_2, high, q.ready.words, q.behind))

      length_X : length X ≡ e
      length_X = table_length (λ j. get_or w₃ (F + 6 * j) 0) 0 e

      length_Y : length Y ≡ e
      length_Y = table_length (λ j. get_or w₄ (F + 3 + 6 * j) 0) 0 e

      length_N : length N ≡ e
      length_N = table_length (λ j. get_or w₅ (F + 6 * j) 0) 0 e

      runs : FiveRuns A (A + 2 * c) (A + 5 * c) (A + 13 * c) (A + 21 * c) s M W X Y N w₁ w₂ w₃ w₄ w₅ w₆
      runs = record {
        e₂ = e₂;
        e₃ = e₃;
        e₄ = e₄;
        e₅ = e₅;
        e₆ = e₆;
        o₁ = omega (arith, length_M);
        o₂ = omega (arith, length_W);
        o₃ = omega (arith, length_X, few_out);
        o₄ = omega (arith, length_Y, few_out);
        o₅ = omega (arith, length_N, few_out, q.behind);
        long = omega (arith, length_1, high);
      }

      length_6 : length w₆ ≡ length w
      length_6 = long_6 runs ∙ length_1

      -- what stands from A + i on in the area
      abbrev z : List ℕ
      z = take (29 * c) (drop A w₆)

      at_z : (i j k : ℕ) → i + j ≤ 29 * c → A + i ≡ k → take j (drop i z) ≡ take j (drop k w₆)
      at_z i j k h b =
          mid_take i j (29 * c) (drop A w₆) h (rw length-drop (omega (arith, length_6, q.behind, high)))
          ∙ ap (take j) (drop-drop i A w₆) ∙ ap (λ (k : ℕ). take j (drop k w₆)) b

      places : take (2 * c) z ≡ map (node MAPPED zs) T
      places =
          take-take (2 * c) (29 * c) (drop A w₆) (omega arith)
          ∙ ap (λ j. take j (drop A w₆)) (sym length_M) ∙ run_1 runs
          ∙ ap₂ (λ f l. map (node MAPPED f) l) behind_1 T_1

      words : take (3 * c) (drop (2 * c) z) ≡ take (3 * c) (drop p.words w)
      words =
          at_z (2 * c) (3 * c) (A + 2 * c) (omega arith) refl
          ∙ ap (λ j. take j (drop (A + 2 * c) w₆)) (sym length_W) ∙ run_2 runs
          ∙ ap (λ l. take (3 * c) (drop p.words l)) e₂ ∙ mid_before M w₁ A p.words (3 * c) q.ready.words (omega (arith, length_1, high, q.ready.words, q.behind))
          ∙ mid_less p.words (3 * c) s w w₁ (omega (arith, q.ready.words, q.behind)) (omega (arith, length_1, high, q.ready.words, q.behind))
          (omega (arith, high, q.ready.words, q.behind)) front_1

      -- the ends of edge j out, in words whose rear is the reduction's
      first_end : (u : List ℕ) → drop s u ≡ zs → (j : ℕ) → get_or u (F + 6 * j) 0 ≡ half n TO zs (2 * (m + j))
      unfolding half
      first_end u h j =
          let x : F + 6 * j ≡ s + (16 * n + 3 * (2 * (m + j)) + TO) = omega arith in
          ap (λ (k : ℕ). get_or u k 0) x ∙ sym (get_or-drop s u (16 * n + 3 * (2 * (m + j)) + TO) 0) ∙ ap (λ (v : List ℕ). get_or v (16 * n + 3 * (2 * (m + j)) + TO) 0) h

      second_end : (u : List ℕ) → drop s u ≡ zs → (j : ℕ) → get_or u (F + 3 + 6 * j) 0 ≡ half n TO zs (2 * (m + j) + 1)
      unfolding half
      second_end u h j =
          let x : F + 3 + 6 * j ≡ s + (16 * n + 3 * (2 * (m + j) + 1) + TO) = omega arith in
          ap (λ (k : ℕ). get_or u k 0) x ∙ sym (get_or-drop s u (16 * n + 3 * (2 * (m + j) + 1) + TO) 0) ∙ ap (λ (v : List ℕ). get_or v (16 * n + 3 * (2 * (m + j) + 1) + TO) 0) h

      lows : take e (drop (5 * c) z) ≡ table (λ j. half n TO zs (2 * (m + j))) 0 e
      lows =
          at_z (5 * c) e (A + 5 * c) (omega (arith, few_out)) refl
          ∙ ap (λ j. take j (drop (A + 5 * c) w₆)) (sym length_X) ∙ run_3 runs
          ∙ table_equal _ _ 0 e (λ j a b. first_end w₃ (behind_3 runs ∙ behind_1) j)

      highs : take e (drop (13 * c) z) ≡ table (λ j. half n TO zs (2 * (m + j) + 1)) 0 e
      highs =
          at_z (13 * c) e (A + 13 * c) (omega (arith, few_out)) refl
          ∙ ap (λ j. take j (drop (A + 13 * c) w₆)) (sym length_Y) ∙ run_4 runs
          ∙ table_equal _ _ 0 e (λ j a b. second_end w₄ (behind_4 runs ∙ behind_1) j)

      names : take e (drop (21 * c) z) ≡ table (λ j. half n TO zs (2 * (m + j))) 0 e
      names =
          at_z (21 * c) e (A + 21 * c) (omega (arith, few_out)) refl
          ∙ ap (λ j. take j (drop (A + 21 * c) w₆)) (sym length_N) ∙ run_5 runs
          ∙ table_equal _ _ 0 e (λ j a b. first_end w₅ (behind_5 runs ∙ behind_1) j)

      edges_z : area_graph c e z ≡ edges_behind n m e zs
      edges_z = ap₂ pairs lows highs ∙ pairs_tables (λ j. half n TO zs (2 * (m + j))) (λ j. half n TO zs (2 * (m + j) + 1)) 0 e

      sixteen_z : (j : ℕ) → j < e → get_or z (21 * c + j) 0 < 65536
      sixteen_z j b =
          let x : get_or z (21 * c + j) 0 ≡ half n TO zs (2 * (m + j)) =
          sym (get_or-drop (21 * c) z j 0) ∙ sym (get_or-take e (drop (21 * c) z) j 0 b) ∙ ap (λ (u : List ℕ). get_or u j 0) names ∙ table_get_or (λ j. half n TO zs (2 * (m + j))) e j b in
          omega (
            arith,
            x,
            ltb-true _ r.nodes (ends_in_of (λ v. ltb v r.nodes) (edges_behind n m e zs) K.graph.inside
                (table_in (λ j. (half n TO zs (2 * (m + j)), half n TO zs (2 * (m + j) + 1))) 0 e j (omega arith) (omega arith))).0,
            nodes_out,
            q.ready.much,
          )

      -- ---- the graph
      active_in_lem : (v : ℕ) → Memᴰ v T → Memᴰ v (active_in l.active L)
      active_in_lem v k = subst (λ (S : List ℕ). Memᴰ v S) (sym list_L) (in_firsts T v k)

      is_active : (v : ℕ) → Memᴰ v T → member (active_in l.active L) v ≡ true
      is_active v k = mem_member v (active_in l.active L) (active_in_lem v k)

      numbers : (t : ℕ) → Memᴰ t T → node MAPPED zs t ≡ K.number t
      numbers t k =
          let (j, b, x) = table_mem (node ACTIVE L) 0 l.active t (subst (λ (S : List ℕ). Memᴰ t S) (sym list_L) (in_firsts T t k)) in
          ap (node MAPPED zs) x ∙ K.numbers j (omega arith) ∙ ap K.number (sym x)

      -- as many are active by the places as by the words
      same_different : different (active_in l.active L) ≡ different T
      same_different = K.active ∙ active_is

      graph_L : IsReducedGraph (plain (edges_in n m L)) T r.nodes (edges_behind n m e zs) K.number
      graph_L = record {
        same = same_labels (member (active_in l.active L)) (member T) (λ k. k) (plain (edges_in n m L)) (λ k. k) (edges_behind n m e zs) K.number (λ k h. is_active k (member_mem T k h)) K.graph.same;
        place = λ a k. K.graph.place a (active_in_lem a k);
        inside = K.graph.inside;
        nodes = subst (λ (k : ℕ). r.nodes ≤ most_junctions k) same_different K.graph.nodes;
        edges = subst (λ (k : ℕ). length (edges_behind n m e zs) ≤ most_edges k) same_different K.graph.edges;
        read = λ h x y kx ky. K.graph.read (omega (arith, same_different)) x y (active_in_lem x kx) (active_in_lem y ky);
      }

      graph_z : IsReducedGraph (plain (edges_in n m (drop s w))) T r.nodes (area_graph c e z) K.number
      graph_z =
          subst (λ (v : List ℕ). IsReducedGraph (plain (edges_in n m v)) T r.nodes (area_graph c e z) K.number) same_L
          (subst (λ (H : List Edge). IsReducedGraph (plain (edges_in n m L)) T r.nodes H K.number) (sym edges_z) graph_L)

      pub area_made : JunctionAreaMade p l w w₆ r
      area_made = record {
        front = front_6 runs ∙ take_less A s w w₁ (omega (arith, q.behind)) front_1;
        σ = K.number;
        graph = record { reduced = graph_z; few = few_out; sixteen = sixteen_z };
        places = places ∙ map_equal (node MAPPED zs) K.number T numbers;
        events = words;
      }
