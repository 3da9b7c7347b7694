-- The area of a part, made out of a graph that is loaded: what the contraction needs and leaves, and what the five runs of words written then hold.
-- Assumes nothing.
use Prim.Native.Nat.{◌*◌, ◌+◌, ◌-◌, ◌<◌, ◌≤◌, ℕ}
use mathlib.Core.List.{List, Memᴰ, map}
use mathlib.Core.Path.{◌∙◌, ◌≡◌, ap, ap₂, refl, subst, sym}
use lib.Dec.{eqb}
use lib.ListN.{drop, get_or, length, length-drop, length-map, length-take, take}
use lib.Seq.{drop-drop, sets, take-take}
use native.Mathlib.Omega.{arith}
use borrow.Rule.Slice.PartMut.{put_mid, same_len_mid, take_put}
use Rattle.core_loading.proofs.LoadingLaws.{entered_most}
use Rattle.core_reduce.specs.Core.{Loaded, Reduced, active_in, edges_in, edges_out}
use Rattle.core_reduce.specs.declared.Counts.{Counts}
use Rattle.core_words.specs.Fields.{ACTIVE, LOWER, MAPPED, NAMED, UPPER, node}
use Rattle.theory_graph.proofs.ActiveLists.{in_firsts}
use Rattle.theory_graph.proofs.EdgeCount.{firsts_most, most_nodes_double, small_edges_most}
use Rattle.theory_graph.proofs.Lists.{map_equal, table_length, table_mem}
use Rattle.theory_graph.proofs.SmallGraphDefinition.{definition_small}
use Rattle.theory_graph.proofs.TableLaws.{pairs_tables}
use Rattle.theory_graph.proofs.Uniqueness.{small_bound}
use Rattle.theory_graph.specs.Lists.{firsts, pairs, table}
use Rattle.theory_names.proofs.NamedContraction.{named_small_repeats}
use Rattle.theory_names.specs.Names.{Named, plain}
use Rattle.theory_names.specs.NamedSmallGraph.{IsNamedSmallGraph}
use Rattle.replay_step.proofs.RunLaws.{FiveRuns, behind_3, behind_4, behind_5, front_6, long_6, run_1, run_2, run_3, run_4, run_5}
use Rattle.replay_step.proofs.WordLaws.{drop_back, fill_length, front_get, mid_before, mid_less, mid_take, take_less, take_whole}
use Rattle.replay_step.specs.Area.{area_edges}
use Rattle.replay_step.specs.Load.{AreaMade, MakeReady}
use Rattle.replay_step.specs.declared.Graph.{Graph}
use Rattle.replay_step.specs.declared.Part.{Part}

-- ---- the edges out
length_edges : (e : ℕ) (z : List ℕ) → length (plain (edges_out e z)) ≡ e
length_edges e z = length-map (edges_out e z) _ ∙ table_length _ 0 e

module _ {n m k : ℕ} {w z : List ℕ} {h e : ℕ} (q : Reduced n m k w z h e) where
  reduced_low : e ≤ n
  reduced_low = omega (arith, small_edges_most _ _ _ _ _ _ (definition_small _ _ _ _ _ _ q.small.small), length_edges e z, q.less)

  reduced_few : (T : List ℕ) → active_in k w ≡ firsts eqb T → e ≤ 2 * length T
  reduced_few T r =
      let g = definition_small _ _ _ _ _ _ q.small.small in
      omega (
        arith,
        small_edges_most _ _ _ _ _ _ g,
        length_edges e z,
        small_bound _ _ _ _ _ _ g,
        most_nodes_double (length (firsts eqb (active_in k w))),
        firsts_most eqb (active_in k w),
        ap length r,
        firsts_most eqb T,
      )

-- ---- what the contraction needs
module _ {p : Part} {l : Graph} {w : List ℕ} (q : MakeReady p l w) (far : p.scratch ≡ p.area + 17 * p.events) where
  abbrev s : ℕ
  s = p.scratch

  abbrev c : ℕ
  c = p.events

  abbrev A : ℕ
  A = p.area

  -- the part's places
  abbrev T : List ℕ
  T = take (2 * c) (drop p.places w)

  abbrev L : List ℕ
  L = take (length w - s) (drop s w)

  same_L : L ≡ drop s w
  same_L = take_whole s w

  pub loaded : Loaded l.nodes l.edges l.active L
  loaded =
      let e = q.entered in
      record {
        few = q.many;
        much = q.few;
        room = rw (length-take, length-drop) (omega (arith, q.room));
        less = entered_most e;
        ends = rw same_L q.ends;
        names = rw same_L q.names;
        active = rw same_L e.below;
        marked = rw same_L e.marked;
        marks = rw same_L e.marks;
      }

  -- w₁: the contraction's words put back; then the places, the words of the events, the smaller ends, the larger ends and the names are written
  module _ {zs : List ℕ} {r : Counts} (K : Reduced l.nodes l.edges l.active L zs r.nodes r.edges) (lz : length zs ≡ length L) where
    abbrev w₁ : List ℕ
    w₁ = put_mid s (length w - s) w zs

    behind_1 : drop s w₁ ≡ zs
    behind_1 = drop_back s w zs (omega (arith, q.room))

    front_1 : take s w₁ ≡ take s w
    front_1 = take_put s (length w - s) w zs (omega (arith, q.room))

    length_1 : length w₁ ≡ length w
    length_1 = same_len_mid s (length w - s) w zs lz

    length_T : length T ≡ 2 * c
    length_T = rw (length-take, length-drop) (omega (arith, q.room, q.places))

    list_L : active_in l.active L ≡ firsts eqb T
    list_L = rw same_L q.entered.active

    few_out : r.edges ≤ 4 * c
    few_out = omega (arith, reduced_few K T list_L, length_T)

    T_1 : take (2 * c) (drop p.places w₁) ≡ T
    T_1 = mid_less p.places (2 * c) s w w₁ (omega (arith, q.places)) (omega (arith, length_1, q.room, q.places)) (omega (arith, q.room, q.places)) front_1

    pub map_need : (p.places + 2 * c ≤ A) × (A + 2 * c ≤ s) × (s + 16 * l.nodes ≤ length w₁) × ((i : ℕ) → i < 2 * c → get_or w₁ (p.places + i) 0 < l.nodes)
    map_need = (
      q.places,
      omega arith,
      omega (arith, q.room, length_1),
      λ i u. omega (arith, q.nodes i u, front_get s (p.places + i) w w₁ front_1 (omega (arith, q.places))),
    )

    pub fields_need : (z : List ℕ) → length z ≡ length w → (A + 5 * c + r.edges ≤ s) × (A + 9 * c + r.edges ≤ s) × (A + 13 * c + r.edges ≤ s) × (s + 16 * r.edges ≤ length z)
    fields_need z e = (omega (arith, few_out), omega (arith, few_out), omega (arith, few_out), omega (arith, q.room, reduced_low K))

    module _ {w₂ w₃ w₄ w₅ w₆ : List ℕ} (e₂ : w₂ ≡ sets w₁ A (map (node MAPPED (drop s w₁)) (take (2 * c) (drop p.places w₁))))
        (e₃ : w₃ ≡ sets w₂ (A + 2 * c) (take (3 * c) (drop p.words w₂))) (e₄ : w₄ ≡ sets w₃ (A + 5 * c) (table (node LOWER (drop s w₃)) 0 r.edges))
        (e₅ : w₅ ≡ sets w₄ (A + 9 * c) (table (node UPPER (drop s w₄)) 0 r.edges)) (e₆ : w₆ ≡ sets w₅ (A + 13 * c) (table (node NAMED (drop s w₅)) 0 r.edges)) where
      abbrev e : ℕ
      e = r.edges

      -- what is written, run by run
      abbrev M : List ℕ
      M = map (node MAPPED (drop s w₁)) (take (2 * c) (drop p.places w₁))

      abbrev W : List ℕ
      W = take (3 * c) (drop p.words w₂)

      abbrev X : List ℕ
      X = table (node LOWER (drop s w₃)) 0 e

      abbrev Y : List ℕ
      Y = table (node UPPER (drop s w₄)) 0 e

      abbrev N : List ℕ
      N = table (node NAMED (drop s w₅)) 0 e

      length_M : length M ≡ 2 * c
      length_M = length-map (take (2 * c) (drop p.places w₁)) (node MAPPED (drop s w₁)) ∙ ap length T_1 ∙ length_T

      length_2 : length w₂ ≡ length w
      length_2 = fill_length w₁ A M e₂ ∙ length_1

      length_W : length W ≡ 3 * c
      length_W = rw (length-take, length-drop) (omega (arith, length_2, q.room, q.words))

      length_X : length X ≡ e
      length_X = table_length (node LOWER (drop s w₃)) 0 e

      length_Y : length Y ≡ e
      length_Y = table_length (node UPPER (drop s w₄)) 0 e

      length_N : length N ≡ e
      length_N = table_length (node NAMED (drop s w₅)) 0 e

      runs : FiveRuns A (A + 2 * c) (A + 5 * c) (A + 9 * c) (A + 13 * c) s M W X Y N w₁ w₂ w₃ w₄ w₅ w₆
      runs = record {
        e₂ = e₂;
        e₃ = e₃;
        e₄ = e₄;
        e₅ = e₅;
        e₆ = e₆;
        o₁ = omega (arith, length_M);
        o₂ = omega (arith, length_W);
        o₃ = omega (arith, length_X, few_out);
        o₄ = omega (arith, length_Y, few_out);
        o₅ = omega (arith, length_N, few_out);
        long = omega (arith, length_1, q.room);
      }

      -- what stands from A + i on in the area
      abbrev z : List ℕ
      z = take (17 * c) (drop A w₆)

      at_z : (i j k : ℕ) → i + j ≤ 17 * c → A + i ≡ k → take j (drop i z) ≡ take j (drop k w₆)
      at_z i j k h b =
          mid_take i j (17 * c) (drop A w₆) h (rw length-drop (omega (arith, long_6 runs, length_1, q.room)))
          ∙ ap (take j) (drop-drop i A w₆) ∙ ap (λ (k : ℕ). take j (drop k w₆)) b

      places : take (2 * c) z ≡ map (node MAPPED zs) T
      places =
          take-take (2 * c) (17 * c) (drop A w₆) (omega arith)
          ∙ ap (λ j. take j (drop A w₆)) (sym length_M) ∙ run_1 runs ∙ ap₂ (λ f l. map (node MAPPED f) l) behind_1 T_1

      words : take (3 * c) (drop (2 * c) z) ≡ take (3 * c) (drop p.words w)
      words =
          at_z (2 * c) (3 * c) (A + 2 * c) (omega arith) refl
          ∙ ap (λ j. take j (drop (A + 2 * c) w₆)) (sym length_W) ∙ run_2 runs
          ∙ ap (λ l. take (3 * c) (drop p.words l)) e₂ ∙ mid_before M w₁ A p.words (3 * c) q.words (omega (arith, length_1, q.room, q.words))
          ∙ mid_less p.words (3 * c) s w w₁ (omega (arith, q.words)) (omega (arith, length_1, q.room, q.words)) (omega (arith, q.room, q.words)) front_1

      lows : take e (drop (5 * c) z) ≡ table (node LOWER zs) 0 e
      lows =
          at_z (5 * c) e (A + 5 * c) (omega (arith, few_out)) refl
          ∙ ap (λ j. take j (drop (A + 5 * c) w₆)) (sym length_X) ∙ run_3 runs ∙ ap (λ l. table (node LOWER l) 0 e) (behind_3 runs ∙ behind_1)

      highs : take e (drop (9 * c) z) ≡ table (node UPPER zs) 0 e
      highs =
          at_z (9 * c) e (A + 9 * c) (omega (arith, few_out)) refl
          ∙ ap (λ j. take j (drop (A + 9 * c) w₆)) (sym length_Y) ∙ run_4 runs ∙ ap (λ l. table (node UPPER l) 0 e) (behind_4 runs ∙ behind_1)

      names : take e (drop (13 * c) z) ≡ table (node NAMED zs) 0 e
      names =
          at_z (13 * c) e (A + 13 * c) (omega (arith, few_out)) refl
          ∙ ap (λ j. take j (drop (A + 13 * c) w₆)) (sym length_N) ∙ run_5 runs ∙ ap (λ l. table (node NAMED l) 0 e) (behind_5 runs ∙ behind_1)

      edges_z : area_edges c e z ≡ edges_out e zs
      edges_z =
          ap₂ pairs (ap₂ pairs lows highs ∙ pairs_tables (node LOWER zs) (node UPPER zs) 0 e) names
          ∙ pairs_tables (λ j. (node LOWER zs j, node UPPER zs j)) (node NAMED zs) 0 e

      numbers : (t : ℕ) → Memᴰ t T → node MAPPED zs t ≡ K.σ t
      numbers t m =
          let (j, b, x) = table_mem (node ACTIVE L) 0 l.active t (subst (λ (S : List ℕ). Memᴰ t S) (sym list_L) (in_firsts T t m)) in
          ap (node MAPPED zs) x ∙ K.numbers j (omega arith) ∙ ap K.σ (sym x)

      graph_z : IsNamedSmallGraph (edges_in l.nodes l.edges (drop s w)) T r.nodes (area_edges c e z) K.ρ K.σ
      graph_z =
          let h : IsNamedSmallGraph (edges_in l.nodes l.edges L) (firsts eqb T) r.nodes (edges_out e zs) K.ρ K.σ =
          subst (λ (S : List ℕ). IsNamedSmallGraph (edges_in l.nodes l.edges L) S r.nodes (edges_out e zs) K.ρ K.σ) list_L K.small in
          subst (λ (v : List ℕ). IsNamedSmallGraph (edges_in l.nodes l.edges v) T r.nodes (area_edges c e z) K.ρ K.σ) same_L
          (subst (λ (H : Named). IsNamedSmallGraph (edges_in l.nodes l.edges L) T r.nodes H K.ρ K.σ) (sym edges_z) (named_small_repeats _ T _ _ _ _ h))

      pub area_made : AreaMade p l w w₆ r
      area_made = record {
        front = front_6 runs ∙ take_less A s w w₁ (omega arith) front_1;
        σ = K.σ;
        graph = record { ρ = K.ρ; small = graph_z };
        places = places ∙ map_equal (node MAPPED zs) K.σ T numbers;
        events = words;
      }
