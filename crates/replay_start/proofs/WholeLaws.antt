-- The whole list: what its load needs and leaves, and its small graph.
-- In order: what is loaded; what stands in the words and the tables of a list; its network; its small graph.
-- Assumes nothing.
use Prim.Native.Nat.{◌*◌, ◌+◌, ◌-◌, ◌<◌, ◌≤◌, suc, ℕ}
use mathlib.Core.Bool.{Bool, ◌&&◌, and-false, and-true, cond, not, true, false}
use mathlib.Core.List.{List, [], ◌∷◌, map}
use mathlib.Core.Path.{◌∙◌, ◌≡◌, ap, ap₂, refl, subst, subst₂, sym}
use lib.Dec.{ltb}
use lib.ListN.{drop, get_or, length, take}
use lib.Seq.{get_or-drop, get_or-take}
use native.Mathlib.Omega.{arith}
use borrow.Author.Tests.{le-ltb}
use Rattle.core_reduce.specs.Core.{edges_in}
use Rattle.core_reduce.specs.declared.Counts.{Counts}
use Rattle.core_words.specs.Fields.{ACTIVE, MARK, NAME, TO, half}
use Rattle.replay_events.proofs.WritingLaws.{ends_low, names_tag_lem, same_front, word_key}
use Rattle.replay_events.specs.Writing.{names_tag}
use Rattle.replay_start.proofs.StartLaws.{any_same, pick_numbers}
use Rattle.replay_start.specs.Start.{Cleared, LoadReady, fixed, named_by, segment, tags_from}
use Rattle.replay_start.specs.Whole.{ListIn, StartReady, WholeLoaded, WholeMadeOf, WholeReady, WholeReadyBy}
use Rattle.replay_step.proofs.LoadLaws.{entered_same, window_length}
use Rattle.replay_step.specs.Reduction.{MakeReadyBy, Reduces, window_of, words_of}
use Rattle.replay_step.proofs.WordLaws.{front_get, low_map, map_self, mid_less, mid_take}
use Rattle.replay_step.specs.Load.{ActiveReady, Actives, AddedBy}
use Rattle.replay_step.specs.declared.Graph.{Graph}
use Rattle.replay_step.specs.declared.Part.{Part}
use Rattle.replay_step.specs.declared.Window.{Window}
use Rattle.replay_roads.specs.Runs.{run}
use Rattle.theory_graph.proofs.Booleans.{on_bool}
use Rattle.theory_graph.proofs.Lists.{table_length}
use Rattle.theory_graph.proofs.TableLaws.{pairs_at}
use Rattle.theory_graph.specs.Graph.{Edge}
use Rattle.theory_graph.specs.Lists.{any, pairs, range}
use Rattle.theory_graph.specs.SmallGraph.{ends_in}
use Rattle.theory_names.specs.Names.{Entry}
use Rattle.theory_timeline.proofs.Acceptance.{pairs_equal, sound_good}
use Rattle.theory_timeline.proofs.CountLaws.{road_open}
use Rattle.theory_timeline.proofs.EventLaws.{pick_same}
use Rattle.theory_timeline.proofs.TagLaws.{named_during, quiet, words_at}
use Rattle.theory_timeline.specs.Events.{SegmentSet, named_roads, network_of, pick}
use Rattle.theory_timeline.specs.Tags.{event_words, key_of, names_key, pick_events, word}
use Rattle.theory_timeline.specs.Windows.{Timeline, active, during, network, open_before, roads_before}

-- ---- what is loaded: the named roads cleared (v₁), active nodes entered (w₁), roads loaded (z)
module _ {n : ℕ} {p : Part} {a b : List ℕ} {counts : ℕ} {v : List ℕ} (q : StartReady n p a b counts v) where
  abbrev s : ℕ
  s = p.scratch

  module _ {v₁ : List ℕ} (M : Cleared p.words 0 p.events counts v v₁) where
    pub enter_need : ActiveReady p.places (2 * p.events) s n v₁
    enter_need = record {
      front = q.active.front;
      room = omega (arith, q.active.room, M.long);
      many = q.active.many;
      nodes = λ i l. omega (arith, M.front (p.places + i) (omega (arith, q.places)), q.active.nodes i l);
    }

    module _ {w₁ : List ℕ} {k : ℕ} (A : Actives p.places (2 * p.events) s n v₁ w₁ k) (l₁ : length w₁ ≡ length v₁) where
      pub roads_need : LoadReady n s a b counts 0 (length a) 0 w₁
      roads_need = record {
        b_long = q.b_long;
        apart = omega (arith, q.apart, q.behind);
        order = omega arith;
        inside = omega arith;
        much = q.much;
        many = q.active.many;
        few = omega arith;
        room = omega (arith, q.room, M.long);
        nodes = q.nodes;
        ends = λ h u. absurd (omega arith);
        names = λ h u. absurd (omega arith);
      }

      module _ {z : List ℕ} {m : ℕ} (B : AddedBy s n (fixed counts w₁) (segment a b) 0 (length a) 0 w₁ z m) where
        long_z : length z ≡ length v
        long_z = B.long ∙ l₁ ∙ M.long

        front_z : take s z ≡ take s v₁
        front_z = B.edged.front ∙ A.front

        front_v : take counts z ≡ take counts v
        front_v = same_front counts v z long_z λ d l. front_get s d v₁ z front_z (omega (arith, q.apart, q.behind)) ∙ M.front d l

        -- a road has a count left where it had one and no event names it
        fixed_is : (r : ℕ) → r < length a → fixed counts w₁ r ≡ (ltb 0 (get_or v (counts + r) 0) && not (named_by p.words 0 p.events v r))
        fixed_is r l =
            ap (ltb 0) (front_get s (counts + r) v₁ w₁ A.front (omega (arith, q.apart, q.behind)) ∙ M.left r (omega (arith, q.apart, q.behind, q.active.room)))
            ∙ left (named_by p.words 0 p.events v r) (get_or v (counts + r) 0)
          where
            left : (b : Bool) (c : ℕ) → ltb 0 (cond b 0 c) ≡ (ltb 0 c && not b)
            left true c = le-ltb 0 0 (omega arith) ∙ sym (and-false (ltb 0 c))
            left false c = sym (and-true (ltb 0 c))

        picked : pick_events (fixed counts w₁) (segment a b) 0 (length a - 0)
            ≡ pick (λ r. ltb 0 (get_or v (counts + r) 0) && not (named_by p.words 0 p.events v r)) 0 (pairs a b)
        picked =
            let c : length a - 0 ≡ length (pairs a b) = omega (arith, pairs_equal a b q.b_long) in
            ap (pick_events (fixed counts w₁) (segment a b) 0) c
            ∙ pick_numbers (fixed counts w₁) (λ r. ltb 0 (get_or v (counts + r) 0) && not (named_by p.words 0 p.events v r)) (segment a b) 0 (pairs a b) λ i l.
            let y : 0 + i ≡ i = omega arith in
            let u : i < length a = omega (arith, pairs_equal a b q.b_long) in
            (fixed_is (0 + i) (omega arith), ap (λ (k : ℕ). ((get_or a k 0, get_or b k 0), 0 + i)) y ∙ ap (λ (e : Edge). (e, 0 + i)) (sym (pairs_at a b i u (omega (arith, q.b_long)))))

        places_z : take (2 * p.events) (drop p.places z) ≡ take (2 * p.events) (drop p.places v₁)
        places_z = mid_less p.places (2 * p.events) s v₁ z (omega (arith, q.active.front)) (omega (arith, q.active.front, q.room, B.long, M.long))
            (omega (arith, q.active.front, q.room, M.long)) front_z

        pub whole_loaded : WholeLoaded n p a b counts v z (record { nodes = n; edges = m; active = k })
        whole_loaded = record {
          nodes = refl;
          front = front_v;
          ready = record {
            places = omega (arith, q.places, q.apart);
            words = omega (arith, q.named.apart, q.apart);
            room = omega (arith, q.room, B.most, long_z);
            much = q.named.much;
            many = q.active.many;
            few = omega (arith, B.most, q.much);
            nodes = λ i l. omega (arith, enter_need.nodes i l, front_get s (p.places + i) v₁ z front_z (omega (arith, q.active.front)));
            entered = rw places_z (entered_same A.entered (B.edged.nodes MARK (omega arith)) (B.edged.nodes ACTIVE (omega arith)));
            ends = B.edged.ends;
            names = B.edged.names;
          };
          edges = B.more ∙ picked;
        }

-- ---- what stands in the words and the tables of a list
abbrev pub above : ℕ → ℕ → ℕ → Part
above t area scratch = record { at = 0; events = t; places = 0; words = 2 * t; area = area; scratch = scratch }

module _ {n t : ℕ} {a b : List ℕ} {counts : ℕ} {v : List ℕ} {g : Timeline} (q : ListIn n t a b counts v g) where
  tags_are : (j : ℕ) → j < t → tags_from (2 * t) v j ≡ word g 0 j
  tags_are j l =
      let z : 2 * t + 3 * j ≡ 2 * t + (3 * j + 0) = omega arith in
      let y : 0 + j ≡ j = omega arith in
      ap (λ (k : ℕ). get_or v k 0) z ∙ sym (get_or-take (5 * t) v (2 * t + (3 * j + 0)) 0 (omega arith))
      ∙ sym (get_or-take (3 * t) (drop (2 * t) (take (5 * t) v)) (3 * j + 0) 0 (omega arith) ∙ get_or-drop (2 * t) (take (5 * t) v) (3 * j + 0) 0)
      ∙ ap (λ (l : List ℕ). get_or l (3 * j + 0) 0) q.events.words ∙ words_at g 0 t j 0 l (omega arith) ∙ ap (word g 0) y

  -- ---- its network: the roads that are open at the start and that no event names by its tag
  named_is : (r : ℕ) → named_roads g.junctions g.segments (during g (0, t)) r ≡ named_by (2 * t) 0 t v r
  named_is r =
      let z : t - 0 ≡ t = omega arith in
      let e = q.all in
      named_during g (0, t) r (omega arith)
      ∙ sym (ap (λ (k : ℕ). any (names_tag (tags_from (2 * t) v) r) (range 0 k)) z
      ∙ any_same _ (names_key g r) 0 t (λ j a b. names_tag_lem g (tags_from (2 * t) v) (λ i u. tags_are i (omega arith)) r j (omega arith)))

  -- a road that no event names is open at the end where it is at the start
  open_is : (r : ℕ) → r < length a → (roads_before g 0 r && not (named_roads g.junctions g.segments (during g (0, t)) r))
      ≡ (ltb 0 (get_or v (counts + r) 0) && not (named_by (2 * t) 0 t v r))
  open_is r l = on_bool (named_roads g.junctions g.segments (during g (0, t)) r)
      (λ h. ap (λ (b : Bool). roads_before g 0 r && not b) h ∙ and-false (roads_before g 0 r)
      ∙ sym (ap (λ (b : Bool). ltb 0 (get_or v (counts + r) 0) && not b) (sym (named_is r) ∙ h) ∙ and-false (ltb 0 (get_or v (counts + r) 0))))
      (λ h.
      let e = q.all in
      let z : 0 + t ≡ t = omega arith in
      ap₂ (λ (c d : Bool). c && not d)
      (sym (quiet g 0 t r (omega arith) (sym (named_during g (0, t) r (omega arith)) ∙ h)) ∙ ap (λ (j : ℕ). roads_before g j r) z
      ∙ road_open g.segments (open_before g t) r ∙ ap (ltb 0) (sym (q.counted r l)))
      (named_is r))

  pub network_is : length b ≡ length a → pick (λ r. ltb 0 (get_or v (counts + r) 0) && not (named_by (2 * t) 0 t v r)) 0 (pairs a b) ≡ network g (0, t)
  unfolding network network_of
  network_is e = sym (
      ap (pick (λ r. roads_before g 0 r && not (named_roads g.junctions g.segments (during g (0, t)) r)) 0) q.segments
      ∙ pick_same (λ r. roads_before g 0 r && not (named_roads g.junctions g.segments (during g (0, t)) r)) (λ r. ltb 0 (get_or v (counts + r) 0) && not (named_by (2 * t) 0 t v r)) 0
      (pairs a b) (λ r l. open_is (0 + r) (omega (arith, pairs_equal a b e))))

-- ---- what its load needs, and what is loaded
module _ {n t : ℕ} {a b : List ℕ} {counts area scratch : ℕ} {v : List ℕ} (q : WholeReady n t a b counts area scratch v) where
  listed : (i : ℕ) → i < 2 * t → get_or v i 0 < n
  listed i l =
      let g = q.g in
      let A = active g (0, t) in
      let z : length A ≡ 2 * t = window_length g 0 t (omega (arith, q.list.all)) in
      let b : get_or (map (λ a. a) A) i 0 < n =
      low_map n (λ a. a) A i (λ a m. omega (arith, (sound_good g q.list.sound).active (0, t) a m, q.list.junctions)) (omega arith) in
      let e : get_or v i 0 ≡ get_or (map (λ a. a) A) i 0 =
      sym (get_or-take (5 * t) v i 0 (omega arith)) ∙ sym (get_or-take (2 * t) (take (5 * t) v) i 0 l) ∙ ap (λ k. get_or k i 0) q.list.events.places in
      omega arith

  segments_are : length q.g.segments ≡ length a
  segments_are = ap length q.list.segments ∙ pairs_equal a b q.b_long

  pub whole_need : StartReady n (above t area scratch) a b counts v
  whole_need = record {
    active = record {
      front = omega (arith, q.front, q.apart, q.behind);
      room = omega (arith, q.room);
      many = omega (arith, q.list.sound.few, q.list.junctions);
      nodes = λ i l. let z : 0 + i ≡ i = omega arith in omega (arith, ap (λ k. get_or v k 0) z, listed i l);
    };
    named = record {
      much = q.much;
      apart = omega (arith, q.front);
      room = omega (arith, q.apart, q.behind, q.room);
      keys = λ j l s. let k = tags_are q.list j l in
          let u = word_key q.g q.list.sound j (omega (arith, q.list.all)) (omega arith) in
          subst (λ (x : ℕ). counts + key_of x < length v) (sym k) (omega (arith, q.apart, q.behind, q.room, segments_are));
    };
    places = omega (arith, q.front);
    apart = q.apart;
    behind = q.behind;
    b_long = q.b_long;
    much = omega (arith, q.list.sound.segments_few, segments_are);
    room = omega (arith, q.room);
    nodes = ends_low n a b q.b_long (subst₂ (λ (m : ℕ) (E : List Edge). ends_in (λ v. ltb v m) E ≡ true) q.list.junctions q.list.segments q.list.sound.ends);
  }

  module _ {z : List ℕ} {l : Graph} (wl : WholeLoaded n (above t area scratch) a b counts v z l) (lz : length z ≡ length v) {g : Timeline} (e : ListIn n t a b counts v g) where
    words_z : (i k : ℕ) → i + k ≤ 5 * t → take k (drop i z) ≡ take k (drop i (take (5 * t) v))
    words_z i k h =
        mid_less i k counts v z (omega (arith, q.front)) (omega (arith, q.front, q.apart, q.behind, q.room)) (omega (arith, q.front, q.apart, q.behind, q.room)) wl.front
        ∙ sym (mid_take i k (5 * t) v h (omega (arith, q.front, q.apart, q.behind, q.room)))

    pub whole_places : take (2 * t) (drop 0 z) ≡ active g (0, t)
    whole_places = words_z 0 (2 * t) (omega arith) ∙ e.events.places ∙ map_self (active g (0, t))

    pub whole_words : take (3 * t) (drop (2 * t) z) ≡ event_words g 0 t
    whole_words = words_z (2 * t) (3 * t) (omega arith) ∙ e.events.words

    pub whole_network : edges_in l.nodes l.edges (drop scratch z) ≡ network g (0, t)
    whole_network = wl.edges ∙ network_is e q.b_long

-- ---- its area, by any reduction
pick_few : (t : SegmentSet) (i : ℕ) (es : List Edge) → length (pick t i es) ≤ length es
pick_few t i [] = omega arith
pick_few t i (e ∷ es) = go (t i) (pick_few t (suc i) es)
  where
    go : (b : Bool) → length (pick t (suc i) es) ≤ length es → length (cond b ((e, i) ∷ pick t (suc i) es) (pick t (suc i) es)) ≤ suc (length es)
    go true h = omega arith
    go false h = omega arith

module _ {A B : Timeline → Window → List ℕ → Type 0} {words edges window : ℕ} {room : ℕ → ℕ → ℕ → ℕ} {Made : Part → Graph → List ℕ → List ℕ → Counts → Type 0} (o : Reduces A B words edges window room Made)
    {n t : ℕ} {a b : List ℕ} {counts area : ℕ} {v : List ℕ} (q : WholeReadyBy words room n t a b counts area v) {z : List ℕ} {l : Graph}
    (wl : WholeLoaded n (above t area (area + words * t)) a b counts v z l) (lz : length z ≡ length v) where
  few_loaded : l.edges ≤ length a
  few_loaded =
      omega (
        arith,
        table_length {A = Entry} (λ e. ((half l.nodes TO (drop (area + words * t) z) (2 * e), half l.nodes TO (drop (area + words * t) z) (2 * e + 1)), half l.nodes NAME (drop (area + words * t) z) (2 * e))) 0 l.edges,
        ap length wl.edges,
        pick_few (λ r. ltb 0 (run counts v r) && not (named_by (2 * t) 0 t v r)) 0 (pairs a b),
        pairs_equal a b q.ready.b_long,
      )

  pub make_ready : MakeReadyBy words room (above t area (area + words * t)) l z
  make_ready = record {
    ready = wl.ready;
    behind = refl;
    enough = omega (arith, q.enough, ap (λ (k : ℕ). room k l.edges t) wl.nodes, o.fewer n l.edges (length a) t few_loaded, lz);
  }

  pub whole_made : {y : List ℕ} {r : Counts} → Made (above t area (area + words * t)) l z y r
      → WholeMadeOf B (words_of words) n t a b counts area v y (window_of (above t area (area + words * t)) r)
  whole_made {y} {r} am = record {
    at = refl;
    events = refl;
    made = λ g e. o.whole g e.sound (above t area (area + words * t)) l z y r am (whole_network q.ready wl lz e) (whole_places q.ready wl lz e) (whole_words q.ready wl lz e);
  }
