-- The step: its window's area is as what is loaded asks for, and what is made out of that is the small graph of the part.
-- Assumes nothing.
use Prim.Native.Nat.{◌*◌, ◌+◌, ◌-◌, ◌<◌, ◌≤◌, ℕ}
use mathlib.Core.List.{List, Memᴰ, ◌++◌, map}
use mathlib.Core.Path.{◌∙◌, ◌≡◌, ap, ap₂, refl, subst, sym}
use lib.Dec.{ltb}
use lib.ListN.{drop, get_or, length, length-take, take}
use lib.Seq.{get_or-drop, get_or-take, length-take-le}
use native.Mathlib.Omega.{arith}
use borrow.Author.Tests.{ltb-true}
use Rattle.core_reduce.specs.Core.{edges_in}
use Rattle.core_reduce.specs.declared.Counts.{Counts}
use Rattle.theory_graph.proofs.Booleans.{on_bool}
use Rattle.theory_graph.proofs.Ends.{ends_in_of}
use Rattle.theory_graph.proofs.Lists.{map_twice, table_in}
use Rattle.theory_graph.proofs.SmallGraphDefinition.{definition_small}
use Rattle.theory_graph.proofs.Uniqueness.{small_bound}
use Rattle.theory_names.proofs.NamedCuts.{plain_in}
use Rattle.theory_names.proofs.NamedUniqueness.{named_renumbered, named_small_equal}
use Rattle.theory_names.specs.Names.{Named, SameEntries, plain}
use Rattle.theory_names.specs.NamedSmallGraph.{IsNamedSmallGraph, image_named}
use Rattle.theory_timeline.proofs.Acceptance.{sound_good, sound_segment}
use Rattle.theory_timeline.proofs.DemandThree.{named_is}
use Rattle.theory_timeline.proofs.Networks.{part_small}
use Rattle.theory_timeline.proofs.RoadLaws.{road_most}
use Rattle.theory_timeline.proofs.TagLaws.{tag_says, word_change, word_none, words_at}
use Rattle.theory_timeline.specs.Steps as Steps
use Rattle.theory_timeline.specs.Steps.{Sound, added}
use Rattle.theory_timeline.specs.Tags.{key_of, word}
use Rattle.theory_timeline.specs.Windows.{Timeline, active, changes_at, event, network, size}
use Rattle.replay_step.proofs.AreaCounts.{area_nodes, area_of}
use Rattle.replay_step.proofs.EdgeLaws.{area_runs, area_table, area_entry}
use Rattle.replay_step.proofs.LoadLaws.{edges_are, places_are, window_length, words_are}
use Rattle.replay_step.proofs.WordLaws.{low_map, take_less}
use Rattle.replay_step.specs.Area.{Area, EventsIn, IsPart, IsPartOf, SmallArea, StepReady, StepReadyOf, Stepped, SteppedOf, area_edges, road_room, span}
use Rattle.replay_step.specs.Load.{AreaMade, AreaMadeOf, LoadReady, PartLoaded}
use Rattle.replay_step.specs.Reduction.{Reduces, StepReadyBy, window_of, words_of}
use Rattle.replay_step.specs.declared.Graph.{Graph}
use Rattle.replay_step.specs.declared.Part.{Part}
use Rattle.replay_step.specs.declared.Window.{Window}

-- ---- what the words of a window's events say; they stand in the first k words
module _ (g : Timeline) (sound : Sound g) (w : Window) (inside : w.at + w.events ≤ size g) (σ : ℕ → ℕ) (k : ℕ) (v : List ℕ) (low : 5 * w.events ≤ k) (a : EventsIn g (span w) σ (take k v)) where
  pub places_low : ((b : ℕ) → Memᴰ b (active g (span w)) → σ b < w.nodes) → (i : ℕ) → i < 2 * w.events → get_or v i 0 < w.nodes
  places_low below i l =
      let n = w.events in
      let A = active g (span w) in
      let q : get_or (map σ A) i 0 < w.nodes = low_map w.nodes σ A i below (omega (arith, window_length g w.at n inside)) in
      let e : get_or v i 0 ≡ get_or (map σ A) i 0 = sym (get_or-take k v i 0 (omega arith)) ∙ sym (get_or-take (2 * n) (take k v) i 0 l) ∙ ap (λ k. get_or k i 0) a.places in
      omega arith

  -- a key is that of a segment, or that of no tag
  pub keys_low : (j : ℕ) → j < w.events → key_of (get_or v (2 * w.events + 3 * j) 0) < 65536
  keys_low j l =
      let n = w.events in
      let u = take k v in
      let i = w.at + j in
      let e : get_or v (2 * n + 3 * j) 0 ≡ word g 0 i =
      let z : 3 * j ≡ 3 * j + 0 = omega arith in
      sym (get_or-take k v (2 * n + 3 * j) 0 (omega arith)) ∙ sym (get_or-take (3 * n) (drop (2 * n) u) (3 * j) 0 (omega arith) ∙ get_or-drop (2 * n) u (3 * j) 0)
      ∙ ap₂ (λ (l : List ℕ) (k : ℕ). get_or l k 0) a.words z ∙ words_at g w.at n j 0 l (omega arith) in
      rw e (on_bool (changes_at g i)
      (λ q.
      rw ((word_change g i q).0, (tag_says g i).named)
      (omega (arith, sound_segment g sound i (omega arith) q, road_most g.segments (event g i).1, sound.segments_few)))
      (λ q. rw (word_none g i 0 q) (omega arith)))

-- ---- what is loaded asks for
module _ {w : Window} {p : Part} {v : List ℕ} (st : StepReady w p.at p.events v) (ip : IsPart w p) where
  abbrev n : ℕ
  n = w.events

  edges_low : (j : ℕ) → j < w.edges → (get_or v (5 * n + j) 0 < w.nodes) × (get_or v (5 * n + 4 * n + j) 0 < w.nodes) × (get_or v (5 * n + 2 * (4 * n) + j) 0 < 65536)
  edges_low j l =
      let a = st.area in
      let u = take (17 * n) v in
      let lu : length u ≡ 17 * n = length-take-le (17 * n) v (omega (arith, st.room)) in
      let m : Memᴰ (area_entry n u j) (area_edges n w.edges u) =
      subst (λ (G : Named). Memᴰ (area_entry n u j) G) (sym (area_table n w.edges u (omega arith) a.graph.few)) (table_in (area_entry n u) 0 w.edges j (omega arith) (omega arith)) in
      let (b, c) = ends_in_of (λ v. ltb v w.nodes) (plain (area_edges n w.edges u)) a.graph.carries.inside (plain_in m) in
      let at : (i : ℕ) → i < 17 * n → get_or u i 0 ≡ get_or v i 0 = λ i h. get_or-take (17 * n) v i 0 h in
      let x : 9 * n + j ≡ 5 * n + 4 * n + j = omega arith in
      let y : 13 * n + j ≡ 5 * n + 2 * (4 * n) + j = omega arith in (
        subst (λ (k : ℕ). k < w.nodes) (at (5 * n + j) (omega (arith, a.graph.few))) (ltb-true _ w.nodes b),
        subst (λ (k : ℕ). k < w.nodes) (at (9 * n + j) (omega (arith, a.graph.few)) ∙ ap (λ (k : ℕ). get_or v k 0) x) (ltb-true _ w.nodes c),
        omega (arith, at (13 * n + j) (omega (arith, a.graph.few)) ∙ ap (λ (k : ℕ). get_or v k 0) y, a.graph.names (area_entry n u j) m),
      )

  pub load_ready : LoadReady w (4 * w.events) p v
  load_ready =
      let a = st.area in
      record {
        starts = st.starts;
        ends = st.ends;
        much = st.much;
        many = st.many;
        few = a.graph.few;
        light = omega (arith, a.graph.few, st.much);
        places = ip.places;
        words = ip.words_at;
        front = omega (arith, ip.area);
        behind = omega (arith, ip.area, ip.scratch);
        room = omega (arith, st.room, ip.scratch);
        nodes = places_low st.g st.sound w st.inside a.σ (17 * n) v (omega arith) a.events (λ b m. (a.graph.carries.place b m).0);
        keys = keys_low st.g st.sound w st.inside a.σ (17 * n) v (omega arith) a.events;
        edges = edges_low;
      }

-- ---- the step
-- the part of c events from a events into the window on
pub part_ready : {A : Timeline → Window → List ℕ → Type 0} {words : ℕ → ℕ} {need : ℕ} {w : Window} {lo c : ℕ} {v : List ℕ} → StepReadyOf A words need w lo c v
    → (a : ℕ) → a ≤ lo - w.at → StepReadyOf A words need w (w.at + a) c v
part_ready st a l = record {
  g = st.g;
  sound = st.sound;
  inside = st.inside;
  area = st.area;
  starts = omega arith;
  ends = omega (arith, st.starts, st.ends);
  some = st.some;
  room = st.room;
  many = st.many;
  much = st.much;
}

-- what a step promises, by what it makes of the window's area
pub stepped_of : (A B : Timeline → Window → List ℕ → Type 0) {words : ℕ → ℕ} {w : Window} {p : Part} → IsPartOf words w p → {v z : List ℕ} → take p.scratch z ≡ take p.scratch v
    → {Made : (ℕ → ℕ) → List ℕ → Type 0} {y : List ℕ} → AreaMadeOf Made words p z y → (r : Counts)
    → ((g : Timeline) → Sound g → w.at + w.events ≤ size g → A g w (take (words w.events) v) → B g (window_of p r) (take (words p.events) (drop (words w.events) y)))
    → SteppedOf A B words w p.at p.events v y (window_of p r)
stepped_of A B {words} {w} {p} ip {v} {z} front {y = y} am r made = record {
  at = refl;
  events = refl;
  front = ap (λ (k : ℕ). take k y) (sym ip.area) ∙ am.front ∙ take_less p.area p.scratch v z (omega (arith, ip.area, ip.scratch)) front ∙ ap (λ (k : ℕ). take k v) ip.area;
  made = made;
}

-- a small graph of a window's network, in the words that the reader knows
pub small_area : (g : Timeline) → Sound g → (r : Window) {z : List ℕ} {ρ σ : ℕ → ℕ}
    → IsNamedSmallGraph (network g (span r)) (active g (span r)) r.nodes (area_edges r.events r.edges z) ρ σ → EventsIn g (span r) σ z → SmallArea g r z
small_area g sound r {σ = σ} s e = record {
  σ = σ;
  graph = record {
    renumbered = named_renumbered (network g (span r)) (active g (span r)) _ _ _ _ (named_is g (sound_good g sound) (span r)) _ _ _ _ s;
    bound = small_bound _ _ _ _ _ _ (definition_small _ _ _ _ _ _ s.small);
  };
  events = e;
}

module _ {w : Window} {p : Part} {v : List ℕ} (st : StepReady w p.at p.events v) (ip : IsPart w p) {z : List ℕ} {l : Graph} (pl : PartLoaded w (4 * w.events) p v z l)
    (lz : length z ≡ length v) {y : List ℕ} {r : Counts}
    (am : AreaMade p l z y r) where
  abbrev c : ℕ
  c = p.events

  abbrev u : List ℕ
  u = take (17 * w.events) v

  part : Steps.Part (span w) (p.at, c)
  part = record { after = st.starts; before = st.ends }

  module _ (g : Timeline) (sound : Sound g) (inside : w.at + w.events ≤ size g) (a : Area g w u) where
    low : 5 * w.events ≤ 17 * w.events
    low = omega arith

    high : 17 * w.events ≤ length v
    high = omega (arith, st.room)

    -- what is loaded is the window's graph with the added roads
    loaded_is : SameEntries (edges_in l.nodes l.edges (drop p.scratch z)) (area_edges w.events w.edges u ++ image_named a.σ (added g (span w) (p.at, c)))
    loaded_is =
        subst (λ (G : Named). SameEntries (edges_in l.nodes l.edges (drop p.scratch z)) (G ++ image_named a.σ (added g (span w) (p.at, c))))
        (area_runs w.events w.edges v high a.graph.few)
        (edges_are (load_ready st ip) pl lz (17 * w.events) low high g sound inside a.σ a.events)

    part_made : SmallArea g (window_of p r) (take (17 * c) (drop (17 * w.events) y))
    part_made =
        let T = places_are (load_ready st ip) pl lz (17 * w.events) low high g sound inside a.σ a.events in
        let g1 : IsNamedSmallGraph (edges_in l.nodes l.edges (drop p.scratch z)) (map a.σ (active g (p.at, c))) r.nodes
        (area_edges c r.edges (take (17 * c) (drop p.area y))) am.graph.ρ am.σ =
        rw T at am.graph.small in
        let g2 = part_small g (span w) (p.at, c) part w.nodes (area_edges w.events w.edges u) a.graph.ρ a.σ a.graph.carries r.nodes _ am.graph.ρ am.σ
        (named_small_equal loaded_is g1) in
        subst (λ (k : ℕ). SmallArea g (window_of p r) (take (17 * c) (drop k y))) ip.area
        (small_area g sound (window_of p r) g2 (record {
          places = am.places ∙ ap (map am.σ) T ∙ map_twice am.σ a.σ (active g (p.at, c));
          words = am.events ∙ words_are (load_ready st ip) pl lz (17 * w.events) low high g sound inside a.σ a.events;
        }))

  pub stepped : Stepped w p.at c v y (window_of p r)
  stepped = stepped_of Area SmallArea ip pl.front am r part_made

-- ---- what the replay's own reduction owes: the contraction makes a part's small graph
pub reduces : Reduces Area SmallArea 17 4 187 road_room AreaMade
reduces = record {
  least = λ n m c. omega arith;
  fewer = λ n m k c h. omega arith;
  loads = λ w p v st ip. load_ready st ip;
  steps = λ w p v st ip z l pl lz y r am. stepped st ip pl lz am;
  whole = λ g sound p l z y r am N T W.
      let s : IsNamedSmallGraph (edges_in l.nodes l.edges (drop p.scratch z)) (active g (p.at, p.events)) r.nodes
      (area_edges p.events r.edges (take (17 * p.events) (drop p.area y))) am.graph.ρ am.σ =
      rw T at am.graph.small in
      small_area g sound (window_of p r)
      (subst (λ (G : Named). IsNamedSmallGraph G (active g (p.at, p.events)) r.nodes (area_edges p.events r.edges (take (17 * p.events) (drop p.area y))) am.graph.ρ am.σ) N s)
      (record { places = am.places ∙ ap (map am.σ) T; words = am.events ∙ W });
  own = λ g sound w some v h a. area_of a some sound (rw length-take (omega arith));
  enough = λ w p v q lo c z a b s e f.
      let o = area_of q.area q.some q.sound (rw length-take (omega (arith, q.enough))) in
      record {
        g = q.g;
        sound = q.sound;
        inside = q.inside;
        area = rw f o;
        starts = a;
        ends = b;
        some = s;
        room = omega (arith, q.enough, area_nodes q.area q.some, o.graph.few);
        many = omega (arith, q.much, area_nodes q.area q.some);
        much = q.much;
      };
  fits = λ c n h. omega arith;
  nodes = λ w p v q. omega (arith, q.much, area_nodes q.area q.some);
}

-- ---- a step by any reduction
-- where it takes its part from, and where it puts its area and what is loaded
pub is_part : {words : ℕ} {w : Window} (a : ℕ) {c : ℕ} {W W' : ℕ} → W ≡ words → W' ≡ words
    → IsPartOf (words_of words) w (record { at = w.at + a; events = c; places = 2 * a; words = 2 * w.events + 3 * a; area = W * w.events; scratch = W * w.events + W' * c })
is_part {words} {w} a {c} {W} {W'} e f = record {
  places = omega arith;
  words_at = omega arith;
  area = ap (λ (k : ℕ). k * w.events) e;
  scratch = ap₂ (λ (k l : ℕ). k * w.events + l * c) e f;
}

module _ {A B : Timeline → Window → List ℕ → Type 0} {words edges window : ℕ} {room : ℕ → ℕ → ℕ → ℕ} {Made : Part → Graph → List ℕ → List ℕ → Counts → Type 0} (o : Reduces A B words edges window room Made)
    {w : Window} {p : Part} {v : List ℕ} (st : StepReadyBy A words room w p.at p.events v) (ip : IsPartOf (words_of words) w p) where
  -- the room for the window's edges
  pub edges_fit : 3 * (edges * w.events) ≤ length v
  edges_fit = omega (arith, (o.loads w p v st ip).front, ip.area, st.room)

  module _ {z : List ℕ} {l : Graph} (pl : PartLoaded w (edges * w.events) p v z l) (lz : length z ≡ length v) where
    pub stepped_by : {y : List ℕ} {r : Counts} → Made p l z y r → {lo : ℕ} → p.at ≡ lo
        → SteppedOf A B (words_of words) w lo p.events v y (record { at = lo; events = p.events; nodes = r.nodes; edges = r.edges })
    stepped_by {y} {r} am e =
        subst (λ (k : ℕ). SteppedOf A B (words_of words) w k p.events v y (record { at = k; events = p.events; nodes = r.nodes; edges = r.edges })) e
        (o.steps w p v st ip z l pl lz y r am)
