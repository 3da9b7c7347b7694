-- What is loaded for a part of a window: what each piece needs, the words after them, and which graph then stands there. It asks of the window's area no more
-- than LoadReady says, so that it serves for every area with places, words and edges in these runs.
-- In order: the words of a part; what each piece needs; what is loaded; which events and roads it is.
-- Assumes nothing.
use Prim.Native.Nat.{◌*◌, ◌+◌, ◌-◌, ◌<◌, ◌≤◌, suc, zero, ℕ}
use mathlib.Core.Bool.{true}
use mathlib.Core.List.{List, [], ◌++◌, ◌∷◌, append_assoc, map}
use mathlib.Core.Path.{◌∙◌, ◌≡◌, ap, ap₂, refl, sym}
use lib.ListN.{drop, get_or, length, length-drop, length-take, take}
use lib.Seq.{get_or-drop, get_or-take, take-take}
use native.Mathlib.Omega.{arith}
use Rattle.core_loading.proofs.LoadingLaws.{entered_most}
use Rattle.core_loading.specs.Loading.{Entered}
use Rattle.core_reduce.specs.Core.{edges_in}
use Rattle.core_words.specs.Fields.{ACTIVE, MARK, node}
use Rattle.theory_graph.proofs.TableLaws.{table_equal}
use Rattle.theory_graph.specs.Graph.{Edge}
use Rattle.theory_graph.specs.Lists.{table}
use Rattle.theory_names.proofs.NamedCuts.{weigh_append, weigh_image}
use Rattle.theory_names.specs.Names.{Named, SameEntries, weigh}
use Rattle.theory_names.specs.NamedSmallGraph.{image_named}
use Rattle.theory_timeline.proofs.Acceptance.{sound_segment}
use Rattle.theory_timeline.proofs.Networks.{middle}
use Rattle.theory_timeline.proofs.TagLaws.{adds_key, events_added, pick_image, pick_shift, words_at, words_part}
use Rattle.theory_timeline.specs.Events.{Event, active_of, ends}
use Rattle.theory_timeline.specs.Steps as Steps
use Rattle.theory_timeline.specs.Steps.{Sound, added}
use Rattle.theory_timeline.specs.Tags.{adds_event, ends_at, entry_at, event_words, key, key_of, pick_events, word}
use Rattle.theory_timeline.specs.Windows as Windows
use Rattle.theory_timeline.specs.Windows.{Timeline, active, during, event, size}
use Rattle.replay_step.proofs.BesideLaws.{adds_same, beside_same}
use Rattle.replay_step.proofs.WordLaws.{front_get, mid_less, mid_take}
use Rattle.replay_step.specs.Area.{EventsIn, span}
use Rattle.replay_step.specs.Load.{ActiveReady, Actives, Added, Copied, LoadReady, PartLoaded, adds_in, edge_at, entry_in}
use Rattle.replay_step.specs.declared.Graph.{Graph}
use Rattle.replay_step.specs.declared.Part.{Part}
use Rattle.replay_step.specs.declared.Window.{Window}

-- ---- the words of a part
drop_active : (n : ℕ) (segs : List Edge) (σ : ℕ → ℕ) (k : ℕ) (evs : List Event) → drop (2 * k) (map σ (active_of n segs evs)) ≡ map σ (active_of n segs (drop k evs))
unfolding active_of
drop_active n segs σ zero evs = refl
drop_active n segs σ (suc k) [] = let q : 2 * suc k ≡ suc (suc (2 * k)) = omega arith in rw q refl
drop_active n segs σ (suc k) (e ∷ evs) = let q : 2 * suc k ≡ suc (suc (2 * k)) = omega arith in rw q (drop_active n segs σ k evs)

take_active : (n : ℕ) (segs : List Edge) (σ : ℕ → ℕ) (k : ℕ) (evs : List Event) → take (2 * k) (map σ (active_of n segs evs)) ≡ map σ (active_of n segs (take k evs))
unfolding active_of
take_active n segs σ zero evs = refl
take_active n segs σ (suc k) [] = let q : 2 * suc k ≡ suc (suc (2 * k)) = omega arith in rw q refl
take_active n segs σ (suc k) (e ∷ evs) =
    let q : 2 * suc k ≡ suc (suc (2 * k)) = omega arith in
    rw q (ap (λ l. σ (ends n segs e).0 ∷ σ (ends n segs e).1 ∷ l) (take_active n segs σ k evs))

pub active_length : (n : ℕ) (segs : List Edge) (evs : List Event) → length (active_of n segs evs) ≡ 2 * length evs
unfolding active_of
active_length n segs [] = refl
active_length n segs (e ∷ evs) = omega (arith, active_length n segs evs)

pub window_length : (g : Timeline) (at n : ℕ) → at + n ≤ size g → length (active g (at, n)) ≡ 2 * n
unfolding active during
window_length g at n l = active_length g.junctions g.segments (take n (drop at g.events)) ∙ rw (length-take, length-drop) (omega arith)

-- the two nodes of event i
active_at : (n : ℕ) (segs : List Edge) (σ : ℕ → ℕ) (evs : List Event) (i : ℕ) → i < length evs
    → (get_or (map σ (active_of n segs evs)) (2 * i) 0 ≡ σ (ends n segs (get_or evs i (0, 0))).0) × (get_or (map σ (active_of n segs evs)) (2 * i + 1) 0 ≡ σ (ends n segs (get_or evs i (0, 0))).1)
unfolding active_of
active_at n segs σ [] i l = absurd (omega arith)
active_at n segs σ (e ∷ evs) zero l = (refl, refl)
active_at n segs σ (e ∷ evs) (suc i) l =
    let p : 2 * suc i ≡ suc (suc (2 * i)) = omega arith in
    let q : suc (suc (2 * i)) + 1 ≡ suc (suc (2 * i + 1)) = omega arith in
    rw (p, q) (active_at n segs σ evs i (omega arith))

pub event_nodes : (g : Timeline) (σ : ℕ → ℕ) (at n i : ℕ) → at + n ≤ size g → i < n
    → (get_or (map σ (active g (at, n))) (2 * i) 0 ≡ σ (ends_at g (at + i)).0) × (get_or (map σ (active g (at, n))) (2 * i + 1) 0 ≡ σ (ends_at g (at + i)).1)
unfolding active during
event_nodes g σ at n i l u =
    let e : get_or (take n (drop at g.events)) i (0, 0) ≡ event g (at + i) = get_or-take n (drop at g.events) i (0, 0) u ∙ get_or-drop at g.events i (0, 0) in
    let (a, b) = active_at g.junctions g.segments σ (take n (drop at g.events)) i (rw (length-take, length-drop) (omega arith)) in
    (a ∙ ap (λ (e : Event). σ (ends g.junctions g.segments e).0) e, b ∙ ap (λ (e : Event). σ (ends g.junctions g.segments e).1) e)

part_places : (g : Timeline) (w c : Windows.Window) → Steps.Part w c → (σ : ℕ → ℕ) → take (2 * c.1) (drop (2 * (c.0 - w.0)) (map σ (active g w))) ≡ map σ (active g c)
unfolding active during
part_places g w c h σ =
    ap (take (2 * c.1)) (drop_active g.junctions g.segments σ (c.0 - w.0) (during g w)) ∙ take_active g.junctions g.segments σ c.1 (drop (c.0 - w.0) (during g w))
    ∙ ap (λ l. map σ (active_of g.junctions g.segments l)) (middle g w c h)

-- active nodes that are entered, seen through other words
pub entered_same : {n k : ℕ} {S : List ℕ} {mark act mark' act' : ℕ → ℕ} → Entered n S k mark act → ((v : ℕ) → v < n → mark' v ≡ mark v)
    → ((v : ℕ) → v < n → act' v ≡ act v) → Entered n S k mark' act'
entered_same {n} {k} {S} {mark} {act} {mark'} {act'} e f h =
    let m = entered_most e in
    record {
      active = table_equal act' act 0 k (λ i a b. h i (omega arith)) ∙ e.active;
      below = λ i l. rw (h i (omega arith)) (e.below i l);
      marked = λ i l. ap mark' (h i (omega arith)) ∙ f (act i) (e.below i l) ∙ e.marked i l;
      marks = λ v u p. let (i, l, z) = e.marks v u (omega (arith, f v u)) in (i, l, h i (omega arith) ∙ z);
    }

-- ---- what each piece needs
module _ {w : Window} {most : ℕ} {p : Part} {v : List ℕ} (q : LoadReady w most p v) where
  abbrev n : ℕ
  n = w.events

  abbrev s : ℕ
  s = p.scratch

  -- any of the window's places can be entered
  pub active_need : (from count : ℕ) → from + count ≤ 2 * n → ActiveReady from count s w.nodes v
  active_need from count h = record {
    front = omega (arith, q.front, q.behind);
    room = omega (arith, q.room);
    many = q.many;
    nodes = λ i l. q.nodes (from + i) (omega arith);
  }

  part_active : ActiveReady p.places (2 * p.events) s w.nodes v
  part_active = active_need p.places (2 * p.events) (omega (arith, q.starts, q.ends, q.places))

  -- ---- what is loaded: active nodes entered (w₁), edges copied (w₂), the events before the part (w₃) and behind it (w₄)
  module _ {w₁ w₂ w₃ w₄ : List ℕ} {k m r : ℕ} (A₁ : Actives p.places (2 * p.events) s w.nodes v w₁ k) (B : Copied (5 * n) most w.edges s w.nodes w₁ w₂)
      (C : Added w p 0 (p.at - w.at) w.edges w₂ w₃ m) (D : Added w p (p.at - w.at + p.events) n m w₃ w₄ r) (l₁ : length w₁ ≡ length v) (l₂ : length w₂ ≡ length v) where
    front_2 : take s w₂ ≡ take s v
    front_2 = B.edged.front ∙ A₁.front

    front_3 : take s w₃ ≡ take s v
    front_3 = C.edged.front ∙ front_2

    front_4 : take s w₄ ≡ take s v
    front_4 = D.edged.front ∙ front_3

    fields : (j : ℕ) → j < 16 → (u : ℕ) → u < w.nodes → node j (drop s w₄) u ≡ node j (drop s w₁) u
    fields j l u h = D.edged.nodes j l u h ∙ C.edged.nodes j l u h ∙ B.edged.nodes j l u h

    words_of : (z : List ℕ) → take s z ≡ take s v → (d : ℕ) → d < 5 * n → get_or z d 0 ≡ get_or v d 0
    words_of z f d u = front_get s d v z f (omega (arith, q.front, q.behind))

    runs_of : table (edge_at (5 * n) most w₁) 0 w.edges ≡ table (edge_at (5 * n) most v) 0 w.edges
    runs_of = table_equal (edge_at (5 * n) most w₁) (edge_at (5 * n) most v) 0 w.edges λ j a b.
        ap₂ (λ (x : Edge) (y : ℕ). (x, y))
        (ap₂ (λ (x y : ℕ). (x, y)) (front_get s (5 * n + j) v w₁ A₁.front (omega (arith, q.few, q.front, q.behind)))
        (front_get s (5 * n + most + j) v w₁ A₁.front (omega (arith, q.few, q.front, q.behind))))
        (front_get s (5 * n + 2 * most + j) v w₁ A₁.front (omega (arith, q.few, q.front, q.behind)))

    pub part_loaded : PartLoaded w most p v w₄ (record { nodes = w.nodes; edges = r; active = k })
    part_loaded = record {
      nodes = refl;
      front = front_4;
      ready = record {
        places = omega (arith, q.starts, q.ends, q.places, q.front);
        words = omega (arith, q.starts, q.ends, q.words, q.front);
        room = omega (arith, q.room, C.most, D.most, C.long, D.long, q.starts, q.ends);
        much = omega (arith, q.much, q.starts, q.ends);
        many = q.many;
        few = omega (arith, C.most, D.most, q.light, q.starts, q.ends);
        nodes = λ i l. omega (arith, part_active.nodes i l, front_get s (p.places + i) v w₄ front_4 (omega (arith, part_active.front)));
        entered = rw (mid_less p.places (2 * p.events) s v w₄ (omega (arith, part_active.front))
            (omega (arith, part_active.front, q.room, C.long, D.long)) (omega (arith, part_active.front, q.room)) front_4)
            (entered_same A₁.entered (fields MARK (omega arith)) (fields ACTIVE (omega arith)));
        ends = D.edged.ends;
        names = D.edged.names;
      };
      most_edges = omega (arith, C.most, D.most, q.starts, q.ends);
      edges =
          let a = q.starts in
          let b = q.ends in
          let z : p.at - w.at - 0 ≡ p.at - w.at = omega arith in
          let c1 = ap (λ (d : ℕ). pick_events (adds_in w p w₂) (entry_in n w₂) 0 d) z ∙ beside_same w p v w₂ (words_of w₂ front_2) 0 (p.at - w.at) (omega arith) in
          let c2 = beside_same w p v w₃ (words_of w₃ front_3) (p.at - w.at + p.events) (n - (p.at - w.at + p.events)) (omega arith) in
          D.more ∙ ap₂ ◌++◌ (C.more ∙ ap₂ ◌++◌ (B.same ∙ runs_of) c1) c2 ∙ append_assoc (table (edge_at (5 * n) most v) 0 w.edges) _ _;
    }

-- ---- which events and roads it is; the window's places and words stand in the first k words
module _ {w : Window} {most : ℕ} {p : Part} {v : List ℕ} (q : LoadReady w most p v) {z : List ℕ} {l : Graph} (pl : PartLoaded w most p v z l) (lz : length z ≡ length v)
    (k : ℕ) (low : 5 * w.events ≤ k) (high : k ≤ length v) where
  abbrev c : ℕ
  c = p.events

  abbrev B : ℕ
  B = p.at - w.at

  abbrev S : ℕ
  S = p.scratch

  abbrev u : List ℕ
  u = take k v

  part : Steps.Part (span w) (p.at, c)
  part = record { after = q.starts; before = q.ends }

  -- the part's places and words, in the window's area
  places_z : take (2 * c) (drop p.places z) ≡ take (2 * c) (drop (2 * B) (take (2 * w.events) u))
  places_z =
      mid_less p.places (2 * c) S v z (omega (arith, pl.ready.places, q.behind)) (omega (arith, pl.ready.places, pl.ready.room, q.behind))
      (omega (arith, pl.ready.places, pl.ready.room, q.behind, lz)) pl.front
      ∙ ap (λ k. take (2 * c) (drop k v)) q.places
      ∙ sym (ap (λ l. take (2 * c) (drop (2 * B) l)) (take-take (2 * w.events) k v (omega arith))
      ∙ mid_take (2 * B) (2 * c) (2 * w.events) v (omega (arith, q.starts, q.ends)) (omega arith))

  words_z : take (3 * c) (drop p.words z) ≡ take (3 * c) (drop (3 * B) (take (3 * w.events) (drop (2 * w.events) u)))
  words_z =
      let e : 2 * w.events + 3 * B ≡ 3 * B + 2 * w.events = omega arith in
      mid_less p.words (3 * c) S v z (omega (arith, pl.ready.words, q.behind)) (omega (arith, pl.ready.words, pl.ready.room, q.behind))
      (omega (arith, pl.ready.words, pl.ready.room, q.behind, lz)) pl.front
      ∙ ap (λ k. take (3 * c) (drop k v)) q.words
      ∙ sym (mid_take (3 * B) (3 * c) (3 * w.events) (drop (2 * w.events) u) (omega (arith, q.starts, q.ends)) (rw (length-drop, length-take) (omega arith))
      ∙ ap (take (3 * c)) (drop_more (3 * B) (2 * w.events) u)
      ∙ mid_take (2 * w.events + 3 * B) (3 * c) k v (omega (arith, q.starts, q.ends)) high)
    where
      drop_more : (i j : ℕ) (l : List ℕ) → drop i (drop j l) ≡ drop (j + i) l
      drop_more i zero l = let e : i ≡ 0 + i = omega arith in ap (λ k. drop k l) e
      drop_more i (suc j) [] = drop_nil i ∙ sym (drop_nil (suc j + i))
        where
          drop_nil : (i : ℕ) → drop {A = ℕ} i [] ≡ []
          drop_nil zero = refl
          drop_nil (suc i) = refl
      drop_more i (suc j) (x ∷ l) = let e : suc j + i ≡ suc (j + i) = omega arith in drop_more i j l ∙ ap (λ k. drop k (x ∷ l)) (sym e)

  module _ (g : Timeline) (sound : Sound g) (inside : w.at + w.events ≤ size g) (σ : ℕ → ℕ) (a : EventsIn g (span w) σ u) where
    -- the events beside the part, by their words and by the list
    beside : (i d : ℕ) → i + d ≤ w.events
        → pick_events (adds_in w p v) (entry_in w.events v) i d ≡ image_named σ (pick_events (adds_event g (span w) (p.at, c)) (entry_at g) (w.at + i) d)
    beside i d h =
        pick_shift (adds_in w p v) (adds_event g (span w) (p.at, c)) (entry_in w.events v) (λ j. ((σ (ends_at g j).0, σ (ends_at g j).1), key g j)) w.at i d
        (λ j x y. (adds_at j (omega arith), λ t. entry_at_lem j (omega arith) (sym (adds_at j (omega arith)) ∙ t)))
        ∙ pick_image (adds_event g (span w) (p.at, c)) (entry_at g) σ (w.at + i) d
      where
        read : (d : ℕ) → d < 5 * w.events → get_or v d 0 ≡ get_or u d 0
        read d l = sym (get_or-take k v d 0 (omega arith))

        word_at : (j d : ℕ) → j < w.events → d < 3 → get_or v (2 * w.events + (3 * j + d)) 0 ≡ word g d (w.at + j)
        word_at j d x y =
            read (2 * w.events + (3 * j + d)) (omega arith)
            ∙ sym (get_or-take (3 * w.events) (drop (2 * w.events) u) (3 * j + d) 0 (omega arith) ∙ get_or-drop (2 * w.events) u (3 * j + d) 0)
            ∙ ap (λ l. get_or l (3 * j + d) 0) a.words ∙ words_at g w.at w.events j d x y

        adds_at : (j : ℕ) → j < w.events → adds_in w p v j ≡ adds_event g (span w) (p.at, c) (w.at + j)
        adds_at j x =
            let z0 : 2 * w.events + 3 * j ≡ 2 * w.events + (3 * j + 0) = omega arith in
            let z1 : 2 * w.events + 3 * j + 1 ≡ 2 * w.events + (3 * j + 1) = omega arith in
            let z2 : 2 * w.events + 3 * j + 2 ≡ 2 * w.events + (3 * j + 2) = omega arith in
            adds_same (span w) (p.at, c) (w.at + j) (ap (λ k. get_or v k 0) z0 ∙ word_at j 0 x (omega arith))
            (ap (λ k. get_or v k 0) z1 ∙ word_at j 1 x (omega arith)) (ap (λ k. get_or v k 0) z2 ∙ word_at j 2 x (omega arith))

        node_at : (d : ℕ) → d < 2 * w.events → get_or v d 0 ≡ get_or (map σ (active g (span w))) d 0
        node_at d x = read d (omega arith) ∙ sym (get_or-take (2 * w.events) u d 0 x) ∙ ap (λ l. get_or l d 0) a.places

        -- an event that adds its key is no query, so that its tag has the key
        entry_at_lem : (j : ℕ) → j < w.events → adds_event g (span w) (p.at, c) (w.at + j) ≡ true
            → entry_in w.events v j ≡ ((σ (ends_at g (w.at + j)).0, σ (ends_at g (w.at + j)).1), key g (w.at + j))
        entry_at_lem j x t =
            let (e, f) = event_nodes g σ w.at w.events j inside x in
            let z0 : 2 * w.events + 3 * j ≡ 2 * w.events + (3 * j + 0) = omega arith in
            ap₂ (λ (x : Edge) (y : ℕ). (x, y)) (ap₂ (λ (x y : ℕ). (x, y)) (node_at (2 * j) (omega arith) ∙ e) (node_at (2 * j + 1) (omega arith) ∙ f))
            (ap key_of (ap (λ k. get_or v k 0) z0 ∙ word_at j 0 x (omega arith)) ∙ adds_key g (w.at + j) (span w) (p.at, c) t)

    -- what is loaded is the window's graph with the added roads
    pub edges_are : SameEntries (edges_in l.nodes l.edges (drop S z)) (table (edge_at (5 * w.events) most v) 0 w.edges ++ image_named σ (added g (span w) (p.at, c)))
    edges_are = record {
      weights = λ φ U.
          let s1 = q.starts in
          let s2 = q.ends in
          let z0 : w.at + 0 ≡ w.at = omega arith in
          let z1 : w.at + (B + c) ≡ p.at + c = omega arith in
          let z2 : w.events - (B + c) ≡ w.at + w.events - (p.at + c) = omega arith in
          let f = adds_event g (span w) (p.at, c) in
          let P = pick_events f (entry_at g) w.at B in
          let Q = pick_events f (entry_at g) (p.at + c) (w.at + w.events - (p.at + c)) in
          let E = table (edge_at (5 * w.events) most v) 0 w.edges in
          let b1 = beside 0 B (omega arith) ∙ ap (λ (k : ℕ). image_named σ (pick_events f (entry_at g) k B)) z0 in
          let b2 = beside (B + c) (w.events - (B + c)) (omega arith) ∙ ap₂ (λ (k n : ℕ). image_named σ (pick_events f (entry_at g) k n)) z1 z2 in
          let e = events_added g (span w) (p.at, c) part inside (sound_segment g sound) φ (λ k. U (σ k)) in
          let m : weigh φ U (edges_in l.nodes l.edges (drop S z)) ≡ weigh φ U (E ++ (image_named σ P ++ image_named σ Q)) =
          ap (weigh φ U) (pl.edges ∙ ap₂ (λ (x y : Named). E ++ (x ++ y)) b1 b2) in
          omega (
            arith,
            m,
            weigh_append φ U E (image_named σ P ++ image_named σ Q),
            weigh_append φ U (image_named σ P) (image_named σ Q),
            weigh_image φ U σ P,
            weigh_image φ U σ Q,
            e,
            weigh_append φ U E (image_named σ (added g (span w) (p.at, c))),
            weigh_image φ U σ (added g (span w) (p.at, c)),
          );
    }

    -- the places and the words of the part's own events
    pub places_are : take (2 * c) (drop p.places z) ≡ map σ (active g (p.at, c))
    places_are = places_z ∙ ap (λ l. take (2 * c) (drop (2 * B) l)) a.places ∙ part_places g (span w) (p.at, c) part σ

    pub words_are : take (3 * c) (drop p.words z) ≡ event_words g p.at c
    words_are = words_z ∙ ap (λ l. take (3 * c) (drop (3 * B) l)) a.words ∙ words_part g w.at w.events p.at c q.starts q.ends
