-- The proof of demand 3, stated in specs/DemandThree: first one window, then two replays.
-- Assumes nothing.
use Prim.Native.Nat.{ℕ}
use mathlib.Core.Bool.{Bool, ◌&&◌, false, true}
use mathlib.Core.List.{List, Memᴰ, [], ◌++◌, ◌∷◌, map}
use mathlib.Core.Logic.{◌↔◌}
use mathlib.Core.Path.{◌∙◌, ◌≡◌, ap, ap₂, refl, subst, sym}
use lib.Dec.{eqb, ltb}
use lib.ListN.{drop, length, length-map, take}
use lib.Seq.{take_at}
use borrow.Author.Tests.{eq-eqb, eqb-true}
use Rattle.theory_graph.proofs.Booleans.{contradict}
use Rattle.theory_graph.proofs.ContractionIsSmall.{contract_small}
use Rattle.theory_graph.proofs.CutOffs.{answer_unique, answer_by_cuts, answer_by_cuts_is}
use Rattle.theory_graph.proofs.Definitions.{answer_is}
use Rattle.theory_graph.proofs.Lists.{entry, mem_member, range_length}
use Rattle.theory_graph.proofs.SmallGraphs.{SmallGraph}
use Rattle.theory_graph.proofs.Transfer.{answer_transfer, small_carries}
use Rattle.theory_graph.proofs.Uniqueness.{small_bound}
use Rattle.theory_graph.specs.Contraction.{contract, kept_classes, number}
use Rattle.theory_graph.specs.Graph.{Edge, answer}
use Rattle.theory_graph.specs.Lists.{member, pairs, range, sum}
use Rattle.theory_graph.specs.SmallGraph.{ends_in, image}
use Rattle.theory_names.proofs.NamedContraction.{contract_is_named_small}
use Rattle.theory_names.proofs.NamedCuts.{plain_append}
use Rattle.theory_names.proofs.NamedSmallCuts.{named_small_carries}
use Rattle.theory_names.proofs.NamedTransfer.{hangs_transfer}
use Rattle.theory_names.specs.Names.{Named, class_node, hangs, plain}
use Rattle.theory_names.specs.NamedSmallGraph.{IsNamedSmallGraph, image_named}
use Rattle.call_sizes.specs.Refusal.{Refusal}
use Rattle.theory_timeline.proofs.Acceptance.{AcceptedList, Good, accepted_from, accepted_good, events_length, fault_share, pick_inside}
use Rattle.theory_timeline.proofs.Networks.{network_different}
use Rattle.theory_timeline.proofs.RoadLaws.{different_answer, different_append}
use Rattle.theory_timeline.proofs.RoadNames.{different_name}
use Rattle.theory_timeline.specs.DemandThree.{Alike, Allowed, Among, Demand3Holds, Demand3OfCalls, Demand3, Faithful, NewRoads, outcome_of}
use Rattle.theory_timeline.specs.Events.{network_of}
use Rattle.theory_timeline.specs.Replay.{Lent, Outcome, bytes, done, fault, given, names_at, open_at_end, queries, refused, replay}
use Rattle.theory_timeline.specs.Roads.{DifferentRoads, road_name}
use Rattle.theory_timeline.specs.Windows.{Timeline, Window, active, at_start, kept, network, size, small, small_named, stands, windows}

-- ---- one window
pub within_among : (S : List ℕ) (F : List Edge) → Among S F → ends_in (member S) F ≡ true
within_among S [] h = refl
within_among S (e ∷ F) h =
    let (p, q) = h e (Memᴰ.head refl) in
    ap₂ ◌&&◌ (mem_member e.0 S p) (ap₂ ◌&&◌ (mem_member e.1 S q) (within_among S F (λ f m. h f (Memᴰ.tail m))))

module _ (g : Timeline) (good : Good g) (w : Window) where
  pub network_inside : ends_in (λ v. ltb v g.junctions) (plain (network g w)) ≡ true
  unfolding network network_of
  network_inside = pick_inside (λ v. ltb v g.junctions) _ 0 g.segments good.segments

  -- the window's small graph with its names
  pub named_is : IsNamedSmallGraph (network g w) (active g w) (small g w).nodes (small_named g w) (class_node g.junctions (network g w) (active g w)) (stands g w)
  unfolding small small_named stands
  named_is = contract_is_named_small g.junctions (network g w) (active g w) network_inside (good.active w)

  -- and without them
  pub small_is : SmallGraph (plain (network g w)) (active g w) (small g w).nodes (small g w).edges (entry 0 (kept_classes g.junctions (plain (network g w)) (active g w)))
      (stands g w)
  unfolding small contract stands number
  small_is = contract_small g.junctions (plain (network g w)) (active g w) network_inside (good.active w)

  -- two active junctions hang on the same name in both, whatever is added
  pub faithful_names : (F : Named) → Among (active g w) (plain F) → (x y : ℕ) → Memᴰ x (active g w) → Memᴰ y (active g w)
      → hangs (network g w ++ F) x y ≡ hangs (small_named g w ++ image_named (stands g w) F) (stands g w x) (stands g w y)
  faithful_names F h x y mx my =
      hangs_transfer (network g w) (active g w) (small g w).nodes (small_named g w) (class_node g.junctions (network g w) (active g w)) (stands g w)
      (named_small_carries (network g w) (active g w) (small g w).nodes (small_named g w) (class_node g.junctions (network g w) (active g w)) (stands g w) named_is)
      F (within_among (active g w) (plain F) h) x y mx my

  -- each entry by itself, whatever is added
  pub faithful_entries : (F : List Edge) → Among (active g w) F → (x y : ℕ) → Memᴰ x (active g w) → Memᴰ y (active g w)
      → answer (plain (network g w) ++ F) x y ≡ answer ((small g w).edges ++ image (stands g w) F) (stands g w x) (stands g w y)
  faithful_entries F h x y mx my =
      let E = plain (network g w) ++ F in
      let H = (small g w).edges ++ image (stands g w) F in
      answer_is E x y
      ∙ answer_unique H (stands g w x) (stands g w y) (answer_by_cuts E x y) (answer_by_cuts H (stands g w x) (stands g w y))
      ((answer_transfer (plain (network g w)) (active g w) (small g w).nodes (small g w).edges _ (stands g w) (small_carries _ _ _ _ _ _ small_is) F
      (within_among (active g w) F h) x y (answer_by_cuts E x y) mx my).0 (answer_by_cuts_is E x y))
      (answer_by_cuts_is H (stands g w x) (stands g w y))
      ∙ sym (answer_is H (stands g w x) (stands g w y))

  -- the network with new roads has one edge for each road: the loss of a road is the removal of an entry
  pub added_different : (F : List Edge) → NewRoads (plain (network g w)) F → DifferentRoads (plain (network g w) ++ F)
  added_different F n = different_append (plain (network g w)) F (network_different g w) n.different n.fresh

  -- so where new roads are added, as the answers ask, the names by entries are the names by the loss of roads
  pub names_by_roads : (F : Named) → NewRoads (plain (network g w)) (plain F) → (x y : ℕ) → hangs (network g w ++ F) x y ≡ road_name (network g w ++ F) x y
  names_by_roads F n x y = different_name (network g w ++ F) (subst DifferentRoads (sym (plain_append (network g w) F)) (added_different (plain F) n)) x y

  pub faithful : Faithful g w
  faithful = record {
    answers = λ F h n x y mx my. different_answer (plain (network g w) ++ F) (added_different F n) x y ∙ faithful_entries F h x y mx my;
    names = faithful_names;
    nodes = small_bound (plain (network g w)) (active g w) (small g w).nodes (small g w).edges _ (stands g w) small_is;
  }

-- ---- two replays
-- an accepted replay has the outcome `done`, and is one without a fault
pub replay_done : (l : Lent) (p : ℕ) → (replay l p).accepted ≡ true → (replay l p ≡ done l p) × AcceptedList l p
unfolding replay refused
replay_done l p = go (eqb (fault l p).0 0) refl
  where
    go : (b : Bool) → eqb (fault l p).0 0 ≡ b
        → (elim b as (λ x. Outcome) [ true ↦ done l p | false ↦ refused l (fault l p) ]).accepted ≡ true
        → ((elim b as (λ x. Outcome) [ true ↦ done l p | false ↦ refused l (fault l p) ]) ≡ done l p) × AcceptedList l p
    go true e h = (refl, (accepted_from l p (eqb-true (fault l p).0 0 e)).list)
    go false e h = contradict h refl

pub accepted_done : (l : Lent) (p : ℕ) → (fault l p).0 ≡ 0 → replay l p ≡ done l p
unfolding replay
accepted_done l p h = ap (λ (b : Bool). elim b as (λ x. Outcome) [ true ↦ done l p | false ↦ refused l (fault l p) ]) (eq-eqb (fault l p).0 0 h)

done_verdict : (l : Lent) (p : ℕ) → (replay l p).accepted ≡ true → (fault l p).0 ≡ 0
unfolding replay refused
done_verdict l p = go (eqb (fault l p).0 0) refl
  where
    go : (b : Bool) → eqb (fault l p).0 0 ≡ b → (elim b as (λ x. Outcome) [ true ↦ done l p | false ↦ refused l (fault l p) ]).accepted ≡ true → (fault l p).0 ≡ 0
    go true e h = eqb-true (fault l p).0 0 e
    go false e h = contradict h refl

-- the first T entries of the answer table are the answer bytes
pub bytes_length : (l : Lent) (p : ℕ) → AcceptedList l p → length (bytes (given l)) ≡ l.t
unfolding bytes
bytes_length l p a = length-map (range 0 (size (given l))) _ ∙ range_length 0 (size (given l)) ∙ events_length l p a

pub answers_first : (l : Lent) (p : ℕ) → AcceptedList l p → take l.t (done l p).answers ≡ bytes (given l)
unfolding done
answers_first l p a = take_at (bytes (given l)) (drop (length (bytes (given l))) l.answers) l.t (bytes_length l p a)

-- and of the name table the names
pub names_length : (l : Lent) (p : ℕ) → AcceptedList l p → length (names_at (given l)) ≡ l.t
unfolding names_at
names_length l p a = length-map (range 0 (size (given l))) _ ∙ range_length 0 (size (given l)) ∙ events_length l p a

pub names_first : (l : Lent) (p : ℕ) → AcceptedList l p → take l.t (done l p).names ≡ names_at (given l)
unfolding done
names_first l p a = take_at (names_at (given l)) (drop (length (names_at (given l))) l.names) l.t (names_length l p a)

pub alike_given : (l k : Lent) → Alike l k → given l ≡ given k
unfolding given
alike_given l k h = λ i. record { junctions = h.n i; segments = pairs (h.a i) (h.b i); start = at_start (h.start i); events = pairs (h.x i) (h.y i) }

done_accepted : (l : Lent) (p : ℕ) → (done l p).accepted ≡ true
unfolding done
done_accepted l p = refl

share_done : (l : Lent) (p q : ℕ) → Allowed p → Allowed q → (replay l p).accepted ≡ true → (replay l q).accepted ≡ true
share_done l p q a b h = ap (λ (r : Outcome). r.accepted) (accepted_done l q (ap (λ (v : Refusal). v.0) (sym (fault_share l p q a b)) ∙ done_verdict l p h)) ∙ done_accepted l q

share_tables : (l : Lent) (p q : ℕ) → ((done l p).answers ≡ (done l q).answers) × ((done l p).names ≡ (done l q).names) × ((done l p).work ≡ (done l q).work)
unfolding done
share_tables l p q = (refl, refl, refl)

both : (l k : Lent) (p q : ℕ) → Allowed p → Allowed q → Demand3 l k p q (replay l p) (replay k q)
unfolding kept done
both l k p q a b =
    record {
      faithful = λ h w m. faithful (given l) (accepted_good l p (replay_done l p h).1) w;
      kept = λ h. let (e, c) = replay_done l p h in ap (λ (r : Outcome). r.kept) e ∙ ap (λ (t : ℕ). sum (map (λ w. (small (given l) w).nodes) (windows p t))) (events_length l p c);
      alike = λ h j s.
          let (e, c) = replay_done l p h in
          let (f, d) = replay_done k q j in
          let g = alike_given l k s in
          let t : l.t ≡ k.t = sym c.exact.x_exact ∙ ap length s.x ∙ d.exact.x_exact in (
            ap (λ (r : Outcome). take l.t r.answers) e ∙ answers_first l p c ∙ ap bytes g ∙ sym (answers_first k q d)
                ∙ ap (λ (t : ℕ). take t (done k q).answers) (sym t) ∙ ap (λ (r : Outcome). take l.t r.answers) (sym f),
            ap (λ (r : Outcome). take l.t r.names) e ∙ names_first l p c ∙ ap names_at g ∙ sym (names_first k q d)
                ∙ ap (λ (t : ℕ). take t (done k q).names) (sym t) ∙ ap (λ (r : Outcome). take l.t r.names) (sym f),
            ap (λ (r : Outcome). r.queries) e ∙ ap queries g ∙ ap (λ (r : Outcome). r.queries) (sym f),
            ap (λ (r : Outcome). r.opened) e ∙ ap open_at_end g ∙ ap (λ (r : Outcome). r.opened) (sym f),
          );
      tables = λ e. subst (λ (k : Lent). ((replay l p).accepted ≡ true ↔ (replay k q).accepted ≡ true)
          × ((replay l p).accepted ≡ true → ((replay l p).answers ≡ (replay k q).answers) × ((replay l p).names ≡ (replay k q).names) × ((replay l p).work ≡ (replay k q).work))) e same;
    }
  where
    same : ((replay l p).accepted ≡ true ↔ (replay l q).accepted ≡ true) × ((replay l p).accepted ≡ true → ((replay l p).answers ≡ (replay l q).answers) × ((replay l p).names ≡ (replay l q).names) × ((replay l p).work ≡ (replay l q).work))
    same = (
      (share_done l p q a b, share_done l q p b a),
      λ h.
          let e = (replay_done l p h).0 in
          let f = (replay_done l q (share_done l p q a b h)).0 in
          let (x, y, z) = share_tables l p q in (
            ap (λ (r : Outcome). r.answers) e ∙ x ∙ ap (λ (r : Outcome). r.answers) (sym f),
            ap (λ (r : Outcome). r.names) e ∙ y ∙ ap (λ (r : Outcome). r.names) (sym f),
            ap (λ (r : Outcome). r.work) e ∙ z ∙ ap (λ (r : Outcome). r.work) (sym f),
          ),
    )

-- ---- the theorem
pub demand_3 : Demand3Holds
demand_3 l k p q a b r s e f = subst (λ (x : Outcome). Demand3 l k p q x s) (sym e) (subst (λ (x : Outcome). Demand3 l k p q (replay l p) x) (sym f) (both l k p q a b))

pub demand_3_of_calls : Demand3OfCalls
demand_3_of_calls c d a b e f = demand_3 c.lends d.lends c.share d.share a b (outcome_of c) (outcome_of d) e f
