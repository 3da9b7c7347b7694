-- Demand 2 at the leaves: at a window of one event that is a query the network is all that is open, and the answer and the name are read off the small graph.
-- Assumes nothing.
use Prim.Native.Nat.{◌+◌, ◌<◌, suc, zero, ℕ}
use mathlib.Core.Bool.{Bool, ◌&&◌, ◌||◌, cond, false, not, true}
use mathlib.Core.List.{List, [], ◌∷◌, map}
use mathlib.Core.Path.{◌∙◌, ◌≡◌, ap, refl, subst, sym}
use lib.Dec.{eqb}
use lib.ListN.{get_or, take}
use lib.Seq.{drop-cons, get_or-take}
use native.Mathlib.Omega.{arith}
use Rattle.theory_graph.proofs.Booleans.{on_bool}
use Rattle.theory_graph.specs.Graph.{Edge, answer}
use Rattle.theory_graph.specs.Lists.{range}
use Rattle.theory_graph.specs.SmallGraph.{read_off}
use Rattle.theory_names.proofs.NamedContraction.{contract_plain}
use Rattle.theory_names.proofs.NamedReading.{hangs_read, named_answer_read}
use Rattle.theory_names.specs.Names.{Named, hangs, plain}
use Rattle.theory_names.specs.NamedSmallGraph.{IsNamedSmallGraph, read_name}
use Rattle.theory_timeline.proofs.Acceptance.{Good, accepted_good, events_length}
use Rattle.theory_timeline.proofs.DemandThree.{answers_first, named_is, names_first, replay_done}
use Rattle.theory_timeline.proofs.EventLaws.{asks_changes, pick_ext}
use Rattle.theory_timeline.proofs.WindowLaws.{windows_leaf}
use Rattle.theory_timeline.specs.DemandTwo.{Demand2}
use Rattle.theory_timeline.specs.Events.{Event, SegmentSet, active_of, asks, changes, ends, named_roads, network_of, open_roads, pick}
use Rattle.theory_timeline.specs.Replay.{Lent, Outcome, byte, bytes, given, name_at, names_at, replay}
use Rattle.theory_timeline.specs.Roads.{road}
use Rattle.theory_timeline.specs.Windows.{Timeline, active, asks_at, during, event, network, open_before, open_graph, size, small, small_named}

-- a query by itself: its network is all that is open
pub query_network : (n : ℕ) (segs : List Edge) (q : Event) (o : SegmentSet) → changes n q ≡ false → network_of n segs (q ∷ []) o ≡ pick (open_roads segs o) 0 segs
unfolding network_of
query_network n segs q o h = pick_ext (λ r. open_roads segs o r && not (named_roads n segs (q ∷ []) r)) (open_roads segs o) same 0 segs
  where
    same : (r : ℕ) → (open_roads segs o r && not ((changes n q && eqb r (road segs q.1)) || false)) ≡ open_roads segs o r
    same r = go (open_roads segs o r) (eqb r (road segs q.1))
      where
        go : (a c : Bool) → (a && not ((changes n q && c) || false)) ≡ a
        go true c = ap (λ b. not ((b && c) || false)) h
        go false c = refl

-- ---- a window of one event
pub during_one : (g : Timeline) (i : ℕ) → i < size g → during g (i, 1) ≡ event g i ∷ []
unfolding during
during_one g i l = ap (take 1) (drop-cons g.events i (0, 0) l)

-- a query by itself, with the segments of o open: its answer and its name are read off a small graph of its window
module _ (n : ℕ) (segs : List Edge) (q : Event) (o : SegmentSet) (a : asks n q ≡ true) (k : List Event) (e : k ≡ q ∷ []) (h : ℕ) (H : Named) (ρ σ : ℕ → ℕ)
    (s : IsNamedSmallGraph (network_of n segs k o) (active_of n segs k) h H ρ σ) where
  small_graph : IsNamedSmallGraph (pick (open_roads segs o) 0 segs) (q.0 ∷ q.1 ∷ []) h H ρ σ
  unfolding active_of
  small_graph =
      let b = asks_changes n q a in
      let t : IsNamedSmallGraph (network_of n segs (q ∷ []) o) (active_of n segs (q ∷ [])) h H ρ σ =
      subst (λ (k : List Event). IsNamedSmallGraph (network_of n segs k o) (active_of n segs k) h H ρ σ) e s in
      let f : ends n segs q ≡ q = ap (λ (c : Bool). cond c q (get_or segs q.1 (0, 0))) a in
      subst (λ (G : Named). IsNamedSmallGraph G (q.0 ∷ q.1 ∷ []) h H ρ σ) (query_network n segs q o b)
      (subst (λ (v : Event). IsNamedSmallGraph (network_of n segs (q ∷ []) o) (v.0 ∷ v.1 ∷ []) h H ρ σ) f t)

  pub alone : answer (plain (pick (open_roads segs o) 0 segs)) q.0 q.1 ≡ read_off h (plain H)
  alone = named_answer_read (pick (open_roads segs o) 0 segs) q.0 q.1 h H ρ σ small_graph

  pub alone_name : hangs (pick (open_roads segs o) 0 segs) q.0 q.1 ≡ read_name H
  alone_name = hangs_read (pick (open_roads segs o) 0 segs) q.0 q.1 h H ρ σ small_graph

-- at a query's own window
module _ (g : Timeline) (good : Good g) (i : ℕ) (l : i < size g) (a : asks_at g i ≡ true) where
  pub leaf : answer (plain (open_graph g i)) (event g i).0 (event g i).1 ≡ read_off (small g (i, 1)).nodes (small g (i, 1)).edges
  unfolding network active small small_named
  leaf =
      alone g.junctions g.segments (event g i) (open_before g i) a (during g (i, 1)) (during_one g i l) (small g (i, 1)).nodes (small_named g (i, 1)) _ _ (named_is g good (i, 1))
      ∙ ap (read_off (small g (i, 1)).nodes) (contract_plain g.junctions (network g (i, 1)) (active g (i, 1)))

  pub leaf_name : hangs (open_graph g i) (event g i).0 (event g i).1 ≡ read_name (small_named g (i, 1))
  unfolding network active
  leaf_name = alone_name g.junctions g.segments (event g i) (open_before g i) a (during g (i, 1)) (during_one g i l) (small g (i, 1)).nodes (small_named g (i, 1)) _ _ (named_is g good (i, 1))

pub map_from : (f : ℕ → ℕ) (k j i : ℕ) → i < k → get_or (map f (range j k)) i 0 ≡ f (j + i)
map_from f zero j i l = absurd (omega arith)
map_from f (suc k) j zero l = let e : j ≡ j + 0 = omega arith in ap f e
map_from f (suc k) j (suc i) l = let e : suc j + i ≡ j + suc i = omega arith in map_from f k (suc j) i (omega arith) ∙ ap f e

pub demand_2 : (l : Lent) (p : ℕ) (r : Outcome) → r ≡ replay l p → r.accepted ≡ true → Demand2 l p r
unfolding bytes byte names_at name_at
demand_2 l p r e h =
    let (f, a) = replay_done l p (ap (λ (r : Outcome). r.accepted) (sym e) ∙ h) in
    let good = accepted_good l p a in
    let n = events_length l p a in
    record {
      window = λ i j. windows_leaf p l.t a.share i j;
      byte = λ i j.
          let u : i < size (given l) = omega arith in
          sym (get_or-take l.t r.answers i 0 j)
          ∙ ap (λ (r : Outcome). get_or (take l.t r.answers) i 0) (e ∙ f)
          ∙ ap (λ (x : List ℕ). get_or x i 0) (answers_first l p a)
          ∙ at (byte (given l)) i u
          ∙ at_query i u 3 (leaf (given l) good i u);
      name = λ i j.
          let u : i < size (given l) = omega arith in
          sym (get_or-take l.t r.names i 0 j)
          ∙ ap (λ (r : Outcome). get_or (take l.t r.names) i 0) (e ∙ f)
          ∙ ap (λ (x : List ℕ). get_or x i 0) (names_first l p a)
          ∙ at (name_at (given l)) i u
          ∙ at_query i u 65535 (leaf_name (given l) good i u);
    }
  where
    at : (f : ℕ → ℕ) (i : ℕ) → i < size (given l) → get_or (map f (range 0 (size (given l)))) i 0 ≡ f i
    at f i u = let e : 0 + i ≡ i = omega arith in map_from f (size (given l)) 0 i u ∙ ap f e

    -- what is the same at a query, and one number at every other event
    at_query : (i : ℕ) → i < size (given l) → (c : ℕ) {x y : ℕ} → (asks_at (given l) i ≡ true → x ≡ y) → cond (asks_at (given l) i) x c ≡ cond (asks_at (given l) i) y c
    at_query i u c {x} {y} k = on_bool (asks_at (given l) i)
        (λ q. ap (λ (b : ℕ). cond (asks_at (given l) i) b c) (k q))
        (λ q. ap (λ (b : Bool). cond b x c) q ∙ sym (ap (λ (b : Bool). cond b y c) q))
