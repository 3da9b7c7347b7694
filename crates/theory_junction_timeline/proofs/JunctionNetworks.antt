-- The graphs that the sibling makes down the windows are reduced graphs of the windows' own networks; and what is read off the one of a query is its byte.
-- In order: lists with the same entries have the same edges; a step; down the windows; a query's own window.
-- Assumes nothing.
use Prim.Native.Nat.{◌*◌, ◌+◌, ◌-◌, ◌<◌, ◌≤◌, suc, ℕ}
use mathlib.Core.Bool.{Bool, ◌&&◌, ◌||◌, cond, false, not, true}
use mathlib.Core.List.{List, Memᴰ, [], ◌++◌, ◌∷◌, map}
use mathlib.Core.Logic.{◌⊎◌, inl, inr}
use mathlib.Core.Path.{◌∙◌, ◌≡◌, ap, ap₂, refl, subst, sym}
use lib.Dec.{eqb, ltb}
use lib.ListN.{get_or, length}
use native.Mathlib.Omega.{arith}
use borrow.Author.Tests.{eq-eqb, eqb-true, ltb-false, ltb-true, not-true}
use Rattle.theory_graph.proofs.Booleans.{and_elim, contradict, on_bool}
use Rattle.theory_graph.proofs.DistinctLists.{distinct_fewer}
use Rattle.theory_graph.proofs.Lists.{All, Pairwise, firsts_cover, firsts_in, firsts_pairwise, map_mem, mem_map, mem_member, member_mem}
use Rattle.theory_graph.specs.Cut.{crosses, cut}
use Rattle.theory_graph.specs.Graph.{Edge, NodeSet}
use Rattle.theory_graph.specs.Lists.{Distinct, firsts, member}
use Rattle.theory_graph.specs.SmallGraph.{different, ends_in, image}
use Rattle.theory_names.proofs.NamedCuts.{plain_append, same_cuts}
use Rattle.theory_names.specs.Names.{Named, plain}
use Rattle.theory_junctions.proofs.SameColourings.{Covers, image_same, reply_added, reply_same, same_edges, same_labels, same_step, same_trans}
use Rattle.theory_junctions.proofs.Windows.{map_length}
use Rattle.theory_junctions.specs.Classes.{tick}
use Rattle.theory_junctions.specs.Colouring.{Same}
use Rattle.theory_junctions.specs.Reply.{read_reply, reply}
use Rattle.theory_timeline.proofs.DemandThree.{within_among}
use Rattle.theory_timeline.proofs.EventLaws.{asks_changes}
use Rattle.theory_timeline.proofs.Leaves.{during_one, query_network}
use Rattle.theory_timeline.proofs.Networks.{active_part, added_active, network_part}
use Rattle.theory_timeline.specs.Events.{Event, SegmentSet, active_of, asks, ends, network_of, open_roads, pick}
use Rattle.theory_timeline.specs.Steps.{Part, added}
use Rattle.theory_timeline.specs.Windows.{Timeline, Window, active, asks_at, during, event, network, open_before, open_graph, size}
use Rattle.theory_junction_timeline.specs.JunctionDemand.{JunctionsFaithful}
use Rattle.theory_junction_timeline.specs.JunctionReplay.{junction_byte}
use Rattle.theory_junction_timeline.specs.JunctionSteps.{JunctionsMade, down, top}
use Rattle.theory_junctions.specs.ReducedGraph.{IsReducedGraph, most_edges, most_junctions}

-- ---- an edge is told by the sets that it leaves
-- how many edges join p and q
abbrev between : ℕ → ℕ → List Edge → ℕ
between p q [] = 0
between p q (e ∷ E) = tick (eqb e.0 p && eqb e.1 q || eqb e.0 q && eqb e.1 p) + between p q E

-- p and q apart are left by what leaves both together, and twice by each edge that joins them
edge_between : (a b c d : Bool) → (a && c) ≡ false → (b && d) ≡ false
    → crosses a b + crosses c d ≡ crosses (a || c) (b || d) + 2 * tick (a && d || c && b)
edge_between true true true true h k = contradict refl h
edge_between true true true false h k = contradict refl h
edge_between true true false true h k = contradict refl k
edge_between true true false false h k = refl
edge_between true false true true h k = contradict refl h
edge_between true false true false h k = contradict refl h
edge_between true false false true h k = refl
edge_between true false false false h k = refl
edge_between false true true true h k = contradict refl k
edge_between false true true false h k = refl
edge_between false true false true h k = contradict refl k
edge_between false true false false h k = refl
edge_between false false true true h k = refl
edge_between false false true false h k = refl
edge_between false false false true h k = refl
edge_between false false false false h k = refl

only : {p q : ℕ} → ¬ (p ≡ q) → (v : ℕ) → (eqb v p && eqb v q) ≡ false
only {p} {q} n v = on_bool (eqb v p && eqb v q) (λ t. and_elim (eqb v p) (eqb v q) t λ a b. absurd (n (sym (eqb-true v p a) ∙ eqb-true v q b))) (λ t. t)

cut_between : (p q : ℕ) → ¬ (p ≡ q) → (E : List Edge) → cut (λ v. eqb v p) E + cut (λ v. eqb v q) E ≡ cut (λ v. eqb v p || eqb v q) E + 2 * between p q E
cut_between p q n [] = refl
cut_between p q n (e ∷ E) =
    omega (arith, cut_between p q n E, edge_between (eqb e.0 p) (eqb e.1 p) (eqb e.0 q) (eqb e.1 q) (only n e.0) (only n e.1))

edge_counts : (p q : ℕ) (E : List Edge) → Memᴰ (p, q) E → 0 < between p q E
edge_counts p q [] x' = elim x' [ ]
edge_counts p q (e ∷ E) (Memᴰ.head h) =
    let t : (eqb e.0 p && eqb e.1 q || eqb e.0 q && eqb e.1 p) ≡ true =
    ap (λ (b : Bool). b || eqb e.0 q && eqb e.1 p) (ap₂ ◌&&◌ (eq-eqb e.0 p (ap (λ (f : Edge). f.0) (sym h))) (eq-eqb e.1 q (ap (λ (f : Edge). f.1) (sym h)))) in
    let u : tick (eqb e.0 p && eqb e.1 q || eqb e.0 q && eqb e.1 p) ≡ 1 = ap tick t in
    omega arith
edge_counts p q (e ∷ E) (Memᴰ.tail m) = omega (arith, edge_counts p q E m)

counted_edge : (p q : ℕ) (E : List Edge) → 0 < between p q E → Memᴰ (p, q) E ⊎ Memᴰ (q, p) E
counted_edge p q [] h = absurd (omega arith)
counted_edge p q (e ∷ E) h = go (eqb e.0 p && eqb e.1 q) (eqb e.0 q && eqb e.1 p) refl refl h (counted_edge p q E)
  where
    later : Memᴰ (p, q) E ⊎ Memᴰ (q, p) E → Memᴰ (p, q) (e ∷ E) ⊎ Memᴰ (q, p) (e ∷ E)
    later (inl m) = inl (Memᴰ.tail m)
    later (inr m) = inr (Memᴰ.tail m)

    here : (u v : ℕ) → (eqb e.0 u && eqb e.1 v) ≡ true → Memᴰ (u, v) (e ∷ E)
    here u v t = and_elim (eqb e.0 u) (eqb e.1 v) t λ a b. Memᴰ.head (sym (ap₂ (λ (x y : ℕ). (x, y)) (eqb-true e.0 u a) (eqb-true e.1 v b)))

    go : (a b : Bool) → (eqb e.0 p && eqb e.1 q) ≡ a → (eqb e.0 q && eqb e.1 p) ≡ b → 0 < tick (a || b) + between p q E
        → (0 < between p q E → Memᴰ (p, q) E ⊎ Memᴰ (q, p) E) → Memᴰ (p, q) (e ∷ E) ⊎ Memᴰ (q, p) (e ∷ E)
    go true b s t l f = inl (here p q s)
    go false true s t l f = inr (here q p t)
    go false false s t l f = later (f (omega arith))

-- lists that each set leaves alike have the same edges, but for loops and the way they are written
pub cuts_covers : (G H : List Edge) → ((U : NodeSet) → cut U G ≡ cut U H) → Covers H G
cuts_covers G H e p q m n =
    counted_edge p q H (omega (
      arith,
      edge_counts p q G m,
      cut_between p q n G,
      cut_between p q n H,
      e (λ v. eqb v p),
      e (λ v. eqb v q),
      e (λ v. eqb v p || eqb v q),
    ))

pub cuts_same : (K : NodeSet) (g : ℕ → ℕ) (G H : List Edge) → ((U : NodeSet) → cut U G ≡ cut U H) → Same K G g H g
cuts_same K g G H e = same_edges K g G H (cuts_covers G H e) (cuts_covers H G (λ U. sym (e U)))

-- ---- fewer labels
-- labels that are moved do not become more
pub distinct_pairwise : (l : List ℕ) → Pairwise eqb l → Distinct l
distinct_pairwise [] p = tt
distinct_pairwise (x ∷ l) (a, p) = (λ m. apart l a m, distinct_pairwise l p)
  where
    apart : (l : List ℕ) → All (λ y. not (eqb x y) ≡ true) l → Memᴰ x l → ⊥
    apart [] _ x5 = elim x5 [ ]
    apart (y ∷ l) (h, a) (Memᴰ.head e) = contradict (eq-eqb x y e) (not-true (eqb x y) h)
    apart (y ∷ l) (h, a) (Memᴰ.tail m) = apart l a m

pub different_map : (σ : ℕ → ℕ) (S : List ℕ) → different (map σ S) ≤ different S
different_map σ S =
    omega (
      arith,
      map_length σ (firsts eqb S),
      distinct_fewer (map σ (firsts eqb S)) (firsts eqb (map σ S)) (distinct_pairwise (firsts eqb (map σ S)) (firsts_pairwise eqb (map σ S))) λ u m.
          let (a, n, e) = map_mem σ u S (firsts_in eqb u (map σ S) m) in
          let (c, k, q) = firsts_cover eqb (λ x. eq-eqb x x refl) (λ x y z p q. eq-eqb x z (eqb-true x y p ∙ eqb-true y z q)) a S n in
          subst (λ (v : ℕ). Memᴰ v (map σ (firsts eqb S))) (ap σ (eqb-true c a q) ∙ sym e) (mem_map σ k),
    )

-- the bounds grow with the number of active junctions
pub most_junctions_lem : (k j : ℕ) → k ≤ j → most_junctions k ≤ most_junctions j
most_junctions_lem k j l = go (ltb k 2) (ltb j 2) refl refl
  where
    go : (a b : Bool) → ltb k 2 ≡ a → ltb j 2 ≡ b → cond a k (3 * k - 3) ≤ cond b j (3 * j - 3)
    go true true p q = l
    go true false p q = omega (arith, ltb-true k 2 p, ltb-false j 2 q)
    go false true p q = omega (arith, ltb-false k 2 p, ltb-true j 2 q)
    go false false p q = omega arith

pub most_edges_lem : (k j : ℕ) → k ≤ j → most_edges k ≤ most_edges j
most_edges_lem k j l = go (ltb k 2) (ltb j 2) refl refl
  where
    go : (a b : Bool) → ltb k 2 ≡ a → ltb j 2 ≡ b → cond a 0 (4 * k - 6) ≤ cond b 0 (4 * j - 6)
    go true b p q = omega arith
    go false true p q = omega (arith, ltb-false k 2 p, ltb-true j 2 q)
    go false false p q = omega arith

-- ---- a step
-- E reduced to S is H; F are edges between active junctions; with F, H is reduced to the places of S', a part of S: then E with F is reduced to S'
module _ (E : List Edge) (S : List ℕ) (H : List Edge) (σ : ℕ → ℕ) (s : Same (member S) E (λ k. k) H σ) (F : List Edge) (w : ends_in (member S) F ≡ true)
    (S' : List ℕ) (sub : (v : ℕ) → Memᴰ v S' → Memᴰ v S) (h' : ℕ) (H' : List Edge) (σ' : ℕ → ℕ) (r : IsReducedGraph (H ++ image σ F) (map σ S') h' H' σ') where
  labels : (k : ℕ) → member S' k ≡ true → member S k ≡ true
  labels k m = mem_member k S (sub k (member_mem S' k m))

  moved : (k : ℕ) → member S' k ≡ true → member (map σ S') (σ k) ≡ true
  moved k m = mem_member (σ k) (map σ S') (mem_map σ (member_mem S' k m))

  pub reduced_compose : IsReducedGraph (E ++ F) S' h' H' (λ a. σ' (σ a))
  reduced_compose =
      let few = different_map σ S' in
      record {
        same = subst (λ (G : List Edge). Same (member S') (E ++ G) (λ k. k) H' (λ a. σ' (σ a))) (image_same F)
            (same_step (member S) (member S') E (λ k. k) H σ F H' (λ a. σ' (σ a)) s w labels
            (same_labels (member (map σ S')) (member S') σ (H ++ image σ F) (λ k. k) H' σ' moved r.same));
        place = λ a m. r.place (σ a) (mem_map σ m);
        inside = r.inside;
        nodes = omega (arith, r.nodes, most_junctions_lem (different (map σ S')) (different S') few);
        edges = omega (arith, r.edges, most_edges_lem (different (map σ S')) (different S') few);
        read = λ l x y mx my.
            ap (λ (G : List Edge). reply (E ++ G) x y) (sym (image_same F))
            ∙ reply_added (member S) E (λ k. k) H σ s F w x y (mem_member x S (sub x mx)) (mem_member y S (sub y my))
            ∙ r.read (omega arith) (σ x) (σ y) (mem_map σ mx) (mem_map σ my);
      }

-- a list that each set leaves alike has the same reduced graphs
pub reduced_equal : {E G : List Edge} {S : List ℕ} {h : ℕ} {H : List Edge} {σ : ℕ → ℕ} → ((U : NodeSet) → cut U E ≡ cut U G) → IsReducedGraph E S h H σ → IsReducedGraph G S h H σ
reduced_equal {E} {G} {S} {h} {H} {σ} e r =
    let s : Same (member S) G (λ k. k) E (λ k. k) = cuts_same (member S) (λ k. k) G E (λ U. sym (e U)) in
    record {
      same = same_trans (member S) G (λ k. k) E (λ k. k) H σ s r.same;
      place = r.place;
      inside = r.inside;
      nodes = r.nodes;
      edges = r.edges;
      read = λ l x y mx my. reply_same (member S) G (λ k. k) E (λ k. k) s x y (mem_member x S mx) (mem_member y S my) ∙ r.read l x y mx my;
    }

-- where a graph has the window's colourings at its active junctions, a reduced graph of it with the added roads is one of the part's network
pub part_reduced : (g : Timeline) (w c : Window) → Part w c → (H : List Edge) (σ : ℕ → ℕ) → Same (member (active g w)) (plain (network g w)) (λ k. k) H σ
    → (n' : ℕ) (H' : List Edge) (σ' : ℕ → ℕ) → IsReducedGraph (H ++ image σ (plain (added g w c))) (map σ (active g c)) n' H' σ'
    → IsReducedGraph (plain (network g c)) (active g c) n' H' (λ a. σ' (σ a))
part_reduced g w c h H σ s n' H' σ' r =
    reduced_equal (λ U. sym (ap (cut U) (plain_append (network g w) (added g w c))) ∙ same_cuts (network_part g w c h) U)
    (reduced_compose (plain (network g w)) (active g w) H σ s (plain (added g w c)) (added_active g w c h) (active g c) (active_part g w c h) n' H' σ' r)

-- ---- down the windows
pub made_reduced : {g : Timeline} {w : Window} {n : ℕ} {H : List Edge} {σ : ℕ → ℕ} → JunctionsMade g w n H σ → IsReducedGraph (plain (network g w)) (active g w) n H σ
made_reduced (top r) = r
made_reduced {g} (down {w = w} {n = n} {H = H} {σ = σ} {c = c} {n' = n'} {H' = H'} {σ' = σ'} m h r) = part_reduced g w c h H σ (made_reduced m).same n' H' σ' r

-- each of them replies as the window's network does, whatever is added between active junctions, and is small
pub made_faithful : {g : Timeline} {w : Window} {n : ℕ} {H : List Edge} {σ : ℕ → ℕ} → IsReducedGraph (plain (network g w)) (active g w) n H σ → JunctionsFaithful g w n H σ
made_faithful {g} {w} {n} {H} {σ} r = record {
  replies = λ F h x y mx my.
      ap (λ (G : List Edge). reply (plain (network g w) ++ G) x y) (sym (image_same F))
      ∙ reply_added (member (active g w)) (plain (network g w)) (λ k. k) H σ r.same F (within_among (active g w) F h) x y (mem_member x (active g w) mx) (mem_member y (active g w) my);
  nodes = r.nodes;
  edges = r.edges;
}

-- ---- a query's own window
two_different : (x y : ℕ) → different (x ∷ y ∷ []) ≤ 2
two_different x y = go (not (eqb x y))
  where
    go : (b : Bool) → suc (length (cond b (y ∷ []) [])) ≤ 2
    go true = omega arith
    go false = omega arith

-- a query by itself, with the segments of o open
alone : (n : ℕ) (segs : List Edge) (q : Event) (o : SegmentSet) → asks n q ≡ true → (k : List Event) → k ≡ q ∷ [] → (h : ℕ) (H : List Edge) (σ : ℕ → ℕ)
    → IsReducedGraph (plain (network_of n segs k o)) (active_of n segs k) h H σ → reply (plain (pick (open_roads segs o) 0 segs)) q.0 q.1 ≡ read_reply H (σ q.0) (σ q.1)
unfolding active_of
alone n segs q o a k e h H σ r =
    let t : IsReducedGraph (plain (network_of n segs (q ∷ []) o)) (active_of n segs (q ∷ [])) h H σ =
    subst (λ (k : List Event). IsReducedGraph (plain (network_of n segs k o)) (active_of n segs k) h H σ) e r in
    let f : ends n segs q ≡ q = ap (λ (c : Bool). cond c q (get_or segs q.1 (0, 0))) a in
    let u : IsReducedGraph (plain (pick (open_roads segs o) 0 segs)) (q.0 ∷ q.1 ∷ []) h H σ =
    subst (λ (G : Named). IsReducedGraph (plain G) (q.0 ∷ q.1 ∷ []) h H σ) (query_network n segs q o (asks_changes n q a))
    (subst (λ (v : Event). IsReducedGraph (plain (network_of n segs (q ∷ []) o)) (v.0 ∷ v.1 ∷ []) h H σ) f t) in
    u.read (two_different q.0 q.1) q.0 q.1 (Memᴰ.head refl) (Memᴰ.tail (Memᴰ.head refl))

-- what is read off its graph is its byte
pub leaf_byte : (g : Timeline) (i : ℕ) → i < size g → asks_at g i ≡ true → (n : ℕ) (H : List Edge) (σ : ℕ → ℕ) → IsReducedGraph (plain (network g (i, 1))) (active g (i, 1)) n H σ
    → junction_byte g i ≡ read_reply H (σ (event g i).0) (σ (event g i).1)
unfolding junction_byte network active
leaf_byte g i l a n H σ r =
    ap (λ (b : Bool). cond b (reply (plain (open_graph g i)) (event g i).0 (event g i).1) 3) a
    ∙ alone g.junctions g.segments (event g i) (open_before g i) a (during g (i, 1)) (during_one g i l) n H σ r

-- and the byte of every other event is 3
pub change_byte : (g : Timeline) (i : ℕ) → asks_at g i ≡ false → junction_byte g i ≡ 3
unfolding junction_byte
change_byte g i a = ap (λ (b : Bool). cond b (reply (plain (open_graph g i)) (event g i).0 (event g i).1) 3) a
