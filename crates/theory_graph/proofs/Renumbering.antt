-- Two small graphs of one graph and one active list differ only by a renumbering of the nodes without an active node; and what differs so from a small
-- graph is one.
-- Assumes nothing.
use Prim.Native.Nat.{◌<◌, max, min, ℕ}
use mathlib.Core.Bool.{Bool, false, true}
use mathlib.Core.List.{List, Memᴰ}
use mathlib.Core.Logic.{◌↔◌, ◌⊎◌, inl, inr}
use mathlib.Core.Path.{◌∙◌, ◌≡◌, ap, ap₂, refl, subst, sym}
use lib.Dec.{ltb}
use native.Mathlib.Omega.{arith}
use borrow.Author.Tests.{lt-ltb, ltb-false, ltb-true}
use Rattle.theory_graph.proofs.Booleans.{contradict, on_bool}
use Rattle.theory_graph.proofs.Lists.{map_same}
use Rattle.theory_graph.proofs.Medians.{between_sym}
use Rattle.theory_graph.proofs.Separation.{insep_sym, insep_trans, same_side, two_edge_connected}
use Rattle.theory_graph.proofs.SmallGraphs.{Linked, SmallGraph}
use Rattle.theory_graph.proofs.Uniqueness.{nodes_same, places_same}
use Rattle.theory_graph.specs.Cut.{Between, TwoEdgeConnected}
use Rattle.theory_graph.specs.Graph.{Edge}
use Rattle.theory_graph.specs.SmallGraph.{Renumbered, in_order}

abbrev taken : (b : Bool) → (b ≡ true → ℕ) → ℕ
taken true f = f refl
taken false f = 0

taken_true : (P : ℕ → Type 0) (b : Bool) (f : b ≡ true → ℕ) → b ≡ true → ((t : b ≡ true) → P (f t)) → P (taken b f)
taken_true P true f e k = k refl
taken_true P false f e k = contradict e refl

pub linked_flip : (E : List Edge) (h : ℕ) (ρ : ℕ → ℕ) (i j : ℕ) → Linked E h ρ i j → Linked E h ρ j i
linked_flip E h ρ i j l = record { to = insep_sym E l.to; third = λ k lk b. swap (l.third k lk (between_sym E (ρ j) (ρ k) (ρ i) b)) }
  where
    swap : {A B : Type 0} → A ⊎ B → B ⊎ A
    swap (inl a) = inr a
    swap (inr b) = inl b

-- an edge between two numbers, smaller number first
written : (E : List Edge) (S : List ℕ) (h : ℕ) (H : List Edge) (ρ σ : ℕ → ℕ) → SmallGraph E S h H ρ σ → (i j : ℕ) → i < h → j < h → ¬ (i ≡ j)
    → Linked E h ρ i j ↔ Memᴰ (min i j, max i j) H
written E S h H ρ σ g i j li lj n = on_bool (ltb i j)
    (λ t. let l : i < j = ltb-true i j t in
    let a : min i j ≡ i = omega arith in
    let b : max i j ≡ j = omega arith in
    (λ k. subst₂' (sym a) (sym b) (g.linked i j l lj k), λ m. (g.edge i j (subst₂' a b m)).2))
    (λ t. let l : j < i = omega (arith, ltb-false i j t) in
    let a : min i j ≡ j = omega arith in
    let b : max i j ≡ i = omega arith in
    (λ k. subst₂' (sym a) (sym b) (g.linked j i l li (linked_flip E h ρ i j k)), λ m. linked_flip E h ρ j i (g.edge j i (subst₂' a b m)).2))
  where
    subst₂' : {x y u v : ℕ} → x ≡ u → y ≡ v → Memᴰ (x, y) H → Memᴰ (u, v) H
    subst₂' p q m = subst (λ (e : Edge). Memᴰ e H) (ap₂ (λ (a b : ℕ). (a, b)) p q) m

module _ (E : List Edge) (S : List ℕ) (h : ℕ) (H : List Edge) (ρ σ : ℕ → ℕ) (g : SmallGraph E S h H ρ σ) (h' : ℕ) (H' : List Edge) (ρ' σ' : ℕ → ℕ) (g' : SmallGraph E S h' H' ρ' σ') where
  -- nodes of one class
  moves : (i j u v : ℕ) → i < h → j < h → u < h' → v < h' → TwoEdgeConnected E (ρ i) (ρ' u) → TwoEdgeConnected E (ρ j) (ρ' v) → Linked E h ρ i j → Linked E h' ρ' u v
  moves i j u v li lj lu lv p q l =
      record {
        to = insep_trans E (insep_sym E (two_edge_connected E p)) (insep_trans E l.to (two_edge_connected E q));
        third = λ k lk b.
            let (m, lm, t) = g.all (ρ' k) (g'.kept k lk) in
            which k m lk t (l.third m lm (λ (U, a, c, e, f). b
            (U, same_side E (ρ' k) (ρ m) t U f ∙ a, sym (same_side E (ρ i) (ρ' u) p U f) ∙ c, sym (same_side E (ρ j) (ρ' v) q U f) ∙ e, f)));
      }
    where
      which : (k m : ℕ) → k < h' → TwoEdgeConnected E (ρ' k) (ρ m) → (m ≡ i) ⊎ (m ≡ j) → (k ≡ u) ⊎ (k ≡ v)
      which k m lk t (inl e) = inl (g'.once k u lk lu (insep_trans E (subst (λ (x : ℕ). TwoEdgeConnected E (ρ' k) (ρ x)) e t) p))
      which k m lk t (inr e) = inr (g'.once k v lk lv (insep_trans E (subst (λ (x : ℕ). TwoEdgeConnected E (ρ' k) (ρ x)) e t) q))

-- the number that a number of the first graph has in the second
module _ (E : List Edge) (S : List ℕ) (h : ℕ) (H : List Edge) (ρ σ : ℕ → ℕ) (g : SmallGraph E S h H ρ σ) (h' : ℕ) (H' : List Edge) (ρ' σ' : ℕ → ℕ) (g' : SmallGraph E S h' H' ρ' σ') where
  pi : ℕ → ℕ
  pi i = taken (ltb i h) (λ t. (g'.all (ρ i) (g.kept i (ltb-true i h t))).0)

  at : (i : ℕ) → i < h → (pi i < h') × TwoEdgeConnected E (ρ i) (ρ' (pi i))
  unfolding pi
  at i l = taken_true (λ (j : ℕ). (j < h') × TwoEdgeConnected E (ρ i) (ρ' j)) (ltb i h) (λ t. (g'.all (ρ i) (g.kept i (ltb-true i h t))).0) (lt-ltb i h l)
      (λ t. let (j, a, b) = g'.all (ρ i) (g.kept i (ltb-true i h t)) in (a, b))

module _ (E : List Edge) (S : List ℕ) (h : ℕ) (H : List Edge) (ρ σ : ℕ → ℕ) (g : SmallGraph E S h H ρ σ) (h' : ℕ) (H' : List Edge) (ρ' σ' : ℕ → ℕ) (g' : SmallGraph E S h' H' ρ' σ') where
  abbrev to : ℕ → ℕ
  to = pi E S h H ρ σ g h' H' ρ' σ' g'

  abbrev from : ℕ → ℕ
  from = pi E S h' H' ρ' σ' g' h H ρ σ g

  abbrev there : (i : ℕ) → i < h → (to i < h') × TwoEdgeConnected E (ρ i) (ρ' (to i))
  there = at E S h H ρ σ g h' H' ρ' σ' g'

  abbrev back : (j : ℕ) → j < h' → (from j < h) × TwoEdgeConnected E (ρ' j) (ρ (from j))
  back = at E S h' H' ρ' σ' g' h H ρ σ g

  pub renumbered : Renumbered S h H σ h' H' σ'
  renumbered =
      let same = places_same E S h H ρ σ g h' H' ρ' σ' g' in
      record {
        nodes = nodes_same E S h H ρ σ g h' H' ρ' σ' g';
        places = same;
        π = to;
        π⁻ = from;
        below = λ i l. let (k, s) = there i l in let (m, t) = back (to i) k in (k, g.once (from (to i)) i m l (insep_sym E (insep_trans E s t)));
        back = λ j l. let (k, s) = back j l in let (m, t) = there (from j) k in (k, g'.once (to (from j)) j m l (insep_sym E (insep_trans E s t)));
        active = λ a m.
            let (l, t) = g.place a m in
            let (l', t') = g'.place a m in
            let (k, s) = there (σ a) l in
            g'.once (to (σ a)) (σ' a) k l' (insep_trans E (insep_sym E s) (insep_trans E (insep_sym E t) t')) ∙ sym (map_same σ σ' S same a m);
        edge = λ i j l lj.
            let li : i < h = omega arith in
            let (ki, si) = there i li in
            let (kj, sj) = there j lj in
            let n : ¬ (to i ≡ to j) = λ e. omega (arith, apart i j li lj e) in
            let w = written E S h' H' ρ' σ' g' (to i) (to j) ki kj n in (
              λ m. w.0 (moves E S h H ρ σ g h' H' ρ' σ' g' i j (to i) (to j) li lj ki kj si sj (g.edge i j m).2),
              λ m. g.linked i j l lj (moves E S h' H' ρ' σ' g' h H ρ σ g (to i) (to j) i j ki kj li lj (insep_sym E si) (insep_sym E sj) (w.1 m)),
            );
        written = λ i j m. let (a, b, _) = g'.edge i j m in (a, b);
        ascends = g'.ascends;
      }
    where
      apart : (i j : ℕ) → i < h → j < h → to i ≡ to j → i ≡ j
      apart i j li lj e =
          let (_, p) = there i li in
          let (_, q) = there j lj in
          g.once i j li lj (insep_trans E (subst (λ (k : ℕ). TwoEdgeConnected E (ρ i) (ρ' k)) e p) (insep_sym E q))

  -- a number becomes that of its class
  pub renumbered_class : (i : ℕ) → i < h → TwoEdgeConnected E (ρ i) (ρ' (renumbered.π i))
  unfolding renumbered
  renumbered_class i l = (there i l).1

-- ---- what is renumbered from a small graph is one
module _ {E : List Edge} {S : List ℕ} {h : ℕ} {H : List Edge} {ρ σ : ℕ → ℕ} (g : SmallGraph E S h H ρ σ) {h' : ℕ} {H' : List Edge} {σ' : ℕ → ℕ} (r : Renumbered S h H σ h' H' σ') where
  abbrev classes : ℕ → ℕ
  classes j = ρ (r.π⁻ j)

  -- a pair of new numbers, by the old ones
  links : (i j : ℕ) → i < h' → j < h' → Linked E h ρ (r.π⁻ i) (r.π⁻ j) → Linked E h' classes i j
  links i j li lj l = record {
    to = l.to;
    third = λ k lk b. which k lk (l.third (r.π⁻ k) (r.back k lk).0 b);
  }
    where
      which : (k : ℕ) → k < h' → (r.π⁻ k ≡ r.π⁻ i) ⊎ (r.π⁻ k ≡ r.π⁻ j) → (k ≡ i) ⊎ (k ≡ j)
      which k lk (inl e) = inl (sym (r.back k lk).1 ∙ ap r.π e ∙ (r.back i li).1)
      which k lk (inr e) = inr (sym (r.back k lk).1 ∙ ap r.π e ∙ (r.back j lj).1)

  unlinks : (i j : ℕ) → i < h' → j < h' → Linked E h' classes i j → Linked E h ρ (r.π⁻ i) (r.π⁻ j)
  unlinks i j li lj l = record {
    to = l.to;
    third = λ k lk b.
        let (m, e) = r.below k lk in
        which k e (l.third (r.π k) m (subst (λ (u : ℕ). Between E (classes i) (ρ u) (classes j)) (sym e) b));
  }
    where
      which : (k : ℕ) → r.π⁻ (r.π k) ≡ k → (r.π k ≡ i) ⊎ (r.π k ≡ j) → (k ≡ r.π⁻ i) ⊎ (k ≡ r.π⁻ j)
      which k e (inl q) = inl (sym e ∙ ap r.π⁻ q)
      which k e (inr q) = inr (sym e ∙ ap r.π⁻ q)

  -- the edge of two new numbers is that of the two old ones
  edge_of : (i j : ℕ) → i < j → j < h' → Memᴰ (i, j) H' ↔ Linked E h ρ (r.π⁻ i) (r.π⁻ j)
  edge_of i j l lj =
      let li : i < h' = omega arith in
      let (ki, ei) = r.back i li in
      let (kj, ej) = r.back j lj in
      let n : ¬ (r.π⁻ i ≡ r.π⁻ j) = λ e. let z = sym ei ∙ ap r.π e ∙ ej in omega arith in
      on_bool (ltb (r.π⁻ i) (r.π⁻ j))
      (λ t. let a : r.π⁻ i < r.π⁻ j = ltb-true (r.π⁻ i) (r.π⁻ j) t in
      let q = r.edge (r.π⁻ i) (r.π⁻ j) a kj in
      let e = ends ei ej (least i j l) (most i j l) in (
        λ m. (g.edge (r.π⁻ i) (r.π⁻ j) (q.1 (subst (λ (x : Edge). Memᴰ x H') (sym e) m))).2,
        λ k. subst (λ (x : Edge). Memᴰ x H') e (q.0 (g.linked (r.π⁻ i) (r.π⁻ j) a kj k)),
      ))
      (λ t. let a : r.π⁻ j < r.π⁻ i = omega (arith, ltb-false (r.π⁻ i) (r.π⁻ j) t) in
      let q = r.edge (r.π⁻ j) (r.π⁻ i) a ki in
      let e = ends ej ei (least' i j l) (most' i j l) in (
        λ m. linked_flip E h ρ (r.π⁻ j) (r.π⁻ i) (g.edge (r.π⁻ j) (r.π⁻ i) (q.1 (subst (λ (x : Edge). Memᴰ x H') (sym e) m))).2,
        λ k. subst (λ (x : Edge). Memᴰ x H') e (q.0 (g.linked (r.π⁻ j) (r.π⁻ i) a ki (linked_flip E h ρ (r.π⁻ i) (r.π⁻ j) k))),
      ))
    where
      least : (i j : ℕ) → i < j → min i j ≡ i
      least i j l = omega arith

      most : (i j : ℕ) → i < j → max i j ≡ j
      most i j l = omega arith

      least' : (i j : ℕ) → i < j → min j i ≡ i
      least' i j l = omega arith

      most' : (i j : ℕ) → i < j → max j i ≡ j
      most' i j l = omega arith

      ends : {a b x y u v : ℕ} → a ≡ x → b ≡ y → min x y ≡ u → max x y ≡ v → ◌≡◌ {A = Edge} (min a b, max a b) (u, v)
      ends p q s t = ap₂ (λ (a b : ℕ). (min a b, max a b)) p q ∙ ap₂ (λ (a b : ℕ). (a, b)) s t

  pub renumbered_small : SmallGraph E S h' H' (λ j. ρ (r.π⁻ j)) σ'
  renumbered_small = record {
    kept = λ j l. g.kept (r.π⁻ j) (r.back j l).0;
    once = λ i j li lj t. let e = g.once (r.π⁻ i) (r.π⁻ j) (r.back i li).0 (r.back j lj).0 t in sym (r.back i li).1 ∙ ap r.π e ∙ (r.back j lj).1;
    all = λ z k.
        let (i, l, t) = g.all z k in
        let (m, e) = r.below i l in
        (r.π i, m, subst (λ (u : ℕ). TwoEdgeConnected E z (ρ u)) (sym e) t);
    place = λ a m.
        let (l, t) = g.place a m in
        let e : σ a ≡ σ' a = map_same σ σ' S r.places a m in
        let q : r.π⁻ (σ a) ≡ σ a = ap r.π⁻ (sym (r.active a m)) ∙ (r.below (σ a) l).1 in
        (omega (arith, r.nodes), subst (λ (u : ℕ). TwoEdgeConnected E a (ρ u)) (sym q ∙ ap r.π⁻ e) t);
    order = ap (in_order 0) (sym r.places) ∙ g.order;
    ascends = r.ascends;
    edge = λ i j m.
        let (a, b) = r.written i j m in
        (a, b, links i j (omega arith) b ((edge_of i j a b).0 m));
    linked = λ i j a b k. (edge_of i j a b).1 (unlinks i j (omega arith) b k);
  }
