-- Two named small graphs of one named graph and one active list differ only by a renumbering of the nodes without an active node, and each edge keeps its name.
-- Where their nodes stand for the same classes they are one.
-- Assumes nothing.
use Prim.Native.Nat.{◌<◌, max, min, ℕ}
use mathlib.Core.List.{List, Memᴰ, [], ◌∷◌}
use mathlib.Core.Path.{◌∙◌, ◌≡◌, ap, ap₂, refl, subst, sym}
use lib.Dec.{ltb}
use lib.ListN.{length}
use native.Mathlib.Omega.{arith}
use borrow.Author.Tests.{ltb-false, ltb-true}
use Rattle.theory_graph.proofs.Booleans.{on_bool}
use Rattle.theory_graph.proofs.CutEquivalence.{small_cuts_equal}
use Rattle.theory_graph.proofs.Renumbering.{renumbered, renumbered_class, renumbered_small}
use Rattle.theory_graph.proofs.SmallGraphDefinition.{definition_small, small_definition}
use Rattle.theory_graph.proofs.SmallGraphs.{SmallGraph}
use Rattle.theory_graph.proofs.Uniqueness.{edges_same}
use Rattle.theory_graph.specs.Cut.{TwoEdgeConnected}
use Rattle.theory_graph.specs.Graph.{Edge}
use Rattle.theory_graph.specs.SmallGraph.{Renumbered}
use Rattle.theory_names.proofs.Hangs.{hangs_cuts, hangs_same, hangs_sym}
use Rattle.theory_names.proofs.NamedCuts.{in_plain, plain_in, same_cuts}
use Rattle.theory_names.specs.NamedSmallGraph.{IsNamedSmallGraph, NamedRenumbered}
use Rattle.theory_names.specs.Names.{Entry, Named, SameEntries, hangs, plain}

-- two numbers in order
ordered : {A : Type 0} (i j : ℕ) → ¬ (i ≡ j) → (min i j ≡ i → max i j ≡ j → A) → (min i j ≡ j → max i j ≡ i → A) → A
ordered i j n f g = on_bool (ltb i j) (λ t. let l : i < j = ltb-true i j t in f (omega arith) (omega arith)) (λ t. let l : j < i = omega (arith, ltb-false i j t) in g (omega arith) (omega arith))

module _ (G : Named) (S : List ℕ) (h : ℕ) (H : Named) (ρ σ : ℕ → ℕ) (n : IsNamedSmallGraph G S h H ρ σ) (h' : ℕ) (H' : Named) (ρ' σ' : ℕ → ℕ) (n' : IsNamedSmallGraph G S h' H' ρ' σ') where
  abbrev E : List Edge
  E = plain G

  g : SmallGraph E S h (plain H) ρ σ
  g = definition_small E S h (plain H) ρ σ n.small

  g' : SmallGraph E S h' (plain H') ρ' σ'
  g' = definition_small E S h' (plain H') ρ' σ' n'.small

  r : Renumbered S h (plain H) σ h' (plain H') σ'
  r = renumbered E S h (plain H) ρ σ g h' (plain H') ρ' σ' g'

  -- the edge that i and j become hangs on the same name
  same_name : (i j : ℕ) → i < j → j < h → hangs G (ρ i) (ρ j) ≡ hangs G (ρ' (min (r.π i) (r.π j))) (ρ' (max (r.π i) (r.π j)))
  unfolding r
  same_name i j l lj =
      let li : i < h = omega arith in
      let t = renumbered_class E S h (plain H) ρ σ g h' (plain H') ρ' σ' g' in
      let e = hangs_same G (ρ i) (ρ j) (ρ' (r.π i)) (ρ' (r.π j)) (t i li) (t j lj) in
      ordered (r.π i) (r.π j) (λ q. let z = sym (r.below i li).1 ∙ ap r.π⁻ q ∙ (r.below j lj).1 in omega arith)
      (λ a b. rw (a, b) e) (λ a b. rw (a, b) (e ∙ hangs_sym G (ρ' (r.π i)) (ρ' (r.π j))))

  pub named_renumbered : NamedRenumbered S h H σ h' H' σ'
  named_renumbered = record {
    graph = r;
    edge = λ i j k l lj. (
      λ m.
          let (k', m') = in_plain H' ((r.edge i j l lj).0 (plain_in m)) in
          subst (λ (x : ℕ). Memᴰ ((min (r.π i) (r.π j), max (r.π i) (r.π j)), x) H') (n'.name _ _ k' m' ∙ sym (same_name i j l lj) ∙ sym (n.name i j k m)) m',
      λ m.
          let (k', m') = in_plain H ((r.edge i j l lj).1 (plain_in m)) in
          subst (λ (x : ℕ). Memᴰ ((i, j), x) H) (n.name i j k' m' ∙ same_name i j l lj ∙ sym (n'.name _ _ k m)) m',
    );
  }

-- ---- the names follow from the nodes' classes
-- two lists of entries with the same edges, where an edge's name is told by the edge
named_lists : (f : Edge → ℕ) (H H' : Named) → ((e : Entry) → Memᴰ e H → e.1 ≡ f e.0) → ((e : Entry) → Memᴰ e H' → e.1 ≡ f e.0) → plain H ≡ plain H' → H ≡ H'
named_lists f [] [] p q e = refl
named_lists f [] (x ∷ H') p q e = absurd (omega (arith, ap (λ (l : List Edge). length l) e))
named_lists f (x ∷ H) [] p q e = absurd (omega (arith, ap (λ (l : List Edge). length l) e))
named_lists f (x ∷ H) (y ∷ H') p q e =
    let a : x.0 ≡ y.0 = cc in
    let r : plain H ≡ plain H' = cc in
    ap₂ ◌∷◌ (ap₂ (λ (d : Edge) (n : ℕ). (d, n)) a (p x (Memᴰ.head refl) ∙ ap f a ∙ sym (q y (Memᴰ.head refl)))) (named_lists f H H' (λ d m. p d (Memᴰ.tail m)) (λ d m. q d (Memᴰ.tail m)) r)

-- two named small graphs whose nodes stand for the same classes have the same edges and names
pub named_edges_same : (G : Named) (S : List ℕ) (h : ℕ) (H H' : Named) (ρ ρ' σ σ' : ℕ → ℕ) → IsNamedSmallGraph G S h H ρ σ → IsNamedSmallGraph G S h H' ρ' σ'
    → ((i : ℕ) → i < h → TwoEdgeConnected (plain G) (ρ i) (ρ' i)) → H ≡ H'
named_edges_same G S h H H' ρ ρ' σ σ' n n' t =
    let s = definition_small (plain G) S h (plain H) ρ σ n.small in
    let s' = definition_small (plain G) S h (plain H') ρ' σ' n'.small in
    named_lists (λ e. hangs G (ρ e.0) (ρ e.1)) H H' (λ e m. n.name e.0.0 e.0.1 e.1 m)
    (λ e m.
    let (l, lj, _) = s'.edge e.0.0 e.0.1 (plain_in m) in
    n'.name e.0.0 e.0.1 e.1 m ∙ sym (hangs_same G (ρ e.0.0) (ρ e.0.1) (ρ' e.0.0) (ρ' e.0.1) (t e.0.0 (omega arith)) (t e.0.1 lj)))
    (edges_same (plain G) S h (plain H) (plain H') ρ ρ' σ σ' s s' t)

-- ---- what is renumbered from a named small graph is one
pub named_renumbered_small : {G : Named} {S : List ℕ} {h : ℕ} {H : Named} {ρ σ : ℕ → ℕ} → IsNamedSmallGraph G S h H ρ σ
    → {h' : ℕ} {H' : Named} {σ' : ℕ → ℕ} → (r : NamedRenumbered S h H σ h' H' σ') → IsNamedSmallGraph G S h' H' (λ j. ρ (r.graph.π⁻ j)) σ'
named_renumbered_small {G} {S} {h} {H} {ρ} {σ} g {h'} {H'} {σ'} r = record {
  small = small_definition (plain G) S h' (plain H') (λ j. ρ (r.graph.π⁻ j)) σ' (renumbered_small (definition_small (plain G) S h (plain H) ρ σ g.small) r.graph);
  name = λ i j n m.
      let (l, lj) = r.graph.written i j (plain_in m) in
      let (ki, ei) = r.graph.back i (omega arith) in
      let (kj, ej) = r.graph.back j lj in
      let d : ¬ (r.graph.π⁻ i ≡ r.graph.π⁻ j) = λ e. let z = sym ei ∙ ap r.graph.π e ∙ ej in omega arith in
      on_bool (ltb (r.graph.π⁻ i) (r.graph.π⁻ j))
      (λ t.
      let a : r.graph.π⁻ i < r.graph.π⁻ j = ltb-true (r.graph.π⁻ i) (r.graph.π⁻ j) t in
      g.name (r.graph.π⁻ i) (r.graph.π⁻ j) n ((r.edge (r.graph.π⁻ i) (r.graph.π⁻ j) n a kj).1 (subst (λ (x : Edge). Memᴰ (x, n) H') (sym (turned ei ej l).0) m)))
      (λ t.
      let a : r.graph.π⁻ j < r.graph.π⁻ i = omega (arith, ltb-false (r.graph.π⁻ i) (r.graph.π⁻ j) t) in
      g.name (r.graph.π⁻ j) (r.graph.π⁻ i) n ((r.edge (r.graph.π⁻ j) (r.graph.π⁻ i) n a ki).1 (subst (λ (x : Edge). Memᴰ (x, n) H') (sym (turned ei ej l).1) m))
      ∙ hangs_sym G (ρ (r.graph.π⁻ j)) (ρ (r.graph.π⁻ i)));
}
  where
    -- the pair of i and j, whichever of the two comes first
    turned : {a b i j : ℕ} → a ≡ i → b ≡ j → i < j → (◌≡◌ {A = Edge} (min a b, max a b) (i, j)) × (◌≡◌ {A = Edge} (min b a, max b a) (i, j))
    turned {a} {b} {i} {j} p q l =
        let m : min a b ≡ i = omega arith in
        let n : max a b ≡ j = omega arith in
        let m' : min b a ≡ i = omega arith in
        let n' : max b a ≡ j = omega arith in
        (ap₂ (λ (x y : ℕ). (x, y)) m n, ap₂ (λ (x y : ℕ). (x, y)) m' n')

-- ---- only the entries matter, not their order, nor the way an edge is written
pub named_small_equal : {G G' : Named} → SameEntries G G' → {S : List ℕ} {h : ℕ} {H : Named} {ρ σ : ℕ → ℕ} → IsNamedSmallGraph G S h H ρ σ → IsNamedSmallGraph G' S h H ρ σ
named_small_equal {G} {G'} q {S} {h} {H} {ρ} {σ} g = record {
  small = small_definition (plain G') S h (plain H) ρ σ
      (small_cuts_equal (plain G) (plain G') (same_cuts q) S h (plain H) ρ σ (definition_small (plain G) S h (plain H) ρ σ g.small));
  name = λ i j n m. g.name i j n m ∙ hangs_cuts G G' (same_cuts q) (q.weights (λ n. n)) (ρ i) (ρ j);
}
