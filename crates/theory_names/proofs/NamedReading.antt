-- The answer of two active nodes and the name that they hang on, read off a named small graph: the answer is 1 just where there are two nodes and one edge, and then they hang on its name.
-- Assumes nothing.
use Prim.Native.Nat.{◌<◌, ◌≤◌, ℕ}
use mathlib.Core.Bool.{Bool, cond, false, true}
use mathlib.Core.List.{Memᴰ, [], ◌∷◌}
use mathlib.Core.Logic.{◌↔◌, ◌⊎◌, inl, inr}
use mathlib.Core.Path.{◌∙◌, ◌≡◌, ap, refl, subst, sym}
use lib.Dec.{eqb, ltb}
use native.Mathlib.Omega.{arith}
use borrow.Author.Tests.{ltb-false, ltb-true}
use Rattle.theory_graph.proofs.Booleans.{on_bool}
use Rattle.theory_graph.proofs.Definitions.{answer_is}
use Rattle.theory_graph.proofs.Reading.{answer_read, read_off_lem, two_active}
use Rattle.theory_graph.proofs.Separation.{insep_sym, insep_trans}
use Rattle.theory_graph.proofs.SmallGraphDefinition.{definition_small}
use Rattle.theory_graph.proofs.SmallGraphs.{SmallGraph}
use Rattle.theory_graph.specs.Cut.{TwoEdgeConnected}
use Rattle.theory_graph.specs.Graph.{answer}
use Rattle.theory_graph.specs.SmallGraph.{Ascends, EdgeLess, read_off}
use Rattle.theory_names.proofs.Hangs.{hangs_none, hangs_same, hangs_sym}
use Rattle.theory_names.proofs.NamedCuts.{plain_in}
use Rattle.theory_names.specs.NamedSmallGraph.{IsNamedSmallGraph, read_name}
use Rattle.theory_names.specs.Names.{Entry, Named, hangs, plain}

no_one : (b : Bool) → ¬ (◌≡◌ {A = ℕ} (cond b 2 0) 1)
no_one true e = omega arith
no_one false e = omega arith

module _ (G : Named) (x y h : ℕ) (H : Named) (ρ σ : ℕ → ℕ) (g : IsNamedSmallGraph G (x ∷ y ∷ []) h H ρ σ) where
  sg : SmallGraph (plain G) (x ∷ y ∷ []) h (plain H) ρ σ
  sg = definition_small (plain G) (x ∷ y ∷ []) h (plain H) ρ σ g.small

  -- ---- the answer
  pub named_answer_read : answer (plain G) x y ≡ read_off h (plain H)
  named_answer_read =
      answer_is (plain G) x y
      ∙ answer_read (plain G) (x ∷ y ∷ []) h (plain H) ρ σ sg x y (Memᴰ.head refl) (Memᴰ.tail (Memᴰ.head refl))
      ∙ read_off_lem (plain G) x y h (plain H) ρ σ sg

  -- ---- the name
  class_of : (i : ℕ) → i < h → TwoEdgeConnected (plain G) (ρ i) x ⊎ TwoEdgeConnected (plain G) (ρ i) y
  class_of i l = two_active (plain G) x y (ρ i) (sg.kept i l)

  -- each edge has the name that the two hang on
  edge_name : (i j n : ℕ) → Memᴰ ((i, j), n) H → n ≡ hangs G x y
  edge_name i j n m =
      let (l, lj, _) = sg.edge i j (plain_in m) in
      let li : i < h = omega arith in
      g.name i j n m ∙ go li lj (λ e. omega arith) (class_of i li) (class_of j lj)
    where
      go : i < h → j < h → ¬ (i ≡ j) → TwoEdgeConnected (plain G) (ρ i) x ⊎ TwoEdgeConnected (plain G) (ρ i) y → TwoEdgeConnected (plain G) (ρ j) x ⊎ TwoEdgeConnected (plain G) (ρ j) y
          → hangs G (ρ i) (ρ j) ≡ hangs G x y
      go li lj d (inl a) (inl b) = absurd (d (sg.once i j li lj (insep_trans (plain G) a (insep_sym (plain G) b))))
      go li lj d (inl a) (inr b) = hangs_same G (ρ i) (ρ j) x y a b
      go li lj d (inr a) (inl b) = hangs_same G (ρ i) (ρ j) y x a b ∙ hangs_sym G y x
      go li lj d (inr a) (inr b) = absurd (d (sg.once i j li lj (insep_trans (plain G) a (insep_sym (plain G) b))))

  pub hangs_read : hangs G x y ≡ read_name H
  hangs_read = go H refl
    where
      go : (K : Named) → H ≡ K → hangs G x y ≡ read_name K
      go [] e = hangs_none G x y (λ a. no_one (eqb h 1) (sym (named_answer_read ∙ ap (λ (K : Named). read_off h (plain K)) e) ∙ a))
      go (f ∷ K) e = sym (edge_name f.0.0 f.0.1 f.1 (subst (λ (L : Named). Memᴰ f L) (sym e) (Memᴰ.head refl)))

  -- ---- answer 1 is two nodes and one edge
  few : h ≤ 2
  few = on_bool (ltb 2 h)
      (λ t. let l : 2 < h = ltb-true 2 h t in absurd (go (class_of 0 (omega arith)) (class_of 1 (omega arith)) (class_of 2 l) l))
      (λ f. ltb-false 2 h f)
    where
      one : (i j z : ℕ) → i < h → j < h → TwoEdgeConnected (plain G) (ρ i) z → TwoEdgeConnected (plain G) (ρ j) z → i ≡ j
      one i j z li lj a b = sg.once i j li lj (insep_trans (plain G) a (insep_sym (plain G) b))

      go : TwoEdgeConnected (plain G) (ρ 0) x ⊎ TwoEdgeConnected (plain G) (ρ 0) y → TwoEdgeConnected (plain G) (ρ 1) x ⊎ TwoEdgeConnected (plain G) (ρ 1) y → TwoEdgeConnected (plain G) (ρ 2) x ⊎ TwoEdgeConnected (plain G) (ρ 2) y
          → 2 < h → ⊥
      go (inl a) (inl b) c l = omega (arith, one 0 1 x (omega arith) (omega arith) a b)
      go (inr a) (inr b) c l = omega (arith, one 0 1 y (omega arith) (omega arith) a b)
      go (inl a) (inr b) (inl c) l = omega (arith, one 0 2 x (omega arith) l a c)
      go (inl a) (inr b) (inr c) l = omega (arith, one 1 2 y (omega arith) l b c)
      go (inr a) (inl b) (inl c) l = omega (arith, one 1 2 x (omega arith) l b c)
      go (inr a) (inl b) (inr c) l = omega (arith, one 0 2 y (omega arith) l a c)

  pub answer_one_read : (answer (plain G) x y ≡ 1) ↔ ((h ≡ 2) × ((n : ℕ) × (H ≡ ((0, 1), n) ∷ [])))
  answer_one_read = (λ a. go H refl (sym named_answer_read ∙ a), λ (e, (n, p)). named_answer_read ∙ two e n p)
    where
      two : h ≡ 2 → (n : ℕ) → H ≡ ((0, 1), n) ∷ [] → read_off h (plain H) ≡ 1
      two e n p = ap (λ (k : ℕ). read_off k (plain H)) e ∙ ap (λ (K : Named). read_off 2 (plain K)) p

      less : (e f : Entry) → e.0.0 < e.0.1 → e.0.1 < 2 → f.0.0 < f.0.1 → f.0.1 < 2 → EdgeLess e.0 f.0 → ⊥
      less e f a b c d (inl p) = omega arith
      less e f a b c d (inr p) = omega arith

      go : (K : Named) → H ≡ K → read_off h (plain H) ≡ 1 → (h ≡ 2) × ((n : ℕ) × (K ≡ ((0, 1), n) ∷ []))
      go [] e a = absurd (no_one (eqb h 1) (sym (ap (λ (K : Named). read_off h (plain K)) e) ∙ a))
      go (((i, j), n) ∷ []) e a =
          let (l, lj, _) = sg.edge i j (plain_in (subst (λ (L : Named). Memᴰ ((i, j), n) L) (sym e) (Memᴰ.head refl))) in
          let i0 : i ≡ 0 = omega (arith, few) in
          let j1 : j ≡ 1 = omega (arith, few) in
          (omega (arith, few), (n, rw (i0, j1)))
      go (f ∷ k ∷ K) e a =
          let (l, lj, _) = sg.edge f.0.0 f.0.1 (plain_in (subst (λ (L : Named). Memᴰ f L) (sym e) (Memᴰ.head refl))) in
          let (r, rj, _) = sg.edge k.0.0 k.0.1 (plain_in (subst (λ (L : Named). Memᴰ k L) (sym e) (Memᴰ.tail (Memᴰ.head refl)))) in
          let s : Ascends (plain (f ∷ k ∷ K)) = subst (λ (L : Named). Ascends (plain L)) e sg.ascends in
          absurd (less f k l (omega (arith, few)) r (omega (arith, few)) s.0.0)
