-- Added edges cost nothing (docs/theory.md 8): a graph that carries the cuts of (E, S) still does when edges between active nodes are added to both,
-- so active nodes have the same answers in both. In order: what the same small cuts say; who carries (E, S); the added edges; the answers.
-- Not here: small graphs of the carrying graph, proofs/Composition.
-- Assumes nothing.
use Prim.Native.Nat.{◌<◌, ◌≤◌, ℕ}
use mathlib.Core.Bool.{true}
use mathlib.Core.List.{List, Memᴰ, ◌++◌}
use mathlib.Core.Logic.{◌↔◌}
use mathlib.Core.Path.{◌∙◌, ◌≡◌, refl, sym}
use lib.Dec.{ltb}
use native.Mathlib.Omega.{arith}
use borrow.Author.Tests.{lt-ltb}
use Rattle.theory_graph.proofs.Booleans.{on_bool}
use Rattle.theory_graph.proofs.CutOffs.{IsAnswer}
use Rattle.theory_graph.proofs.Cuts.{closed_all, cut_agree, cut_append, cut_image}
use Rattle.theory_graph.proofs.Ends.{ends_in_closed}
use Rattle.theory_graph.proofs.Lifting.{small_cuts}
use Rattle.theory_graph.proofs.Lists.{member_mem}
use Rattle.theory_graph.proofs.Separation.{insep_refl, insep_sym, same_side}
use Rattle.theory_graph.proofs.SmallGraphs.{SmallGraph, small_ends_in}
use Rattle.theory_graph.specs.Cut.{Connected, CutOff, Separated, TwoEdgeConnected, cut}
use Rattle.theory_graph.specs.Graph.{Edge, NodeSet}
use Rattle.theory_graph.specs.Lists.{member}
use Rattle.theory_graph.specs.SmallGraph.{Carries, SameCuts, ◌∘◌, ends_in, image}

module _ (N : NodeSet) (ρ : ℕ → ℕ) (EH EG : List Edge) (s : SameCuts N ρ EH EG) (x y : ℕ) (hx : N x ≡ true) (hy : N y ≡ true) where
  pub separated_same : (j : ℕ) → j ≤ 1 → Separated j EH x y ↔ Separated j EG (ρ x) (ρ y)
  separated_same j l = (
    λ t.
        let (U, on, le) = s.up t.0 (omega arith) in
        (U, on x hx ∙ t.1, on y hy ∙ t.2, omega (arith, le)),
    λ t. (t.0 ∘ ρ, t.1, t.2, omega (arith, s.down t.0 (omega arith))),
  )

  pub answer_same : (r : ℕ) → IsAnswer EH x y r ↔ IsAnswer EG (ρ x) (ρ y) r
  answer_same r = (
    λ a. (a.0, λ j l. (λ h. (separated_same j l).0 ((a.1 j l).0 h), λ t. (a.1 j l).1 ((separated_same j l).1 t))),
    λ a. (a.0, λ j l. (λ h. (separated_same j l).1 ((a.1 j l).0 h), λ t. (a.1 j l).1 ((separated_same j l).0 t))),
  )

-- ---- the same small cuts: all that is said by them
module _ (N : NodeSet) (ρ : ℕ → ℕ) (H E : List Edge) (s : SameCuts N ρ H E) where
  pub cut_off_up : (z x y : ℕ) → N z ≡ true → N x ≡ true → N y ≡ true → CutOff H z x y → CutOff E (ρ z) (ρ x) (ρ y)
  cut_off_up z x y nz nx ny (X, a, b, c, h) =
      let (U, on, le) = s.up X h in
      (U, on z nz ∙ a, on x nx ∙ b, on y ny ∙ c, omega (arith, le))

  pub cut_off_down : (z x y : ℕ) → CutOff E (ρ z) (ρ x) (ρ y) → CutOff H z x y
  cut_off_down z x y (U, a, b, c, h) = (U ∘ ρ, a, b, c, omega (arith, s.down U h))

  pub insep_up : (j x y : ℕ) → j ≤ 1 → N x ≡ true → N y ≡ true → ¬ Separated j H x y → ¬ Separated j E (ρ x) (ρ y)
  insep_up j x y l nx ny n t = n ((separated_same N ρ H E s x y nx ny j l).1 t)

  pub insep_down : (j x y : ℕ) → j ≤ 1 → N x ≡ true → N y ≡ true → ¬ Separated j E (ρ x) (ρ y) → ¬ Separated j H x y
  insep_down j x y l nx ny n t = n ((separated_same N ρ H E s x y nx ny j l).0 t)

-- ---- who carries (E, S)
-- a small graph
pub small_carries : (E : List Edge) (S : List ℕ) (h : ℕ) (H : List Edge) (ρ σ : ℕ → ℕ) → SmallGraph E S h H ρ σ → Carries E S h H ρ σ
small_carries E S h H ρ σ g = record { cuts = small_cuts E S h H ρ σ g; place = g.place; inside = small_ends_in E S h H ρ σ g }

-- the graph itself
pub self_carries : (n : ℕ) (E : List Edge) (S : List ℕ) → ends_in (λ v. ltb v n) E ≡ true → ((a : ℕ) → Memᴰ a S → a < n) → Carries E S n E (λ v. v) (λ a. a)
self_carries n E S wE wS =
    record {
      cuts = record { down = λ U c. omega arith; up = λ X c. (X, λ v l. refl, omega arith) };
      place = λ a m. (wS a m, insep_refl E a);
      inside = wE;
    }

-- ---- edges added between active nodes
module _ (E : List Edge) (S : List ℕ) (h : ℕ) (H : List Edge) (ρ σ : ℕ → ℕ) (g : Carries E S h H ρ σ) (F : List Edge) (w : ends_in (member S) F ≡ true) where
  abbrev N : NodeSet
  N v = ltb v h

  abbrev EF : List Edge
  EF = E ++ F

  abbrev HF : List Edge
  HF = H ++ image σ F

  at_place : (U : NodeSet) → cut U E ≤ 1 → (a : ℕ) → member S a ≡ true → U (ρ (σ a)) ≡ U a
  at_place U c a m = sym (same_side E a (ρ (σ a)) (g.place a (member_mem S a m)).1 U c)

  pub cuts_add : SameCuts N ρ HF EF
  cuts_add =
      record {
        down = λ U c.
            let a = cut_append U E F in
            let c' : cut U E ≤ 1 = omega arith in
            omega (arith, g.cuts.down U c', cut_append (U ∘ ρ) H (image σ F), cut_image (U ∘ ρ) σ F, cut_agree (member S) (U ∘ ρ ∘ σ) U F w (at_place U c'));
        up = λ X c.
            let a = cut_append X H (image σ F) in
            let (U, on, le) = g.cuts.up X (omega arith) in
            let c' : cut U E ≤ 1 = omega (arith, le) in
            let e : (v : ℕ) → member S v ≡ true → U v ≡ X (σ v) = λ v m. sym (at_place U c' v m) ∙ on (σ v) (lt-ltb (σ v) h (g.place v (member_mem S v m)).0) in
            (U, on, omega (arith, le, cut_append U E F, cut_image X σ F, cut_agree (member S) U (X ∘ σ) F w e));
      }

  two_edge_add : (x y : ℕ) → TwoEdgeConnected E x y → TwoEdgeConnected EF x y
  two_edge_add x y t (U, p, q, c) = t (U, p, q, omega (arith, cut_append U E F))

  pub home : (a : ℕ) → Memᴰ a S → TwoEdgeConnected EF a (ρ (σ a))
  home a m = two_edge_add a (ρ (σ a)) (g.place a m).1

  pub in_N : (a : ℕ) → Memᴰ a S → N (σ a) ≡ true
  in_N a m = lt-ltb (σ a) h (g.place a m).0

  -- ---- the answers: active nodes have the answers of their places
  pub answer_transfer : (a b r : ℕ) → Memᴰ a S → Memᴰ b S → IsAnswer EF a b r ↔ IsAnswer HF (σ a) (σ b) r
  answer_transfer a b r ma mb =
      let t = answer_same N ρ HF EF cuts_add (σ a) (σ b) (in_N a ma) (in_N b mb) r in
      (λ p. t.1 (move a b (ρ (σ a)) (ρ (σ b)) (home a ma) (home b mb) p), λ q. move (ρ (σ a)) (ρ (σ b)) a b (insep_sym EF (home a ma)) (insep_sym EF (home b mb)) (t.0 q))
    where
      sep : (j x y u v : ℕ) → j ≤ 1 → TwoEdgeConnected EF x u → TwoEdgeConnected EF y v → Separated j EF x y → Separated j EF u v
      sep j x y u v l p q (U, a, b, c) = (U, sym (same_side EF x u p U (omega arith)) ∙ a, sym (same_side EF y v q U (omega arith)) ∙ b, c)

      move : (x y u v : ℕ) → TwoEdgeConnected EF x u → TwoEdgeConnected EF y v → IsAnswer EF x y r → IsAnswer EF u v r
      move x y u v p q (m, f) = (m, λ j l. (λ i. sep j x y u v l p q ((f j l).0 i), λ t. (f j l).1 (sep j u v x y l (insep_sym EF p) (insep_sym EF q) t)))

  N_closed : cut N HF ≤ 0
  N_closed =
      omega (
        arith,
        cut_append N H (image σ F),
        cut_image N σ F,
        cut_agree (member S) (N ∘ σ) (λ v. true) F w (λ v m. in_N v (member_mem S v m)),
        closed_all F,
        ends_in_closed N H g.inside,
      )

  pub reach_N : (v a : ℕ) → Memᴰ a S → Connected HF v (σ a) → N v ≡ true
  reach_N v a m j = on_bool (N v) (λ t. t) (λ f. absurd (insep_sym HF j (N, in_N a m, f, N_closed)))
