-- Added entries cost nothing, names included: a named graph that carries the cuts of (G, S) still does when entries between active nodes are added to both,
-- so active nodes have the same answers and hang on the same names in both.
-- In order: the plain part of what is carried; hangs where the small cuts are the same; the graph itself carries; the added entries; answers and names; the same for a named small graph.
-- Assumes nothing.
use Prim.Native.Nat.{◌+◌, ◌<◌, ◌≤◌, ℕ}
use mathlib.Core.Bool.{true}
use mathlib.Core.List.{List, Memᴰ, ◌++◌}
use mathlib.Core.Path.{◌∙◌, ◌≡◌, ap, refl, sym}
use lib.Dec.{ltb}
use native.Mathlib.Omega.{arith}
use borrow.Author.Tests.{lt-ltb}
use Rattle.theory_graph.proofs.CutOffs.{answer_unique, answer_by_cuts, answer_by_cuts_is}
use Rattle.theory_graph.proofs.Cuts.{cut_agree, cut_append, cut_image}
use Rattle.theory_graph.proofs.Definitions.{answer_is}
use Rattle.theory_graph.proofs.Lists.{member_mem}
use Rattle.theory_graph.proofs.Separation.{insep_refl, same_side}
use Rattle.theory_graph.proofs.Transfer.{answer_transfer}
use Rattle.theory_graph.specs.Cut.{TwoEdgeConnected, cut}
use Rattle.theory_graph.specs.Graph.{Edge, NodeSet, answer}
use Rattle.theory_graph.specs.Lists.{member}
use Rattle.theory_graph.specs.SmallGraph.{Carries, SameCuts, ◌∘◌, ends_in, image}
use Rattle.theory_names.proofs.Hangs.{hangs_meets, hangs_same}
use Rattle.theory_names.proofs.NamedCuts.{names_agree, names_append, names_image, plain_added, plain_append}
use Rattle.theory_names.proofs.NamedSmallCuts.{named_small_carries}
use Rattle.theory_names.specs.NamedSmallGraph.{IsNamedSmallGraph, NamedCarries, NamedSameCuts, image_named}
use Rattle.theory_names.specs.Names.{Named, hangs, cut_names, plain}

-- ---- without the names
pub plain_cuts : (N : NodeSet) (ρ : ℕ → ℕ) (H G : Named) → NamedSameCuts N ρ H G → SameCuts N ρ (plain H) (plain G)
plain_cuts N ρ H G s = record { down = s.down; up = λ X c. let (U, on, le, n) = s.up X c in (U, on, le) }

pub plain_carries : (G : Named) (S : List ℕ) (h : ℕ) (H : Named) (ρ σ : ℕ → ℕ) → NamedCarries G S h H ρ σ → Carries (plain G) S h (plain H) ρ σ
plain_carries G S h H ρ σ g = record { cuts = plain_cuts (λ v. ltb v h) ρ H G g.cuts; place = g.place; inside = g.inside }

-- ---- the same small cuts: nodes of H hang on what their nodes of G hang on
pub hangs_carried : (N : NodeSet) (ρ : ℕ → ℕ) (H G : Named) → NamedSameCuts N ρ H G → (x y : ℕ) → N x ≡ true → N y ≡ true → hangs H x y ≡ hangs G (ρ x) (ρ y)
hangs_carried N ρ H G s x y nx ny =
    hangs_meets H x y G (ρ x) (ρ y)
    (λ X p q c. let (U, on, le, n) = s.up X c in (U, on x nx ∙ p, on y ny ∙ q, le, n))
    (λ U p q c. (U ∘ ρ, p, q, s.down U c, s.down_name U c))

-- ---- the graph itself carries
pub named_self_carries : (n : ℕ) (G : Named) (S : List ℕ) → ends_in (λ v. ltb v n) (plain G) ≡ true → ((a : ℕ) → Memᴰ a S → a < n) → NamedCarries G S n G (λ v. v) (λ a. a)
named_self_carries n G S wG wS =
    record {
      cuts = record { down = λ U c. omega arith; down_name = λ U c. omega arith; up = λ X c. (X, λ v l. refl, omega arith, omega arith) };
      place = λ a m. (wS a m, insep_refl (plain G) a);
      inside = wG;
    }

-- ---- entries added between active nodes
module _ (G : Named) (S : List ℕ) (h : ℕ) (H : Named) (ρ σ : ℕ → ℕ) (g : NamedCarries G S h H ρ σ) (F : Named) (w : ends_in (member S) (plain F) ≡ true) where
  abbrev N : NodeSet
  N v = ltb v h

  cut_added : (U : NodeSet) → cut U (plain (G ++ F)) ≡ cut U (plain G) + cut U (plain F)
  cut_added U = ap (cut U) (plain_append G F) ∙ cut_append U (plain G) (plain F)

  cut_moved : (X : NodeSet) → cut X (plain (H ++ image_named σ F)) ≡ cut X (plain H) + cut (X ∘ σ) (plain F)
  cut_moved X = ap (cut X) (plain_added σ H F) ∙ cut_append X (plain H) (image σ (plain F)) ∙ ap (λ k. cut X (plain H) + k) (cut_image X σ (plain F))

  names_moved : (X : NodeSet) → cut_names X (H ++ image_named σ F) ≡ cut_names X H + cut_names (X ∘ σ) F
  names_moved X = names_append X H (image_named σ F) ∙ ap (λ k. cut_names X H + k) (names_image X σ F)

  at_place : (U : NodeSet) → cut U (plain G) ≤ 1 → (a : ℕ) → member S a ≡ true → U (ρ (σ a)) ≡ U a
  at_place U c a m = sym (same_side (plain G) a (ρ (σ a)) (g.place a (member_mem S a m)).1 U c)

  pub named_cuts_add : NamedSameCuts N ρ (H ++ image_named σ F) (G ++ F)
  named_cuts_add =
      record {
        down = λ U c.
            let c' : cut U (plain G) ≤ 1 = omega (arith, cut_added U) in
            omega (arith, cut_added U, cut_moved (U ∘ ρ), g.cuts.down U c', cut_agree (member S) (U ∘ ρ ∘ σ) U (plain F) w (at_place U c'));
        down_name = λ U c.
            let c' : cut U (plain G) ≤ 1 = omega (arith, cut_added U) in
            omega (arith, names_append U G F, names_moved (U ∘ ρ), g.cuts.down_name U c', names_agree (member S) (U ∘ ρ ∘ σ) U F w (at_place U c'));
        up = λ X c.
            let (U, on, le, n) = g.cuts.up X (omega (arith, cut_moved X)) in
            let c' : cut U (plain G) ≤ 1 = omega (arith, cut_moved X, le) in
            let e : (v : ℕ) → member S v ≡ true → U v ≡ X (σ v) = λ v m. sym (at_place U c' v m) ∙ on (σ v) (lt-ltb (σ v) h (g.place v (member_mem S v m)).0) in (
              U,
              on,
              omega (arith, le, cut_added U, cut_moved X, cut_agree (member S) U (X ∘ σ) (plain F) w e),
              omega (arith, n, names_append U G F, names_moved X, names_agree (member S) U (X ∘ σ) F w e),
            );
      }

  pub home : (a : ℕ) → Memᴰ a S → TwoEdgeConnected (plain (G ++ F)) a (ρ (σ a))
  home a m (U, p, q, c) = (g.place a m).1 (U, p, q, omega (arith, cut_added U))

  -- ---- active nodes hang on the names of their places
  pub hangs_transfer : (x y : ℕ) → Memᴰ x S → Memᴰ y S → hangs (G ++ F) x y ≡ hangs (H ++ image_named σ F) (σ x) (σ y)
  hangs_transfer x y mx my =
      hangs_same (G ++ F) x y (ρ (σ x)) (ρ (σ y)) (home x mx) (home y my)
      ∙ sym (hangs_carried N ρ (H ++ image_named σ F) (G ++ F) named_cuts_add (σ x) (σ y) (lt-ltb (σ x) h (g.place x mx).0) (lt-ltb (σ y) h (g.place y my).0))

  -- and have their answers
  pub named_answer_transfer : (x y : ℕ) → Memᴰ x S → Memᴰ y S → answer (plain (G ++ F)) x y ≡ answer (plain (H ++ image_named σ F)) (σ x) (σ y)
  named_answer_transfer x y mx my =
      ap (λ (E : List Edge). answer E x y) (plain_append G F)
      ∙ answer_is EF x y
      ∙ answer_unique EF x y (answer_by_cuts EF x y) (answer_by_cuts HF (σ x) (σ y)) (answer_by_cuts_is EF x y)
      ((answer_transfer (plain G) S h (plain H) ρ σ (plain_carries G S h H ρ σ g) (plain F) w x y (answer_by_cuts HF (σ x) (σ y)) mx my).1 (answer_by_cuts_is HF (σ x) (σ y)))
      ∙ sym (answer_is HF (σ x) (σ y))
      ∙ ap (λ (E : List Edge). answer E (σ x) (σ y)) (sym (plain_added σ H F))
    where
      EF : List Edge
      EF = plain G ++ plain F

      HF : List Edge
      HF = plain H ++ image σ (plain F)

-- ---- so a named small graph with entries added between active nodes tells their answers and names
pub small_transfer : (G : Named) (S : List ℕ) (h : ℕ) (H : Named) (ρ σ : ℕ → ℕ) → IsNamedSmallGraph G S h H ρ σ → (F : Named) → ends_in (member S) (plain F) ≡ true → (x y : ℕ) → Memᴰ x S → Memᴰ y S
    → (answer (plain (G ++ F)) x y ≡ answer (plain (H ++ image_named σ F)) (σ x) (σ y)) × (hangs (G ++ F) x y ≡ hangs (H ++ image_named σ F) (σ x) (σ y))
small_transfer G S h H ρ σ g F w x y mx my =
    let c = named_small_carries G S h H ρ σ g in
    (named_answer_transfer G S h H ρ σ c F w x y mx my, hangs_transfer G S h H ρ σ c F w x y mx my)
