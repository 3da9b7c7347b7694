-- Composition with names: a named small graph of a named graph that carries (G, S), with entries F between active nodes added, is a named small graph of G with F.
-- Assumes nothing.
use Prim.Native.Nat.{◌<◌, ℕ}
use mathlib.Core.Bool.{true}
use mathlib.Core.List.{List, Memᴰ, ◌++◌, map}
use mathlib.Core.Path.{◌∙◌, ◌≡◌, subst, sym}
use native.Mathlib.Omega.{arith}
use Rattle.theory_graph.proofs.Composition.{compose, nodes}
use Rattle.theory_graph.proofs.SmallGraphDefinition.{definition_small, small_definition}
use Rattle.theory_graph.proofs.SmallGraphs.{SmallGraph}
use Rattle.theory_graph.specs.Graph.{Edge}
use Rattle.theory_graph.specs.Lists.{member}
use Rattle.theory_graph.specs.SmallGraph.{Carries, IsSmallGraph, ends_in, image}
use Rattle.theory_names.proofs.NamedCuts.{plain_added, plain_append, plain_in}
use Rattle.theory_names.proofs.NamedSmallCuts.{named_small_carries}
use Rattle.theory_names.proofs.NamedTransfer.{hangs_carried, named_cuts_add, plain_carries}
use Rattle.theory_names.specs.NamedSmallGraph.{IsNamedSmallGraph, NamedCarries, image_named}
use Rattle.theory_names.specs.Names.{Named, plain}

module _ (G : Named) (S : List ℕ) (h : ℕ) (H : Named) (ρ σ : ℕ → ℕ) (g : NamedCarries G S h H ρ σ) (F : Named) (w : ends_in (member S) (plain F) ≡ true)
    (S' : List ℕ) (sub : (a : ℕ) → Memᴰ a S' → Memᴰ a S) (h' : ℕ) (H' : Named) (ρ' σ' : ℕ → ℕ) (g' : IsNamedSmallGraph (H ++ image_named σ F) (map σ S') h' H' ρ' σ') where
  carried : Carries (plain G) S h (plain H) ρ σ
  carried = plain_carries G S h H ρ σ g

  small : SmallGraph (plain H ++ image σ (plain F)) (map σ S') h' (plain H') ρ' σ'
  small = subst (λ (E : List Edge). SmallGraph E (map σ S') h' (plain H') ρ' σ') (plain_added σ H F) (definition_small (plain (H ++ image_named σ F)) (map σ S') h' (plain H') ρ' σ' g'.small)

  pub named_compose : IsNamedSmallGraph (G ++ F) S' h' H' (λ v. ρ (ρ' v)) (λ a. σ' (σ a))
  named_compose =
      record {
        small = subst (λ (E : List Edge). IsSmallGraph E S' h' (plain H') (λ v. ρ (ρ' v)) (λ a. σ' (σ a))) (sym (plain_append G F))
            (small_definition (plain G ++ plain F) S' h' (plain H') (λ v. ρ (ρ' v)) (λ a. σ' (σ a)) (compose (plain G) S h (plain H) ρ σ carried (plain F) w S' sub h' (plain H') ρ' σ' small));
        name = λ i j n m.
            let (a, b, _) = small.edge i j (plain_in m) in
            let in_N : (k : ℕ) → k < h' → _ = nodes (plain G) S h (plain H) ρ σ carried (plain F) w S' sub h' (plain H') ρ' σ' small in
            g'.name i j n m ∙ hangs_carried _ ρ (H ++ image_named σ F) (G ++ F) (named_cuts_add G S h H ρ σ g F w) (ρ' i) (ρ' j) (in_N i (omega arith)) (in_N j b);
      }

  -- so it carries the part, for the next step
  pub named_compose_carries : NamedCarries (G ++ F) S' h' H' (λ v. ρ (ρ' v)) (λ a. σ' (σ a))
  named_compose_carries = named_small_carries (G ++ F) S' h' H' (λ v. ρ (ρ' v)) (λ a. σ' (σ a)) named_compose
