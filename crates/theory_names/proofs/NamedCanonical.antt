-- The one named small graph: where the classes without an active node are numbered by their smallest node, ascending, two named small graphs have the same edges and names.
-- So whatever is a named small graph and so numbered is the contraction with names.
-- Assumes nothing.
use Prim.Native.Nat.{◌<◌, ℕ}
use mathlib.Core.Bool.{true}
use mathlib.Core.List.{List, Memᴰ, map}
use mathlib.Core.Path.{◌∙◌, ◌≡◌, subst, sym}
use lib.Dec.{ltb}
use Rattle.theory_graph.proofs.Canonical.{same_two}
use Rattle.theory_graph.proofs.CanonicalContraction.{contract_canon}
use Rattle.theory_graph.proofs.SmallGraphDefinition.{definition_small}
use Rattle.theory_graph.specs.Contraction.{Contracted, contract, number}
use Rattle.theory_graph.specs.SmallGraph.{Canonical, ends_in}
use Rattle.theory_names.proofs.NamedContraction.{class_entry, contract_is_named_small, contract_map}
use Rattle.theory_names.proofs.NamedUniqueness.{named_edges_same, named_renumbered}
use Rattle.theory_names.specs.NamedSmallGraph.{IsNamedSmallGraph}
use Rattle.theory_names.specs.Names.{Named, class_node, contract_named, plain}

-- two named small graphs so numbered have the same edges and names
pub named_the_one : (G : Named) (S : List ℕ) (h : ℕ) (H : Named) (ρ σ : ℕ → ℕ) → IsNamedSmallGraph G S h H ρ σ → Canonical (plain G) S h ρ σ
    → (H' : Named) (ρ' σ' : ℕ → ℕ) → IsNamedSmallGraph G S h H' ρ' σ' → Canonical (plain G) S h ρ' σ' → H ≡ H'
named_the_one G S h H ρ σ n c H' ρ' σ' n' c' =
    named_edges_same G S h H H' ρ ρ' σ σ' n n'
    (same_two (plain G) S h (plain H) ρ σ (definition_small (plain G) S h (plain H) ρ σ n.small) c (plain H') ρ' σ' (definition_small (plain G) S h (plain H') ρ' σ' n'.small) c')

-- ---- the contraction with names is the one
module _ (k : ℕ) (G : Named) (S : List ℕ) (wG : ends_in (λ v. ltb v k) (plain G) ≡ true) (wS : (a : ℕ) → Memᴰ a S → a < k) where
  abbrev C : Contracted
  C = contract k (plain G) S

  contract_named_canon : Canonical (plain G) S C.nodes (class_node k G S) (number k (plain G) S)
  unfolding number contract
  contract_named_canon = subst (λ (ρ : ℕ → ℕ). Canonical (plain G) S (contract k (plain G) S).nodes ρ (number k (plain G) S)) (class_entry k G S) (contract_canon k (plain G) S wG wS)

  pub named_contraction_one : (h : ℕ) (H : Named) (ρ σ : ℕ → ℕ) → IsNamedSmallGraph G S h H ρ σ → Canonical (plain G) S h ρ σ → (h ≡ C.nodes) × (map σ S ≡ C.map) × (H ≡ contract_named k G S)
  named_contraction_one h H ρ σ n c =
      let m = contract_is_named_small k G S wG wS in
      let r = named_renumbered G S h H ρ σ n C.nodes (contract_named k G S) (class_node k G S) (number k (plain G) S) m in
      let e = r.graph.nodes in (
        e,
        r.graph.places ∙ sym (contract_map k G S),
        named_the_one G S C.nodes H ρ σ (subst (λ (v : ℕ). IsNamedSmallGraph G S v H ρ σ) e n) (subst (λ (v : ℕ). Canonical (plain G) S v ρ σ) e c) (contract_named k G S) (class_node k G S) (number k (plain G) S) m contract_named_canon,
      )
