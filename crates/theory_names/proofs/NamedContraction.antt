-- The contraction with names, computed, is a named small graph; without the names it is the contraction.
-- Assumes nothing.
use Prim.Native.Nat.{◌+◌, ◌<◌, suc, zero, ℕ}
use mathlib.Core.Bool.{Bool, cond, true}
use mathlib.Core.List.Memᴰ
use mathlib.Core.List.{List, Memᴰ, [], ◌∷◌, map}
use mathlib.Core.Path.{◌∙◌, ◌≡◌, ap, fun_ext, refl, subst, sym}
use lib.Dec.{eqb, ltb}
use lib.ListN.{get_or}
use native.Mathlib.Omega.{arith}
use borrow.Author.Tests.{eq-eqb, ne_eqb}
use Rattle.theory_graph.proofs.ActiveLists.{small_repeats}
use Rattle.theory_graph.proofs.Lists.{entry}
use Rattle.theory_graph.proofs.SmallGraphDefinition.{contract_is_small, definition_small, small_definition}
use Rattle.theory_graph.specs.Contraction.{contract, kept_classes, number}
use Rattle.theory_graph.specs.Graph.{Edge}
use Rattle.theory_graph.specs.Lists.{firsts}
use Rattle.theory_graph.specs.SmallGraph.{IsSmallGraph, ends_in}
use Rattle.theory_names.specs.NamedSmallGraph.{IsNamedSmallGraph}
use Rattle.theory_names.specs.Names.{Entry, Named, class_node, contract_named, hangs, plain}

entry_get_or : (i k : ℕ) (xs : List ℕ) → entry i xs (i + k) ≡ get_or xs k 0
entry_get_or i k [] = refl
entry_get_or i zero (x ∷ xs) = ap (λ (b : Bool). cond b x (entry (suc i) xs (i + 0))) (eq-eqb (i + 0) i (omega arith))
entry_get_or i (suc k) (x ∷ xs) =
    let n : ¬ (i + suc k ≡ i) = λ e. omega arith in
    let e : i + suc k ≡ suc i + k = omega arith in
    ap (λ (b : Bool). cond b x (entry (suc i) xs (i + suc k))) (ne_eqb (i + suc k) i n) ∙ ap (entry (suc i) xs) e ∙ entry_get_or (suc i) k xs

-- the node of a class is the entry that the laws of theory_graph speak of
pub class_entry : (n : ℕ) (G : Named) (S : List ℕ) → entry 0 (kept_classes n (plain G) S) ≡ class_node n G S
unfolding class_node
class_entry n G S = fun_ext λ i. let e : i ≡ 0 + i = omega arith in ap (entry 0 (kept_classes n (plain G) S)) e ∙ entry_get_or 0 i (kept_classes n (plain G) S)

plain_of : (f : Edge → ℕ) (E : List Edge) → plain (map (λ (e : Edge). (e, f e)) E) ≡ E
plain_of f [] = refl
plain_of f (e ∷ E) = ap (λ (l : List Edge). e ∷ l) (plain_of f E)

module _ (n : ℕ) (G : Named) (S : List ℕ) where
  -- without the names
  pub contract_plain : plain (contract_named n G S) ≡ (contract n (plain G) S).edges
  unfolding contract_named
  contract_plain = plain_of (λ (e : Edge). hangs G (class_node n G S e.0) (class_node n G S e.1)) (contract n (plain G) S).edges

  -- the map gives each active entry the number of its class
  pub contract_map : (contract n (plain G) S).map ≡ map (number n (plain G) S) S
  unfolding contract number
  contract_map = refl

  pub contract_is_named_small : ends_in (λ v. ltb v n) (plain G) ≡ true → ((a : ℕ) → Memᴰ a S → a < n)
      → IsNamedSmallGraph G S (contract n (plain G) S).nodes (contract_named n G S) (class_node n G S) (number n (plain G) S)
  unfolding contract_named
  contract_is_named_small wG wS =
      record {
        small = subst (λ (H : List Edge). IsSmallGraph (plain G) S (contract n (plain G) S).nodes H (class_node n G S) (number n (plain G) S)) (sym contract_plain)
            (subst (λ (ρ : ℕ → ℕ). IsSmallGraph (plain G) S (contract n (plain G) S).nodes (contract n (plain G) S).edges ρ (number n (plain G) S)) (class_entry n G S) (contract_is_small n (plain G) S wG wS));
        name = λ i j m k.
            let (e, _, p) = Memᴰ.of_map (λ (e : Edge). (e, hangs G (class_node n G S e.0) (class_node n G S e.1))) (contract n (plain G) S).edges k in
            sym (ap (λ (e : Entry). e.1) p) ∙ ap (λ (e : Entry). hangs G (class_node n G S e.0.0) (class_node n G S e.0.1)) p;
      }

-- ---- repeats in the active list do not matter
pub named_small_repeats : (G : Named) (K : List ℕ) (h : ℕ) (H : Named) (ρ σ : ℕ → ℕ) → IsNamedSmallGraph G (firsts eqb K) h H ρ σ → IsNamedSmallGraph G K h H ρ σ
named_small_repeats G K h H ρ σ g = record { small = small_definition (plain G) K h (plain H) ρ σ (small_repeats K (definition_small (plain G) (firsts eqb K) h (plain H) ρ σ g.small)); name = g.name }
