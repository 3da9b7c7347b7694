-- The laws that show a reader that hangs is what document 02 says: at an answer 1 the smallest name of an entry whose loss parts the two;
-- and that neither the order of the entries nor the way an edge is written matters, to names, named small graphs and contractions.
-- Elsewhere: 65,535 where the answer is not 1, hangs_none in proofs/Hangs; the smallest along a route, proofs/Trails and proofs/Along.
-- Assumes nothing.
use Prim.Native.Nat.{◌*◌, ◌+◌, ◌≤◌, ℕ}
use mathlib.Core.Bool.{Bool, false, not, true}
use mathlib.Core.List.{List, [], ◌++◌, ◌∷◌, map}
use mathlib.Core.Path.{◌∙◌, ◌≡◌, ap, ap₂, fun_ext, refl, subst, sym}
use lib.ListN.{get_or}
use native.Mathlib.Omega.{arith}
use borrow.Author.Tests.{not-true}
use Rattle.theory_graph.proofs.CutEquivalence.{contract_cuts, kept_cuts_equal, two_edge_cuts_equal}
use Rattle.theory_graph.proofs.Cuts.{crosses_swap}
use Rattle.theory_graph.proofs.Definitions.{joined_to}
use Rattle.theory_graph.specs.Contraction.{Contracted, kept_classes}
use Rattle.theory_graph.specs.Cut.{crosses}
use Rattle.theory_graph.specs.Graph.{Edge, NodeSet, answer, joined}
use Rattle.theory_graph.specs.Lists.{filter, firsts, range}
use Rattle.theory_names.proofs.Hangs.{answer_one, cut_loss, entry_loss, hangs_cuts, hangs_least, loss_cut, loss_entry}
use Rattle.theory_names.proofs.NamedCuts.{same_cuts}
use Rattle.theory_names.proofs.NamedUniqueness.{named_small_equal}
use Rattle.theory_names.specs.NamedSmallGraph.{IsNamedSmallGraph}
use Rattle.theory_names.specs.Names.{Entry, Named, SameEntries, class_node, contract_named, hangs, plain, weigh}

-- ---- the smallest name of an entry whose loss parts the two
-- where the answer is 1: some entry whose loss parts the two has that name
pub hangs_entry : (G : Named) (x y : ℕ) → answer (plain G) x y ≡ 1 → (A : Named) × (e : Entry) × (B : Named) × (G ≡ A ++ e ∷ B) × (joined (plain (A ++ B)) x y ≡ false) × (hangs G x y ≡ e.1)
hangs_entry G x y h =
    let (j, s) = answer_one G x y h in
    let (U, p, q, c, n) = (hangs_least G x y j s).some in
    let (A, e, B, g, t, r) = loss_entry (λ F. not (joined F x y)) G (cut_loss G x y j U p q c) in
    (A, e, B, g, not-true (joined (plain (A ++ B)) x y) t, sym n ∙ r)

-- and no such entry has a smaller one
pub hangs_smallest : (A : Named) (e : Entry) (B : Named) (x y : ℕ) → joined (plain (A ++ e ∷ B)) x y ≡ true → joined (plain (A ++ B)) x y ≡ false → hangs (A ++ e ∷ B) x y ≤ e.1
hangs_smallest A e B x y j f =
    let G = A ++ e ∷ B in
    let c = joined_to (plain G) x y j in
    let (U, p, q, l, n) = loss_cut G x y c e.1 (entry_loss (λ F. not (joined F x y)) A e B (ap not f)) in
    subst (λ (k : ℕ). hangs G x y ≤ k) n ((hangs_least G x y c (U, p, q, l)).low U p q l)

-- ---- only the entries matter
module _ {G G' : Named} (s : SameEntries G G') where
  pub hangs_same_entries : hangs G ≡ hangs G'
  hangs_same_entries = fun_ext λ x. fun_ext λ y. hangs_cuts G G' (same_cuts s) (s.weights (λ n. n)) x y

  nodes_equal : (k : ℕ) (S : List ℕ) → class_node k G S ≡ class_node k G' S
  unfolding class_node kept_classes
  nodes_equal k S =
      ap₂ {C = ℕ → ℕ} (λ (t : ℕ → ℕ → Bool) (f : ℕ → Bool). λ (i : ℕ). get_or (firsts t (S ++ filter f (range 0 k))) i 0)
      (two_edge_cuts_equal (plain G) (plain G') (same_cuts s)) (kept_cuts_equal (plain G) (plain G') (same_cuts s) S)

  pub contract_same_entries : (k : ℕ) (S : List ℕ) → contract_named k G S ≡ contract_named k G' S
  unfolding contract_named
  contract_same_entries k S = λ i. make (contract_cuts (plain G) (plain G') (same_cuts s) S k i) (nodes_equal k S i) (hangs_same_entries i)
    where
      make : Contracted → (ℕ → ℕ) → (ℕ → ℕ → ℕ) → Named
      make r ρ t = map (λ (e : Edge). (e, t (ρ e.0) (ρ e.1))) r.edges

-- H has the entries of G in another order, some of them turned round
pub data Rearranged : Named → Named → Type 0 where
  none : Rearranged [] []
  same : {e : Entry} {G H : Named} → Rearranged G H → Rearranged (e ∷ G) (e ∷ H)
  turned : {x y n : ℕ} {G H : Named} → Rearranged G H → Rearranged (((x, y), n) ∷ G) (((y, x), n) ∷ H)
  swapped : {e f : Entry} {G : Named} → Rearranged (e ∷ f ∷ G) (f ∷ e ∷ G)
  after : {G H K : Named} → Rearranged G H → Rearranged H K → Rearranged G K

rearranged_weigh : {G H : Named} → Rearranged G H → (f : ℕ → ℕ) (U : NodeSet) → weigh f U G ≡ weigh f U H
rearranged_weigh none f U = refl
rearranged_weigh (same {e = e} r) f U = ap (λ (k : ℕ). crosses (U e.0.0) (U e.0.1) * f e.1 + k) (rearranged_weigh r f U)
rearranged_weigh (turned {x = x} {y = y} {n = n} r) f U = ap₂ (λ (k l : ℕ). k * f n + l) (crosses_swap (U x) (U y)) (rearranged_weigh r f U)
rearranged_weigh (swapped {e = e} {f = d} {G = G}) f U = omega arith
rearranged_weigh (after r s) f U = rearranged_weigh r f U ∙ rearranged_weigh s f U

pub rearranged_same : {G H : Named} → Rearranged G H → SameEntries G H
rearranged_same r = record { weights = rearranged_weigh r }

pub rearranged_hangs : {G H : Named} → Rearranged G H → hangs G ≡ hangs H
rearranged_hangs r = hangs_same_entries (rearranged_same r)

pub rearranged_small : {G H : Named} → Rearranged G H → {S : List ℕ} {h : ℕ} {K : Named} {ρ σ : ℕ → ℕ} → IsNamedSmallGraph G S h K ρ σ → IsNamedSmallGraph H S h K ρ σ
rearranged_small r = named_small_equal (rearranged_same r)

pub rearranged_contract : {G H : Named} → Rearranged G H → (n : ℕ) (S : List ℕ) → contract_named n G S ≡ contract_named n H S
rearranged_contract r = contract_same_entries (rearranged_same r)
