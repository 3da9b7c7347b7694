-- The contraction is so numbered: its classes without an active node come by their smallest node, ascending.
-- Assumes nothing.
use Prim.Native.Nat.{◌<◌, ◌≤◌, ℕ}
use mathlib.Core.Bool.{true}
use mathlib.Core.List.{List, Memᴰ, [], ◌++◌, ◌∷◌}
use mathlib.Core.Logic.{◌⊎◌, inl, inr}
use mathlib.Core.Path.{◌∙◌, ◌≡◌, ap, refl, subst, sym}
use lib.Dec.{ltb}
use lib.ListN.{length}
use native.Mathlib.Omega.{arith}
use Rattle.theory_graph.proofs.ContractionIsSmall.{contract_small, kept_low, nth}
use Rattle.theory_graph.proofs.Definitions.{kept_from, two_edge_to}
use Rattle.theory_graph.proofs.Kept.{Kept, kept_class}
use Rattle.theory_graph.proofs.Lists.{Ordered, all_give, entry, firsts_before, in_filter, in_nth, mem_append, nth_entry}
use Rattle.theory_graph.proofs.Lists.{nth_low, ordered_filter, ordered_firsts, ordered_map, ordered_nth, range_mem, range_ordered}
use Rattle.theory_graph.proofs.Published.{two_edge_refl, two_edge_trans}
use Rattle.theory_graph.proofs.Separation.{insep_sym, insep_trans}
use Rattle.theory_graph.proofs.SmallGraphs.{SmallGraph}
use Rattle.theory_graph.specs.Contraction.{kept, kept_classes, linked, links}
use Rattle.theory_graph.specs.Cut.{TwoEdgeConnected}
use Rattle.theory_graph.specs.Graph.{Edge, two_edge}
use Rattle.theory_graph.specs.Lists.{filter, position, range}
use Rattle.theory_graph.specs.SmallGraph.{Canonical, Idle, ends_in}

-- x is of S, or less than y
abbrev Fore : List ℕ → ℕ → ℕ → Type 0
Fore S x y = Memᴰ x S ⊎ (x < y)

fore_append : (S A T : List ℕ) → ((a : ℕ) → Memᴰ a A → Memᴰ a S) → Ordered (λ x y. x < y) T → Ordered (Fore S) (A ++ T)
fore_append S [] T f o = ordered_map (λ x y. x < y) (Fore S) T (λ x y l. inr l) o
fore_append S (x ∷ A) T f o = (all_give (Fore S x) (A ++ T) (λ a m. inl (f x (Memᴰ.head refl))), fore_append S A T (λ a m. f a (Memᴰ.tail m)) o)

-- ---- the contraction is so numbered
module _ (n : ℕ) (E : List Edge) (S : List ℕ) (wE : ends_in (λ v. ltb v n) E ≡ true) (wS : (a : ℕ) → Memᴰ a S → a < n) where
  abbrev cs : List ℕ
  cs = kept_classes n E S

  abbrev σ : ℕ → ℕ
  σ a = position (λ c. two_edge E c a) cs

  g : SmallGraph E S (length cs) (links (linked E S) 0 cs) (entry 0 cs) σ
  g = contract_small n E S wE wS

  fore : Ordered (Fore S) (S ++ filter (kept E S) (range 0 n))
  fore = fore_append S S (filter (kept E S) (range 0 n)) (λ a m. m) (ordered_filter (λ x y. x < y) (kept E S) (range 0 n) (range_ordered 0 n))

  fore_cs : Ordered (Fore S) cs
  unfolding kept_classes
  fore_cs = ordered_firsts (Fore S) (two_edge E) (S ++ filter (kept E S) (range 0 n)) fore

  -- an idle number's node is not active
  not_active : (i : ℕ) → i < length cs → Idle S σ i → ¬ Memᴰ (entry 0 cs i) S
  not_active i l d m = let (lp, t) = g.place (entry 0 cs i) m in d (entry 0 cs i) m (g.once (σ (entry 0 cs i)) i lp l (insep_sym E t))

  first_of : (z : ℕ) → Kept E S z → (c : ℕ) × Memᴰ c cs × (two_edge E c z ≡ true) × ((c ≡ z) ⊎ Fore S c z)
  unfolding kept_classes
  first_of z k =
      firsts_before (Fore S) (two_edge E) (two_edge_refl E) (two_edge_trans E) z (S ++ filter (kept E S) (range 0 n)) fore
      (mem_append S (filter (kept E S) (range 0 n)) (inr (in_filter (kept E S) z (range 0 n) (range_mem z 0 n (omega arith) (omega (arith, kept_low n E S wE wS z k))) (kept_from E S z k))))

  pub contract_canon : Canonical E S (length cs) (entry 0 cs) σ
  contract_canon =
      record {
        least = λ i z l d t.
            let (c, m, q, b) = first_of z (kept_class E S z (entry 0 cs i) t (g.kept i l)) in
            let (j, N) = in_nth c 0 cs m in
            let e : entry 0 cs j ≡ c = nth_entry N in
            let lj : j < length cs = omega (arith, (nth_low N).1) in
            let ji : j ≡ i = g.once j i lj l (insep_trans E (subst (λ (v : ℕ). TwoEdgeConnected E v z) (sym e) (two_edge_to E c z q)) t) in
            let ci : c ≡ entry 0 cs i = sym e ∙ ap (entry 0 cs) ji in
            low (not_active i l d) ci b;
        rises = λ i j l lj d d'. pick (not_active i (omega arith) d) (ordered_nth (Fore S) fore_cs (nth n E S wE wS i (omega arith)) (nth n E S wE wS j lj) l);
      }
    where
      low : {c r z : ℕ} → ¬ Memᴰ r S → c ≡ r → (c ≡ z) ⊎ Fore S c z → r ≤ z
      low nr e (inl q) = omega arith
      low nr e (inr (inl m)) = absurd (nr (subst (λ (v : ℕ). Memᴰ v S) e m))
      low nr e (inr (inr l)) = omega arith

      pick : {r s : ℕ} → ¬ Memᴰ r S → Fore S r s → r < s
      pick nr (inl m) = absurd (nr m)
      pick nr (inr l) = l
