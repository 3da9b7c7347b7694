-- The contraction that document 01 defines, computed, is a small graph.
-- Assumes nothing.
use Prim.Native.Nat.{◌+◌, ◌<◌, ℕ}
use mathlib.Core.Bool.{true}
use mathlib.Core.List.Memᴰ
use mathlib.Core.List.{List, Memᴰ, ◌++◌, map}
use mathlib.Core.Logic.{◌⊎◌, inl, inr}
use mathlib.Core.Path.{◌∙◌, ◌≡◌, ap, ap₂, refl, subst, sym}
use lib.Dec.{ltb}
use lib.ListN.{length}
use native.Mathlib.Omega.{arith}
use borrow.Author.Tests.{lt-ltb, ltb-false, ltb-true}
use Rattle.theory_graph.proofs.Booleans.{contradict, on_bool}
use Rattle.theory_graph.proofs.Definitions.{kept_from, kept_to, two_edge_from, two_edge_to}
use Rattle.theory_graph.proofs.Ends.{ends_in_closed}
use Rattle.theory_graph.proofs.Kept.{Kept, kept_active}
use Rattle.theory_graph.proofs.Links.{linked_from, linked_to}
use Rattle.theory_graph.proofs.Lists.{Nth, Pairwise, entry, entry_nth, filter_in, filter_true, firsts_cover, firsts_in, firsts_pairwise}
use Rattle.theory_graph.proofs.Lists.{in_filter, mem_append, nth_entry, nth_in, nth_low, pairwise_nth, position_nth, range_mem}
use Rattle.theory_graph.proofs.Numbering.{in_order_lem, links_ascends, links_in, links_out}
use Rattle.theory_graph.proofs.Published.{two_edge_refl, two_edge_trans}
use Rattle.theory_graph.proofs.Separation.{insep_sym}
use Rattle.theory_graph.proofs.SmallGraphs.{OnePerClass, SmallGraph}
use Rattle.theory_graph.specs.Contraction.{kept, kept_classes, linked, links}
use Rattle.theory_graph.specs.Cut.{TwoEdgeConnected}
use Rattle.theory_graph.specs.Graph.{Edge, two_edge}
use Rattle.theory_graph.specs.Lists.{filter, firsts, position, range}
use Rattle.theory_graph.specs.SmallGraph.{ends_in, in_order}

module _ (n : ℕ) (E : List Edge) (S : List ℕ) (wE : ends_in (λ v. ltb v n) E ≡ true) (wS : (a : ℕ) → Memᴰ a S → a < n) where
  abbrev pub cs : List ℕ
  cs = kept_classes n E S

  abbrev pub h : ℕ
  h = length cs

  abbrev pub ρ : ℕ → ℕ
  ρ = entry 0 cs

  abbrev pub σ : ℕ → ℕ
  σ a = position (λ c. two_edge E c a) cs

  pub nth : (i : ℕ) → i < h → Nth (ρ i) 0 cs i
  nth i l = entry_nth 0 i cs (omega arith) (omega arith)

  -- the numbers of the active entries, by first appearance
  pub class_order : in_order 0 (map σ S) ≡ true
  unfolding kept_classes
  class_order =
      in_order_lem (two_edge E) (two_edge_refl E) (two_edge_trans E) σ (filter (kept E S) (range 0 n)) S (λ x. true) 0 (λ x c p q. refl)
      (λ a p. let e : σ a ≡ 0 + σ a = omega arith in e
      ∙ ap (λ l. 0 + position (λ c. two_edge E c a) l) (sym (filter_true (firsts (two_edge E) (S ++ filter (kept E S) (range 0 n)))))) (λ a p. contradict refl p)

  class_kept : (c : ℕ) → Memᴰ c cs → Kept E S c
  unfolding kept_classes
  class_kept c m = go (Memᴰ.append_cases S (firsts_in (two_edge E) c (S ++ filter (kept E S) (range 0 n)) m))
    where
      go : Memᴰ c S ⊎ Memᴰ c (filter (kept E S) (range 0 n)) → Kept E S c
      go (inl m) = kept_active E S c m
      go (inr m) = kept_to E S c (filter_in (kept E S) c (range 0 n) m).1

  pub class_pairs : Pairwise (two_edge E) cs
  unfolding kept_classes
  class_pairs = firsts_pairwise (two_edge E) (S ++ filter (kept E S) (range 0 n))

  pub kept_low : (z : ℕ) → Kept E S z → z < n
  kept_low z k =
      on_bool (ltb z n) (ltb-true z n) λ f. absurd (insep_sym E k.to_a (λ v. ltb v n, lt-ltb k.a n (wS k.a k.in_a), f, ends_in_closed (λ v. ltb v n) E wE))

  class_cover : (z : ℕ) → Kept E S z → (c : ℕ) × Memᴰ c cs × (two_edge E c z ≡ true)
  unfolding kept_classes
  class_cover z k =
      firsts_cover (two_edge E) (two_edge_refl E) (two_edge_trans E) z (S ++ filter (kept E S) (range 0 n))
      (mem_append S (filter (kept E S) (range 0 n)) (inr (in_filter (kept E S) z (range 0 n) (range_mem z 0 n (omega arith) (omega (arith, kept_low z k))) (kept_from E S z k))))

  pub class_once : (i j : ℕ) → i < h → j < h → TwoEdgeConnected E (ρ i) (ρ j) → i ≡ j
  class_once i j li lj t =
      on_bool (ltb i j) (λ l. absurd (pairwise_nth (two_edge E) class_pairs (nth i li) (nth j lj) (ltb-true i j l) (two_edge_from E (ρ i) (ρ j) t))) λ a.
      on_bool (ltb j i) (λ l. absurd (pairwise_nth (two_edge E) class_pairs (nth j lj) (nth i li) (ltb-true j i l) (two_edge_from E (ρ j) (ρ i) (insep_sym E t)))) λ b.
      omega (arith, ltb-false i j a, ltb-false j i b)

  pub class_at : (z : ℕ) → Kept E S z → (position (λ c. two_edge E c z) cs < h) × TwoEdgeConnected E z (ρ (position (λ c. two_edge E c z) cs))
  class_at z k =
      let (c, m, t) = class_cover z k in
      let (s, N, p) = position_nth (λ c. two_edge E c z) 0 c cs m t in
      let e : 0 + position (λ c. two_edge E c z) cs ≡ position (λ c. two_edge E c z) cs = omega arith in
      let N' : Nth s 0 cs (position (λ c. two_edge E c z) cs) = subst (λ (v : ℕ). Nth s 0 cs v) e N in
      let (a, b) = nth_low N' in
      (omega arith, insep_sym E (subst (λ (v : ℕ). TwoEdgeConnected E v z) (sym (nth_entry N')) (two_edge_to E s z p)))

  pub class_each : OnePerClass E S h ρ
  class_each =
      record {
        kept = λ i l. class_kept (ρ i) (nth_in (nth i l));
        once = class_once;
        all = λ z k. let (l, t) = class_at z k in (position (λ c. two_edge E c z) cs, l, t);
      }

  -- ---- the contraction is a small graph
  pub contract_small : SmallGraph E S h (links (linked E S) 0 cs) ρ σ
  contract_small =
      record {
        kept = class_each.kept;
        once = class_each.once;
        all = class_each.all;
        place = λ a m. class_at a (kept_active E S a m);
        order = class_order;
        ascends = links_ascends (linked E S) 0 cs;
        edge = λ i j m.
            let x = links_out (linked E S) 0 cs (i, j) m in
            let lj : j < h = omega (arith, (nth_low x.ns).1) in
            let li : i < h = omega (arith, x.lt) in
            (x.lt, lj, (linked_to E S h ρ class_each i j li lj (ap₂ (linked E S) (nth_entry x.nr) (nth_entry x.ns) ∙ x.on)).1);
        linked = λ i j a b l. links_in (linked E S) (nth i (omega arith)) (nth j b) a (linked_from E S h ρ class_each i j (omega arith) b (λ e. omega arith) l);
      }
