-- Small graphs by cuts (docs/theory.md 7): one node for each kept class, an edge where no third kept class lies between.
-- Each small cut of the graph is one of its small graph (SC). The predicate in the words of document 01 is tied to this one in SmallGraphDefinition.
-- Assumes nothing.
use Prim.Native.Nat.{◌<◌, ◌≤◌, ℕ}
use mathlib.Core.Bool.{Bool, false, not, true}
use mathlib.Core.List.{List, Memᴰ, [], ◌∷◌, map}
use mathlib.Core.Logic.{◌⊎◌, inl, inr}
use mathlib.Core.Path.{◌∙◌, ◌≡◌, ap, ap₂, refl, subst, sym}
use lib.Dec.{ltb}
use native.Mathlib.Omega.{arith}
use borrow.Author.Tests.{lt-ltb, ltb-false, ltb-true}
use Rattle.theory_graph.proofs.Booleans.{contradict, majority, on_bool}
use Rattle.theory_graph.proofs.CutOffs.{on_two_edge}
use Rattle.theory_graph.proofs.Cuts.{crosses_le, crosses_one, crossing, crossing_in, cut_complement}
use Rattle.theory_graph.proofs.Ends.{ends_in_mem}
use Rattle.theory_graph.proofs.Kept.{Kept, kept_median}
use Rattle.theory_graph.proofs.Medians.{Median, between_class, between_sym, cut_one_piece, median, median_between, median_swap23}
use Rattle.theory_graph.proofs.Separation.{cuts_uncrossed, insep_cut, insep_sym, insep_trans, same_side}
use Rattle.theory_graph.specs.Cut.{Between, Connected, TwoEdgeConnected, cut, ∁}
use Rattle.theory_graph.specs.Graph.{Edge, NodeSet}
use Rattle.theory_graph.specs.SmallGraph.{Ascends, EdgeLess, LessAll, ◌∘◌, ends_in, in_order}

-- i and j are joined, and no third node lies between
pub record Linked (E : List Edge) (h : ℕ) (ρ : ℕ → ℕ) (i j : ℕ) : Type 0 where
  pub to : Connected E (ρ i) (ρ j)
  pub third : (k : ℕ) → k < h → Between E (ρ i) (ρ k) (ρ j) → (k ≡ i) ⊎ (k ≡ j)

-- the numbers below h stand for the kept classes, one each
pub record OnePerClass (E : List Edge) (S : List ℕ) (h : ℕ) (ρ : ℕ → ℕ) : Type 0 where
  pub kept : (i : ℕ) → i < h → Kept E S (ρ i)
  pub once : (i j : ℕ) → i < h → j < h → TwoEdgeConnected E (ρ i) (ρ j) → i ≡ j
  pub all : (z : ℕ) → Kept E S z → (i : ℕ) × (i < h) × TwoEdgeConnected E z (ρ i)

pub record SmallGraph (E : List Edge) (S : List ℕ) (h : ℕ) (H : List Edge) (ρ σ : ℕ → ℕ) : Type 0 where
  pub kept : (i : ℕ) → i < h → Kept E S (ρ i)
  pub once : (i j : ℕ) → i < h → j < h → TwoEdgeConnected E (ρ i) (ρ j) → i ≡ j
  pub all : (z : ℕ) → Kept E S z → (i : ℕ) × (i < h) × TwoEdgeConnected E z (ρ i)
  pub place : (a : ℕ) → Memᴰ a S → (σ a < h) × TwoEdgeConnected E a (ρ (σ a))
  pub order : in_order 0 (map σ S) ≡ true
  pub ascends : Ascends H
  pub edge : (i j : ℕ) → Memᴰ (i, j) H → (i < j) × (j < h) × Linked E h ρ i j
  pub linked : (i j : ℕ) → i < j → j < h → Linked E h ρ i j → Memᴰ (i, j) H

pub less_all_in : (e f : Edge) {H : List Edge} → LessAll e H → Memᴰ f H → EdgeLess e f
less_all_in e f {H = []} a x5 = elim x5 [ ]
less_all_in e f {H = g ∷ H} a (Memᴰ.head p) = subst (λ (g : Edge). EdgeLess e g) (sym p) a.0
less_all_in e f {H = g ∷ H} a (Memᴰ.tail m) = less_all_in e f a.1 m

cross_two : (U : NodeSet) (H : List Edge) → Ascends H → 1 < cut U H → (e f : Edge) × Memᴰ e H × Memᴰ f H × EdgeLess e f × (0 < crossing U e) × (0 < crossing U f)
cross_two U [] a h = absurd (omega arith)
cross_two U (e ∷ H) a h =
    on_bool (ltb 0 (crossing U e))
    (λ t. let (f, m, c) = crossing_in U H (omega (arith, crosses_le (U e.0) (U e.1))) in (
      e,
      f,
      Memᴰ.head refl,
      Memᴰ.tail m,
      less_all_in e f a.0 m,
      ltb-true 0 (crossing U e) t,
      c,
    )) λ t.
    let (f, g, m, n, l, p, q) = cross_two U H a.1 (omega (arith, ltb-false 0 (crossing U e) t)) in (f, g, Memᴰ.tail m, Memᴰ.tail n, l, p, q)

module _ (E : List Edge) (S : List ℕ) (h : ℕ) (H : List Edge) (ρ σ : ℕ → ℕ) (g : SmallGraph E S h H ρ σ) where
  pub linked_sym : (i j : ℕ) → Linked E h ρ i j → Linked E h ρ j i
  linked_sym i j l = record { to = insep_sym E l.to; third = λ k b n. swap (l.third k b (between_sym E _ _ _ n)) }
    where
      swap : {A B : Type 0} → A ⊎ B → B ⊎ A
      swap (inl a) = inr a
      swap (inr b) = inl b

  -- ---- SC
  -- i is the median of i, k and j, where a cut parts i and k from j and i and j are linked
  end_median : (U : NodeSet) (i j k : ℕ) → i < h → j < h → k < h → cut U E ≤ 1 → Linked E h ρ i j → Connected E (ρ i) (ρ k) → U (ρ i) ≡ true → U (ρ k) ≡ true → U (ρ j) ≡ false
      → Median E (ρ i) (ρ k) (ρ j) (ρ i)
  end_median U i j k li lj lk c l ik Ui Uk Uj =
      let (m, M) = median E (ρ i) (ρ k) (ρ j) ik l.to in
      let Um : U m ≡ true = M U c ∙ ap₂ (λ s t. majority s t (U (ρ j))) Ui Uk in
      let mi : Connected E m (ρ i) = λ s. contradict s.1 (M s.0 (omega (arith, s.3)) ∙ all_out s.0 s.3 s.2) in
      let km = kept_median E S (ρ i) (ρ k) (ρ j) m (g.kept i li) (g.kept k lk) (g.kept j lj) mi (insep_trans E mi ik) (insep_trans E mi l.to) M in
      let (n, ln, t) = g.all m km in
      let b : Between E (ρ i) (ρ n) (ρ j) = between_class E (ρ i) m (ρ n) (ρ j) t (median_between E (ρ i) (ρ j) (ρ k) m (median_swap23 E (ρ i) (ρ k) (ρ j) m M)) in
      pick n t (sym (same_side E m (ρ n) t U c) ∙ Um) M (l.third n ln b)
    where
      all_out : (W : NodeSet) → cut W E ≤ 0 → W (ρ i) ≡ false → majority (W (ρ i)) (W (ρ k)) (W (ρ j)) ≡ false
      all_out W c e =
          let f : W (ρ k) ≡ false = on_bool (W (ρ k)) (λ t. absurd (insep_sym E ik (W, t, e, c))) (λ f. f) in
          ap₂ (λ s t. majority s t (W (ρ j))) e f

      pick : {m : ℕ} (n : ℕ) → TwoEdgeConnected E m (ρ n) → U (ρ n) ≡ true → Median E (ρ i) (ρ k) (ρ j) m → (n ≡ i) ⊎ (n ≡ j) → Median E (ρ i) (ρ k) (ρ j) (ρ i)
      pick {m} n t Un M (inl e) W c' = sym (same_side E m (ρ i) (subst (λ (v : ℕ). TwoEdgeConnected E m (ρ v)) e t) W c') ∙ M W c'
      pick n t Un M (inr e) W c' = contradict Un (ap (λ v. U (ρ v)) e ∙ Uj)

  meeting_end : (U : NodeSet) (i j k l : ℕ) → i < h → j < h → k < h → l < h → cut U E ≤ 1 → Linked E h ρ i j → Linked E h ρ k l
      → U (ρ i) ≡ true → U (ρ j) ≡ false → U (ρ k) ≡ true → U (ρ l) ≡ false → i ≡ k
  meeting_end U i j k l li lj lk ll c p q Ui Uj Uk Ul =
      on_two_edge E (ρ i) (ρ k) (λ s.
      let (W, Wi, Wk, e) = s in
      let ik = cut_one_piece E U (ρ i) (ρ j) (ρ k) (ρ l) c p.to q.to Ui Uj Uk Ul in
      let kl = q.to in
      let Wj : W (ρ j) ≡ true = first (W (ρ j)) Wi Wk (end_median U i j k li lj lk c p ik Ui Uk Uj W e) in
      let Wl : W (ρ l) ≡ false = second (W (ρ l)) Wi Wk (end_median U k l i lk ll li c q (insep_sym E ik) Uk Ui Ul W e) in
      absurd (cuts_uncrossed E U W (ρ i) (ρ j) (ρ k) (ρ l) c e (insep_trans E ik kl) (insep_trans E (insep_sym E p.to) (insep_trans E ik kl)) kl Ui Wi Uj Wj Uk Wk Ul Wl))
      (g.once i k li lk)
    where
      first : {a b : Bool} (c : Bool) → a ≡ true → b ≡ false → a ≡ majority a b c → c ≡ true
      first true e f m = refl
      first false e f m = contradict e (m ∙ ap₂ (λ s t. majority s t false) e f)

      second : {a b : Bool} (c : Bool) → a ≡ true → b ≡ false → b ≡ majority b a c → c ≡ false
      second true e f m = contradict (m ∙ ap₂ (λ s t. majority s t true) f e) f
      second false e f m = refl

  pub low : (i j : ℕ) → Memᴰ (i, j) H → (i < h) × (j < h)
  low i j m = let e = g.edge i j m in (omega (arith, e.0, e.1), e.1)

  same_edge : (U : NodeSet) → cut U E ≤ 1 → (i j k l : ℕ) → Memᴰ (i, j) H → Memᴰ (k, l) H → 0 < crossing (U ∘ ρ) (i, j) → 0 < crossing (U ∘ ρ) (k, l) → (i ≡ k) × (j ≡ l)
  same_edge U c i j k l m n a b =
      let p = (g.edge i j m).2 in
      let q = (g.edge k l n).2 in
      let (li, lj) = low i j m in
      let (lk, ll) = low k l n in
      let c' : cut (∁ U) E ≤ 1 = omega (arith, cut_complement U E) in
      crosses_one (U (ρ i)) (U (ρ j)) a
      (λ Ui Uj. crosses_one (U (ρ k)) (U (ρ l)) b
      (λ Uk Ul. (
        meeting_end U i j k l li lj lk ll c p q Ui Uj Uk Ul,
        meeting_end (∁ U) j i l k lj li ll lk c' (linked_sym i j p) (linked_sym k l q) (ap not Uj) (ap not Ui) (ap not Ul) (ap not Uk),
      ))
      (λ Uk Ul. absurd (omega (
        arith,
        (g.edge i j m).0,
        (g.edge k l n).0,
        meeting_end U i j l k li lj ll lk c p (linked_sym k l q) Ui Uj Ul Uk,
        meeting_end (∁ U) j i k l lj li lk ll c' (linked_sym i j p) q (ap not Uj) (ap not Ui) (ap not Uk) (ap not Ul),
      ))))
      (λ Ui Uj. crosses_one (U (ρ k)) (U (ρ l)) b
      (λ Uk Ul. absurd (omega (
        arith,
        (g.edge i j m).0,
        (g.edge k l n).0,
        meeting_end U j i k l lj li lk ll c (linked_sym i j p) q Uj Ui Uk Ul,
        meeting_end (∁ U) i j l k li lj ll lk c' p (linked_sym k l q) (ap not Ui) (ap not Uj) (ap not Ul) (ap not Uk),
      )))
      (λ Uk Ul. (
        meeting_end (∁ U) i j k l li lj lk ll c' p q (ap not Ui) (ap not Uj) (ap not Uk) (ap not Ul),
        meeting_end U j i l k lj li ll lk c (linked_sym i j p) (linked_sym k l q) Uj Ui Ul Uk,
      )))

  pub small_down : (U : NodeSet) → cut U E ≤ 1 → cut (U ∘ ρ) H ≤ cut U E
  small_down U c =
      on_bool (ltb 1 (cut (U ∘ ρ) H)) (λ t.
      let (e, f, m, n, l, a, b) = cross_two (U ∘ ρ) H g.ascends (ltb-true 1 _ t) in
      absurd (less e f l (same_edge U c e.0 e.1 f.0 f.1 m n a b))) λ t.
      on_bool (ltb 0 (cut (U ∘ ρ) H)) (λ s.
      let (e, m, a) = crossing_in (U ∘ ρ) H (ltb-true 0 _ s) in
      let j = (g.edge e.0 e.1 m).2.to in
      let k : 0 < cut U E = crosses_one (U (ρ e.0)) (U (ρ e.1)) a (insep_cut E j U) (λ p q. insep_cut E (insep_sym E j) U q p) in
      omega (arith, ltb-false 1 (cut (U ∘ ρ) H) t)) λ s. omega (arith, ltb-false 0 (cut (U ∘ ρ) H) s)
    where
      less : (e f : Edge) → EdgeLess e f → ¬ ((e.0 ≡ f.0) × (e.1 ≡ f.1))
      less e f (inl p) q = omega arith
      less e f (inr p) q = omega arith

  pub small_ends_in : ends_in (λ v. ltb v h) H ≡ true
  small_ends_in = ends_in_mem (λ v. ltb v h) H (λ i j m. let (li, lj) = low i j m in (lt-ltb i h li, lt-ltb j h lj))
