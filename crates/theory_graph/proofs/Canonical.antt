-- The one small graph: where the classes without an active node are numbered by their smallest node, ascending, two small graphs have the same edges.
-- Assumes nothing.
use Prim.Native.Nat.{◌<◌, suc, zero, ℕ}
use mathlib.Core.List.{List, Memᴰ, [], ◌∷◌, map}
use mathlib.Core.Path.{◌∙◌, ◌≡◌, ap, subst, sym}
use lib.Dec.{eqb, ltb}
use native.Mathlib.Omega.{arith}
use borrow.Author.Tests.{eq-eqb, eqb-false, eqb-true, ltb-false, ltb-true}
use Rattle.theory_graph.proofs.Booleans.{contradict, on_bool}
use Rattle.theory_graph.proofs.Lists.{any_find, any_in}
use Rattle.theory_graph.proofs.Separation.{insep_refl, insep_sym, insep_trans}
use Rattle.theory_graph.proofs.SmallGraphs.{SmallGraph}
use Rattle.theory_graph.proofs.Uniqueness.{edges_same, places_same}
use Rattle.theory_graph.specs.Cut.{TwoEdgeConnected}
use Rattle.theory_graph.specs.Graph.{Edge}
use Rattle.theory_graph.specs.Lists.{any}
use Rattle.theory_graph.specs.SmallGraph.{Canonical, Idle}

module _ (E : List Edge) (S : List ℕ) (h : ℕ) (H : List Edge) (ρ σ : ℕ → ℕ) (g : SmallGraph E S h H ρ σ) (c : Canonical E S h ρ σ) (H' : List Edge) (ρ' σ' : ℕ → ℕ)
    (g' : SmallGraph E S h H' ρ' σ') (c' : Canonical E S h ρ' σ') where
  -- an idle number has the same node under some idle number of the other
  other : (i : ℕ) → i < h → Idle S σ i → (j : ℕ) × (j < h) × Idle S σ' j × (ρ i ≡ ρ' j)
  other i l n =
      let (j, lj, t) = g'.all (ρ i) (g.kept i l) in
      let n' : Idle S σ' j = λ a m e.
      let (la, ta) = g.place a m in
      let (lb, tb) = g'.place a m in
      n a m (g.once (σ a) i la l (insep_trans E (insep_sym E ta) (insep_trans E (subst (λ (v : ℕ). TwoEdgeConnected E a (ρ' v)) e tb) (insep_sym E t)))) in
      let p = c.least i (ρ' j) l n (insep_sym E t) in
      let q = c'.least j (ρ i) lj n' t in
      (j, lj, n', omega arith)

module _ (E : List Edge) (S : List ℕ) (h : ℕ) (H : List Edge) (ρ σ : ℕ → ℕ) (g : SmallGraph E S h H ρ σ) (c : Canonical E S h ρ σ) (H' : List Edge) (ρ' σ' : ℕ → ℕ)
    (g' : SmallGraph E S h H' ρ' σ') (c' : Canonical E S h ρ' σ') where
  same_idle : (n i : ℕ) → i < n → i < h → Idle S σ i → Idle S σ' i → ρ i ≡ ρ' i
  same_idle zero i k l d e = absurd (omega arith)
  same_idle (suc n) i k l id id' =
      let (j, lj, nj, e) = other E S h H ρ σ g c H' ρ' σ' g' c' i l id in
      let (m, lm, nm, f) = other E S h H' ρ' σ' g' c' H ρ σ g c i l id' in
      on_bool (eqb j i) (λ t. e ∙ ap ρ' (eqb-true j i t)) λ t.
      on_bool (ltb i j) (λ u.
      let r = c'.rises i j (ltb-true i j u) lj id' nj in
      on_bool (ltb m i) (λ v.
      absurd (omega (arith, ltb-true m i v, back m i lm l f (same_idle n m (omega (arith, ltb-true m i v)) lm nm (carry m nm))))) λ v.
      on_bool (eqb m i) (λ w. absurd (omega (arith, e, f, ap ρ (eqb-true m i w)))) λ w.
      let nw : ¬ (m ≡ i) = eqb-false m i w in
      absurd (omega (arith, e, f, c.rises i m (omega (arith, ltb-false m i v)) lm id nm))) λ u.
      let nt : ¬ (j ≡ i) = eqb-false j i t in
      absurd (nt (forth j i lj l e (same_idle n j (omega (arith, ltb-false i j u)) lj (carry' j nj) nj)))
    where
      ps : map σ S ≡ map σ' S
      ps = places_same E S h H ρ σ g h H' ρ' σ' g'

      at_map : (T : List ℕ) (a : ℕ) → Memᴰ a T → map σ T ≡ map σ' T → σ a ≡ σ' a
      at_map [] a x6 e = elim x6 [ ]
      at_map (x ∷ T) a (Memᴰ.head p) e = ap σ p ∙ ap (λ l. first l) e ∙ sym (ap σ' p)
        where
          first : List ℕ → ℕ
          first [] = 0
          first (x ∷ l) = x
      at_map (x ∷ T) a (Memᴰ.tail m) e = at_map T a m (ap (λ l. rest l) e)
        where
          rest : List ℕ → List ℕ
          rest [] = []
          rest (x ∷ l) = l

      carry : (m : ℕ) → Idle S σ m → Idle S σ' m
      carry m d a ma q = d a ma (at_map S a ma ps ∙ q)

      carry' : (m : ℕ) → Idle S σ' m → Idle S σ m
      carry' m d a ma q = d a ma (sym (at_map S a ma ps) ∙ q)

      two_of : (u v : ℕ) → u ≡ v → TwoEdgeConnected E u v
      two_of u v e = subst (λ (w : ℕ). TwoEdgeConnected E u w) e (insep_refl E u)

      back : (m i : ℕ) → m < h → i < h → ρ' i ≡ ρ m → ρ m ≡ ρ' m → i ≡ m
      back m i lm l f q = g'.once i m l lm (two_of (ρ' i) (ρ' m) (f ∙ q))

      forth : (j i : ℕ) → j < h → i < h → ρ i ≡ ρ' j → ρ j ≡ ρ' j → j ≡ i
      forth j i lj l e q = g.once j i lj l (two_of (ρ j) (ρ i) (q ∙ sym e))

  -- active or idle
  by_idle : {A : Type 0} (i : ℕ) → ((a : ℕ) → Memᴰ a S → σ a ≡ i → A) → (Idle S σ i → A) → A
  by_idle i f k =
      on_bool (any (λ a. eqb (σ a) i) S) (λ t. let (a, m, q) = any_find (λ a. eqb (σ a) i) S t in f a m (eqb-true (σ a) i q))
      (λ t. k (λ a m q. contradict (any_in (λ a. eqb (σ a) i) m (eq-eqb (σ a) i q)) t))

  at_places : (T : List ℕ) (a : ℕ) → Memᴰ a T → map σ T ≡ map σ' T → σ a ≡ σ' a
  at_places [] a x'' e = elim x'' [ ]
  at_places (x ∷ T) a (Memᴰ.head p) e = ap σ p ∙ ap (λ l. first l) e ∙ sym (ap σ' p)
    where
      first : List ℕ → ℕ
      first [] = 0
      first (x ∷ l) = x
  at_places (x ∷ T) a (Memᴰ.tail m) e = at_places T a m (ap (λ l. rest l) e)
    where
      rest : List ℕ → List ℕ
      rest [] = []
      rest (x ∷ l) = l

  -- then each number stands for the same class in both
  pub same_two : (i : ℕ) → i < h → TwoEdgeConnected E (ρ i) (ρ' i)
  same_two i l =
      let ps = places_same E S h H ρ σ g h H' ρ' σ' g' in
      by_idle i
      (λ a m q.
      let ta = (g.place a m).1 in
      let tb = (g'.place a m).1 in
      insep_trans E (insep_sym E (subst (λ (v : ℕ). TwoEdgeConnected E a (ρ v)) q ta)) (subst (λ (v : ℕ). TwoEdgeConnected E a (ρ' v)) (sym (at_places S a m ps) ∙ q) tb))
      (λ d. subst (λ (w : ℕ). TwoEdgeConnected E (ρ i) w) (same_idle (suc i) i (omega arith) l d (λ a m q. d a m (at_places S a m ps ∙ q))) (insep_refl E (ρ i)))

  -- two small graphs so numbered have the same edges
  pub the_one : H ≡ H'
  the_one = edges_same E S h H H' ρ ρ' σ σ' g g' same_two
