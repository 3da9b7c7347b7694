-- Laws on functions: the first number with a property, the lists of larger children, the edges written, and that there are at most h of them.
-- Assumes nothing.
use Prim.Native.Nat.{◌+◌, ◌-◌, ◌<◌, ◌≤◌, suc, zero, ℕ}
use mathlib.Core.Bool.{cond}
use mathlib.Core.List.{Memᴰ}
use mathlib.Core.Logic.{◌⊎◌, inl, inr, ⊎_elim}
use mathlib.Core.Path.{◌∙◌, ◌≡◌, ap, refl, sym}
use lib.Dec.{eqb, ltb}
use native.Mathlib.Omega.{arith}
use borrow.Author.Tests.{eqb-false, eqb-true, ltb-false, ltb-true}
use Rattle.core_reduce.specs.EdgeList.{ChildLists, EdgePair, FirstFrom, IfAbove, LargerChild, LargerParent, LeastNonzero, ListedPairs, edge_table}
use Rattle.core_forest.proofs.Counting.{count_less, count_more, count_none}
use Rattle.core_forest.specs.Search.{count_nonzero}
use Rattle.theory_graph.proofs.Booleans.{on_bool}
use Rattle.theory_graph.specs.Graph.{Edge}
use Rattle.theory_graph.specs.SmallGraph.{Ascends, EdgeLess, LessAll}
use Rattle.core_words.proofs.FieldLaws.{update_at, update_other, update_same}
use Rattle.core_words.specs.Fields.{update}

pub first_least : {P Q : ℕ → Type 0} {f a b r : ℕ} → FirstFrom P f a → FirstFrom Q f b → LeastNonzero a b r → FirstFrom (λ y. P y ⊎ Q y) f r
first_least {P} {Q} {f} {a} {b} {r} p q l = record {
  at = λ z. ⊎_elim
      (λ e. let k = p.at (omega arith) in rw e (k.0, inl k.1))
      (λ e. let k = q.at (omega arith) in rw e (k.0, inr k.1))
      l.one;
  gap = λ y k. ⊎_elim
      (λ x. let g = p.gap y k x in let d = l.left g.0 in (d.0, omega arith))
      (λ x. let g = q.gap y k x in let d = l.right g.0 in (d.0, omega arith));
}

pub first_after : {h s u f r : ℕ} (up : ℕ → ℕ) → s < f → u ≡ up s → u ≤ h → IfAbove u f r → FirstFrom (LargerParent h up s) f r
first_after {h} {s} {u} {f} {r} up l e k = ⊎_elim
    (λ a. rw a.1 (record { at = λ z. (a.0, (omega (arith, a.0), omega arith, sym e ∙ omega (arith, a.0))); gap = λ y i p. let q : u ≡ y + 1 = e ∙ p.2 in (omega arith, omega arith) }))
    (λ a. rw a.1 (record { at = λ z. absurd (omega arith); gap = λ y i p. let q : u ≡ y + 1 = e ∙ p.2 in absurd (omega (arith, a.0)) }))

pub first_down : {P : ℕ → Type 0} {x c : ℕ} → (P x → ⊥) → FirstFrom P (x + 1) c → FirstFrom P x c
first_down {P} {x} n p = record {
  at = λ z. let k = p.at z in (omega (arith, k.0), k.1);
  gap = λ y l q. on_bool (eqb x y) (λ e. absurd (n (rw (eqb-true x y e) q))) (λ e. let ne : ¬ (x ≡ y) = eqb-false x y e in p.gap y (omega arith) q);
}

-- past t, which is not where it was
pub first_stay : {P : ℕ → Type 0} {f t c : ℕ} → FirstFrom P f c → f ≤ t → ((y : ℕ) → f ≤ y → P y → t ≤ y + 1) → (c ≡ t → ⊥) → FirstFrom P t c
first_stay {P} {f} {t} {c} p l g ne = record {
  at = λ z. let k = p.at z in (omega (arith, k.0, g (c - 1) (omega arith) k.1), k.1);
  gap = λ y i. p.gap y (omega arith);
}

pub first_none : {P : ℕ → Type 0} {f : ℕ} → ((y : ℕ) → f ≤ y → P y → ⊥) → FirstFrom P f 0
first_none n = record { at = λ z. absurd (omega arith); gap = λ y l p. absurd (n y l p) }

module _ {h x : ℕ} {up head next : ℕ → ℕ} (l : ChildLists h (x + 1) up head next) where
  pub lists_skip : ((s : ℕ) → LargerChild h up s x → ⊥) → ChildLists h x up head next
  lists_skip n = record {
    heads = λ s i. first_down (n s) (l.heads s i);
    nexts = λ s y i c. on_bool (eqb x y) (λ e. absurd (n s (rw (eqb-true x y e) c))) (λ e. let ne : ¬ (x ≡ y) = eqb-false x y e in l.nexts s y (omega arith) c);
  }

  pub lists_push : (u : ℕ) → u ≡ up x → 0 < u → u ≤ x → x < h → ChildLists h x up (update head (u - 1) (x + 1)) (update next x (head (u - 1)))
  lists_push u e p k i = record {
    heads = update_at (λ s y. s < h → FirstFrom (LargerChild h up s) x y) head (u - 1) (x + 1)
        (λ _. record { at = λ z. let q : x + 1 - 1 ≡ x = omega arith in rw q (omega arith, (omega arith, omega arith, sym e ∙ omega arith)); gap = λ y a b. (omega arith, omega arith) })
        (λ s ne j. first_down (λ c. ne (let q : u ≡ s + 1 = e ∙ c.2 in omega arith)) (l.heads s j));
    nexts = λ s y. update_at (λ y z. x ≤ y → LargerChild h up s y → FirstFrom (LargerChild h up s) (y + 1) z) next x (head (u - 1))
        (λ _ c. let q : u ≡ s + 1 = e ∙ c.2 in let r : u - 1 ≡ s = omega arith in rw r (l.heads s (omega (arith, c.0))))
        (λ y ne a c. l.nexts s y (omega arith) c) y;
  }

module _ {P : ℕ → ℕ → Type 0} {ea eb : ℕ → ℕ} {m s f : ℕ} (l : ListedPairs P ea eb m s f) where
  -- one more
  pub listed_more : (t : ℕ) → FirstFrom (P s) f (t + 1) → ListedPairs P (update ea m s) (update eb m t) (m + 1) s (t + 1)
  listed_more t p = record {
    rise = λ i j a b. on_bool (eqb j m)
        (λ q. let e = eqb-true j m q in rw (e, update_same ea m s, update_same eb m t, oa i (omega arith), ob i (omega arith)) (up_to (ea i) (eb i) (l.real i (omega arith)).1))
        (λ q. let ne : ¬ (j ≡ m) = eqb-false j m q in rw (oa j (omega arith), ob j (omega arith), oa i (omega arith), ob i (omega arith)) (l.rise i j a (omega arith)));
    real = λ i a. on_bool (eqb i m)
        (λ q. let e = eqb-true i m q in rw (e, update_same ea m s, update_same eb m t)
        (let k = p.at (omega arith) in let z : t + 1 - 1 ≡ t = omega arith in (rw z at k.1, inr (refl, omega arith))))
        (λ q. let ne : ¬ (i ≡ m) = eqb-false i m q in let k = l.real i (omega arith) in
        rw (oa i (omega arith), ob i (omega arith)) (k.0, ⊎_elim (λ x. inl x) (λ x. inr (x.0, omega (arith, x.1, (p.at (omega arith)).0))) k.1));
    all = λ x y c. ⊎_elim
        (λ k. old (l.all x y c (inl k)))
        (λ k. on_bool (eqb y t)
        (λ q. (m, omega arith, update_same ea m s ∙ sym k.0, update_same eb m t ∙ sym (eqb-true y t q)))
        (λ q. let ne : ¬ (y ≡ t) = eqb-false y t q in on_bool (ltb y f)
        (λ z. old (l.all x y c (inr (k.0, ltb-true y f z))))
        (λ z. absurd (omega (arith, k.1, (p.gap y (ltb-false y f z) (rw k.0 at c)).1)))));
  }
    where
      oa : (i : ℕ) → i < m → update ea m s i ≡ ea i
      oa i a = update_other ea m s i (λ e. omega arith)

      ob : (i : ℕ) → i < m → update eb m t i ≡ eb i
      ob i a = update_other eb m t i (λ e. omega arith)

      up_to : (x y : ℕ) → EdgeLess (x, y) (s, f) → EdgeLess (x, y) (s, t)
      up_to x y = ⊎_elim (λ k. inl k) (λ k. inr (k.0, omega (arith, k.1, (p.at (omega arith)).0)))

      old : {x y : ℕ} → (i : ℕ) × (i < m) × (ea i ≡ x) × (eb i ≡ y) → (i : ℕ) × (i < m + 1) × (update ea m s i ≡ x) × (update eb m t i ≡ y)
      old (i, a, b, c) = (i, omega arith, oa i a ∙ b, ob i a ∙ c)

  -- no more with the smaller end s
  pub listed_next : FirstFrom (P s) f 0 → ((y : ℕ) → P (s + 1) y → s + 1 < y) → ListedPairs P ea eb m (s + 1) (s + 1 + 1)
  listed_next p n = record {
    rise = l.rise;
    real = λ i a. let k = l.real i a in (k.0, ⊎_elim (λ x. inl (omega arith)) (λ x. inl (omega (arith, x.0))) k.1);
    all = λ x y c. ⊎_elim
        (λ k. on_bool (eqb x s)
        (λ q. let e = eqb-true x s q in on_bool (ltb y f)
        (λ z. l.all x y c (inr (e, ltb-true y f z)))
        (λ z. absurd (omega (arith, (p.gap y (ltb-false y f z) (rw e at c)).0))))
        (λ q. let ne : ¬ (x ≡ s) = eqb-false x s q in l.all x y c (inl (omega arith))))
        (λ k. absurd (omega (arith, k.1, n y (rw k.0 at c))));
  }

pub listed_none : {P : ℕ → ℕ → Type 0} (ea eb : ℕ → ℕ) → ((y : ℕ) → P 0 y → 0 < y) → ListedPairs P ea eb 0 0 1
listed_none ea eb n = record {
  rise = λ i j a b. absurd (omega arith);
  real = λ i a. absurd (omega arith);
  all = λ x y c. ⊎_elim (λ k. absurd (omega arith)) (λ k. absurd (omega (arith, k.1, n y (rw k.0 at c))));
}

marked : (ℕ → ℕ) → ℕ → ℕ → ℕ
marked g zero = λ _. 0
marked g (suc k) = update (marked g k) (g k) (0 + 1)

marked_outside : (g : ℕ → ℕ) (k v : ℕ) → ((i : ℕ) → i < k → v ≡ g i → ⊥) → marked g k v ≡ 0
unfolding marked
marked_outside g zero v n = refl
marked_outside g (suc k) v n = update_other (marked g k) (g k) (0 + 1) v (n k (omega arith)) ∙ marked_outside g k v (λ i l. n i (omega arith))

marked_count : (g : ℕ → ℕ) (h m k : ℕ) → k ≤ m → ((i : ℕ) → i < m → g i < h) → ((i j : ℕ) → i < j → j < m → g j ≡ g i → ⊥) → count_nonzero (marked g k) h ≡ k
unfolding marked
marked_count g h m zero l a b = count_none (λ _. 0) h (λ u _. refl)
marked_count g h m (suc k) l a b =
    count_more (marked g k) h (g k) 0 (a k (omega arith)) (marked_outside g k (g k) (λ i z. b i k z (omega arith))) ∙ (rw (marked_count g h m k (omega arith) a b) (omega arith))

-- different numbers below h: at most h
pub at_most : (g : ℕ → ℕ) (h m : ℕ) → ((i : ℕ) → i < m → g i < h) → ((i j : ℕ) → i < j → j < m → g j ≡ g i → ⊥) → m ≤ h
at_most g h zero a b = omega arith
at_most g h (suc k) a b =
    omega (arith, count_less (marked g k) h (g k) (a k (omega arith)) (marked_outside g k (g k) (λ i z. b i k z (omega arith))), marked_count g h (suc k) k (omega arith) a b)

module _ {h : ℕ} {up ea eb : ℕ → ℕ} {m s f : ℕ} (l : ListedPairs (EdgePair h up) ea eb m s f) where
  -- the number whose pair it is
  whose : ℕ → ℕ
  whose i = cond (eqb (up (eb i)) (ea i + 1)) (eb i) (ea i)

  whose_is : {A : Type 0} (i : ℕ) → i < m → (whose i ≡ eb i → LargerChild h up (ea i) (eb i) → A) → (whose i ≡ ea i → LargerParent h up (ea i) (eb i) → A) → A
  unfolding whose
  whose_is i a k o = on_bool (eqb (up (eb i)) (ea i + 1))
      (λ q. ⊎_elim (λ c. k (rw q refl) c) (λ c. k (rw q refl) (c.0, c.1, eqb-true (up (eb i)) (ea i + 1) q)) (l.real i a).0)
      (λ q. ⊎_elim (λ c. absurd (eqb-false (up (eb i)) (ea i + 1) q c.2)) (λ c. o (rw q refl) c) (l.real i a).0)

  less_not : (x y x' y' : ℕ) → EdgeLess (x, y) (x', y') → x ≡ x' → y ≡ y' → ⊥
  less_not x y x' y' k p q = ⊎_elim (λ z. omega arith) (λ z. omega (arith, z.1)) k

  pub listed_few : m ≤ h
  listed_few = at_most whose h m
      (λ i a. whose_is i a (λ e c. rw e c.1) (λ e c. rw e (omega (arith, c.0, c.1))))
      (λ i j a b q.
      let r = l.rise i j a b in
      whose_is i (omega arith)
      (λ e c. whose_is j b
      (λ e' c'. let z : eb j ≡ eb i = sym e' ∙ q ∙ e in less_not (ea i) (eb i) (ea j) (eb j) r (let y : ea i + 1 ≡ ea j + 1 = sym c.2 ∙ ap up (sym z) ∙ c'.2 in omega arith) (sym z))
      (λ e' c'. let z : ea j ≡ eb i = sym e' ∙ q ∙ e in let y : ea i + 1 ≡ eb j + 1 = sym c.2 ∙ ap up (sym z) ∙ c'.2 in omega (arith, c.0, c'.0)))
      (λ e c. whose_is j b
      (λ e' c'. let z : eb j ≡ ea i = sym e' ∙ q ∙ e in let y : eb i + 1 ≡ ea j + 1 = sym c.2 ∙ ap up (sym z) ∙ c'.2 in omega (arith, c.0, c'.0))
      (λ e' c'. let z : ea j ≡ ea i = sym e' ∙ q ∙ e in less_not (ea i) (eb i) (ea j) (eb j) r (sym z) (let y : eb i + 1 ≡ eb j + 1 = sym c.2 ∙ ap up (sym z) ∙ c'.2 in omega arith))))

module _ (ea eb : ℕ → ℕ) where
  pub edge_in : (i k j : ℕ) → i ≤ j → j < i + k → Memᴰ (ea j, eb j) (edge_table ea eb i k)
  edge_in i zero j a b = absurd (omega arith)
  edge_in i (suc k) j a b = on_bool (eqb j i)
      (λ q. Memᴰ.head (ap (λ v. (ea v, eb v)) (eqb-true j i q)))
      (λ q. let ne : ¬ (j ≡ i) = eqb-false j i q in Memᴰ.tail (edge_in (suc i) k j (omega arith) (omega arith)))

  pub edge_out : (i k : ℕ) (e : Edge) → Memᴰ e (edge_table ea eb i k) → (j : ℕ) × (i ≤ j) × (j < i + k) × (e ≡ (ea j, eb j))
  edge_out i zero e q = absurd (elim q [ ])
  edge_out i (suc k) e (Memᴰ.head p) = (i, omega arith, omega arith, p)
  edge_out i (suc k) e (Memᴰ.tail q) = let (j, a, b, p) = edge_out (suc i) k e q in (j, omega arith, omega arith, p)

  above : (e : Edge) (i k : ℕ) → ((j : ℕ) → i ≤ j → j < i + k → EdgeLess e (ea j, eb j)) → LessAll e (edge_table ea eb i k)
  above e i zero a = tt
  above e i (suc k) a = (a i (omega arith) (omega arith), above e (suc i) k (λ j b c. a j (omega arith) (omega arith)))

  pub edges_ascend : (i k : ℕ) → ((x y : ℕ) → x < y → y < i + k → EdgeLess (ea x, eb x) (ea y, eb y)) → Ascends (edge_table ea eb i k)
  edges_ascend i zero r = tt
  edges_ascend i (suc k) r = (above (ea i, eb i) (suc i) k (λ j b c. r i j (omega arith) (omega arith)), edges_ascend (suc i) k (λ x y a b. r x y a (omega arith)))
