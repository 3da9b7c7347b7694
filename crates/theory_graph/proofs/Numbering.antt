-- The listed edges of a contraction: which pairs are listed, and that they ascend; and that numbers by position come in order of first appearance.
-- Assumes nothing.
use Prim.Native.Nat.{◌+◌, ◌<◌, suc, ℕ}
use mathlib.Core.Bool.{Bool, ◌&&◌, ◌||◌, cond, false, not, or-true, true}
use mathlib.Core.List.Memᴰ
use mathlib.Core.List.{List, Memᴰ, [], ◌++◌, ◌∷◌, map}
use mathlib.Core.Logic.{◌⊎◌, inl, inr}
use mathlib.Core.Path.{◌∙◌, ◌≡◌, ap, ap₂, refl, subst, sym}
use lib.Dec.{eqb, ltb}
use native.Mathlib.Omega.{arith}
use borrow.Author.Tests.{eq-eqb, lt-ltb}
use Rattle.theory_graph.proofs.Booleans.{and_elim, contradict, on_bool}
use Rattle.theory_graph.proofs.Lists.{Nth, filter_both, here, mem_append, nth_low, there}
use Rattle.theory_graph.specs.Contraction.{links, links_from}
use Rattle.theory_graph.specs.Graph.{Edge}
use Rattle.theory_graph.specs.Lists.{filter, firsts, position}
use Rattle.theory_graph.specs.SmallGraph.{Ascends, EdgeLess, LessAll, in_order}

links_from_out : (L : ℕ → Bool) (i j : ℕ) (ss : List ℕ) (e : Edge) → Memᴰ e (links_from L i j ss) → (e.0 ≡ i) × ((s : ℕ) × Nth s j ss e.1 × (L s ≡ true))
links_from_out L i j [] e m = absurd (elim m [ ])
links_from_out L i j (s ∷ ss) e m = go (L s) refl m (links_from_out L i (suc j) ss e)
  where
    Out : ℕ → List ℕ → Type 0
    Out j ss = (e.0 ≡ i) × ((s : ℕ) × Nth s j ss e.1 × (L s ≡ true))

    next : (e.0 ≡ i) × ((s : ℕ) × Nth s (suc j) ss e.1 × (L s ≡ true)) → (e.0 ≡ i) × ((t : ℕ) × Nth t j (s ∷ ss) e.1 × (L t ≡ true))
    next (a, b) = (a, (b.0, there b.1, b.2))

    go : (b : Bool) → L s ≡ b → Memᴰ e (cond b ((i, j) ∷ links_from L i (suc j) ss) (links_from L i (suc j) ss))
        → (Memᴰ e (links_from L i (suc j) ss) → (e.0 ≡ i) × ((s : ℕ) × Nth s (suc j) ss e.1 × (L s ≡ true))) → (e.0 ≡ i) × ((t : ℕ) × Nth t j (s ∷ ss) e.1 × (L t ≡ true))
    go true l (Memᴰ.head p) f = (ap (λ (e : Edge). e.0) p, (s, subst (λ (v : ℕ). Nth s j (s ∷ ss) v) (sym (ap (λ (e : Edge). e.1) p)) here, l))
    go true l (Memᴰ.tail m) f = next (f m)
    go false l m f = next (f m)

links_from_in : (L : ℕ → Bool) (i : ℕ) {s j k : ℕ} {ss : List ℕ} → Nth s j ss k → L s ≡ true → Memᴰ (i, k) (links_from L i j ss)
links_from_in L i {j} (here {xs = ss}) l = subst (λ (b : Bool). Memᴰ (i, j) (cond b ((i, j) ∷ links_from L i (suc j) ss) (links_from L i (suc j) ss))) (sym l) (Memᴰ.head refl)
links_from_in L i {j} {k} (there {x = x} {xs = ss} n) l = go (L x) (links_from_in L i n l)
  where
    go : (b : Bool) → Memᴰ (i, k) (links_from L i (suc j) ss) → Memᴰ (i, k) (cond b ((i, j) ∷ links_from L i (suc j) ss) (links_from L i (suc j) ss))
    go true m = Memᴰ.tail m
    go false m = m

pub record Listed (L : ℕ → ℕ → Bool) (i : ℕ) (cs : List ℕ) (e : Edge) : Type 0 where
  pub r : ℕ
  pub s : ℕ
  pub nr : Nth r i cs e.0
  pub ns : Nth s i cs e.1
  pub lt : e.0 < e.1
  pub on : L r s ≡ true

pub links_out : (L : ℕ → ℕ → Bool) (i : ℕ) (cs : List ℕ) (e : Edge) → Memᴰ e (links L i cs) → Listed L i cs e
links_out L i [] e m = absurd (elim m [ ])
links_out L i (r ∷ rs) e m = go (Memᴰ.append_cases (links_from (L r) i (suc i) rs) m) (links_out L (suc i) rs e)
  where
    go : Memᴰ e (links_from (L r) i (suc i) rs) ⊎ Memᴰ e (links L (suc i) rs) → (Memᴰ e (links L (suc i) rs) → Listed L (suc i) rs e) → Listed L i (r ∷ rs) e
    go (inl m) f =
        let (p, (s, n, l)) = links_from_out (L r) i (suc i) rs e m in
        let (a, b) = nth_low n in
        record { r = r; s = s; nr = subst (λ (v : ℕ). Nth r i (r ∷ rs) v) (sym p) here; ns = there n; lt = omega arith; on = l }
    go (inr m) f = let x = f m in record { r = x.r; s = x.s; nr = there x.nr; ns = there x.ns; lt = x.lt; on = x.on }

pub links_in : (L : ℕ → ℕ → Bool) {r s i j k : ℕ} {cs : List ℕ} → Nth r i cs j → Nth s i cs k → j < k → L r s ≡ true → Memᴰ (j, k) (links L i cs)
links_in L here here l t = absurd (omega arith)
links_in L {r} {s} {i} (here {xs = rs}) (there n) l t = mem_append (links_from (L r) i (suc i) rs) (links L (suc i) rs) (inl (links_from_in (L r) i n t))
links_in L (there m) here l t = let (a, b) = nth_low m in absurd (omega arith)
links_in L {i} (there {x = x} {xs = rs} m) (there n) l t = mem_append (links_from (L x) i (suc i) rs) (links L (suc i) rs) (inr (links_in L m n l t))

less_all_from : (e : Edge) (H : List Edge) → ((f : Edge) → Memᴰ f H → EdgeLess e f) → LessAll e H
less_all_from e [] k = tt
less_all_from e (f ∷ H) k = (k f (Memᴰ.head refl), less_all_from e H (λ g m. k g (Memᴰ.tail m)))

links_from_ascends : (L : ℕ → Bool) (i j : ℕ) (ss : List ℕ) → Ascends (links_from L i j ss)
links_from_ascends L i j [] = tt
links_from_ascends L i j (s ∷ ss) = go (L s) (links_from_ascends L i (suc j) ss)
  where
    go : (b : Bool) → Ascends (links_from L i (suc j) ss) → Ascends (cond b ((i, j) ∷ links_from L i (suc j) ss) (links_from L i (suc j) ss))
    go true a =
        (less_all_from (i, j) (links_from L i (suc j) ss) (λ f m. let (p, (s, n, l)) = links_from_out L i (suc j) ss f m in let (x, y) = nth_low n in inr (sym p, omega arith)), a)
    go false a = a

append_ascends : (G H : List Edge) → Ascends G → Ascends H → ((e f : Edge) → Memᴰ e G → Memᴰ f H → EdgeLess e f) → Ascends (G ++ H)
append_ascends [] H a b k = b
append_ascends (e ∷ G) H a b k =
    (above_append e G H a.0 (less_all_from e H (λ f m. k e f (Memᴰ.head refl) m)), append_ascends G H a.1 b (λ e f m n. k e f (Memᴰ.tail m) n))
  where
    above_append : (e : Edge) (G H : List Edge) → LessAll e G → LessAll e H → LessAll e (G ++ H)
    above_append e [] H a b = b
    above_append e (f ∷ G) H a b = (a.0, above_append e G H a.1 b)

pub links_ascends : (L : ℕ → ℕ → Bool) (i : ℕ) (cs : List ℕ) → Ascends (links L i cs)
links_ascends L i [] = tt
links_ascends L i (r ∷ rs) =
    append_ascends (links_from (L r) i (suc i) rs) (links L (suc i) rs) (links_from_ascends (L r) i (suc i) rs) (links_ascends L (suc i) rs)
    (λ e f m n. let p = (links_from_out (L r) i (suc i) rs e m).0 in let x = links_out L (suc i) rs f n in let (a, b) = nth_low x.nr in inl (omega arith))

module _ (R : ℕ → ℕ → Bool) (r : (x : ℕ) → R x x ≡ true) (t : (x y z : ℕ) → R x y ≡ true → R y z ≡ true → R x z ≡ true) (σ : ℕ → ℕ) (T : List ℕ) where
  pub in_order_lem : (S : List ℕ) (f : ℕ → Bool) (n : ℕ) → ((x c : ℕ) → R x c ≡ true → f c ≡ true → f x ≡ true)
      → ((a : ℕ) → f a ≡ true → σ a ≡ n + position (λ c. R c a) (filter f (firsts R (S ++ T)))) → ((a : ℕ) → f a ≡ false → σ a < n) → in_order n (map σ S) ≡ true
  in_order_lem [] f n sat at_f off-f = refl
  in_order_lem (x ∷ S) f n sat at_f off-f =
      let rest = firsts R (S ++ T) in
      let k : ℕ → Bool = λ y. not (R x y) in
      let fk : ℕ → Bool = λ y. f y && k y in
      on_bool (f x)
      (λ p.
      let E1 : filter f (x ∷ filter k rest) ≡ x ∷ filter fk rest = ap₂ (λ b m. cond b (x ∷ m) m) p (filter_both f k fk (λ c. refl) rest) in
      let val : (a : ℕ) → f a ≡ true → σ a ≡ n + cond (R x a) 0 (suc (position (λ c. R c a) (filter fk rest))) = λ a q. at_f a q ∙ ap (λ l. n + position (λ c. R c a) l) E1 in
      let e : σ x ≡ n = val x p ∙ ap (λ b. n + cond b 0 (suc (position (λ c. R c x) (filter fk rest)))) (r x) ∙ plus_0 n in
      let ih : in_order (suc n) (map σ S) ≡ true =
      in_order_lem S fk (suc n)
      (λ y c q w. and_elim (f c) (k c) w λ u v.
      ap₂ ◌&&◌ (sat y c q u) (on_bool (R x y) (λ z. contradict v (ap not (t x y c z q))) (λ z. ap not z)))
      (λ a w. and_elim (f a) (k a) w λ u v. val a u ∙ ap (λ b. n + cond b 0 (suc (position (λ c. R c a) (filter fk rest)))) (no_true (R x a) v)
      ∙ plus_suc n (position (λ c. R c a) (filter fk rest)))
      (λ a w.
      on_bool (f a) (λ u. let z : R x a ≡ true = yes_true (f a) (R x a) u
      w in omega (arith, val a u ∙ ap (λ b. n + cond b 0 (suc (position (λ c. R c a) (filter fk rest)))) z)) (λ u. omega (arith, off-f a u))) in
      ap (λ b. ltb (σ x) n && in_order n (map σ S) || b) (ap₂ ◌&&◌ (eq-eqb (σ x) n e) ih) ∙ or-true (ltb (σ x) n && in_order n (map σ S)))
      (λ p.
      let E2 : filter f (x ∷ filter k rest) ≡ filter f rest = ap (λ b. cond b (x ∷ filter f (filter k rest)) (filter f (filter k rest))) p
      ∙ filter_both f k f (λ c. same (f c) (R x c) (λ u v. contradict (sat x c v u) p)) rest in
      let ih : in_order n (map σ S) ≡ true = in_order_lem S f n sat (λ a q. at_f a q ∙ ap (λ l. n + position (λ c. R c a) l) E2) off-f in
      ap (λ b. b || eqb (σ x) n && in_order (suc n) (map σ S)) (ap₂ ◌&&◌ (lt-ltb (σ x) n (off-f x p)) ih))
    where
      plus_0 : (n : ℕ) → n + 0 ≡ n
      plus_0 n = omega arith

      plus_suc : (n m : ℕ) → n + suc m ≡ suc n + m
      plus_suc n m = omega arith

      no_true : (b : Bool) → not b ≡ true → b ≡ false
      no_true true h = contradict refl (sym h)
      no_true false h = refl

      yes_true : (a b : Bool) → a ≡ true → (a && not b) ≡ false → b ≡ true
      yes_true true true p q = refl
      yes_true true false p q = contradict refl q
      yes_true false b p q = contradict p refl

      same : (a b : Bool) → (a ≡ true → b ≡ true → ⊥) → (a && not b) ≡ a
      same true true h = absurd (h refl refl)
      same true false h = refl
      same false b h = refl
