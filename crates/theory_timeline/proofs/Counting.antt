-- Laws of counting: how many numbers of a range pass a test.
-- Assumes nothing.
use Prim.Native.Nat.{◌+◌, ◌<◌, ◌≤◌, suc, zero, ℕ}
use mathlib.Core.Bool.{Bool, ◌||◌, cond, false, true}
use mathlib.Core.List.{List, ◌∷◌}
use mathlib.Core.Path.{◌∙◌, ◌≡◌, ap, ap₂, refl, sym}
use lib.Dec.{eqb, ltb}
use lib.ListN.{length}
use native.Mathlib.Omega.{arith}
use borrow.Author.Tests.{eqb-false, eqb-true, le-ltb, lt-ltb}
use Rattle.theory_graph.proofs.Booleans.{on_bool}
use Rattle.theory_graph.specs.Lists.{any, filter, range}
use Rattle.theory_timeline.specs.Tags.{bit}

abbrev pub count : (ℕ → Bool) → ℕ → ℕ → ℕ
count f i k = length (filter f (range i k))

pub count_cons : (f : ℕ → Bool) (i k : ℕ) → count f i (suc k) ≡ cond (f i) 1 0 + count f (suc i) k
count_cons f i k = go (f i) (filter f (range (suc i) k))
  where
    go : (b : Bool) (l : List ℕ) → length (cond b (i ∷ l) l) ≡ cond b 1 0 + length l
    go true l = omega arith
    go false l = omega arith

pub count_split : (f : ℕ → Bool) (i a k : ℕ) → count f i (a + k) ≡ count f i a + count f (i + a) k
count_split f i zero k =
    let s : 0 + k ≡ k = omega arith in
    let t : i + 0 ≡ i = omega arith in
    let c : count f i (0 + k) ≡ count f (i + 0) k = ap (λ (m : ℕ). count f i m) s ∙ ap (λ (m : ℕ). count f m k) (sym t) in
    omega arith
count_split f i (suc a) k =
    let s : suc a + k ≡ suc (a + k) = omega arith in
    let t : suc i + a ≡ i + suc a = omega arith in
    let u = count_split f (suc i) a k in
    let v = ap (λ (m : ℕ). count f m k) t in
    ap (λ (m : ℕ). count f i m) s ∙ omega (arith, count_cons f i (a + k), count_cons f i a)

-- one number more at the end
pub count_suc : (f : ℕ → Bool) (i k : ℕ) → count f i (suc k) ≡ count f i k + cond (f (i + k)) 1 0
count_suc f i k = let z : suc k ≡ k + 1 = omega arith in
    ap (count f i) z ∙ count_split f i k 1 ∙ ap (λ (c : ℕ). count f i k + c) (count_cons f (i + k) 0 ∙ omega arith)

pub bit_most : (b : Bool) → bit b ≤ 1
bit_most true = omega arith
bit_most false = omega arith

pub count_most : (f : ℕ → Bool) (i n : ℕ) → count f i n ≤ n
count_most f i zero = omega arith
count_most f i (suc n) = omega (arith, count_cons f i n, bit_most (f i), count_most f (suc i) n)

-- some number passes just where the count is not 0
pub any_count : (f : ℕ → Bool) (i n : ℕ) → any f (range i n) ≡ ltb 0 (count f i n)
any_count f i zero = sym (le-ltb 0 0 (omega arith))
any_count f i (suc n) = ap (λ (b : Bool). f i || b) (any_count f (suc i) n) ∙ go (f i) ∙ ap (ltb 0) (sym (count_cons f i n))
  where
    go : (b : Bool) → (b || ltb 0 (count f (suc i) n)) ≡ ltb 0 (cond b 1 0 + count f (suc i) n)
    go true = sym (lt-ltb 0 (1 + count f (suc i) n) (omega arith))
    go false = let z : count f (suc i) n ≡ 0 + count f (suc i) n = omega arith in ap (ltb 0) z

pub count_same : (f h : ℕ → Bool) (i n : ℕ) → ((u : ℕ) → i ≤ u → h u ≡ f u) → count h i n ≡ count f i n
count_same f h i zero e = refl
count_same f h i (suc n) e =
    count_cons h i n ∙ ap₂ (λ (b : Bool) (c : ℕ). cond b 1 0 + c) (e i (omega arith)) (count_same f h (suc i) n (λ u l. e u (omega arith))) ∙ sym (count_cons f i n)

-- h has s besides what f has
pub count_more : (f h : ℕ → Bool) (s i n : ℕ) → i ≤ s → s < i + n → f s ≡ false → h s ≡ true → ((u : ℕ) → ¬ (u ≡ s) → h u ≡ f u) → count h i n ≡ count f i n + 1
count_more f h s i zero a b p q e = absurd (omega arith)
count_more f h s i (suc n) a b p q e = on_bool (eqb i s)
    (λ t. let z = eqb-true i s t in
    let r = count_same f h (suc i) n (λ u l. e u (λ x. omega arith)) in
    let c : ◌≡◌ {A = ℕ} (cond (f i) 1 0) 0 = ap (λ (b : Bool). cond b 1 0) (ap f z ∙ p) in
    let d : ◌≡◌ {A = ℕ} (cond (h i) 1 0) 1 = ap (λ (b : Bool). cond b 1 0) (ap h z ∙ q) in
    omega (arith, count_cons f i n, count_cons h i n))
    (λ t. let ne : ¬ (i ≡ s) = eqb-false i s t in
    let r = count_more f h s (suc i) n (omega arith) (omega arith) p q e in
    let c : ◌≡◌ {A = ℕ} (cond (h i) 1 0) (cond (f i) 1 0) = ap (λ (b : Bool). cond b 1 0) (e i ne) in
    omega (arith, count_cons f i n, count_cons h i n))
