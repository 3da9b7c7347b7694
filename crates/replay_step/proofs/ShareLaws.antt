-- The parts of a window by its share, and the windows that a share leads to.
-- Assumes nothing.
use Prim.Native.Nat.{◌*◌, ◌+◌, ◌-◌, ◌<◌, ◌≤◌, suc, zero, ℕ}
use mathlib.Core.List.{List, [], ◌++◌, ◌∷◌, map}
use mathlib.Core.Path.{◌∙◌, ◌≡◌, ap, ap₂, sym}
use lib.Dec.{ltb}
use native.Mathlib.Nat.{mul-le-mul_left}
use native.Mathlib.Omega.{arith}
use borrow.Author.Tests.{ltb-false, ltb-true}
use Rattle.theory_graph.proofs.Booleans.{on_bool}
use Rattle.theory_graph.specs.Lists.{sum}
use Rattle.theory_timeline.proofs.WindowLaws.{large_one, small_one}
use Rattle.theory_timeline.specs.DemandThree.{Allowed}
use Rattle.theory_timeline.specs.Windows.{Window, first_part, windows_from}

-- ---- the parts of a share
pub record Shares (n c : ℕ) : Type 0 where
  pub some : 1 ≤ c
  pub less : c < n
  pub first : 11 * c ≤ 10 * n
  pub second : 11 * (n - c) ≤ 10 * n

pub shares : (p n : ℕ) → 2 ≤ n → Allowed p → Shares n (first_part p n)
shares p n h a =
    let l : n * 4 ≤ n * p = mul-le-mul_left n a.0 in
    let u : n * p ≤ n * 12 = mul-le-mul_left n a.1 in
    record { some = omega arith; less = omega arith; first = omega arith; second = omega arith }

-- ---- the windows of a share
module _ (p : ℕ) (a : Allowed p) where
  windows_same : (k l at n : ℕ) → n ≤ k → n ≤ l → 0 < n → windows_from p k at n ≡ windows_from p l at n
  windows_same zero l at n x y z = absurd (omega arith)
  windows_same (suc k) zero at n x y z = absurd (omega arith)
  windows_same (suc k) (suc l) at n x y z =
      on_bool (ltb n 2) (λ t. small_one p a k at n (ltb-true n 2 t) ∙ sym (small_one p a l at n (ltb-true n 2 t))) (λ t.
      let two = ltb-false n 2 t in
      let s = shares p n two a in
      large_one p a k at n two
      ∙ ap₂ (λ (u v : List Window). (at, n) ∷ u ++ v) (windows_same k l at (first_part p n) (omega arith) (omega arith) (omega arith))
      (windows_same k l (at + first_part p n) (n - first_part p n) (omega arith) (omega arith) (omega arith))
      ∙ sym (large_one p a l at n two))

  windows_two : (at n : ℕ) → 2 ≤ n → windows_from p n at n ≡ (at, n) ∷ windows_from p (first_part p n) at (first_part p n) ++ windows_from p (n - first_part p n)
      (at + first_part p n) (n - first_part p n)
  windows_two at zero h = absurd (omega arith)
  windows_two at (suc k) h =
      let s = shares p (suc k) h a in
      large_one p a k at (suc k) h
      ∙ ap₂ (λ (u v : List Window). (at, suc k) ∷ u ++ v) (windows_same k (first_part p (suc k)) at (first_part p (suc k)) (omega arith) (omega arith) (omega arith))
      (windows_same k (suc k - first_part p (suc k)) (at + first_part p (suc k)) (suc k - first_part p (suc k)) (omega arith) (omega arith) (omega arith))

  sum_both : (f : Window → ℕ) (u v : List Window) → sum (map f (u ++ v)) ≡ sum (map f u) + sum (map f v)
  sum_both f [] v = omega arith
  sum_both f (w ∷ u) v = omega (arith, sum_both f u v)

  pub sum_two : (f : Window → ℕ) (at n c : ℕ) → 2 ≤ n → c ≡ first_part p n
      → sum (map f (windows_from p n at n)) ≡ f (at, n) + sum (map f (windows_from p c at c)) + sum (map f (windows_from p (n - c) (at + c) (n - c)))
  sum_two f at n c h q =
      let r = sum_both f (windows_from p (first_part p n) at (first_part p n)) (windows_from p (n - first_part p n) (at + first_part p n) (n - first_part p n)) in
      rw q (ap (λ l. sum (map f l)) (windows_two at n h) ∙ omega arith)

  pub sum_one : (f : Window → ℕ) (at : ℕ) → sum (map f (windows_from p 1 at 1)) ≡ f (at, 1)
  sum_one f at = let l : 1 < 2 = omega arith in ap (λ l. sum (map f l)) (small_one p a 0 at 1 l) ∙ omega arith
