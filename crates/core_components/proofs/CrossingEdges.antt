-- Which edges of the half-edges cross a set: where one crosses a small cut no other does, and where no edge but one crosses at most one edge leaves the set.
-- Assumes nothing.
use Prim.Native.Nat.{◌*◌, ◌+◌, ◌<◌, ◌≤◌, suc, zero, ℕ}
use mathlib.Core.Bool.{Bool, false, false≢true, true, true≢false}
use mathlib.Core.Logic.{◌⊎◌, inl, inr}
use mathlib.Core.Path.{◌≡◌, ap, refl}
use lib.Dec.{eqb, ltb}
use native.Mathlib.Omega.{arith}
use borrow.Author.Tests.{eqb-false, eqb-true, ltb-false, ltb-true}
use Rattle.core_forest.specs.Forest.{edges_below}
use Rattle.theory_graph.proofs.Booleans.{on_bool}
use Rattle.theory_graph.proofs.Cuts.{crosses_le, crosses_same, crosses_zero}
use Rattle.theory_graph.specs.Cut.{crosses, cut}
use Rattle.theory_graph.specs.Graph.{NodeSet}

crosses_other : (a b : Bool) → (a ≡ b → ⊥) → crosses a b ≡ 1
crosses_other true true e = absurd (e refl)
crosses_other true false e = refl
crosses_other false true e = refl
crosses_other false false e = absurd (e refl)

pub bool_dec : (a b : Bool) → (a ≡ b) ⊎ (a ≡ b → ⊥)
bool_dec true true = inl refl
bool_dec true false = inr (λ e. true≢false e)
bool_dec false true = inr (λ e. false≢true e)
bool_dec false false = inl refl

module _ (U : NodeSet) (to : ℕ → ℕ) where
  crosses_at : ℕ → ℕ
  crosses_at e = crosses (U (to (2 * e))) (U (to (2 * e + 1)))

  crosses_at_le : (m e : ℕ) → e < m → crosses_at e ≤ cut U (edges_below to m)
  unfolding crosses_at
  crosses_at_le zero e l = absurd (omega arith)
  crosses_at_le (suc m) e l = on_bool (eqb e m)
      (λ q. let z : crosses_at e ≡ crosses_at m = ap crosses_at (eqb-true e m q) in omega arith)
      (λ q. let ne : ¬ (e ≡ m) = eqb-false e m q in omega (arith, crosses_at_le m e (omega arith)))

  crosses_at_two : (m i j : ℕ) → i < j → j < m → crosses_at i + crosses_at j ≤ cut U (edges_below to m)
  unfolding crosses_at
  crosses_at_two zero i j l k = absurd (omega arith)
  crosses_at_two (suc m) i j l k = on_bool (eqb j m)
      (λ q. let z : crosses_at j ≡ crosses_at m = ap crosses_at (eqb-true j m q) in omega (arith, crosses_at_le m i (omega (arith, eqb-true j m q))))
      (λ q. let ne : ¬ (j ≡ m) = eqb-false j m q in omega (arith, crosses_at_two m i j l (omega arith)))

  -- one edge crosses, so no other does
  pub one_crosses : (m : ℕ) → cut U (edges_below to m) ≤ 1 → (i j : ℕ) → i < m → j < m → (i ≡ j → ⊥) → (U (to (2 * i)) ≡ U (to (2 * i + 1)) → ⊥) → U (to (2 * j)) ≡ U (to (2 * j + 1))
  unfolding crosses_at
  one_crosses m h i j l k ne c =
      let a = crosses_other _ _ c in
      on_bool (ltb i j)
      (λ q. crosses_zero _ _ (omega (arith, crosses_at_two m i j (ltb-true i j q) k)))
      (λ q. crosses_zero _ _ (omega (arith, crosses_at_two m j i (omega (arith, ltb-false i j q)) l)))

  pub none_crosses : (m : ℕ) → ((e : ℕ) → e < m → U (to (2 * e)) ≡ U (to (2 * e + 1))) → cut U (edges_below to m) ≡ 0
  none_crosses zero h = refl
  none_crosses (suc m) h = omega (arith, none_crosses m (λ e l. h e (omega arith)), crosses_same (h m (omega arith)))

  -- no edge but f crosses
  pub only_one_crosses : (m f : ℕ) → ((e : ℕ) → e < m → (e ≡ f → ⊥) → U (to (2 * e)) ≡ U (to (2 * e + 1))) → cut U (edges_below to m) ≤ 1
  only_one_crosses zero f h = omega arith
  only_one_crosses (suc m) f h = on_bool (eqb m f)
      (λ q. omega (arith, none_crosses m (λ e l. h e (omega arith) (λ z. omega (arith, eqb-true m f q))), crosses_le (U (to (2 * m))) (U (to (2 * m + 1)))))
      (λ q. omega (arith, only_one_crosses m f (λ e l n. h e (omega arith) n), crosses_same (h m (omega arith) (eqb-false m f q))))
