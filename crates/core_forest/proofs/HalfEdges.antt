-- Half-edges and their twins.
-- Assumes nothing.
use Prim.Native.Nat.{◌%◌, ◌*◌, ◌+◌, ◌/◌, ◌<◌, ℕ}
use mathlib.Core.Logic.{inl, inr}
use mathlib.Core.Path.{◌∙◌, ◌≡◌, ap, refl, sym}
use lib.Dec.{eqb}
use native.Mathlib.Omega.{arith}
use borrow.Author.Tests.{eq-eqb, eqb-false, eqb-true, ne_eqb}
use Rattle.core_forest.specs.AdjacencyLists.{origin, twin}
use Rattle.core_forest.specs.Forest.{Joins}
use Rattle.theory_graph.proofs.Booleans.{on_bool}

pub twin_even : (e : ℕ) → twin (2 * e) ≡ 2 * e + 1
unfolding twin
twin_even e = rw (eq-eqb ((2 * e) % 2) 0 (omega arith)) refl

pub twin_odd : (e : ℕ) → twin (2 * e + 1) ≡ 2 * e
unfolding twin
twin_odd e = rw (ne_eqb ((2 * e + 1) % 2) 0 (λ z. omega arith)) (omega arith)

pub half_cases : {A : Type 0} (h : ℕ) → (h ≡ 2 * (h / 2) → A) → (h ≡ 2 * (h / 2) + 1 → A) → A
half_cases h f g = on_bool (eqb (h % 2) 0) (λ q. f (omega (arith, eqb-true (h % 2) 0 q))) (λ q. let ne : ¬ (h % 2 ≡ 0) = eqb-false (h % 2) 0 q in g (omega arith))

-- a half-edge joins the ends of its edge, and its twin goes back
pub half_joins : (to : ℕ → ℕ) (h : ℕ) → Joins to (h / 2) (to h) (origin to h)
unfolding origin
half_joins to h = half_cases h
    (λ e. inl (ap to (sym e), ap to (sym (ap twin e ∙ twin_even (h / 2)))))
    (λ e. inr (ap to (sym (ap twin e ∙ twin_odd (h / 2))), ap to (sym e)))

pub twin_back : (to : ℕ → ℕ) (m h : ℕ) → h < 2 * m → (twin h < 2 * m) × (to (twin h) ≡ origin to h) × (origin to (twin h) ≡ to h)
unfolding origin
twin_back to m h l = half_cases h
    (λ e.
    let q : twin h ≡ 2 * (h / 2) + 1 = ap twin e ∙ twin_even (h / 2) in
    (omega arith, refl, ap to (ap twin q ∙ twin_odd (h / 2) ∙ sym e)))
    (λ e.
    let q : twin h ≡ 2 * (h / 2) = ap twin e ∙ twin_odd (h / 2) in
    (omega arith, refl, ap to (ap twin q ∙ twin_even (h / 2) ∙ sym e)))
