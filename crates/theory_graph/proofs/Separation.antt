-- Separated and Inseparable (docs/theory.md 2, 4): inseparable nodes form classes; a class lies on one side of each small cut; small cuts of one piece do
-- not cross.
-- Assumes nothing.
use Prim.Native.Nat.{◌<◌, ◌≤◌, ℕ}
use mathlib.Core.Bool.{Bool, ◌&&◌, ◌||◌, false, not, true, true≢false}
use mathlib.Core.List.{List}
use mathlib.Core.Path.{◌∙◌, ◌≡◌, ap, ap₂, refl, sym}
use native.Mathlib.Omega.{arith}
use Rattle.theory_graph.proofs.Booleans.{contradict, on_bool}
use Rattle.theory_graph.proofs.Cuts.{cut_complement, cut_posimodular, cut_split, cut_submodular}
use Rattle.theory_graph.specs.Cut.{Connected, Inseparable, Separated, TwoEdgeConnected, ◌∖◌, ◌∩◌, ◌∪◌, cut, ∁}
use Rattle.theory_graph.specs.Graph.{Edge, NodeSet}

pub separated_weaken : {i j : ℕ} (E : List Edge) {x y : ℕ} → i ≤ j → Separated i E x y → Separated j E x y
separated_weaken E h s = (s.0, s.1, s.2, omega arith)

pub separated_sym : {j : ℕ} (E : List Edge) {x y : ℕ} → Separated j E x y → Separated j E y x
separated_sym E s = (∁ s.0, ap not s.2, ap not s.1, omega (arith, cut_complement s.0 E))

pub insep_refl : {j : ℕ} (E : List Edge) (x : ℕ) → Inseparable j E x x
insep_refl E x s = true≢false (sym s.1 ∙ s.2)

pub insep_sym : {j : ℕ} (E : List Edge) {x y : ℕ} → Inseparable j E x y → Inseparable j E y x
insep_sym E c s = c (separated_sym E s)

pub insep_trans : {j : ℕ} (E : List Edge) {x y z : ℕ} → Inseparable j E x y → Inseparable j E y z → Inseparable j E x z
insep_trans E {y} c k s = go (s.0 y) refl
  where
    go : (b : Bool) → s.0 y ≡ b → ⊥
    go true e = k (s.0, e, s.2, s.3)
    go false e = c (s.0, s.1, e, s.3)

-- a set that has x and not y is crossed
pub insep_cut : {j : ℕ} (E : List Edge) {x y : ℕ} → Inseparable j E x y → (U : NodeSet) → U x ≡ true → U y ≡ false → j < cut U E
insep_cut E c U p q = let h : ¬ (cut U E ≤ _) = λ h. c (U, p, q, h) in omega arith

pub cuts_uncrossed : (E : List Edge) (U W : NodeSet) (a b c e : ℕ) → cut U E ≤ 1 → cut W E ≤ 1
    → Connected E a e → Connected E b e → Connected E c e
    → U a ≡ true → W a ≡ true → U b ≡ false → W b ≡ true → U c ≡ true → W c ≡ false → U e ≡ false → W e ≡ false → ⊥
cuts_uncrossed E U W a b c e hU hW ae be ce Ua Wa Ub Wb Uc Wc Ue We =
    let pU : 0 < cut U E = insep_cut E ae U Ua Ue in
    let pA : 0 < cut (U ∩ W) E = insep_cut E ae (U ∩ W) (ap₂ ◌&&◌ Ua Wa) (ap₂ ◌&&◌ Ue We) in
    let pB : 0 < cut (W ∖ U) E = insep_cut E be (W ∖ U) (ap₂ (λ p q. p && not q) Wb Ub) (ap₂ (λ p q. p && not q) We Ue) in
    let pC : 0 < cut (U ∖ W) E = insep_cut E ce (U ∖ W) (ap₂ (λ p q. p && not q) Uc Wc) (ap₂ (λ p q. p && not q) Ue We) in
    let pD : 0 < cut (U ∪ W) E = insep_cut E ae (U ∪ W) (ap₂ ◌||◌ Ua Wa) (ap₂ ◌||◌ Ue We) in
    omega (arith, cut_submodular U W E, cut_posimodular U W E, (cut_split U W E).1)

pub two_edge_connected : (E : List Edge) {x y : ℕ} → TwoEdgeConnected E x y → Connected E x y
two_edge_connected E t s = t (separated_weaken E (omega arith) s)

-- ---- nodes that no small cut parts, by an equation
pub same_two_edge : (E : List Edge) (x y : ℕ) → ((U : NodeSet) → cut U E ≤ 1 → U x ≡ U y) → TwoEdgeConnected E x y
same_two_edge E x y f (U, p, q, c) = contradict p (f U c ∙ q)

-- x is put on y, which two edges at least hold to it
pub same_side : (E : List Edge) (x y : ℕ) → TwoEdgeConnected E x y → (U : NodeSet) → cut U E ≤ 1 → U x ≡ U y
same_side E x y t U c =
    on_bool (U x)
    (λ p. on_bool (U y) (λ q. p ∙ sym q) λ q. absurd (t (U, p, q, c)))
    (λ p. on_bool (U y) (λ q. absurd (t (separated_sym E (U, q, p, c)))) λ q. p ∙ sym q)
