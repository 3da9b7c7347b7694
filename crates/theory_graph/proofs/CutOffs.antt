-- Sets that at most one edge leaves, decided: drop one edge, and take a component. With it the answer by cuts, which is unique.
-- Assumes nothing.
use Prim.Native.Nat.{◌+◌, ◌≤◌, ℕ}
use mathlib.Core.Bool.{Bool, ◌&&◌, ◌||◌, cond, false, not, or-true, true, true≢false}
use mathlib.Core.List.{List, [], ◌∷◌}
use mathlib.Core.Logic.{◌↔◌}
use mathlib.Core.Path.{◌∙◌, ◌≡◌, ap, ap₂, refl, sym}
use lib.Dec.{leb}
use native.Mathlib.Omega.{arith}
use borrow.Author.Tests.{leb-false, leb-true, not-true}
use Rattle.theory_graph.proofs.Booleans.{and_elim, contradict, on_bool, or_elim}
use Rattle.theory_graph.proofs.Cuts.{crosses_cases, crosses_le}
use Rattle.theory_graph.proofs.Reach.{reach, reach_closed, reach_connected, reach_least, reach_self, reach_separated}
use Rattle.theory_graph.proofs.Separation.{insep_cut, separated_weaken}
use Rattle.theory_graph.specs.Cut.{Between, CutOff, Separated, TwoEdgeConnected, cut}
use Rattle.theory_graph.specs.Graph.{Edge, NodeSet}

-- the answer r of 0, 1, 2 to a query: at most j edges separate x from y just where r ≤ j
abbrev pub IsAnswer : List Edge → ℕ → ℕ → ℕ → Type 0
IsAnswer E x y r = (r ≤ 2) × ((j : ℕ) → j ≤ 1 → (r ≤ j) ↔ Separated j E x y)

-- t holds of E without one of its edges (of [], where E is empty)
abbrev pub any_removal : (List Edge → Bool) → List Edge → Bool
any_removal t [] = t []
any_removal t (e ∷ E) = t E || any_removal (λ F. t (e ∷ F)) E

any_removal_sound : (t : List Edge → Bool) (E : List Edge) → any_removal t E ≡ true → (F : List Edge) × (t F ≡ true) × ((U : NodeSet) → cut U E ≤ cut U F + 1)
any_removal_sound t [] h = ([], h, λ U. omega arith)
any_removal_sound t (e ∷ E) h =
    or_elim _ _ h (λ a. (E, a, λ U. omega (arith, crosses_le (U e.0) (U e.1)))) λ b.
    let (F, q, le) = any_removal_sound (λ F. t (e ∷ F)) E b in
    (e ∷ F, q, λ U. omega (arith, le U))

any_removal_complete : (t : List Edge → Bool) (E : List Edge) (U : NodeSet) → cut U E ≤ 1 → ((F : List Edge) → cut U F ≤ 0 → t F ≡ true) → any_removal t E ≡ true
any_removal_complete t [] U h k = k [] (omega arith)
any_removal_complete t (e ∷ E) U h k =
    crosses_cases (U e.0) (U e.1)
    (λ z. ap (λ b. t E || b) (any_removal_complete (λ F. t (e ∷ F)) E U (omega arith) (λ F f. k (e ∷ F) (omega arith))) ∙ or-true (t E))
    (λ z. ap (λ b. b || any_removal (λ F. t (e ∷ F)) E) (k E (omega arith)))

unfoldable pub cut_off : List Edge → ℕ → ℕ → ℕ → Bool
cut_off E v y w = any_removal (λ F. not (reach F v y) && not (reach F v w)) E

reach_out : (F : List Edge) (U : NodeSet) (v y : ℕ) → cut U F ≤ 0 → U v ≡ true → U y ≡ false → reach F v y ≡ false
reach_out F U v y h p q = on_bool (reach F v y) (λ r. absurd (true≢false (sym (reach_least F U h v y p r) ∙ q))) (λ r. r)

pub cut_off_sound : (E : List Edge) (v y w : ℕ) → cut_off E v y w ≡ true → CutOff E v y w
unfolding cut_off
cut_off_sound E v y w h =
    let (F, a, le) = any_removal_sound _ E h in
    and_elim _ _ a λ b c. (reach F v, reach_self F v, not-true _ b, not-true _ c, omega (arith, le (reach F v), reach_closed F v))

pub cut_off_complete : (E : List Edge) (v y w : ℕ) → CutOff E v y w → cut_off E v y w ≡ true
unfolding cut_off
cut_off_complete E v y w s =
    let (U, p, q, r, h) = s in
    any_removal_complete _ E U h λ F f. ap₂ (λ a b. not a && not b) (reach_out F U v y f p q) (reach_out F U v w f p r)

-- the answer, computed
unfoldable pub answer_by_cuts : List Edge → ℕ → ℕ → ℕ
answer_by_cuts E x y = cond (reach E x y) (cond (cut_off E x y y) 1 2) 0

pub answer_by_cuts_is : (E : List Edge) (x y : ℕ) → IsAnswer E x y (answer_by_cuts E x y)
unfolding answer_by_cuts
answer_by_cuts_is E x y = go (reach E x y) (cut_off E x y y) refl refl
  where
    go : (a b : Bool) → reach E x y ≡ a → cut_off E x y y ≡ b → IsAnswer E x y (cond a (cond b 1 2) 0)
    go false b p q = (omega arith, λ j l. (λ h. separated_weaken E (omega arith) (reach_separated E x y p), λ s. omega arith))
    go true true p q = (
      omega arith,
      λ j l.
          (λ h. let t = cut_off_sound E x y y q in (t.0, t.1, t.2, omega arith), λ s. omega (arith, insep_cut E (reach_connected E x y p) s.0 s.1 s.2)),
    )
    go true false p q = (omega arith, λ j l. (λ h. absurd (omega arith), λ s. absurd (true≢false (sym (cut_off_complete E x y y (s.0, s.1, s.2, s.2, omega arith)) ∙ q))))

-- a query has one answer
pub answer_unique : (E : List Edge) (x y r s : ℕ) → IsAnswer E x y r → IsAnswer E x y s → r ≡ s
answer_unique E x y r s (a, f) (b, g) =
    let up : (j : ℕ) → j ≤ 1 → r ≤ j → s ≤ j = λ j l h. (g j l).1 ((f j l).0 h) in
    let down : (j : ℕ) → j ≤ 1 → s ≤ j → r ≤ j = λ j l h. (f j l).1 ((g j l).0 h) in
    on_bool (leb r 0)
    (λ p. omega (arith, up 0 (omega arith) (leb-true r 0 p), leb-true r 0 p))
    (λ p. on_bool (leb s 0) (λ q. absurd (omega (arith, down 0 (omega arith) (leb-true s 0 q), leb-false r 0 p))) λ q.
    on_bool (leb r 1)
    (λ t. omega (arith, up 1 (omega arith) (leb-true r 1 t), leb-true r 1 t, leb-false r 0 p, leb-false s 0 q))
    (λ t. on_bool (leb s 1) (λ u. absurd (omega (arith, down 1 (omega arith) (leb-true s 1 u), leb-false r 1 t))) λ u. omega (arith, leb-false r 1 t, leb-false s 1 u)))

-- ---- cases
pub on_cut_off : {A : Type 0} (E : List Edge) (z x y : ℕ) → (CutOff E z x y → A) → (Between E x z y → A) → A
on_cut_off E z x y f g = on_bool (cut_off E z x y) (λ t. f (cut_off_sound E z x y t)) (λ n. g (λ s. contradict (cut_off_complete E z x y s) n))

pub on_two_edge : {A : Type 0} (E : List Edge) (x y : ℕ) → (Separated 1 E x y → A) → (TwoEdgeConnected E x y → A) → A
on_two_edge E x y f g = on_cut_off E x y y (λ s. f (s.0, s.1, s.2, s.4)) (λ n. g (λ s. n (s.0, s.1, s.2, s.2, s.3)))
