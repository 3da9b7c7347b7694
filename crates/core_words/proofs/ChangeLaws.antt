-- Laws of OnlyFields: nothing changes, one store, one change after another, more fields, and the words behind the nodes.
-- Assumes nothing.
use Prim.Native.Nat.{ℕ, ◌+◌, ◌-◌, ◌*◌, ◌<◌, ◌≤◌}
use mathlib.Core.Bool.{◌||◌, true, false, true≢false}
use mathlib.Core.List.{List, [], ◌∷◌}
use mathlib.Core.Path.{◌≡◌, ◌∙◌, ap, ap₂, refl, sym}
use lib.Dec.{eqb}
use lib.ListN.{get_or}
use native.Mathlib.Omega.{arith}
use borrow.Author.Tests.{eqb-true}
use Rattle.theory_graph.proofs.Booleans.{and_elim, contradict, on_bool}
use Rattle.theory_graph.specs.Lists.{all, member}
use Rattle.core_words.specs.Changes.{OnlyFields}
use Rattle.core_words.specs.Fields.{Put, half}

pub only_none : {fs : List ℕ} (n : ℕ) (w : List ℕ) → OnlyFields fs n w w
only_none n w = record { same = refl; nodes = λ j l k. refl; halves = λ j. refl }

pub only_then : {fs : List ℕ} {n : ℕ} {a b c : List ℕ} → OnlyFields fs n a b → OnlyFields fs n b c → OnlyFields fs n a c
only_then p q = record { same = q.same ∙ p.same; nodes = λ j l k. q.nodes j l k ∙ p.nodes j l k; halves = λ j. q.halves j ∙ p.halves j }

pub only_put : {fs : List ℕ} {n k v x : ℕ} {a b : List ℕ} → member fs k ≡ true → v < n → Put k v x a b → OnlyFields fs n a b
only_put {fs} {n} t l p = record { same = p.same; nodes = λ j i f. p.else j i (λ e. true≢false (sym t ∙ ap (member fs) (sym e) ∙ f)); halves = p.halves n l }

not_member : (fs gs : List ℕ) (j : ℕ) → all (member gs) fs ≡ true → member gs j ≡ false → member fs j ≡ false
not_member [] gs j h f = refl
not_member (x ∷ fs) gs j h f = and_elim (member gs x) (all (member gs) fs) h λ p q.
    on_bool (eqb j x)
    (λ e. contradict p (ap (member gs) (sym (eqb-true j x e)) ∙ f))
    (λ e. ap₂ ◌||◌ e (not_member fs gs j q f))

pub only_more : (fs : List ℕ) {gs : List ℕ} {n : ℕ} {a b : List ℕ} → all (member gs) fs ≡ true → OnlyFields fs n a b → OnlyFields gs n a b
only_more fs {gs} h p = record { same = p.same; nodes = λ j l k. p.nodes j l (not_member fs gs j h k); halves = p.halves }

-- one store more
pub only_then_put : {fs : List ℕ} {n k v x : ℕ} {a b c : List ℕ} → member fs k ≡ true → v < n → OnlyFields fs n a b → Put k v x b c → OnlyFields fs n a c
only_then_put t l o p = only_then o (only_put t l p)

pub only_past : {fs : List ℕ} {n : ℕ} {a b : List ℕ} → OnlyFields fs n a b → (i : ℕ) → 16 * n ≤ i → get_or b i 0 ≡ get_or a i 0
unfolding half
only_past {n = n} {a} {b} o i l =
    let e : i ≡ 16 * n + 3 * 0 + (i - 16 * n) = omega arith in
    ap (λ k. get_or b k 0) e ∙ ap (λ f. f 0) (o.halves (i - 16 * n)) ∙ ap (λ k. get_or a k 0) (sym e)
