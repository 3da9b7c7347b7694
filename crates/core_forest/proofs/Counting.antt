-- How many places below n a function is not 0 at: at most n, less where one is 0, one more where one becomes positive.
-- Assumes nothing.
use Prim.Native.Nat.{◌+◌, ◌<◌, ◌≤◌, suc, zero, ℕ}
use mathlib.Core.Path.{◌∙◌, ◌≡◌, ap, refl, sym}
use lib.Dec.{eqb}
use native.Mathlib.Omega.{arith}
use borrow.Author.Tests.{eq-eqb, eqb-false, eqb-true, ne_eqb}
use Rattle.core_forest.specs.Search.{count_nonzero}
use Rattle.theory_graph.proofs.Booleans.{on_bool}
use Rattle.core_words.proofs.FieldLaws.{update_other, update_same}
use Rattle.core_words.specs.Fields.{update}

pub count_le : (p : ℕ → ℕ) (n : ℕ) → count_nonzero p n ≤ n
unfolding count_nonzero
count_le p zero = omega arith
count_le p (suc n) = on_bool (eqb (p n) 0) (λ q. rw q (omega (arith, count_le p n))) (λ q. rw q (omega (arith, count_le p n)))

pub count_less : (p : ℕ → ℕ) (n v : ℕ) → v < n → p v ≡ 0 → count_nonzero p n < n
unfolding count_nonzero
count_less p zero v l z = absurd (omega arith)
count_less p (suc n) v l z = on_bool (eqb v n)
    (λ q. rw (eq-eqb (p n) 0 (ap p (sym (eqb-true v n q)) ∙ z)) (omega (arith, count_le p n)))
    (λ q. let ne : ¬ (v ≡ n) = eqb-false v n q in
    let i = count_less p n v (omega arith) z in
    on_bool (eqb (p n) 0) (λ s. rw s (omega (arith, i))) (λ s. rw s (omega (arith, i))))

count_outside : (p : ℕ → ℕ) (n v k : ℕ) → n ≤ v → count_nonzero (update p v k) n ≡ count_nonzero p n
unfolding count_nonzero
count_outside p zero v k l = refl
count_outside p (suc n) v k l = rw (update_other p v k n (λ e. omega arith), count_outside p n v k (omega arith)) refl

pub count_more : (p : ℕ → ℕ) (n v k : ℕ) → v < n → p v ≡ 0 → count_nonzero (update p v (k + 1)) n ≡ count_nonzero p n + 1
unfolding count_nonzero
count_more p zero v k l z = absurd (omega arith)
count_more p (suc n) v k l z = on_bool (eqb v n)
    (λ q. let e = eqb-true v n q in
    rw (count_outside p n v (k + 1) (omega arith), ← e, update_same p v (k + 1), ne_eqb (k + 1) 0 (λ s. omega arith), eq-eqb (p v) 0 z) (omega arith))
    (λ q. let ne : ¬ (v ≡ n) = eqb-false v n q in
    rw (update_other p v (k + 1) n (λ e. ne (sym e)), count_more p n v k (omega arith) z) (omega arith))

pub count_none : (p : ℕ → ℕ) (n : ℕ) → ((u : ℕ) → u < n → p u ≡ 0) → count_nonzero p n ≡ 0
unfolding count_nonzero
count_none p zero z = refl
count_none p (suc n) z = rw (eq-eqb (p n) 0 (z n (omega arith))) (omega (arith, count_none p n (λ u l. z u (omega arith))))
