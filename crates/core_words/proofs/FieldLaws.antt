-- Laws of the fields: of a function changed at one place, and of a store in the words.
-- Assumes nothing.
use Prim.Native.Nat.{◌*◌, ◌+◌, ◌<◌, ℕ}
use mathlib.Core.List.{List}
use mathlib.Core.Path.{◌≡◌, fun_ext, refl, sym}
use lib.Dec.{eqb}
use lib.ListN.{get_or, length, length-set, set}
use lib.Seq.{get_or-set_other, get_or-set_same}
use native.Mathlib.Omega.{arith}
use borrow.Author.Tests.{eqb-false, eqb-true}
use Rattle.theory_graph.proofs.Booleans.{on_bool}
use Rattle.core_words.specs.Fields.{Put, PutHalf, half, node, update}

-- what holds of x at v, and of f u at every other u, holds of the changed function
pub update_at : (P : ℕ → ℕ → Type 0) (f : ℕ → ℕ) (v x : ℕ) → P v x → ((u : ℕ) → (u ≡ v → ⊥) → P u (f u)) → (u : ℕ) → P u (update f v x u)
unfolding update
update_at P f v x p q u =
    on_bool (eqb u v) (λ e. rw (e, eqb-true u v e) p) (λ e. rw e (q u (eqb-false u v e)))

pub update_same : (f : ℕ → ℕ) (v x : ℕ) → update f v x v ≡ x
update_same f v x = update_at (λ u y. u ≡ v → y ≡ x) f v x (λ e. refl) (λ u n e. absurd (n e)) v refl

pub update_other : (f : ℕ → ℕ) (v x u : ℕ) → (u ≡ v → ⊥) → update f v x u ≡ f u
update_other f v x u = update_at (λ u y. (u ≡ v → ⊥) → y ≡ f u) f v x (λ n. absurd (n refl)) (λ u n _. refl) u

pub set_put : (k v x : ℕ) (a : List ℕ) → 16 * v + k < length a → k < 16 → Put k v x a (set a (16 * v + k) x)
unfolding node half
set_put k v x a l m = record {
  same = length-set a (16 * v + k) x;
  here = fun_ext (λ u. sym (update_at (λ u y. y ≡ get_or (set a (16 * v + k) x) (16 * u + k) 0) (λ u. get_or a (16 * u + k) 0) v x
      (sym (get_or-set_same a (16 * v + k) x 0 l)) (λ u n. sym (get_or-set_other a (16 * v + k) (16 * u + k) x 0 (λ e. n (omega arith)))) u));
  else = λ j i n. fun_ext (λ u. get_or-set_other a (16 * v + k) (16 * u + j) x 0 (λ e. n (omega arith)));
  halves = λ n i j. fun_ext (λ h. get_or-set_other a (16 * v + k) (16 * n + 3 * h + j) x 0 (λ e. omega arith));
}

pub set_half : (n k h x : ℕ) (a : List ℕ) → 16 * n + 3 * h + k < length a → k < 3 → PutHalf n k h x a (set a (16 * n + 3 * h + k) x)
unfolding node half
set_half n k h x a l m = record {
  same = length-set a (16 * n + 3 * h + k) x;
  here = fun_ext (λ u. sym (update_at (λ u y. y ≡ get_or (set a (16 * n + 3 * h + k) x) (16 * n + 3 * u + k) 0) (λ u. get_or a (16 * n + 3 * u + k) 0) h x
      (sym (get_or-set_same a (16 * n + 3 * h + k) x 0 l)) (λ u p. sym (get_or-set_other a (16 * n + 3 * h + k) (16 * n + 3 * u + k) x 0 (λ e. p (omega arith)))) u));
  else = λ j i p. fun_ext (λ u. get_or-set_other a (16 * n + 3 * h + k) (16 * n + 3 * u + j) x 0 (λ e. p (omega arith)));
  nodes = λ j i v l. get_or-set_other a (16 * n + 3 * h + k) (16 * v + j) x 0 (λ e. omega arith);
}
