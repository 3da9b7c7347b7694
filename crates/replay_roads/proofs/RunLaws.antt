-- Laws of runs: one store changes one run at one place, and no other run; two stores in two runs.
-- Assumes nothing.
use Prim.Native.Nat.{◌+◌, ◌<◌, ℕ}
use mathlib.Core.Bool.{cond}
use mathlib.Core.List.{List}
use mathlib.Core.Path.{◌∙◌, ◌≡◌, ap, sym}
use lib.Dec.{eqb}
use lib.ListN.{get_or, length, length-set, set}
use lib.Seq.{get_or-set_other, get_or-set_same}
use native.Mathlib.Omega.{arith}
use Rattle.core_words.proofs.FieldLaws.{update_at}
use Rattle.core_words.specs.Fields.{update}
use Rattle.replay_roads.specs.Runs.{run}

-- ---- one store
-- word i of the run at f becomes x
pub record Stored (f i x : ℕ) (w z : List ℕ) : Type 0 where
  pub long : length z ≡ length w
  pub here : (u : ℕ) → run f z u ≡ update (run f w) i x u
  pub else : (g u : ℕ) → ¬ (g + u ≡ f + i) → run g z u ≡ run g w u

pub stored : (f i x : ℕ) (w : List ℕ) {z : List ℕ} → z ≡ set w (f + i) x → f + i < length w → Stored f i x w z
stored f i x w e l = rw e (record {
  long = length-set w (f + i) x;
  here = λ u. sym (update_at (λ u y. y ≡ get_or (set w (f + i) x) (f + u) 0) (λ u. get_or w (f + u) 0) i x
      (sym (get_or-set_same w (f + i) x 0 l)) (λ u n. sym (get_or-set_other w (f + i) (f + u) x 0 (λ p. n (omega arith)))) u);
  else = λ g u n. get_or-set_other w (f + i) (g + u) x 0 n;
})

-- ---- two stores
-- and word j of the run at g becomes y
pub record StoredTwo (f i x g j y : ℕ) (w z : List ℕ) : Type 0 where
  pub long : length z ≡ length w
  pub first : (u : ℕ) → ¬ (f + u ≡ g + j) → run f z u ≡ update (run f w) i x u
  pub second : (u : ℕ) → ¬ (g + u ≡ f + i) → run g z u ≡ update (run g w) j y u
  pub else : (h u : ℕ) → ¬ (h + u ≡ f + i) → ¬ (h + u ≡ g + j) → run h z u ≡ run h w u

pub stored_two : (f i x g j y : ℕ) (w : List ℕ) {w₁ z : List ℕ} → w₁ ≡ set w (f + i) x → z ≡ set w₁ (g + j) y → f + i < length w → g + j < length w → StoredTwo f i x g j y w z
unfolding update
stored_two f i x g j y w {w₁} e₁ e₂ k l =
    let p = stored f i x w e₁ k in
    let r = stored g j y w₁ e₂ (omega (arith, p.long)) in
    record {
      long = r.long ∙ p.long;
      first = λ u n. r.else f u n ∙ p.here u;
      second = λ u n. r.here u ∙ ap (cond (eqb u j) y) (p.else g u n);
      else = λ h u n o. r.else h u o ∙ p.else h u n;
    }
