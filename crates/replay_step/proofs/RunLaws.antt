-- Five runs of words, written one behind the other before place s: what stands there afterwards.
-- Assumes nothing.
use Prim.Native.Nat.{◌+◌, ◌≤◌, ℕ}
use mathlib.Core.List.{List}
use mathlib.Core.Path.{◌∙◌, ◌≡◌, ap}
use lib.ListN.{drop, length, take}
use lib.Seq.{length-sets, sets}
use native.Mathlib.Omega.{arith}
use Rattle.replay_step.proofs.WordLaws.{drop_sets, mid_before, mid_sets, take_sets}

-- ---- the runs
pub record FiveRuns (P₀ P₁ P₂ P₃ P₄ s : ℕ) (M W X Y N w₁ w₂ w₃ w₄ w₅ w₆ : List ℕ) : Type 0 where
  pub e₂ : w₂ ≡ sets w₁ P₀ M
  pub e₃ : w₃ ≡ sets w₂ P₁ W
  pub e₄ : w₄ ≡ sets w₃ P₂ X
  pub e₅ : w₅ ≡ sets w₄ P₃ Y
  pub e₆ : w₆ ≡ sets w₅ P₄ N
  pub o₁ : P₀ + length M ≤ P₁
  pub o₂ : P₁ + length W ≤ P₂
  pub o₃ : P₂ + length X ≤ P₃
  pub o₄ : P₃ + length Y ≤ P₄
  pub o₅ : P₄ + length N ≤ s
  pub long : s ≤ length w₁

module _ {P₀ P₁ P₂ P₃ P₄ s : ℕ} {M W X Y N w₁ w₂ w₃ w₄ w₅ w₆ : List ℕ} (q : FiveRuns P₀ P₁ P₂ P₃ P₄ s M W X Y N w₁ w₂ w₃ w₄ w₅ w₆) where
  -- the order of the places
  o : (P₀ + length M ≤ P₁) × (P₁ + length W ≤ P₂) × (P₂ + length X ≤ P₃) × (P₃ + length Y ≤ P₄) × (P₄ + length N ≤ s) × (s ≤ length w₁)
  o = (q.o₁, q.o₂, q.o₃, q.o₄, q.o₅, q.long)

  long_2 : length w₂ ≡ length w₁
  long_2 = ap length q.e₂ ∙ length-sets w₁ P₀ M

  long_3 : length w₃ ≡ length w₁
  long_3 = ap length q.e₃ ∙ length-sets w₂ P₁ W ∙ long_2

  long_4 : length w₄ ≡ length w₁
  long_4 = ap length q.e₄ ∙ length-sets w₃ P₂ X ∙ long_3

  long_5 : length w₅ ≡ length w₁
  long_5 = ap length q.e₅ ∙ length-sets w₄ P₃ Y ∙ long_4

  pub long_6 : length w₆ ≡ length w₁
  long_6 = ap length q.e₆ ∙ length-sets w₅ P₄ N ∙ long_5

  -- what lies behind stays
  pub behind_3 : drop s w₃ ≡ drop s w₁
  behind_3 = ap (drop s) q.e₃ ∙ drop_sets W w₂ P₁ s (omega (arith, o)) ∙ ap (drop s) q.e₂ ∙ drop_sets M w₁ P₀ s (omega (arith, o))

  pub behind_4 : drop s w₄ ≡ drop s w₁
  behind_4 = ap (drop s) q.e₄ ∙ drop_sets X w₃ P₂ s (omega (arith, o)) ∙ behind_3

  pub behind_5 : drop s w₅ ≡ drop s w₁
  behind_5 = ap (drop s) q.e₅ ∙ drop_sets Y w₄ P₃ s (omega (arith, o)) ∙ behind_4

  -- and what lies before
  pub front_6 : take P₀ w₆ ≡ take P₀ w₁
  front_6 =
      ap (take P₀) q.e₆ ∙ take_sets N w₅ P₄ P₀ (omega (arith, o)) ∙ ap (take P₀) q.e₅ ∙ take_sets Y w₄ P₃ P₀ (omega (arith, o)) ∙ ap (take P₀) q.e₄ ∙ take_sets X w₃ P₂ P₀ (omega (arith, o))
      ∙ ap (take P₀) q.e₃ ∙ take_sets W w₂ P₁ P₀ (omega (arith, o)) ∙ ap (take P₀) q.e₂ ∙ take_sets M w₁ P₀ P₀ (omega (arith, o))

  -- what a later run does not touch
  back_6 : (i j : ℕ) → i + j ≤ P₄ → take j (drop i w₆) ≡ take j (drop i w₅)
  back_6 i j h = ap (λ l. take j (drop i l)) q.e₆ ∙ mid_before N w₅ P₄ i j h (omega (arith, o, long_5))

  back_5 : (i j : ℕ) → i + j ≤ P₃ → take j (drop i w₅) ≡ take j (drop i w₄)
  back_5 i j h = ap (λ l. take j (drop i l)) q.e₅ ∙ mid_before Y w₄ P₃ i j h (omega (arith, o, long_4))

  back_4 : (i j : ℕ) → i + j ≤ P₂ → take j (drop i w₄) ≡ take j (drop i w₃)
  back_4 i j h = ap (λ l. take j (drop i l)) q.e₄ ∙ mid_before X w₃ P₂ i j h (omega (arith, o, long_3))

  back_3 : (i j : ℕ) → i + j ≤ P₁ → take j (drop i w₃) ≡ take j (drop i w₂)
  back_3 i j h = ap (λ l. take j (drop i l)) q.e₃ ∙ mid_before W w₂ P₁ i j h (omega (arith, o, long_2))

  -- each run stands at its place
  pub run_1 : take (length M) (drop P₀ w₆) ≡ M
  run_1 =
      back_6 P₀ (length M) (omega (arith, o)) ∙ back_5 P₀ (length M) (omega (arith, o)) ∙ back_4 P₀ (length M) (omega (arith, o)) ∙ back_3 P₀ (length M) (omega (arith, o))
      ∙ ap (λ l. take (length M) (drop P₀ l)) q.e₂ ∙ mid_sets M w₁ P₀ (omega (arith, o))

  pub run_2 : take (length W) (drop P₁ w₆) ≡ W
  run_2 =
      back_6 P₁ (length W) (omega (arith, o)) ∙ back_5 P₁ (length W) (omega (arith, o)) ∙ back_4 P₁ (length W) (omega (arith, o))
      ∙ ap (λ l. take (length W) (drop P₁ l)) q.e₃ ∙ mid_sets W w₂ P₁ (omega (arith, o, long_2))

  pub run_3 : take (length X) (drop P₂ w₆) ≡ X
  run_3 =
      back_6 P₂ (length X) (omega (arith, o)) ∙ back_5 P₂ (length X) (omega (arith, o))
      ∙ ap (λ l. take (length X) (drop P₂ l)) q.e₄ ∙ mid_sets X w₃ P₂ (omega (arith, o, long_3))

  pub run_4 : take (length Y) (drop P₃ w₆) ≡ Y
  run_4 = back_6 P₃ (length Y) (omega (arith, o)) ∙ ap (λ l. take (length Y) (drop P₃ l)) q.e₅ ∙ mid_sets Y w₄ P₃ (omega (arith, o, long_4))

  pub run_5 : take (length N) (drop P₄ w₆) ≡ N
  run_5 = ap (λ l. take (length N) (drop P₄ l)) q.e₆ ∙ mid_sets N w₅ P₄ (omega (arith, o, long_5))
