-- The queries counted by X alone are those of the list.
-- Assumes nothing.
use Prim.Native.Nat.{◌+◌, ◌<◌, ◌≤◌, suc, zero, ℕ}
use mathlib.Core.Bool.{Bool, cond, false, true}
use mathlib.Core.List.{List, [], ◌∷◌}
use mathlib.Core.Path.{◌∙◌, ◌≡◌, ap, refl}
use lib.ListN.{get_or, length}
use native.Mathlib.Omega.{arith}
use Rattle.call_kinds.specs.Kinds.{is_query, kind_of}
use Rattle.theory_timeline.proofs.Counting.{count, count_split}
use Rattle.theory_timeline.specs.Windows.{Timeline, asks_at, event, size}
use Rattle.replay_events.specs.Kinds.{queries_by}

pub queries_same : (g : Timeline) (x : List ℕ) (t : ℕ) → t ≤ size g → ((i : ℕ) → i < t → get_or x i 0 ≡ (event g i).0)
    → queries_by g.junctions x t ≡ count (asks_at g) 0 t
unfolding queries_by
queries_same g x zero l h = refl
queries_same g x (suc t) l h =
    let f : ℕ → Bool = asks_at g in
    let z : suc t ≡ t + 1 = omega arith in
    let y : 0 + t ≡ t = omega arith in
    let c : ◌≡◌ {A = ℕ} (count f t 1) (cond (f t) 1 0) = count_one (f t) in
    let e : count f 0 (suc t) ≡ count f 0 t + count f t 1 = ap (count f 0) z ∙ count_split f 0 t 1 ∙ ap (λ (k : ℕ). count f 0 t + count f k 1) y in
    let b : ◌≡◌ {A = ℕ} (cond (is_query (kind_of g.junctions (get_or x t 0))) 1 0) (cond (f t) 1 0) =
    ap (λ (v : ℕ). cond (is_query (kind_of g.junctions v)) 1 0) (h t (omega arith)) in
    omega (arith, queries_same g x t (omega arith) (λ i u. h i (omega arith)))
  where
    count_one : (b : Bool) → length {A = ℕ} (cond b (t ∷ []) []) ≡ cond b 1 0
    count_one true = refl
    count_one false = refl
