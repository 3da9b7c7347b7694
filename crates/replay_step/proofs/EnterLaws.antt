-- Active nodes entered one after another behind a front: the loop over the listed nodes, and the marks cleared first.
-- Assumes nothing.
use Prim.Native.Nat.{◌+◌, ◌-◌, ◌<◌, ◌≤◌, ℕ}
use mathlib.Core.List.{List, [], ◌++◌, ◌∷◌}
use mathlib.Core.Path.{◌∙◌, ◌≡◌, ap, sym}
use lib.ListN.{drop, get_or, length, length-drop, take}
use lib.Seq.{get_or-drop, take-suc}
use native.Mathlib.Numerals.{add-one}
use native.Mathlib.Omega.{arith}
use borrow.Rule.Slice.PartMut.{put_mid, same_len_mid, take_put}
use Rattle.replay_step.proofs.WordLaws.{drop_back, front_get, mid_less, take_whole}
use Rattle.core_loading.proofs.LoadingLaws.{cleared_unmarked}
use Rattle.core_loading.specs.Loading.{Entered, Entering, Unmarked}
use Rattle.core_words.specs.Clearing.{Cleared}
use Rattle.replay_step.specs.Load.{ActiveReady, Actives}
use Rattle.core_words.specs.Fields.{ACTIVE, MARK, node}

-- ---- the loop: i words so far
pub record EnteredSoFar (from count s n : ℕ) (w z : List ℕ) (k i : ℕ) : Type 0 where
  pub long : length z ≡ length w
  pub front : take s z ≡ take s w
  pub entered : Entered n (take i (drop from w)) k (node MARK (drop s z)) (node ACTIVE (drop s z))

abbrev pub Needs : ℕ → ℕ → ℕ → ℕ → List ℕ → Type 0
Needs from count s n w = ActiveReady from count s n w × Unmarked n (drop s w)

module _ {from count s n k i : ℕ} {w z : List ℕ} (q : Needs from count s n w) (e : EnteredSoFar from count s n w z k i) (l : i < count) where
  pub reads : get_or z (from + i) 0 ≡ get_or w (from + i) 0
  reads = front_get s (from + i) w z e.front (omega (arith, q.0.front))

  pub entering_more : (r : ℕ) (zs : List ℕ) → Entering n k (get_or z (from + i) 0) (take (length z - s) (drop s z)) zs r
      → EnteredSoFar from count s n w (put_mid s (length z - s) z zs) r (i + 1)
  entering_more r zs f =
      let h : s ≤ length z = omega (arith, q.0.room, e.long) in
      let t : take i (drop from w) ++ (get_or z (from + i) 0 ∷ []) ≡ take (i + 1) (drop from w) =
      ap (λ y. take i (drop from w) ++ (y ∷ [])) (reads ∙ sym (get_or-drop from w i 0))
      ∙ sym (ap (λ y. take y (drop from w)) (add-one i) ∙ take-suc (drop from w) i 0 (rw length-drop (omega (arith, q.0.front, q.0.room)))) in
      record {
        long = same_len_mid s (length z - s) z zs f.same ∙ e.long;
        front = take_put s (length z - s) z zs h ∙ e.front;
        entered = rw (drop_back s z zs h, ← t) (f.more (take i (drop from w)) (rw take_whole e.entered));
      }

-- ---- cleared first
pub after_clear : {from count s n k : ℕ} (w zs : List ℕ) {z : List ℕ} → s ≤ length w → length zs ≡ length (take (length w - s) (drop s w)) → from + count ≤ s
    → Actives from count s n (put_mid s (length w - s) w zs) z k → Actives from count s n w z k
after_clear {from} {count} {s} {n} {k} w zs {z} h u b a =
    let c : List ℕ = put_mid s (length w - s) w zs in
    let f : take s c ≡ take s w = take_put s (length w - s) w zs h in
    let lc : length c ≡ length w = same_len_mid s (length w - s) w zs u in
    record { front = a.front ∙ f; entered = rw (← mid_less from count s w c b (omega arith) (omega arith) f) a.entered }

-- after clearing, nothing is entered
pub clear_need : (from count s n : ℕ) (w zs : List ℕ) → ActiveReady from count s n w
    → Cleared (MARK ∷ []) n n (take (length w - s) (drop s w)) zs → Needs from count s n (put_mid s (length w - s) w zs)
clear_need from count s n w zs q c =
    let h : s ≤ length w = omega arith in
    let lc = same_len_mid s (length w - s) w zs c.rest.same in (
      record {
        front = q.front;
        room = omega (arith, lc, q.room);
        many = q.many;
        nodes = λ i l. rw (front_get s (from + i) w (put_mid s (length w - s) w zs) (take_put s (length w - s) w zs h) (omega arith)) (q.nodes i l);
      },
      rw (drop_back s w zs h) (cleared_unmarked c),
    )
