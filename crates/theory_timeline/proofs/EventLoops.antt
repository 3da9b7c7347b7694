-- A loop over two tables of a list of events at once, by their iterators: which event it meets, and how many.
-- Assumes nothing.
use Prim.Native.Nat.{◌+◌, ◌<◌, min, ℕ}
use mathlib.Core.List.{List}
use mathlib.Core.Path.{◌∙◌, ◌≡◌, ap}
use denote.Ref.{Bor}
use lib.ListN.{get_or, length}
use native.Mathlib.Omega.{arith}
use Rattle.std.specs.Prelude.{None, Option, Some}
use Rattle.std.specs.Iterator.{Yields}
use Rattle.std.specs.Iterator.Adapters.{enumerate_count, enumerate_source, enumerate_steps, zip_first, zip_second}
use Rattle.std.specs.List.{enumerate_from, zip}
use Rattle.std.specs.Slice.Iter.{iter_rest}
use Rattle.std.specs.declared.iter.Enumerate.{Enumerate}
use Rattle.std.specs.declared.iter.Zip.{Zip}
use Rattle.std.proofs.Common.{Iter}
use Rattle.std.proofs.iter.Yields.{fronts}
use Rattle.std.proofs.lemmas.Iterator.{YieldsList, YieldsList-from_slice, YieldsList-from_zip, zips}
use Rattle.std.proofs.lemmas.Iterator.Consumers.{YieldsList-end, YieldsList-from_enumerate, YieldsList-turn}
use Rattle.std.proofs.lemmas.List.{get_or_default}
use Rattle.std.proofs.lemmas.List.FromFn.{get_or-enumerate_from, length-enumerate_from}
use Rattle.std.proofs.lemmas.Slice.Zip.{get_or-zip, length-zip}

-- event k of two tables, with its place and its entries as a loop over both meets them
pub record Met (x y : List ℕ) (k i event_x event_y : ℕ) : Type 0 where
  pub in_x : k < length x
  pub in_y : k < length y
  pub place : i ≡ k
  pub x_is : event_x ≡ get_or x k 0
  pub y_is : event_y ≡ get_or y k 0

met : (x y : List ℕ) (k i event_x event_y : ℕ) → k < length (enumerate_from 0 (zip x y))
    → ◌≡◌ {A = ℕ × (ℕ × ℕ)} (i, (event_x, event_y)) (get_or (enumerate_from 0 (zip x y)) k (i, (event_x, event_y))) → Met x y k i event_x event_y
met x y k i event_x event_y l e =
    let both : length (enumerate_from 0 (zip x y)) ≡ min (length x) (length y) = length-enumerate_from 0 (zip x y) ∙ length-zip x y in
    let in_x : k < length x = omega arith in
    let in_y : k < length y = omega arith in
    let at = e ∙ get_or-enumerate_from 0 (zip x y) k (i, (event_x, event_y)) (omega (arith, length-zip x y))
    ∙ ap (λ (v : ℕ × ℕ). (0 + k, v)) (get_or-zip x y k (event_x, event_y) in_x in_y) in
    record {
      in_x = in_x;
      in_y = in_y;
      place = ap (λ (v : ℕ × (ℕ × ℕ)). v.0) at ∙ omega arith;
      x_is = ap (λ (v : ℕ × (ℕ × ℕ)). v.1.0) at ∙ get_or_default x k event_x 0 in_x;
      y_is = ap (λ (v : ℕ × (ℕ × ℕ)). v.1.1) at ∙ get_or_default y k event_y 0 in_y;
    }

-- the loop itself, from its iterator on
module _ (x y : List ℕ) (s : Enumerate (Zip (Iter ℕ) (Iter ℕ))) (first : iter_rest (zip_first (enumerate_source s)) ≡ x)
    (second : iter_rest (zip_second (enumerate_source s)) ≡ y) (zero : enumerate_count s ≡ 0) where
  abbrev steps : Enumerate (Zip (Iter ℕ) (Iter ℕ)) → Option (ℕ × (Bor ℕ × Bor ℕ)) → Enumerate (Zip (Iter ℕ) (Iter ℕ)) → Type 0
  steps = enumerate_steps (zips fronts fronts)

  chain : YieldsList {B = ℕ × (ℕ × ℕ)} steps (λ p. (p.0, (p.1.0.now, p.1.1.now))) s (enumerate_from 0 (zip x y))
  chain = YieldsList-from_enumerate (YieldsList-from_zip (YieldsList-from_slice x first) (YieldsList-from_slice y second)) zero

  module _ (so_far : List (ℕ × (Bor ℕ × Bor ℕ))) (t u : Enumerate (Zip (Iter ℕ) (Iter ℕ))) (yielded : Yields steps s so_far t) (r : Option (ℕ × (Bor ℕ × Bor ℕ))) (next : steps t r u) where
    pub event_met : (v : ℕ × (Bor ℕ × Bor ℕ)) → r ≡ Some v → Met x y (length so_far) v.0 v.1.0.now v.1.1.now
    event_met v is = let turn = YieldsList-turn chain so_far t yielded r u v is next in met x y (length so_far) v.0 v.1.0.now v.1.1.now turn.0 turn.1

    pub all_met : r ≡ None → length so_far ≡ min (length x) (length y)
    all_met is = (YieldsList-end chain so_far t yielded r u is next).1 ∙ length-enumerate_from 0 (zip x y) ∙ length-zip x y
