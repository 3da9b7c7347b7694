-- Laws of windows: the two parts of a window of two or more events are windows and tile it; the whole list is one; each event has its one-event window;
-- there are 2T - 1; and the list has every window and nothing else.
-- Assumes nothing.
use Prim.Native.Nat.{◌*◌, ◌+◌, ◌-◌, ◌<◌, ◌≤◌, suc, zero, ℕ}
use mathlib.Core.Bool.{Bool, false, true}
use mathlib.Core.List.Memᴰ
use mathlib.Core.List.{List, Memᴰ, [], ◌++◌, ◌∷◌}
use mathlib.Core.Logic.{◌⊎◌, inl, inr}
use mathlib.Core.Path.{◌∙◌, ◌≡◌, ap, ap₂, refl, subst, sym}
use lib.Dec.{ltb}
use lib.ListN.{length, length-append}
use native.Mathlib.Nat.{mul-le-mul_left}
use native.Mathlib.Omega.{arith}
use borrow.Author.Tests.{le-ltb, lt-ltb, ltb-false, ltb-true}
use Rattle.theory_graph.proofs.Booleans.{on_bool}
use Rattle.theory_graph.proofs.Lists.{mem_append}
use Rattle.theory_timeline.specs.DemandThree.{Allowed}
use Rattle.theory_timeline.specs.Windows.{Window, first_part, windows, windows_from}

-- the parts of a window of n events have 1 to n - 1 events
pub first_part_lem : (p n : ℕ) → Allowed p → 2 ≤ n → (1 ≤ first_part p n) × (first_part p n < n)
first_part_lem p n a h =
    let k : n * p ≤ n * 12 = mul-le-mul_left n a.1 in
    (omega arith, omega arith)

-- a window of the list of t events: the whole list, or a part of a window
pub data Win (p t : ℕ) : ℕ → ℕ → Type 0 where
  whole : 0 < t → Win p t 0 t
  left : {at n : ℕ} → Win p t at n → 2 ≤ n → Win p t at (first_part p n)
  right : {at n : ℕ} → Win p t at n → 2 ≤ n → Win p t (at + first_part p n) (n - first_part p n)

pub win_within : {p t at n : ℕ} → Allowed p → Win p t at n → (1 ≤ n) × (at + n ≤ t)
win_within a (whole h) = (omega arith, omega arith)
win_within {p} a (left {n = n} w h) = omega (arith, win_within a w, first_part_lem p n a h)
win_within {p} a (right {n = n} w h) = omega (arith, win_within a w, first_part_lem p n a h)

-- both parts of w are in the list
abbrev Parts : ℕ → Window → List Window → Type 0
Parts p w l = Memᴰ (w.0, first_part p w.1) l × Memᴰ (w.0 + first_part p w.1, w.1 - first_part p w.1) l

module _ (p : ℕ) (a : Allowed p) where
  -- the list of windows from one down: itself, and, if it is cut, those of its parts
  pub small_one : (k at n : ℕ) → n < 2 → windows_from p (suc k) at n ≡ (at, n) ∷ []
  unfolding windows_from
  small_one k at n h = ap (λ (b : Bool). elim b as (λ x. List Window)
      [ true ↦ (at, n) ∷ [] | false ↦ (at, n) ∷ windows_from p k at (first_part p n) ++ windows_from p k (at + first_part p n) (n - first_part p n) ]) (lt-ltb n 2 h)

  pub large_one : (k at n : ℕ) → 2 ≤ n → windows_from p (suc k) at n ≡ (at, n) ∷ windows_from p k at (first_part p n) ++ windows_from p k (at + first_part p n) (n - first_part p n)
  unfolding windows_from
  large_one k at n h = ap (λ (b : Bool). elim b as (λ x. List Window)
      [ true ↦ (at, n) ∷ [] | false ↦ (at, n) ∷ windows_from p k at (first_part p n) ++ windows_from p k (at + first_part p n) (n - first_part p n) ]) (le-ltb n 2 h)

  -- 2n - 1 windows from a window of n events down
  count_from : (k at n : ℕ) → 1 ≤ n → n ≤ k → length (windows_from p k at n) + 1 ≡ 2 * n
  count_from zero at n lo hi = absurd (omega arith)
  count_from (suc k) at n lo hi =
      on_bool (ltb n 2) (λ t. let l : n < 2 = ltb-true n 2 t in ap (λ (x : List Window). length x + 1) (small_one k at n l) ∙ omega arith) λ t.
      let l : 2 ≤ n = ltb-false n 2 t in
      let f = first_part_lem p n a l in
      ap (λ (x : List Window). length x + 1) (large_one k at n l)
      ∙ omega (
        arith,
        length-append (windows_from p k at (first_part p n)) (windows_from p k (at + first_part p n) (n - first_part p n)),
        count_from k at (first_part p n) (omega arith) (omega arith),
        count_from k (at + first_part p n) (n - first_part p n) (omega arith) (omega arith),
      )

  -- each event has its window
  leaf_from : (k at n i : ℕ) → n ≤ k → at ≤ i → i < at + n → Memᴰ (i, 1) (windows_from p k at n)
  leaf_from zero at n i hi u v = absurd (omega arith)
  leaf_from (suc k) at n i hi u v =
      on_bool (ltb n 2)
      (λ t. let l : n < 2 = ltb-true n 2 t in
      let e : i ≡ at = omega arith in
      let o : 1 ≡ n = omega arith in
      subst (λ (x : List Window). Memᴰ (i, 1) x) (sym (small_one k at n l)) (Memᴰ.head (ap₂ (λ (x y : ℕ). (x, y)) e o)))
      λ t.
      let l : 2 ≤ n = ltb-false n 2 t in
      let f = first_part_lem p n a l in
      subst (λ (x : List Window). Memᴰ (i, 1) x) (sym (large_one k at n l)) (Memᴰ.tail (mem_append (windows_from p k at (first_part p n)) _
      (on_bool (ltb i (at + first_part p n))
      (λ c. inl (leaf_from k at (first_part p n) i (omega arith) u (ltb-true i (at + first_part p n) c)))
      (λ c. let ge : at + first_part p n ≤ i = ltb-false i (at + first_part p n) c in inr (leaf_from k (at + first_part p n) (n - first_part p n) i (omega arith) ge (omega arith))))))

  -- what is in the list is a window
  list_win : (t k at n : ℕ) → n ≤ k → Win p t at n → (w : Window) → Memᴰ w (windows_from p k at n) → Win p t w.0 w.1
  list_win t zero at n hi W w m = absurd (omega (arith, win_within a W))
  list_win t (suc k) at n hi W w m =
      on_bool (ltb n 2)
      (λ c. one (subst (λ (x : List Window). Memᴰ w x) (small_one k at n (ltb-true n 2 c)) m))
      λ c.
      let l : 2 ≤ n = ltb-false n 2 c in
      let f = first_part_lem p n a l in
      more l (list_win t k at (first_part p n) (omega arith) (left W l) w) (list_win t k (at + first_part p n) (n - first_part p n) (omega arith) (right W l) w)
      (subst (λ (x : List Window). Memᴰ w x) (large_one k at n l) m)
    where
      same : w ≡ (at, n) → Win p t w.0 w.1
      same e = subst (λ (v : Window). Win p t v.0 v.1) (sym e) W

      one : Memᴰ w ((at, n) ∷ []) → Win p t w.0 w.1
      one (Memᴰ.tail x7) = elim x7 [ ]
      one (Memᴰ.head e) = same e

      more : 2 ≤ n → (Memᴰ w (windows_from p k at (first_part p n)) → Win p t w.0 w.1)
          → (Memᴰ w (windows_from p k (at + first_part p n) (n - first_part p n)) → Win p t w.0 w.1)
          → Memᴰ w ((at, n) ∷ windows_from p k at (first_part p n) ++ windows_from p k (at + first_part p n) (n - first_part p n)) → Win p t w.0 w.1
      more l f g (Memᴰ.head e) = same e
      more l f g (Memᴰ.tail m) = go (Memᴰ.append_cases (windows_from p k at (first_part p n)) m)
        where
          go : Memᴰ w (windows_from p k at (first_part p n)) ⊎ Memᴰ w (windows_from p k (at + first_part p n) (n - first_part p n)) → Win p t w.0 w.1
          go (inl x) = f x
          go (inr x) = g x

  head_in : (k at n : ℕ) → 1 ≤ n → n ≤ k → Memᴰ (at, n) (windows_from p k at n)
  head_in zero at n lo hi = absurd (omega arith)
  head_in (suc k) at n lo hi =
      on_bool (ltb n 2)
      (λ c. subst (λ (x : List Window). Memᴰ (at, n) x) (sym (small_one k at n (ltb-true n 2 c))) (Memᴰ.head refl))
      (λ c. subst (λ (x : List Window). Memᴰ (at, n) x) (sym (large_one k at n (ltb-false n 2 c))) (Memᴰ.head refl))

  -- the parts of a window in the list are in it
  list_parts : (k at n : ℕ) → n ≤ k → (w : Window) → 2 ≤ w.1 → Memᴰ w (windows_from p k at n) → Parts p w (windows_from p k at n)
  unfolding windows_from
  list_parts zero at n hi w h m = absurd (elim m [ ])
  list_parts (suc k) at n hi w h m =
      on_bool (ltb n 2)
      (λ c. let l : n < 2 = ltb-true n 2 c in absurd (one l (subst (λ (x : List Window). Memᴰ w x) (small_one k at n l) m)))
      λ c.
      let l : 2 ≤ n = ltb-false n 2 c in
      let f = first_part_lem p n a l in
      let F = windows_from p k at (first_part p n) in
      let G = windows_from p k (at + first_part p n) (n - first_part p n) in
      subst (λ (x : List Window). Parts p w x) (sym (large_one k at n l))
      (more F G (list_parts k at (first_part p n) (omega arith) w h) (list_parts k (at + first_part p n) (n - first_part p n) (omega arith) w h)
      (head_in k at (first_part p n) (omega arith) (omega arith)) (head_in k (at + first_part p n) (n - first_part p n) (omega arith) (omega arith))
      (subst (λ (x : List Window). Memᴰ w x) (large_one k at n l) m))
    where
      one : n < 2 → Memᴰ w ((at, n) ∷ []) → ⊥
      one l (Memᴰ.tail x7) = elim x7 [ ]
      one l (Memᴰ.head e) = let q : w.1 ≡ n = ap (λ (v : Window). v.1) e in omega arith

      more : (F G : List Window) → (Memᴰ w F → Parts p w F) → (Memᴰ w G → Parts p w G) → Memᴰ (at, first_part p n) F → Memᴰ (at + first_part p n, n - first_part p n) G
          → Memᴰ w ((at, n) ∷ F ++ G) → Parts p w ((at, n) ∷ F ++ G)
      more F G f g u v (Memᴰ.head e) =
          subst (λ (x : Window). Parts p x ((at, n) ∷ F ++ G)) (sym e) (Memᴰ.tail (mem_append F G (inl u)), Memᴰ.tail (mem_append F G (inr v)))
      more F G f g u v (Memᴰ.tail m) = go (Memᴰ.append_cases F m)
        where
          go : Memᴰ w F ⊎ Memᴰ w G → Parts p w ((at, n) ∷ F ++ G)
          go (inl m) = let (r, s) = f m in (Memᴰ.tail (mem_append F G (inl r)), Memᴰ.tail (mem_append F G (inl s)))
          go (inr m) = let (r, s) = g m in (Memᴰ.tail (mem_append F G (inr r)), Memᴰ.tail (mem_append F G (inr s)))

-- ---- the laws
module _ (p t : ℕ) (a : Allowed p) where
  pub windows_count : 1 ≤ t → length (windows p t) + 1 ≡ 2 * t
  unfolding windows
  windows_count h = count_from p a t 0 t h (omega arith)

  pub windows_leaf : (i : ℕ) → i < t → Memᴰ (i, 1) (windows p t)
  unfolding windows
  windows_leaf i h = leaf_from p a t 0 t i (omega arith) (omega arith) (omega arith)

  -- the list is that of the windows: each window is in it, and nothing else
  pub win_windows : {at n : ℕ} → Win p t at n → Memᴰ (at, n) (windows p t)
  unfolding windows
  win_windows (whole h) = head_in p a t 0 t h (omega arith)
  win_windows (left {at = at} {n = n} W h) = (list_parts p a t 0 t (omega arith) (at, n) h (win_windows W)).0
  win_windows (right {at = at} {n = n} W h) = (list_parts p a t 0 t (omega arith) (at, n) h (win_windows W)).1

  pub windows_win : (w : Window) → Memᴰ w (windows p t) → Win p t w.0 w.1
  unfolding windows windows_from
  windows_win w m = on_bool (ltb 0 t) (λ c. list_win p a t t 0 t (omega arith) (whole (ltb-true 0 t c)) w m) λ c.
      let z : t ≡ 0 = omega (arith, ltb-false 0 t c) in none (subst (λ (n : ℕ). Memᴰ w (windows_from p n 0 n)) z m)
    where
      none : Memᴰ w (windows_from p 0 0 0) → Win p t w.0 w.1
      none m = absurd (elim m [ ])

  -- ---- as document 01 says it
  pub windows_whole : 0 < t → Memᴰ (0, t) (windows p t)
  windows_whole h = win_windows (whole h)

  pub windows_parts : (w : Window) → Memᴰ w (windows p t) → 2 ≤ w.1
      → Memᴰ (w.0, first_part p w.1) (windows p t) × Memᴰ (w.0 + first_part p w.1, w.1 - first_part p w.1) (windows p t)
  windows_parts w m h = let v = windows_win w m in (win_windows (left v h), win_windows (right v h))

-- the parts of a window tile it, and neither is empty
pub parts_tile : (p n : ℕ) → Allowed p → 2 ≤ n → (1 ≤ first_part p n) × (1 ≤ n - first_part p n) × (first_part p n + (n - first_part p n) ≡ n)
parts_tile p n a h = let f = first_part_lem p n a h in (f.0, omega arith, omega arith)

pub windows_none : (p : ℕ) → windows p 0 ≡ []
unfolding windows windows_from
windows_none p = refl
