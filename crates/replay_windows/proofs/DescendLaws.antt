-- The recursion over windows by any widths: of a window whose area is one of which a step can be made, and of a part that has room behind it, what a step leaves for
-- a part, and the two parts of a window. PartLaws has them for the widths of a replay's `Reduction`.
-- In order: a step and a part; the two parts of a window.
-- Assumes nothing.
use Prim.Native.Nat.{◌*◌, ◌+◌, ◌-◌, ◌<◌, ◌≤◌, ℕ}
use mathlib.Core.List.{List}
use mathlib.Core.Path.{◌∙◌, ◌≡◌, ap, refl, subst, sym}
use lib.ListN.{drop, length, length-drop, length-take, take}
use native.Mathlib.Omega.{arith}
use borrow.Rule.Slice.PartMut.{put_mid, take_put}
use Rattle.replay_step.proofs.ShareLaws.{Shares, shares}
use Rattle.replay_step.proofs.WordLaws.{lent_take}
use Rattle.replay_step.specs.Area.{SteppedOf, WindowReadyOf}
use Rattle.replay_step.specs.declared.Window.{Window}
use Rattle.theory_timeline.specs.Steps.{Sound}
use Rattle.theory_timeline.specs.Windows.{Timeline, first_part, size}

-- ---- a step and a part
-- what a replay gives for its own windows: a window's area B is one of which a step can be made, A; and a part, which has at most ten elevenths of the events,
-- has room behind the window's area
pub record Descends (A B : Timeline → Window → List ℕ → Type 0) (words room : ℕ → ℕ) (w : Window) (v : List ℕ) : Type 0 where
  pub own : (g : Timeline) → Sound g → B g w (take (words w.events) v) → A g w (take (words w.events) v)
  pub fits : (c n : ℕ) → 11 * c ≤ 10 * n → words n + room c ≤ room n

module _ {A B : Timeline → Window → List ℕ → Type 0} {words room : ℕ → ℕ} {w : Window} {p : ℕ} {v : List ℕ} (r : WindowReadyOf B words room w p v) (o : Descends A B words room w v) where
  abbrev n : ℕ
  n = w.events

  -- the words that are lent on
  abbrev lent_on : List ℕ → List ℕ
  lent_on z = take (length z - words n) (drop (words n) z)

  module _ {lo c : ℕ} {y z : List ℕ} {k : Window} (t : SteppedOf A B words w lo c y z k) (f : take (words n) y ≡ take (words n) v) (e : length z ≡ length v) (h : 11 * c ≤ 10 * n) where
    pub part_area : (g : Timeline) → Sound g → w.at + n ≤ size g → B g w (take (words n) v) → B g k (take (words k.events) (lent_on z))
    part_area g sound i a =
        let x : words n + words k.events ≤ length z = omega (arith, r.enough, o.fits c n h, o.fits 0 c (omega arith), ap words t.events, e) in
        let q : take (words c) (drop (words n) z) ≡ take (words k.events) (lent_on z) =
        ap (λ (m : ℕ). take (words m) (drop (words n) z)) (sym t.events) ∙ sym (lent_take (words n) (words k.events) z x) in
        subst (λ (v : List ℕ). B g k v) q (t.made g sound i (rw f (o.own g sound a)))

    pub part_ready : w.at ≤ lo → lo + c ≤ w.at + n → 0 < c → WindowReadyOf B words room k p (lent_on z)
    part_ready a b s = record {
      g = r.g;
      sound = r.sound;
      inside = omega (arith, r.inside, t.at, t.events);
      area = part_area r.g r.sound r.inside r.area;
      some = omega (arith, t.events);
      much = omega (arith, r.much, t.at, t.events);
      share = r.share;
      enough = rw (length-take, length-drop) (omega (arith, r.enough, o.fits c n h, ap room t.events, e));
    }

  -- ---- the two parts of a window
  module _ (two : 2 ≤ n) {c : ℕ} (q : c ≡ first_part p n) where
    pub parts : Shares n c
    parts = rw q (shares p n two r.share)

    module _ {w₁ : List ℕ} {a : Window} (s : SteppedOf A B words w w.at c v w₁ a) (l₁ : length w₁ ≡ length v) where
      pub first_ready : (a.events < n) × WindowReadyOf B words room a p (lent_on w₁)
      first_ready = (omega (arith, s.events, parts.less), part_ready s refl l₁ parts.first (omega arith) (omega (arith, parts.less)) parts.some)

      -- the words after the first part: the window's area is as it was
      pub area_kept : (zs : List ℕ) → take (words n) (put_mid (words n) (length w₁ - words n) w₁ zs) ≡ take (words n) v
      area_kept zs = take_put (words n) (length w₁ - words n) w₁ zs (omega (arith, r.enough, o.fits 0 n (omega arith), l₁)) ∙ s.front

      module _ {w₂ w₃ : List ℕ} {d : Window} (f : take (words n) w₂ ≡ take (words n) v) (t : SteppedOf A B words w (w.at + c) (n - c) w₂ w₃ d) (l₃ : length w₃ ≡ length v) where
        pub second_ready : (d.events < n) × WindowReadyOf B words room d p (lent_on w₃)
        second_ready = (
          omega (arith, t.events, parts.some, two),
          part_ready t f l₃ parts.second (omega arith) (omega (arith, parts.less)) (omega (arith, parts.less)),
        )
