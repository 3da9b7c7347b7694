-- The recursion over windows, in either replay: what a step leaves for a part, and how the two parts of a window join to it. What holds for any widths is in DescendLaws.
-- In order: a step and a part; the two parts of a window; what is written.
-- Assumes nothing.
use Prim.Native.Nat.{◌*◌, ◌+◌, ◌-◌, ◌<◌, ◌≤◌, ℕ}
use mathlib.Core.List.{List}
use mathlib.Core.Path.{◌∙◌, ◌≡◌, ap, refl}
use lib.ListN.{drop, length, take}
use native.Mathlib.Omega.{arith}
use borrow.Rule.Slice.PartMut.{put_mid}
use Rattle.core_reduce.specs.declared.Counts.{Counts}
use Rattle.replay_step.proofs.ShareLaws.{Shares, shares}
use Rattle.replay_step.specs.Area.{SteppedOf, WindowReadyOf}
use Rattle.replay_step.specs.Reduction.{Reduces, StepReadyBy, words_of}
use Rattle.replay_step.specs.declared.Graph.{Graph}
use Rattle.replay_step.specs.declared.Part.{Part}
use Rattle.replay_step.specs.declared.Window.{Window}
use Rattle.theory_timeline.specs.Steps.{Sound}
use Rattle.theory_timeline.specs.Windows.{Timeline, first_part, size}
use Rattle.replay_windows.proofs.DescendLaws as descending
use Rattle.replay_windows.proofs.DescendLaws.{Descends}
use Rattle.replay_windows.specs.Descent.{WindowDone, WritesParts}

module _ {A B : Timeline → Window → List ℕ → Type 0} {words edges window : ℕ} {room : ℕ → ℕ → ℕ → ℕ} {Made : Part → Graph → List ℕ → List ℕ → Counts → Type 0}
    (o : Reduces A B words edges window room Made) {w : Window} {p : ℕ} {v : List ℕ} (r : WindowReadyOf B (words_of words) (words_of window) w p v) where
  abbrev n : ℕ
  n = w.events

  abbrev full : ℕ
  full = words * w.events

  pub area_fits : full ≤ length v
  area_fits = omega (arith, r.enough, o.fits 0 n (omega arith))

  -- it goes down as windows of any widths do
  pub descends : Descends A B (words_of words) (words_of window) w v
  descends = record { own = λ g sound b. o.own g sound w r.some v area_fits b; fits = o.fits }

  -- a window of one event
  pub done_one : {T : Type 0} {Same : T → T → Type 0} {Wrote : Timeline → ℕ → ℕ → ℕ → T → T → ℕ → Type 0} {before after : T} → n ≡ 1 → Same before after
      → ((g : Timeline) → Sound g → w.at < size g → B g w (take words v) → Wrote g p w.at 1 before after w.nodes)
      → WindowDone B Same Wrote w p (take full v) before after w.nodes
  done_one one same f = record {
    few = omega (arith, o.nodes w p v r);
    same = same;
    replied = λ g sound h a.
        let z : full ≡ words = ap (λ (k : ℕ). words * k) one ∙ omega arith in
        let b : B g w (take words v) = rw z at a in
        rw one (f g sound (omega arith) b);
  }

  -- ---- the words that are lent on, behind the area; its width an event is read as W
  module _ {W : ℕ} (at : W ≡ words) where
    abbrev q : ℕ
    q = W * w.events

    abbrev lent_on : List ℕ → List ℕ
    lent_on z = take (length z - q) (drop q z)

    pub lent_fits : q ≤ length v
    lent_fits = rw at area_fits

    -- ---- a step and a part
    module _ {lo c : ℕ} {y z : List ℕ} {k : Window} (t : SteppedOf A B (words_of words) w lo c y z k) (f : take full y ≡ take full v) (e : length z ≡ length v) (h : 11 * c ≤ 10 * n) where
      pub part_area : (g : Timeline) → Sound g → w.at + n ≤ size g → B g w (take full v) → B g k (take (words * k.events) (lent_on z))
      part_area g sound i a = rw at (descending.part_area r descends t f e h g sound i a)

    -- ---- the two parts of a window that is cut
    module _ (cut : ¬ (n ≡ 1)) {c : ℕ} (first : c ≡ first_part p n) where
      two : 2 ≤ n
      two = omega (arith, r.some)

      parts : Shares n c
      parts = rw first (shares p n two r.share)

      pub first_step : StepReadyBy A words room w w.at c v
      first_step = o.enough w p v r w.at c v (omega arith) (omega (arith, parts.less)) (omega (arith, parts.some)) refl refl

      module _ {w₁ : List ℕ} {a : Window} (s : SteppedOf A B (words_of words) w w.at c v w₁ a) (l₁ : length w₁ ≡ length v) where
        pub first_ready : (a.events < n) × WindowReadyOf B (words_of words) (words_of window) a p (lent_on w₁)
        first_ready = rw at (descending.first_ready r descends two first s l₁)

        pub first_long : a.at + a.events ≤ w.at + n
        first_long = omega (arith, s.at, s.events, parts.less)

        -- the words after the first part: the window's area is as it was
        module _ (zs : List ℕ) where
          abbrev w₂ : List ℕ
          w₂ = put_mid q (length w₁ - q) w₁ zs

          pub area_kept : take full w₂ ≡ take full v
          area_kept = rw at (descending.area_kept r descends two first s l₁ zs)

          pub second_step : length w₂ ≡ length v → StepReadyBy A words room w (w.at + c) (n - c) w₂
          second_step l₂ = o.enough w p v r (w.at + c) (n - c) w₂ (omega arith) (omega (arith, parts.less)) (omega (arith, parts.less)) l₂ area_kept

          module _ {w₃ : List ℕ} {d : Window} (t : SteppedOf A B (words_of words) w (w.at + c) (n - c) w₂ w₃ d) (l₃ : length w₃ ≡ length v) where
            pub second_ready : (d.events < n) × WindowReadyOf B (words_of words) (words_of window) d p (lent_on w₃)
            second_ready = rw at (descending.second_ready r descends two first s l₁ area_kept t l₃)

            pub second_long : d.at + d.events ≤ w.at + n
            second_long = omega (arith, t.at, t.events, parts.less)

            -- ---- what is written
            pub done_two : {T : Type 0} {Long : ℕ → T → Type 0} {Same : T → T → Type 0} {Wrote : Timeline → ℕ → ℕ → ℕ → T → T → ℕ → Type 0} → WritesParts B Long Same Wrote
                → {before mid after : T} {b k : ℕ} → WindowDone B Same Wrote a p (take (words * a.events) (lent_on w₁)) before mid b
                → WindowDone B Same Wrote d p (take (words * d.events) (lent_on w₃)) mid after k
                → WindowDone B Same Wrote w p (take full v) before after (w.nodes + b + k)
            done_two m {before} {mid} {after} {b} {k} i j = record {
              few = omega (arith, o.nodes w p v r, i.few, j.few, s.events, t.events, parts.less);
              same = m.still before mid after i.same j.same;
              replied = λ g sound h z.
                  let u = rw (s.at, s.events) at (i.replied g sound (omega (arith, s.at, s.events, parts.less)) (part_area s refl l₁ parts.first g sound h z)) in
                  let x = rw (t.at, t.events) at (j.replied g sound (omega (arith, t.at, t.events, parts.less)) (part_area t area_kept l₃ parts.second g sound h z)) in
                  m.both g sound p r.share w (take full v) two z c first before mid after b k u x;
            }
