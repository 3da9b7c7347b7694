-- Laws of the counts of open segments of a road, for the pass that makes the tags: a road is open where its count is not 0;
-- an event that opens a closed segment makes its road's count one more, one that closes an open segment one less, and no other count changes.
-- Assumes nothing.
use Prim.Native.Nat.{◌+◌, ◌<◌, ◌≤◌, ℕ}
use mathlib.Core.Bool.{◌&&◌, ◌||◌, and-false, cond, false, true}
use mathlib.Core.List.{List}
use mathlib.Core.Path.{◌∙◌, ◌≡◌, ap, ap₂, refl, sym}
use lib.Dec.{eqb, ltb}
use lib.ListN.{length}
use native.Mathlib.Omega.{arith}
use borrow.Author.Tests.{eq-eqb, eqb-false, eqb-true, ne_eqb}
use Rattle.theory_graph.proofs.Booleans.{on_bool}
use Rattle.theory_graph.specs.Graph.{Edge}
use Rattle.theory_timeline.proofs.Counting.{any_count, count_more, count_most, count_same}
use Rattle.theory_timeline.proofs.TagLaws.{open_next}
use Rattle.theory_timeline.specs.Events.{SegmentSet, open_roads}
use Rattle.theory_timeline.specs.Roads.{road}
use Rattle.theory_timeline.specs.Tags.{key, open_count, open_segments}
use Rattle.theory_timeline.specs.Windows.{Timeline, changes_at, closes_at, event, open_before, opens_at, size}

-- ---- roads
-- a road is open where the count of its open segments is not 0
pub road_open : (segs : List Edge) (o : SegmentSet) (r : ℕ) → open_roads segs o r ≡ ltb 0 (open_segments segs o r)
unfolding open_roads open_segments
road_open segs o r = any_count (λ s. o s && eqb r (road segs s)) 0 (length segs)

-- and no road has more than there are segments
pub open_most : (segs : List Edge) (o : SegmentSet) (r : ℕ) → open_segments segs o r ≤ length segs
unfolding open_segments
open_most segs o r = count_most (λ s. o s && eqb r (road segs s)) 0 (length segs)

-- ---- the counts of a list
module _ (g : Timeline) where
  -- the open segments of road r before event i
  abbrev of_road : ℕ → ℕ → SegmentSet
  of_road i r u = open_before g i u && eqb r (road g.segments u)

  module _ (i : ℕ) (l : i < size g) where
    abbrev s : ℕ
    s = (event g i).1

    -- what an event that names segment s makes of the segments of road r
    at_named : (r : ℕ) → changes_at g i ≡ true → (open_before g (i + 1) s && eqb r (key g i)) ≡ (opens_at g i && eqb r (key g i))
    at_named r c =
        ap (λ (o : SegmentSet). o s && eqb r (key g i)) (open_next g i l)
        ∙ ap₂ (λ a b. cond (a && b) (opens_at g i) (open_before g i s) && eqb r (key g i)) c (eq-eqb s s refl)

    at_others : (r u : ℕ) → ¬ (u ≡ s) → of_road (i + 1) r u ≡ of_road i r u
    at_others r u n =
        ap (λ (o : SegmentSet). o u && eqb r (road g.segments u)) (open_next g i l)
        ∙ ap (λ b. cond (changes_at g i && b) (opens_at g i) (open_before g i u) && eqb r (road g.segments u)) (ne_eqb u s n)
        ∙ ap (λ b. cond b (opens_at g i) (open_before g i u) && eqb r (road g.segments u)) (and-false (changes_at g i))

    at_other_road : (r u : ℕ) → eqb r (key g i) ≡ false → of_road (i + 1) r u ≡ of_road i r u
    at_other_road r u n = on_bool (eqb u s)
        (λ t. let e : eqb r (road g.segments u) ≡ false = ap (λ (v : ℕ). eqb r (road g.segments v)) (eqb-true u s t) ∙ n in
        ap (λ b. open_before g (i + 1) u && b) e ∙ and-false (open_before g (i + 1) u) ∙ sym (ap (λ b. open_before g i u && b) e ∙ and-false (open_before g i u)))
        (λ t. at_others r u (eqb-false u s t))

    -- another road's count stays
    pub count_stays : (r : ℕ) → ¬ (r ≡ key g i) → open_count g (i + 1) r ≡ open_count g i r
    unfolding open_segments
    count_stays r n = count_same (of_road i r) (of_road (i + 1) r) 0 (length g.segments) (λ u k. at_other_road r u (ne_eqb r (key g i) n))

    -- an opening makes its road's one more
    pub count_opens : opens_at g i ≡ true → s < length g.segments → open_before g i s ≡ false → open_count g (i + 1) (key g i) ≡ open_count g i (key g i) + 1
    unfolding open_segments
    count_opens o k c =
        count_more (of_road i (key g i)) (of_road (i + 1) (key g i)) s 0 (length g.segments) (omega arith) (omega arith)
        (ap (λ b. b && eqb (key g i) (key g i)) c)
        (at_named (key g i) (ap (λ b. b || closes_at g i) o) ∙ ap₂ ◌&&◌ o (eq-eqb (key g i) (key g i) refl))
        (λ u n. at_others (key g i) u n)

    -- and a closing one less
    pub count_closes : closes_at g i ≡ true → opens_at g i ≡ false → s < length g.segments → open_before g i s ≡ true
        → open_count g i (key g i) ≡ open_count g (i + 1) (key g i) + 1
    unfolding open_segments
    count_closes o f k c =
        count_more (of_road (i + 1) (key g i)) (of_road i (key g i)) s 0 (length g.segments) (omega arith) (omega arith)
        (at_named (key g i) (ap₂ ◌||◌ f o) ∙ ap (λ b. b && eqb (key g i) (key g i)) f)
        (ap₂ ◌&&◌ c (eq-eqb (key g i) (key g i) refl))
        (λ u n. sym (at_others (key g i) u n))

  -- an event that names no segment changes none
  pub count_unnamed : (i : ℕ) → i < size g → changes_at g i ≡ false → (r : ℕ) → open_count g (i + 1) r ≡ open_count g i r
  unfolding open_segments
  count_unnamed i l a r =
      count_same (of_road i r) (of_road (i + 1) r) 0 (length g.segments) λ u k.
      ap (λ (o : SegmentSet). o u && eqb r (road g.segments u)) (open_next g i l)
      ∙ ap (λ b. cond (b && eqb u (event g i).1) (opens_at g i) (open_before g i u) && eqb r (road g.segments u)) a
