-- Laws of the counts of the starting table: one more segment, by names; one more segment is counted in the words; the whole.
-- Assumes nothing.
use Prim.Native.Nat.{◌*◌, ◌+◌, ◌<◌, ◌≤◌, suc, zero, ℕ}
use mathlib.Core.Bool.{Bool, ◌&&◌, and-false, false, true}
use mathlib.Core.List.{List}
use mathlib.Core.Path.{◌∙◌, ◌≡◌, ap, ap₂, refl, sym}
use lib.Dec.{eqb}
use lib.ListN.{get_or, length}
use native.Mathlib.Numerals.{add-one}
use native.Mathlib.Omega.{arith}
use borrow.Author.Tests.{eq-eqb, ne_eqb}
use Rattle.core_words.proofs.FieldLaws.{update_at}
use Rattle.theory_graph.specs.Lists.{filter, pairs, range}
use Rattle.theory_timeline.proofs.Acceptance.{pairs_equal}
use Rattle.theory_timeline.proofs.Counting.{count_most, count_suc}
use Rattle.theory_timeline.proofs.RoadLaws.{road_most}
use Rattle.theory_timeline.specs.Events.{SegmentSet}
use Rattle.theory_timeline.specs.Roads.{road}
use Rattle.theory_timeline.specs.Tags.{bit, open_segments}
use Rattle.theory_timeline.specs.Windows.{at_start}
use Rattle.replay_roads.proofs.RunLaws.{stored}
use Rattle.replay_roads.specs.Counting.{CanCount, Counting, RoadTables, RoadsCounted, count_open, one_more}
use Rattle.replay_roads.specs.Naming.{RoadsNamed}
use Rattle.replay_roads.specs.Runs.{Filled, run}

-- ---- one more segment, by names
module _ (o : SegmentSet) (name : ℕ → ℕ) where
  open_suc : (k r : ℕ) → count_open o name (suc k) r ≡ count_open o name k r + bit (o k && eqb r (name k))
  unfolding count_open
  open_suc k r = let z : 0 + k ≡ k = omega arith in
      count_suc (λ s. o s && eqb r (name s)) 0 k ∙ ap (λ (j : ℕ). length (filter (λ s. o s && eqb r (name s)) (range 0 k)) + bit (o j && eqb r (name j))) z

  open_next : (k r : ℕ) → count_open o name (k + 1) r ≡ count_open o name k r + bit (o k && eqb r (name k))
  open_next k r = ap (λ (j : ℕ). count_open o name j r) (add-one k) ∙ open_suc k r

  open_most : (k r : ℕ) → count_open o name k r ≤ k
  unfolding count_open
  open_most k r = count_most (λ s. o s && eqb r (name s)) 0 k

  -- one more segment of the road
  open_more : (k r : ℕ) → o k ≡ true → r ≡ name k → count_open o name (k + 1) r ≡ count_open o name k r + 1
  open_more k r p q = open_next k r ∙ ap₂ (λ (a b : Bool). count_open o name k r + bit (a && b)) p (eq-eqb r (name k) q)

  open_other : (k r : ℕ) → (r ≡ name k → ⊥) → count_open o name (k + 1) r ≡ count_open o name k r
  open_other k r n =
      open_next k r ∙ ap (λ (b : Bool). count_open o name k r + bit (o k && b)) (ne_eqb r (name k) n)
      ∙ ap (λ (b : Bool). count_open o name k r + bit b) (and-false (o k)) ∙ omega arith

  open_closed : (k r : ℕ) → o k ≡ false → count_open o name (k + 1) r ≡ count_open o name k r
  open_closed k r p = open_next k r ∙ ap (λ (b : Bool). count_open o name k r + bit (b && eqb r (name k))) p ∙ omega arith

-- by names that agree
open_equal : (o : SegmentSet) (f h : ℕ → ℕ) (k r : ℕ) → ((s : ℕ) → s < k → f s ≡ h s) → count_open o f k r ≡ count_open o h k r
unfolding count_open
open_equal o f h zero r e = refl
open_equal o f h (suc k) r e =
    open_suc o f k r ∙ ap₂ (λ (c j : ℕ). c + bit (o k && eqb r j)) (open_equal o f h k r (λ s l. e s (omega arith))) (e k (omega arith)) ∙ sym (open_suc o h k r)

-- ---- one more segment
module _ {start : List ℕ} {q s : ℕ} {w z : List ℕ} (g : Counting start q w z s) (l : s < length start) where
  name_fits : run q z s < length start
  name_fits = omega (arith, g.names s l, g.fits s l)

  pub can_count : CanCount (length start) q s z
  can_count = record {
    room = omega (arith, g.room, g.long);
    less = l;
    name = name_fits;
    count = omega (arith, g.much, g.counts (run q z s) name_fits, open_most (at_start start) (run q w) s (run q z s));
  }

  pub counting_open : {z' : List ℕ} → get_or start s 0 ≡ 1 → z' ≡ one_more (length start) q s z → Counting start q w z' (s + 1)
  counting_open {z'} one e =
      let o : at_start start s ≡ true = eq-eqb (get_or start s 0) 1 one in
      let i = g.room in
      let k = name_fits in
      let p = stored (q + length start) (run q z s) (run (q + length start) z (run q z s) + 1) z e (omega (arith, g.long)) in
      record {
        much = g.much;
        most = omega arith;
        room = g.room;
        fits = g.fits;
        long = p.long ∙ g.long;
        names = λ u d. p.else q u (λ e. omega arith) ∙ g.names u d;
        counts = λ u d. p.here u
            ∙ update_at (λ u y. u < length start → y ≡ count_open (at_start start) (run q w) (s + 1) u) (run (q + length start) z) (run q z s) (run (q + length start) z (run q z s) + 1)
            (λ d. ap (λ (c : ℕ). c + 1) (g.counts (run q z s) d) ∙ sym (open_more (at_start start) (run q w) s (run q z s) o (g.names s l)))
            (λ u ne d. g.counts u d ∙ sym (open_other (at_start start) (run q w) s u (λ y. ne (y ∙ sym (g.names s l))))) u d;
      }

  pub counting_closed : ¬ (get_or start s 0 ≡ 1) → Counting start q w z (s + 1)
  counting_closed n = record {
    much = g.much;
    most = omega arith;
    room = g.room;
    fits = g.fits;
    long = g.long;
    names = g.names;
    counts = λ u i. g.counts u i ∙ sym (open_closed (at_start start) (run q w) s u (ne_eqb (get_or start s 0) 1 n));
  }

-- ---- the whole
-- the names stand, and the counts are 0
module _ {n q : ℕ} {a b start w w₁ w₂ : List ℕ} (k : RoadTables n a b start) (room : q + 2 * length a + 2 * n ≤ length w) (g : RoadsNamed a b q w w₁)
    (f : Filled (q + length a) (length a) 0 w₁ w₂) where
  names_stay : (s : ℕ) → s < length a → run q w₂ s ≡ road (pairs a b) s
  names_stay s l = f.front (q + s) (omega arith) ∙ g.names s l

  pub count_start : Counting start q w₂ w₂ 0
  unfolding count_open
  count_start =
      let e = k.start_long in
      record {
        much = omega (arith, k.segments.much);
        most = omega arith;
        room = omega (arith, g.long, f.long);
        fits = λ s l. omega (arith, names_stay s (omega arith), road_most (pairs a b) s);
        long = refl;
        names = λ s l. refl;
        counts = λ r l. rw e (f.here r (omega arith));
      }

  -- there are as many segments as entries
  segments_long : length start ≡ length (pairs a b)
  segments_long = k.start_long ∙ sym (pairs_equal a b k.segments.b_long)

  pub roads_counted : {z : List ℕ} → Counting start q w₂ z (length start) → RoadsCounted a b start q w z
  unfolding count_open open_segments
  roads_counted {z} c =
      let e = k.start_long in
      record {
        long = c.long ∙ f.long ∙ g.long;
        names = λ s l. c.names s (omega arith) ∙ names_stay s l;
        counts = λ r l. ap (λ (j : ℕ). get_or z (q + j + r) 0) (sym e)
            ∙ c.counts r (omega arith)
            ∙ open_equal (at_start start) (run q w₂) (road (pairs a b)) (length start) r (λ s i. names_stay s (omega arith))
            ∙ ap (λ (j : ℕ). count_open (at_start start) (road (pairs a b)) j r) segments_long;
      }
