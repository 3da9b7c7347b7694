-- The pass that makes the tags: one event more, and what its tags and counts are for a list without a fault.
-- In order: how far a count goes; one event more in the words; the kinds of a list's events; its counts; its tags.
-- Assumes nothing.
use Prim.Native.Nat.{◌*◌, ◌+◌, ◌-◌, ◌<◌, ◌≤◌, suc, zero, ℕ}
use mathlib.Core.Bool.{Bool, ◌&&◌, ◌||◌, and-false, cond, false, not, true}
use mathlib.Core.List.{List}
use mathlib.Core.Path.{◌∙◌, ◌≡◌, ap, ap₂, refl, subst, sym}
use lib.Dec.{eqb}
use lib.ListN.{get_or, length, length-set, set}
use lib.Seq.{get_or-set_other, get_or-set_same}
use native.Mathlib.Numerals.{add-one}
use native.Mathlib.Omega.{arith}
use borrow.Author.Tests.{eq-eqb, eqb-false, eqb-true, ne_eqb}
use Rattle.call_kinds.proofs.KindLaws.{closing_alone}
use Rattle.call_kinds.specs.Kinds.{is_closing, is_query, kind_of}
use Rattle.call_kinds.specs.declared.Kind.{Kind}
use Rattle.call_kinds.specs.declared.Kind.TheVariants.{Closes, None, Opens, Query}
use Rattle.replay_roads.specs.Runs.{run}
use Rattle.theory_graph.proofs.Booleans.{on_bool}
use Rattle.theory_timeline.proofs.Acceptance.{sound_changes, sound_fine, sound_segment}
use Rattle.theory_timeline.proofs.CountLaws.{count_closes, count_opens, count_unnamed, count_stays, road_open}
use Rattle.theory_timeline.proofs.EventLaws.{asks_changes}
use Rattle.theory_timeline.proofs.RoadLaws.{road_most}
use Rattle.theory_timeline.proofs.TagLaws.{word_change, word_none}
use Rattle.theory_timeline.specs.Events.{Event}
use Rattle.theory_timeline.specs.Roads.{road}
use Rattle.theory_timeline.specs.Steps.{Sound}
use Rattle.theory_timeline.specs.Tags.{bit, key, open_count, tag, word}
use Rattle.theory_timeline.specs.Windows.{Timeline, changes_at, closes_at, event, open_before, opens_at, size}
use Rattle.replay_events.proofs.KindLaws.{count_kind}
use Rattle.replay_events.specs.Kinds.{kind_at}
use Rattle.replay_events.specs.Tagging.{TagPut, TagReady, Tagged, TagsReady, count_after, count_at, counts_by, tag_by, tags_by}

-- ---- how far a count goes
after_most : (k : Kind) (c : ℕ) → count_after k c ≤ c + 1
unfolding count_after
after_most Query c = omega arith
after_most Opens c = omega arith
after_most Closes c = omega arith
after_most None c = omega arith

module _ (n : ℕ) (x y : List ℕ) (N C : ℕ → ℕ) where
  counts_most : (i r : ℕ) → counts_by n x y N C i r ≤ C r + i
  unfolding counts_by
  counts_most zero r = omega arith
  counts_most (suc i) r = go (not (is_query (kind_at n x i)) && eqb r (N (get_or y i 0))) (counts_most i r)
    where
      go : (b : Bool) → counts_by n x y N C i r ≤ C r + i → cond b (count_after (kind_at n x i) (counts_by n x y N C i r)) (counts_by n x y N C i r) ≤ C r + suc i
      go true h = omega (arith, after_most (kind_at n x i) (counts_by n x y N C i r))
      go false h = omega arith

  -- before the next event: after a query, of another road, of the road that it names
  pub counts_query : (i r : ℕ) → is_query (kind_at n x i) ≡ true → counts_by n x y N C (i + 1) r ≡ counts_by n x y N C i r
  unfolding counts_by
  counts_query i r h =
      ap (λ (k : ℕ). counts_by n x y N C k r) (add-one i)
      ∙ ap (λ (b : Bool). cond (not b && eqb r (N (get_or y i 0))) (count_after (kind_at n x i) (counts_by n x y N C i r)) (counts_by n x y N C i r)) h

  pub counts_other : (i r : ℕ) → ¬ (r ≡ N (get_or y i 0)) → counts_by n x y N C (i + 1) r ≡ counts_by n x y N C i r
  unfolding counts_by
  counts_other i r h =
      ap (λ (k : ℕ). counts_by n x y N C k r) (add-one i)
      ∙ ap (λ (b : Bool). cond (not (is_query (kind_at n x i)) && b) (count_after (kind_at n x i) (counts_by n x y N C i r)) (counts_by n x y N C i r)) (ne_eqb r (N (get_or y i 0)) h)
      ∙ ap (λ (b : Bool). cond b (count_after (kind_at n x i) (counts_by n x y N C i r)) (counts_by n x y N C i r)) (and-false (not (is_query (kind_at n x i))))

  pub counts_own : (i : ℕ) → is_query (kind_at n x i) ≡ false → counts_by n x y N C (i + 1) (N (get_or y i 0)) ≡ count_after (kind_at n x i) (count_at n x y N C i)
  unfolding counts_by
  counts_own i h =
      ap (λ (k : ℕ). counts_by n x y N C k (N (get_or y i 0))) (add-one i)
      ∙ ap₂ (λ (a b : Bool). cond (not a && b) (count_after (kind_at n x i) (count_at n x y N C i)) (count_at n x y N C i)) h (eq-eqb (N (get_or y i 0)) (N (get_or y i 0)) refl)

-- ---- one event more
pub tagged_none : (n : ℕ) (x y : List ℕ) (names counts : ℕ) (w : List ℕ) → Tagged n x y names counts w w 0
unfolding counts_by
tagged_none n x y names counts w = record { long = refl; tags = λ j l. absurd (omega arith); counted = λ r l. refl; else = λ d l h. refl }

module _ {n : ℕ} {x y : List ℕ} {names counts : ℕ} {w z : List ℕ} {i : ℕ} (q : TagsReady n x y names counts w) (g : Tagged n x y names counts w z i) (l : i < length x) where
  abbrev N : ℕ → ℕ
  N = run names w

  abbrev C : ℕ → ℕ
  C = run counts w

  abbrev s : ℕ
  s = get_or y i 0

  -- the road's name is as it was, and its count is the one before event i
  name_stays : is_query (kind_at n x i) ≡ false → run names z s ≡ N s
  name_stays h = let (a, b, _) = q.apart in g.else (names + s) (q.named i l h).0 (λ j u e. omega arith)

  count_now : is_query (kind_at n x i) ≡ false → run counts z (N s) ≡ count_at n x y N C i
  count_now h = g.counted (N s) (q.named i l h).2

  pub tag_need : TagReady n (get_or x i 0) s names counts (2 * length x + 3 * i) z
  tag_need = let (a, b, c) = q.apart in record {
    room = omega (arith, g.long);
    named = λ h. let (d, e, f, k) = q.named i l h in
        let u = name_stays h in
        let t = ap (run counts z) u ∙ count_now h in
        record {
          room = omega (arith, g.long);
          segment = omega (arith, g.long);
          name = omega arith;
          road = omega (arith, g.long);
          most = omega (arith, q.much, counts_most n x y N C i (N s));
          some = λ o. omega (arith, q.some i l o);
        };
  }

  module _ {v : List ℕ} (p : TagPut n (get_or x i 0) s names counts (2 * length x + 3 * i) z v) where
    abbrev at : ℕ
    at = 2 * length x + 3 * i

    -- what is written: the words of roads first, where the event is no query, then the tag
    tagged_put : (u : List ℕ) (tag : ℕ) → length u ≡ length z → v ≡ set u at tag → tag ≡ tags_by n x y N C i → ((d : ℕ) → d < counts → get_or u d 0 ≡ get_or z d 0)
        → ((r : ℕ) → counts + r < length w → run counts u r ≡ counts_by n x y N C (i + 1) r) → Tagged n x y names counts w v (i + 1)
    tagged_put u tag lu ev et front roads =
        let (a, b, c) = q.apart in
        let long : length v ≡ length w = ap length ev ∙ length-set u at tag ∙ lu ∙ g.long in
        let other : (d : ℕ) → ¬ (d ≡ at) → get_or v d 0 ≡ get_or u d 0 = λ d ne. ap (λ (l : List ℕ). get_or l d 0) ev ∙ get_or-set_other u at d tag 0 ne in
        record {
          long = long;
          tags = λ j k. on_bool (eqb j i)
              (λ t. let e = eqb-true j i t in
              ap (λ (m : ℕ). get_or v (2 * length x + 3 * m) 0) e ∙ ap (λ (l : List ℕ). get_or l at 0) ev ∙ get_or-set_same u at tag 0 (omega (arith, g.long)) ∙ et
              ∙ ap (tags_by n x y N C) (sym e))
              (λ t. let e : ¬ (j ≡ i) = eqb-false j i t in
              other (2 * length x + 3 * j) (λ h. e (omega arith)) ∙ front (2 * length x + 3 * j) (omega arith) ∙ g.tags j (omega arith));
          counted = λ r k. other (counts + r) (λ h. omega arith) ∙ roads r k;
          else = λ d k h. other d (λ e. h i (omega arith) e) ∙ front d k ∙ g.else d k (λ j u. h j (omega arith));
        }

    asked : is_query (kind_at n x i) ≡ true → Tagged n x y names counts w v (i + 1)
    unfolding tags_by
    asked h = tagged_put z 0 refl (p.query h)
        (sym (ap (λ (b : Bool). cond b 0 (tag_by (N s) (count_at n x y N C i) (count_after (kind_at n x i) (count_at n x y N C i)))) h)) (λ d k. refl)
        (λ r k. g.counted r k ∙ sym (counts_query n x y N C i r h))

    named : is_query (kind_at n x i) ≡ false → Tagged n x y names counts w v (i + 1)
    unfolding tags_by
    named h =
        let (a, b, c) = q.apart in
        let r : ℕ = N s in
        let o : ℕ = count_at n x y N C i in
        let e : ℕ = count_after (kind_at n x i) o in
        let en : r ≡ run names z s = sym (name_stays h) in
        let ev = p.change h r o e en (sym (count_now h)) refl in
        tagged_put (set z (counts + r) e) (tag_by r o e) (length-set z (counts + r) e) ev
        (sym (ap (λ (b : Bool). cond b 0 (tag_by r o e)) h))
        (λ d k. get_or-set_other z (counts + r) d e 0 (λ y. omega arith))
        (λ u k. on_bool (eqb u r)
        (λ t. let y1 = eqb-true u r t in
        ap (λ (j : ℕ). get_or (set z (counts + r) e) (counts + j) 0) y1 ∙ get_or-set_same z (counts + r) e 0 (omega (arith, g.long))
        ∙ sym (ap (counts_by n x y N C (i + 1)) y1 ∙ counts_own n x y N C i h))
        (λ t. let y1 : ¬ (u ≡ r) = eqb-false u r t in
        get_or-set_other z (counts + r) (counts + u) e 0 (λ j. y1 (omega arith)) ∙ g.counted u k ∙ sym (counts_other n x y N C i u y1)))

    pub tagged_more : Tagged n x y names counts w v (i + 1)
    tagged_more = on_bool (is_query (kind_at n x i)) asked named

-- ---- the tag of an event by counts
tag_counts : (g : Timeline) (i : ℕ) → tag g i ≡ tag_by (key g i) (open_count g i (key g i)) (open_count g (i + 1) (key g i))
unfolding tag
tag_counts g i = ap₂ (λ (a b : Bool). 1 + 4 * key g i + 2 * bit a + bit b)
    (road_open g.segments (open_before g i) (key g i)) (road_open g.segments (open_before g (i + 1)) (key g i))

-- ---- a list without a fault, whose events stand in x and y; N gives the names of the roads and C the counts before the first event
pub record Listed (g : Timeline) (x y : List ℕ) (N C : ℕ → ℕ) : Type 0 where
  pub sound : Sound g
  pub events : (i : ℕ) → i < size g → event g i ≡ (get_or x i 0, get_or y i 0)
  pub named : (s : ℕ) → s < length g.segments → N s ≡ road g.segments s
  pub counted : (r : ℕ) → r < length g.segments → C r ≡ open_count g 0 r

module _ {g : Timeline} {x y : List ℕ} {N C : ℕ → ℕ} (q : Listed g x y N C) where
  abbrev n : ℕ
  n = g.junctions

  module _ (i : ℕ) (l : i < size g) where
    kind_is : kind_at n x i ≡ kind_of n (event g i).0
    kind_is = ap (λ (e : Event). kind_of n e.0) (sym (q.events i l))

    -- a query names no segment, and every other event does
    asked_not : is_query (kind_at n x i) ≡ true → changes_at g i ≡ false
    asked_not h = asks_changes n (event g i) (sym (ap is_query kind_is) ∙ h)

    changes_is : is_query (kind_at n x i) ≡ false → changes_at g i ≡ true
    changes_is h = sound_changes g q.sound i l ∙ ap not (sym (ap is_query kind_is) ∙ h)

    count_at_lem : (c : ℕ) → count_after (kind_at n x i) c ≡ cond (opens_at g i) (c + 1) (cond (closes_at g i) (c - 1) c)
    count_at_lem c = ap (λ (k : Kind). count_after k c) kind_is ∙ count_kind (kind_of n (event g i).0) c

    second : get_or y i 0 ≡ (event g i).1
    second = ap (λ (e : Event). e.1) (sym (q.events i l))

    pub segment_in : is_query (kind_at n x i) ≡ false → get_or y i 0 < length g.segments
    segment_in h = omega (arith, second, sound_segment g q.sound i l (changes_is h))

    key_is : is_query (kind_at n x i) ≡ false → N (get_or y i 0) ≡ key g i
    key_is h = q.named (get_or y i 0) (segment_in h) ∙ ap (road g.segments) second

    key_fits : is_query (kind_at n x i) ≡ false → key g i < length g.segments
    key_fits h = omega (arith, road_most g.segments (event g i).1, second, segment_in h)

  -- the counts before event i
  pub counts_are : (i : ℕ) → i ≤ size g → (r : ℕ) → r < length g.segments → counts_by n x y N C i r ≡ open_count g i r
  unfolding counts_by
  counts_are zero l r k = q.counted r k
  counts_are (suc i) l r k =
      let z : suc i ≡ i + 1 = omega arith in
      let ih = counts_are i (omega arith) r k in
      let u : i < size g = omega arith in
      ap (λ (j : ℕ). counts_by n x y N C j r) z ∙ on_bool (is_query (kind_at n x i))
      (λ h. counts_query n x y N C i r h ∙ ih ∙ sym (count_unnamed g i u (asked_not i u h) r))
      (λ h. on_bool (eqb r (key g i))
      (λ t. let e = eqb-true r (key g i) t in
      let f : N (get_or y i 0) ≡ r = key_is i u h ∙ sym e in
      sym (ap (counts_by n x y N C (i + 1)) f) ∙ counts_own n x y N C i h ∙ count_at_lem i u (count_at n x y N C i)
      ∙ ap (λ (c : ℕ). cond (opens_at g i) (c + 1) (cond (closes_at g i) (c - 1) c)) (ap (counts_by n x y N C i) f ∙ ih)
      ∙ own i u r e (changes_is i u h))
      (λ t. let e = eqb-false r (key g i) t in
      counts_other n x y N C i r (λ f. e (f ∙ key_is i u h)) ∙ ih ∙ sym (count_stays g i u r e)))
      ∙ ap (λ (j : ℕ). open_count g j r) (sym z)
    where
      own : (i : ℕ) (u : i < size g) (r : ℕ) → r ≡ key g i → changes_at g i ≡ true
          → cond (opens_at g i) (open_count g i r + 1) (cond (closes_at g i) (open_count g i r - 1) (open_count g i r)) ≡ open_count g (i + 1) r
      own i u r e h =
          let s = sound_segment g q.sound i u h in
          let f = sound_fine g q.sound i u in
          subst (λ (r : ℕ). cond (opens_at g i) (open_count g i r + 1) (cond (closes_at g i) (open_count g i r - 1) (open_count g i r)) ≡ open_count g (i + 1) r) (sym e)
          (on_bool (opens_at g i)
          (λ o. ap (λ (b : Bool). cond b (open_count g i (key g i) + 1) (cond (closes_at g i) (open_count g i (key g i) - 1) (open_count g i (key g i)))) o
          ∙ sym (count_opens g i u o s (f.fresh o)))
          (λ o.
          let c : closes_at g i ≡ true = sym (ap (λ (b : Bool). b || closes_at g i) o) ∙ h in
          ap₂ (λ (a b : Bool). cond a (open_count g i (key g i) + 1) (cond b (open_count g i (key g i) - 1) (open_count g i (key g i)))) o c
          ∙ omega (arith, count_closes g i u c o s (f.stale c))))

  module _ (i : ℕ) (l : i < size g) where
    -- where a segment closes, its road has an open one
    pub closing_open : is_closing (kind_at n x i) ≡ true → 0 < count_at n x y N C i
    closing_open h =
        let c : closes_at g i ≡ true = sym (ap is_closing (kind_is i l)) ∙ h in
        let (k, _) = closing_alone (kind_at n x i) h in
        let (_, o) = closing_alone (kind_of n (event g i).0) c in
        omega (
          arith,
          ap (counts_by n x y N C i) (key_is i l k),
          counts_are i (omega arith) (key g i) (key_fits i l k),
          count_closes g i l c o (sound_segment g q.sound i l (changes_is i l k)) ((sound_fine g q.sound i l).stale c),
        )

    -- the tag of event i
    pub tags_are : tags_by n x y N C i ≡ word g 0 i
    unfolding tags_by
    tags_are = on_bool (is_query (kind_at n x i))
        (λ h. ap (λ (b : Bool). cond b 0 (tag_by (N (get_or y i 0)) (count_at n x y N C i) (count_after (kind_at n x i) (count_at n x y N C i)))) h
        ∙ sym (word_none g i 0 (asked_not i l h)))
        (λ h.
        let k = key_is i l h in
        let before : count_at n x y N C i ≡ open_count g i (key g i) = ap (counts_by n x y N C i) k ∙ counts_are i (omega arith) (key g i) (key_fits i l h) in
        let after : count_after (kind_at n x i) (count_at n x y N C i) ≡ open_count g (i + 1) (key g i) =
        sym (counts_own n x y N C i h) ∙ ap (counts_by n x y N C (i + 1)) k ∙ counts_are (i + 1) (omega arith) (key g i) (key_fits i l h) in
        ap (λ (b : Bool). cond b 0 (tag_by (N (get_or y i 0)) (count_at n x y N C i) (count_after (kind_at n x i) (count_at n x y N C i)))) h
        ∙ ap₂ (λ (r c : ℕ). tag_by r c (count_after (kind_at n x i) (count_at n x y N C i))) k before ∙ ap (tag_by (key g i) (open_count g i (key g i))) after
        ∙ sym ((word_change g i (changes_is i l h)).0 ∙ tag_counts g i))
