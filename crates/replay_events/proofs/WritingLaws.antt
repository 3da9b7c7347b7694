-- The passes over the events: words written one after another, the junctions, the links, and all of it together.
-- In order: the tags' names; words one after another; the junctions; the links to the last event and to the next; the whole.
-- Assumes nothing.
use Prim.Native.Nat.{◌%◌, ◌*◌, ◌+◌, ◌-◌, ◌/◌, ◌<◌, ◌≤◌, min, suc, zero, ℕ}
use mathlib.Core.Bool.{Bool, ◌&&◌, cond, false, not, true}
use mathlib.Core.List.{List, [], ◌++◌, ◌∷◌}
use mathlib.Core.Path.{◌∙◌, ◌≡◌, ap, ap₂, refl, subst, sym}
use lib.Dec.{eqb, ltb}
use lib.ListN.{drop, get_or, get_or-replicate, length, length-drop, length-replicate, length-set, length-take, replicate, set, take}
use lib.Seq.{ext_get_or, get_or-drop, get_or-set_other, get_or-set_same, get_or-take, length-sets, length-take-le, sets, take_all, take-suc, take-take}
use native.Mathlib.Numerals.{add-one}
use native.Mathlib.Omega.{arith}
use borrow.Author.Tests.{eq-eqb, eqb-false, eqb-true, ltb-true, ne_eqb}
use Rattle.call_kinds.specs.Kinds.{is_query, kind_of}
use Rattle.call_sizes.proofs.RefusalLaws.{seek_here, seek_more, seek_past}
use Rattle.call_sizes.specs.Refusal.{seek}
use Rattle.theory_graph.proofs.Booleans.{on_bool}
use Rattle.theory_graph.proofs.Ends.{ends_in_at}
use Rattle.theory_graph.proofs.TableLaws.{pairs_at, pairs_length, sets_append}
use Rattle.theory_graph.specs.Graph.{Edge}
use Rattle.theory_graph.specs.Lists.{pairs}
use Rattle.theory_graph.specs.SmallGraph.{ends_in}
use Rattle.theory_timeline.proofs.Acceptance.{pairs_equal, pairs_most, sound_changes, sound_segment}
use Rattle.theory_timeline.proofs.CountLaws.{open_most}
use Rattle.theory_timeline.proofs.Counting.{bit_most}
use Rattle.theory_timeline.proofs.RoadLaws.{road_most}
use Rattle.theory_timeline.proofs.TagLaws.{names_none, tag_says, word_change, word_none, words_at, words_length}
use Rattle.theory_timeline.specs.Events.{Event, active_of, asks, ends}
use Rattle.theory_timeline.specs.Roads.{road}
use Rattle.theory_timeline.specs.Steps.{Sound}
use Rattle.theory_timeline.specs.Tags.{event_words, key, key_of, last, names_key, next, seek_last, tag, word}
use Rattle.theory_timeline.specs.Windows.{Timeline, active, changes_at, during, event, open_before, roads_before, size}
use Rattle.replay_step.proofs.LoadLaws.{active_length}
use Rattle.replay_step.proofs.WordLaws.{map_self, mid_sets}
use Rattle.replay_step.specs.Area.{EventsIn}
use Rattle.replay_roads.specs.Counting.{RoadTables, RoadsCounted}
use Rattle.replay_roads.specs.Runs.{run}
use Rattle.replay_events.proofs.TaggingLaws.{Listed, closing_open, counts_are, tags_are}
use Rattle.replay_events.specs.Kinds.{kind_at}
use Rattle.replay_events.specs.Tagging.{Tagged, TagsReady}
use Rattle.replay_events.specs.Writing.{CanPlace, CanWriteEvents, EventsWritten, LinkedEvent, TagsFit, Written}
use Rattle.replay_events.specs.Writing.{last_by, list_of, names_tag, next_by, tags_in}

-- ---- the tags' names
seek_last_same : (f h : ℕ → Bool) (k : ℕ) → ((j : ℕ) → j < k → f j ≡ h j) → seek_last f k ≡ seek_last h k
seek_last_same f h zero e = refl
seek_last_same f h (suc k) e = ap₂ (λ (b : Bool) (r : ℕ). cond b (suc k) r) (e k (omega arith)) (seek_last_same f h k (λ j l. e j (omega arith)))

seek_same : (f h : ℕ → Bool) (i k : ℕ) → ((j : ℕ) → i ≤ j → j < i + k → f j ≡ h j) → seek f i k ≡ seek h i k
seek_same f h i zero e = refl
seek_same f h i (suc k) e = ap₂ (λ (b : Bool) (r : ℕ). cond b i r) (e i (omega arith) (omega arith)) (seek_same f h (i + 1) k (λ j a b. e j (omega arith) (omega arith)))

module _ (g : Timeline) (T : ℕ → ℕ) (h : (j : ℕ) → j < size g → T j ≡ word g 0 j) where
  pub names_tag_lem : (k j : ℕ) → j < size g → names_tag T k j ≡ names_key g k j
  names_tag_lem k j l = ap (λ (x : ℕ). ltb 0 x && eqb k (key_of x)) (h j l) ∙ on_bool (changes_at g j)
      (λ q. let s = tag_says g j in
      ap (λ (x : ℕ). ltb 0 x && eqb k (key_of x)) (word_change g j q).0 ∙ ap₂ (λ (b : Bool) (x : ℕ). b && eqb k x) s.change s.named
      ∙ sym (ap (λ (b : Bool). b && eqb k (key g j)) q))
      (λ q. ap (λ (x : ℕ). ltb 0 x && eqb k (key_of x)) (word_none g j 0 q) ∙ sym (names_none g j k q))

  module _ (j : ℕ) (l : j < size g) where
    -- a link by the tags: 0 where the event names no segment, and for one that opens or closes by its key
    by_tag : (A : ℕ → ℕ) (k : ℕ) (v : ℕ) → (changes_at g j ≡ true → word g k j ≡ v) → (changes_at g j ≡ true → A (key g j) ≡ v) → cond (ltb 0 (T j)) (A (key_of (T j))) 0 ≡ word g k j
    by_tag A k v p q = ap (λ (x : ℕ). cond (ltb 0 x) (A (key_of x)) 0) (h j l) ∙ on_bool (changes_at g j)
        (λ a. let s = tag_says g j in
        ap (λ (x : ℕ). cond (ltb 0 x) (A (key_of x)) 0) (word_change g j a).0 ∙ ap₂ (λ (b : Bool) (x : ℕ). cond b (A x) 0) s.change s.named ∙ q a ∙ sym (p a))
        (λ a. ap (λ (x : ℕ). cond (ltb 0 x) (A (key_of x)) 0) (word_none g j 0 a) ∙ sym (word_none g j k a))

    pub last_word : last_by T j ≡ word g 2 j
    unfolding last_by last
    last_word = by_tag (λ k. seek_last (names_tag T k) j) 2 (last g j) (λ a. (word_change g j a).2) (λ a. seek_last_same _ _ j (λ i u. names_tag_lem (key g j) i (omega arith)))

    pub next_word : next_by T (size g) j ≡ word g 1 j
    unfolding next_by next
    next_word = by_tag (λ k. seek (names_tag T k) (j + 1) (size g - (j + 1))) 1 (next g j) (λ a. (word_change g j a).1)
        (λ a. seek_same _ _ (j + 1) (size g - (j + 1)) (λ i u b. names_tag_lem (key g j) i (omega arith)))

-- ---- words one after another
module _ {t k : ℕ} {f : ℕ → ℕ} {a b : ℕ} {w z : List ℕ} (q : Written t k f a b w z) (i x : ℕ) (e : x ≡ f i) (fits : 2 * t + 3 * i + k < length z) where
  written_put : (a' b' : ℕ) → ((j : ℕ) → a' ≤ j → j < b' → ¬ (j ≡ i) → (a ≤ j) × (j < b)) → ((j : ℕ) → a ≤ j → j < b → (a' ≤ j) × (j < b')) → (a' ≤ i) × (i < b')
      → Written t k f a' b' w (set z (2 * t + 3 * i + k) x)
  written_put a' b' old new own = record {
    long = length-set z (2 * t + 3 * i + k) x ∙ q.long;
    here = λ j c d. on_bool (eqb j i)
        (λ s. let y = eqb-true j i s in ap (λ (n : ℕ). get_or (set z (2 * t + 3 * i + k) x) (2 * t + 3 * n + k) 0) y ∙ get_or-set_same z (2 * t + 3 * i + k) x 0 fits ∙ e ∙ ap f (sym y))
        (λ s. let y = eqb-false j i s in let (u, v) = old j c d y in get_or-set_other z (2 * t + 3 * i + k) (2 * t + 3 * j + k) x 0 (λ r. y (omega arith)) ∙ q.here j u v);
    else = λ d h. get_or-set_other z (2 * t + 3 * i + k) d x 0 (λ r. h i own.0 own.1 r) ∙ q.else d (λ j c u. let (r, s) = new j c u in h j r s);
  }

pub written_none : (t k : ℕ) (f : ℕ → ℕ) (a : ℕ) (w : List ℕ) → Written t k f a a w w
written_none t k f a w = record { long = refl; here = λ j c d. absurd (omega arith); else = λ d h. refl }

pub written_up : {t k : ℕ} {f : ℕ → ℕ} {i : ℕ} {w z : List ℕ} → Written t k f 0 i w z → (x : ℕ) → x ≡ f i → 2 * t + 3 * i + k < length z
    → Written t k f 0 (i + 1) w (set z (2 * t + 3 * i + k) x)
written_up {i = i} q x e l = written_put q i x e l 0 (i + 1) (λ j c d n. (omega arith, omega arith)) (λ j c d. (omega arith, omega arith)) (omega arith, omega arith)

pub written_down : {t k : ℕ} {f : ℕ → ℕ} {i b : ℕ} {w z : List ℕ} → Written t k f (i + 1) b w z → i < b → (x : ℕ) → x ≡ f i → 2 * t + 3 * i + k < length z
    → Written t k f i b w (set z (2 * t + 3 * i + k) x)
written_down {i = i} {b} q h x e l = written_put q i x e l i b (λ j c d n. (omega arith, omega arith)) (λ j c d. (omega arith, omega arith)) (omega arith, omega arith)

-- the tags are not touched by another word
pub tags_stay : {t k : ℕ} {f : ℕ → ℕ} {a b : ℕ} {w z : List ℕ} → Written t k f a b w z → 0 < k → k < 3 → (i : ℕ) → tags_in t z i ≡ tags_in t w i
tags_stay {t} q s l i = q.else (2 * t + 3 * i) (λ j a b r. omega arith)

-- ---- the junctions
junctions_snoc : (n : ℕ) (segs : List Edge) (evs : List Event) (e : Event) → active_of n segs (evs ++ (e ∷ [])) ≡ active_of n segs evs ++ ((ends n segs e).0 ∷ (ends n segs e).1 ∷ [])
unfolding active_of
junctions_snoc n segs [] e = refl
junctions_snoc n segs (d ∷ evs) e = ap (λ l. (ends n segs d).0 ∷ (ends n segs d).1 ∷ l) (junctions_snoc n segs evs e)

-- the junctions of the first i events are written
pub record Placed (n : ℕ) (a b x y w z : List ℕ) (i : ℕ) : Type 0 where
  pub most : i ≤ length x
  pub is : z ≡ sets w 0 (active_of n (pairs a b) (take i (pairs x y)))

pub placed_none : (n : ℕ) (a b x y w : List ℕ) → Placed n a b x y w w 0
unfolding active_of
placed_none n a b x y w = record { most = omega arith; is = refl }

junctions_more : (n : ℕ) (segs : List Edge) (x y : List ℕ) (i : ℕ) (w z : List ℕ) → i < length x → length y ≡ length x → z ≡ sets w 0 (active_of n segs (take i (pairs x y)))
    → set (set z (2 * i) (ends n segs (get_or x i 0, get_or y i 0)).0) (2 * i + 1) (ends n segs (get_or x i 0, get_or y i 0)).1 ≡ sets w 0 (active_of n segs (take (i + 1) (pairs x y)))
junctions_more n segs x y i w z l q e =
    let p = pairs_length x y (i + 1) (omega arith) (omega arith) in
    let ev : Event = (get_or x i 0, get_or y i 0) in
    let A : List ℕ = active_of n segs (take i (pairs x y)) in
    let la : 0 + length A ≡ 2 * i = omega (arith, active_length n segs (take i (pairs x y)), length-take-le i (pairs x y) (omega arith)) in
    let s : 2 * i + 1 ≡ suc (2 * i) = omega arith in
    let t : take (i + 1) (pairs x y) ≡ take i (pairs x y) ++ (ev ∷ []) =
    ap (λ k. take k (pairs x y)) (add-one i) ∙ take-suc (pairs x y) i (0, 0) (omega arith) ∙ ap (λ (v : Event). take i (pairs x y) ++ (v ∷ [])) (pairs_at x y i l (omega arith)) in
    ap₂ (λ (z : List ℕ) (k : ℕ). set (set z (2 * i) (ends n segs ev).0) k (ends n segs ev).1) e s
    ∙ ap (λ (k : ℕ). sets (sets w 0 A) k ((ends n segs ev).0 ∷ (ends n segs ev).1 ∷ [])) (sym la)
    ∙ sym (sets_append A w 0 ((ends n segs ev).0 ∷ (ends n segs ev).1 ∷ []))
    ∙ ap (sets w 0) (sym (ap (active_of n segs) t ∙ junctions_snoc n segs (take i (pairs x y)) ev))

junctions_all : (n : ℕ) (segs : List Edge) (x y : List ℕ) (i : ℕ) (w z : List ℕ) → i ≡ length x → z ≡ sets w 0 (active_of n segs (take i (pairs x y)))
    → z ≡ sets w 0 (active_of n segs (pairs x y))
junctions_all n segs x y i w z l e = e ∙ ap (λ l. sets w 0 (active_of n segs l)) (take_all i (pairs x y) (pairs_most x y i (omega arith)))

pub placed_more : {n : ℕ} {a b x y w z : List ℕ} {i : ℕ} → Placed n a b x y w z i → i < length x → length y ≡ length x → {z' : List ℕ}
    → z' ≡ set (set z (2 * i) (ends n (pairs a b) (get_or x i 0, get_or y i 0)).0) (2 * i + 1) (ends n (pairs a b) (get_or x i 0, get_or y i 0)).1 → Placed n a b x y w z' (i + 1)
placed_more {n} {a} {b} {x} {y} {w} {z} {i} q l e {z'} h = record { most = omega arith; is = h ∙ junctions_more n (pairs a b) x y i w z l e q.is }

pub placed_all : {n : ℕ} {a b x y w z : List ℕ} {i : ℕ} → Placed n a b x y w z i → i ≡ length x → z ≡ sets w 0 (active_of n (pairs a b) (pairs x y))
placed_all {n} {a} {b} {x} {y} {w} {z} {i} q e = junctions_all n (pairs a b) x y i w z e q.is

-- what is written of one event
module _ (n : ℕ) (a b : List ℕ) (x y : ℕ) where
  pub ends_asked : is_query (kind_of n x) ≡ true → ends n (pairs a b) (x, y) ≡ (x, y)
  ends_asked h = ap (λ (c : Bool). cond c (x, y) (get_or (pairs a b) y (0, 0))) h

  pub ends_named : is_query (kind_of n x) ≡ false → y < length a → y < length b → ends n (pairs a b) (x, y) ≡ (get_or a y 0, get_or b y 0)
  ends_named h l k = ap (λ (c : Bool). cond c (x, y) (get_or (pairs a b) y (0, 0))) h ∙ pairs_at a b y l k

-- ---- the links
-- the first i events are linked to the last before them
pub record Lasts (t : ℕ) (w₀ H w : List ℕ) (i : ℕ) : Type 0 where
  pub most : i ≤ t
  pub long : length H ≡ 8192
  pub written : Written t 2 (last_by (tags_in t w₀)) 0 i w₀ w
  pub heads : (s : ℕ) → s < 8192 → get_or H s 0 ≡ seek_last (names_tag (tags_in t w₀) s) i

-- the events from i on are linked to the next
pub record Nexts (t : ℕ) (w₀ H w : List ℕ) (i : ℕ) : Type 0 where
  pub most : i ≤ t
  pub long : length H ≡ 8192
  pub written : Written t 1 (next_by (tags_in t w₀) t) i t w₀ w
  pub heads : (s : ℕ) → s < 8192 → get_or H s 0 ≡ seek (names_tag (tags_in t w₀) s) i (t - i)

pub nexts_at : {t i j : ℕ} {w₀ H w : List ℕ} → Nexts t w₀ H w i → i ≡ j → Nexts t w₀ H w j
nexts_at a e = rw e at a

-- the head of each key, one event more: v at the event's own key
heads_at : (P : ℕ → ℕ → Type 0) (heads : List ℕ) (k v : ℕ) → length heads ≡ 8192 → P k v → ((s : ℕ) → s < 8192 → ¬ (s ≡ k) → P s (get_or heads s 0)) → (s : ℕ)
    → s < 8192 → P s (get_or (set heads k v) s 0)
heads_at P heads k v l a b s u = on_bool (eqb s k)
    (λ q. let e = eqb-true s k q in
    subst (λ (n : ℕ). P s n) (sym (ap (λ (j : ℕ). get_or (set heads k v) j 0) e ∙ get_or-set_same heads k v 0 (omega arith))) (subst (λ (j : ℕ). P j v) (sym e) a))
    (λ q. let e = eqb-false s k q in subst (λ (n : ℕ). P s n) (sym (get_or-set_other heads k s v 0 e)) (b s u e))

module _ {t i k v : ℕ} {w₀ heads w heads' w' : List ℕ} (fit : TagsFit t w₀) (l : i < t) (stay : tags_in t w i ≡ tags_in t w₀ i) (q : LinkedEvent t i k v heads w heads' w') where
  abbrev T : ℕ → ℕ
  T = tags_in t w₀

  own_key : ltb 0 (T i) ≡ true → key_of (T i) < 8192
  own_key h = omega (arith, fit.keys i l, ltb-true 0 (T i) h)

  changed : ltb 0 (T i) ≡ true → (w' ≡ set w (2 * t + 3 * i + k) (get_or heads (key_of (T i)) 0)) × (heads' ≡ set heads (key_of (T i)) v)
  changed h = let r = q.change (ap (ltb 0) stay ∙ h) in rw stay at r

  asked : ltb 0 (T i) ≡ false → (w' ≡ set w (2 * t + 3 * i + k) 0) × (heads' ≡ heads)
  asked h = q.query (ap (ltb 0) stay ∙ h)

  named_own : ltb 0 (T i) ≡ true → names_tag T (key_of (T i)) i ≡ true
  named_own h = ap₂ ◌&&◌ h (eq-eqb (key_of (T i)) (key_of (T i)) refl)

  named_other : (s : ℕ) → ¬ (s ≡ key_of (T i)) → names_tag T s i ≡ false
  named_other s n = ap (λ (b : Bool). ltb 0 (T i) && b) (ne_eqb s (key_of (T i)) n) ∙ off (ltb 0 (T i))
    where
      off : (b : Bool) → (b && false) ≡ false
      off true = refl
      off false = refl

  named_none : (s : ℕ) → ltb 0 (T i) ≡ false → names_tag T s i ≡ false
  named_none s h = ap (λ (b : Bool). b && eqb s (key_of (T i))) h

  -- what is written, and the heads then, by one function of keys each
  module _ (A B : ℕ → ℕ) (f : ℕ → ℕ) (long : length heads ≡ 8192) (old : (s : ℕ) → s < 8192 → get_or heads s 0 ≡ A s) (fi : f i ≡ cond (ltb 0 (T i)) (A (key_of (T i))) 0)
      (here : ltb 0 (T i) ≡ true → v ≡ B (key_of (T i))) (else : (s : ℕ) → names_tag T s i ≡ false → A s ≡ B s) where
    pub link_word : (x : ℕ) × (x ≡ f i) × (w' ≡ set w (2 * t + 3 * i + k) x)
    link_word = on_bool (ltb 0 (T i))
        (λ h. (get_or heads (key_of (T i)) 0, old (key_of (T i)) (own_key h) ∙ sym (fi ∙ ap (λ (b : Bool). cond b (A (key_of (T i))) 0) h), (changed h).0))
        (λ h. (0, sym (fi ∙ ap (λ (b : Bool). cond b (A (key_of (T i))) 0) h), (asked h).0))

    pub link_heads : (s : ℕ) → s < 8192 → get_or heads' s 0 ≡ B s
    link_heads s u = on_bool (ltb 0 (T i))
        (λ h. ap (λ (l : List ℕ). get_or l s 0) (changed h).1 ∙ heads_at (λ s x. x ≡ B s) heads (key_of (T i)) v long (here h) (λ s u n. old s u ∙ else s (named_other s n)) s u)
        (λ h. ap (λ (l : List ℕ). get_or l s 0) (asked h).1 ∙ old s u ∙ else s (named_none s h))

    pub link_long : length heads' ≡ 8192
    link_long = on_bool (ltb 0 (T i)) (λ h. ap length (changed h).1 ∙ length-set heads (key_of (T i)) v ∙ long) (λ h. ap length (asked h).1 ∙ long)

pub lasts_none : (t : ℕ) (w₀ : List ℕ) → Lasts t w₀ (replicate 8192 0) w₀ 0
lasts_none t w₀ = record { most = omega arith; long = length-replicate {A = ℕ} 8192 0; written = written_none t 2 _ 0 w₀; heads = λ s u. get_or_zero s u }
  where
    get_or_zero : (s : ℕ) → s < 8192 → ◌≡◌ {A = ℕ} (get_or (replicate 8192 0) s 0) 0
    get_or_zero s u = get_or-replicate {A = ℕ} 8192 s 0 0 u

pub nexts_none : (t : ℕ) (w₀ : List ℕ) → Nexts t w₀ (replicate 8192 t) w₀ t
nexts_none t w₀ = record {
  most = omega arith;
  long = length-replicate 8192 t;
  written = written_none t 1 _ t w₀;
  heads = λ s u. get_or-replicate 8192 s t 0 u
      ∙ sym (seek_past (names_tag (tags_in t w₀) s) t t (omega arith));
}

module _ {t i : ℕ} {w₀ heads w : List ℕ} (fit : TagsFit t w₀) where
  pub lasts_more : Lasts t w₀ heads w i → i < t → (v : ℕ) → v ≡ i + 1 → {heads' w' : List ℕ} → LinkedEvent t i 2 v heads w heads' w' → Lasts t w₀ heads' w' (i + 1)
  unfolding last_by
  lasts_more a l v e {heads'} {w'} q =
      let T : ℕ → ℕ = tags_in t w₀ in
      let stay = tags_stay a.written (omega arith) (omega arith) i in
      let A : ℕ → ℕ = λ s. seek_last (names_tag T s) i in
      let B : ℕ → ℕ = λ s. seek_last (names_tag T s) (i + 1) in
      let more : (s : ℕ) → B s ≡ cond (names_tag T s i) (suc i) (A s) = λ s. ap (λ (n : ℕ). seek_last (names_tag T s) n) (add-one i) in
      let here : ltb 0 (T i) ≡ true → v ≡ B (key_of (T i)) = λ h. e ∙ add-one i ∙ sym (more (key_of (T i)) ∙ ap (λ (b : Bool). cond b (suc i) (A (key_of (T i)))) (named_own fit l stay q h)) in
      let else : (s : ℕ) → names_tag T s i ≡ false → A s ≡ B s = λ s n. sym (more s ∙ ap (λ (b : Bool). cond b (suc i) (A s)) n) in
      let (x, ex, ew) = link_word fit l stay q A B (last_by T) a.long a.heads refl here else in
      record {
        most = omega arith;
        long = link_long fit l stay q A B (last_by T) a.long a.heads refl here else;
        written = subst (λ (z : List ℕ). Written t 2 (last_by T) 0 (i + 1) w₀ z) (sym ew) (written_up a.written x ex (omega (arith, fit.room, a.written.long)));
        heads = link_heads fit l stay q A B (last_by T) a.long a.heads refl here else;
      }

  pub nexts_more : Nexts t w₀ heads w (i + 1) → (v : ℕ) → v ≡ i → {heads' w' : List ℕ} → LinkedEvent t i 1 v heads w heads' w' → Nexts t w₀ heads' w' i
  unfolding next_by
  nexts_more a v e {heads'} {w'} q =
      let m = a.most in
      let l : i < t = omega arith in
      let T : ℕ → ℕ = tags_in t w₀ in
      let stay = tags_stay a.written (omega arith) (omega arith) i in
      let A : ℕ → ℕ = λ s. seek (names_tag T s) (i + 1) (t - (i + 1)) in
      let B : ℕ → ℕ = λ s. seek (names_tag T s) i (t - i) in
      let here : ltb 0 (T i) ≡ true → v ≡ B (key_of (T i)) = λ h. e ∙ sym (seek_here (names_tag T (key_of (T i))) i t l (named_own fit l stay q h)) in
      let else : (s : ℕ) → names_tag T s i ≡ false → A s ≡ B s = λ s n. sym (seek_more (names_tag T s) i t l n) in
      let (x, ex, ew) = link_word fit l stay q A B (next_by T t) a.long a.heads refl here else in
      record {
        most = omega arith;
        long = link_long fit l stay q A B (next_by T t) a.long a.heads refl here else;
        written = subst (λ (z : List ℕ). Written t 1 (next_by T t) i t w₀ z) (sym ew) (written_down a.written l x ex (omega (arith, fit.room, a.written.long)));
        heads = link_heads fit l stay q A B (next_by T t) a.long a.heads refl here else;
      }

-- ---- the whole
tag_most : (g : Timeline) (j : ℕ) → tag g j ≤ 4 * key g j + 4
unfolding tag
tag_most g j = omega (arith, bit_most (roads_before g j (key g j)), bit_most (roads_before g (j + 1) (key g j)))

-- a tag has a key below 8,192
pub word_most : (g : Timeline) → Sound g → (j : ℕ) → j < size g → word g 0 j ≤ 32768
word_most g sound j l = on_bool (changes_at g j)
    (λ h. omega (arith, (word_change g j h).0, tag_most g j, sound_segment g sound j l h, road_most g.segments (event g j).1, sound.segments_few))
    (λ h. omega (arith, word_none g j 0 h))

pub same_front : (k : ℕ) (w z : List ℕ) → length z ≡ length w → ((d : ℕ) → d < k → get_or z d 0 ≡ get_or w d 0) → take k z ≡ take k w
same_front k w z l h = ext_get_or 0 (take k z) (take k w) (length-take k z ∙ ap (λ (n : ℕ). min k n) l ∙ sym (length-take k w)) λ i u.
    let b : i < k = omega (arith, length-take k z) in
    get_or-take k z i 0 b ∙ h i b ∙ sym (get_or-take k w i 0 b)

pub word_key : (g : Timeline) → Sound g → (j : ℕ) → j < size g → 0 < word g 0 j → key_of (word g 0 j) < length g.segments
word_key g sound j l s = on_bool (changes_at g j)
    (λ h. subst (λ (k : ℕ). k < length g.segments) (sym (ap key_of (word_change g j h).0 ∙ (tag_says g j).named))
    (omega (arith, sound_segment g sound j l h, road_most g.segments (event g j).1)))
    (λ h. absurd (omega (arith, word_none g j 0 h)))

-- both ends of each segment are junctions
pub ends_low : (n : ℕ) (a b : List ℕ) → length b ≡ length a → ends_in (λ v. ltb v n) (pairs a b) ≡ true → (s : ℕ) → s < length a → (get_or a s 0 < n) × (get_or b s 0 < n)
ends_low n a b e h s l =
    let (u, v) = ends_in_at (λ v. ltb v n) (pairs a b) s (omega (arith, pairs_equal a b e)) h in
    let p = pairs_at a b s l (omega arith) in
    (subst (λ (k : ℕ). k < n) (ap (λ (k : Edge). k.0) p) (ltb-true _ _ u), subst (λ (k : ℕ). k < n) (ap (λ (k : Edge). k.1) p) (ltb-true _ _ v))

-- words behind those that are set
sets_past : (vs l : List ℕ) (i d : ℕ) → i + length vs ≤ d → get_or (sets l i vs) d 0 ≡ get_or l d 0
sets_past [] l i d h = refl
sets_past (v ∷ vs) l i d h = sets_past vs (set l i v) (suc i) d (omega arith) ∙ get_or-set_other l i d v 0 (λ z. omega arith)

module _ {n : ℕ} {a b start x y w : List ℕ} (c : CanWriteEvents n a b start x y w) where
  abbrev g : Timeline
  g = list_of n a b start x y

  abbrev t : ℕ
  t = length x

  abbrev m : ℕ
  m = length a

  -- the names of the roads stand from here on, and behind them the counts
  abbrev q : ℕ
  q = 5 * length x

  pub size_is : size g ≡ t
  size_is = pairs_equal x y c.events

  segments_are : length (pairs a b) ≡ m
  segments_are = pairs_equal a b c.segments

  event_is : (i : ℕ) → i < t → event g i ≡ (get_or x i 0, get_or y i 0)
  event_is i l = pairs_at x y i l (omega (arith, c.events))

  pub roads_need : RoadTables n a b start
  roads_need =
      record {
        segments = record { much = omega (arith, c.sound.segments_few, segments_are); b_long = c.segments; ends = ends_low n a b c.segments c.sound.ends };
        start_long = c.start_long;
      }

  abbrev J : List ℕ
  J = active_of n (pairs a b) (pairs x y)

  J_length : length J ≡ 2 * t
  J_length = active_length n (pairs a b) (pairs x y) ∙ ap (λ (k : ℕ). 2 * k) size_is

  -- an event that is no query names a segment of both tables
  named_in : (i : ℕ) → i < t → is_query (kind_at n x i) ≡ false → get_or y i 0 < m
  named_in i l h =
      let s : i < size g = omega (arith, size_is) in
      let e = event_is i l in
      let k : changes_at g i ≡ true = sound_changes g c.sound i s ∙ ap not (ap (λ (e : Event). asks n e) e ∙ h) in
      omega (arith, sound_segment g c.sound i s k, ap (λ (e : Event). e.1) e, segments_are)

  -- the roads are counted (w₀)
  module _ {w₀ : List ℕ} (r : RoadsCounted a b start q w w₀) where
    pub place_need : CanPlace n a b x y w₀
    place_need = record {
      events = c.events;
      room = omega (arith, c.room, r.long);
      named = λ i l h. let s = named_in i l h in (s, omega (arith, c.segments));
    }

    -- the junctions are written (w₁)
    module _ {w₁ : List ℕ} (e₁ : w₁ ≡ sets w₀ 0 J) where
      length_1 : length w₁ ≡ length w
      length_1 = ap length e₁ ∙ length-sets w₀ 0 J ∙ r.long

      behind_1 : (d : ℕ) → 2 * t ≤ d → get_or w₁ d 0 ≡ get_or w₀ d 0
      behind_1 d l = ap (λ (l : List ℕ). get_or l d 0) e₁ ∙ sets_past J w₀ 0 d (omega (arith, J_length))

      names_1 : (s : ℕ) → s < m → run q w₁ s ≡ road (pairs a b) s
      names_1 s l = behind_1 (q + s) (omega arith) ∙ r.names s l

      listed : Listed g x y (run q w₁) (run (q + m) w₁)
      unfolding open_before
      listed = record {
        sound = c.sound;
        events = λ i l. event_is i (omega (arith, size_is));
        named = λ s l. names_1 s (omega (arith, segments_are));
        counted = λ s l. behind_1 (q + m + s) (omega arith) ∙ r.counts s (omega (arith, segments_are));
      }

      counts_most : (s : ℕ) → s < m → run (q + m) w₁ s ≤ 8192
      counts_most s l =
          omega (arith, listed.counted s (omega (arith, segments_are)), open_most (pairs a b) (open_before g 0) s, segments_are, c.sound.segments_few)

      pub tags_need : TagsReady n x y q (q + m) w₁
      tags_need = record {
        much = c.much;
        y_long = c.events;
        apart = (omega arith, omega arith, omega (arith, c.room, length_1));
        named = λ i l h.
            let s = named_in i l h in
            let e = names_1 (get_or y i 0) s in
            let k : run q w₁ (get_or y i 0) < m = omega (arith, road_most (pairs a b) (get_or y i 0)) in (
              omega arith,
              omega (arith, c.sound.segments_few, segments_are),
              omega (arith, c.room, length_1),
              counts_most (run q w₁ (get_or y i 0)) k,
            );
        some = λ i l h. closing_open listed i (omega (arith, size_is)) h;
      }

      -- the tags are written (w₂)
      module _ {w₂ : List ℕ} (P₀ : Tagged n x y q (q + m) w₁ w₂ (length x)) where
        tags_2 : (j : ℕ) → j < size g → tags_in t w₂ j ≡ word g 0 j
        tags_2 j l = P₀.tags j (omega (arith, size_is)) ∙ tags_are listed j l

        pub tags_fit : TagsFit t w₂
        tags_fit = record {
          much = c.much;
          room = omega (arith, c.room, P₀.long, length_1);
          keys = λ j l. let s : j < size g = omega (arith, size_is) in omega (arith, tags_2 j s, word_most g c.sound j s);
        }

        -- and the links to the last event (w₃)
        module _ {w₃ : List ℕ} (P₂ : Written t 2 (last_by (tags_in t w₂)) 0 t w₂ w₃) where
          tags_3 : (j : ℕ) → tags_in t w₃ j ≡ tags_in t w₂ j
          tags_3 = tags_stay P₂ (omega arith) (omega arith)

          pub tags_fit_3 : TagsFit t w₃
          tags_fit_3 = record { much = c.much; room = omega (arith, tags_fit.room, P₂.long); keys = λ j l. omega (arith, tags_fit.keys j l, tags_3 j) }

          -- and to the next (w₄)
          module _ {w₄ : List ℕ} (P₁ : Written t 1 (next_by (tags_in t w₃) t) 0 t w₃ w₄) where
            length_4 : length w₄ ≡ length w
            length_4 = P₁.long ∙ P₂.long ∙ P₀.long ∙ length_1

            front_4 : (d : ℕ) → d < 2 * t → get_or w₄ d 0 ≡ get_or w₁ d 0
            front_4 d l = P₁.else d (λ j c u r. omega arith) ∙ P₂.else d (λ j c u r. omega arith) ∙ P₀.else d (omega arith) (λ j u r. omega arith)

            junctions : J ≡ active g (0, t)
            unfolding active during
            junctions = ap (active_of n (pairs a b)) (sym (take_all t (pairs x y) (pairs_most x y t (omega arith))))

            word_4 : (j k : ℕ) → j < t → k < 3 → get_or w₄ (2 * t + 3 * j + k) 0 ≡ word g k j
            word_4 j zero l u =
                let z : 2 * t + 3 * j + 0 ≡ 2 * t + 3 * j = omega arith in
                ap (λ (d : ℕ). get_or w₄ d 0) z ∙ P₁.else (2 * t + 3 * j) (λ i c v r. omega arith) ∙ tags_3 j ∙ tags_2 j (omega (arith, size_is))
            word_4 j (suc zero) l u =
                P₁.here j (omega arith) l ∙ ap (λ (m : ℕ). next_by (tags_in t w₃) m j) (sym size_is)
                ∙ next_word g (tags_in t w₃) (λ i s. tags_3 i ∙ tags_2 i s) j (omega (arith, size_is))
            word_4 j (suc (suc zero)) l u =
                P₁.else (2 * t + 3 * j + 2) (λ i c v r. omega arith) ∙ P₂.here j (omega arith) l ∙ last_word g (tags_in t w₂) tags_2 j (omega (arith, size_is))
            word_4 j (suc (suc (suc k))) l u = absurd (omega arith)

            events_stand : EventsIn g (0, t) (λ u. u) (take (5 * t) w₄)
            events_stand = record {
              places =
                  take-take (2 * t) (5 * t) w₄ (omega arith)
                  ∙ same_front (2 * t) w₁ w₄ (length_4 ∙ sym length_1) front_4
                  ∙ ap (take (2 * t)) e₁ ∙ ap (λ (k : ℕ). take k (sets w₀ 0 J)) (sym J_length) ∙ mid_sets J w₀ 0 (omega (arith, J_length, c.room, r.long))
                  ∙ junctions ∙ sym (map_self (active g (0, t)));
              words =
                  let lw : length (take (3 * t) (drop (2 * t) (take (5 * t) w₄))) ≡ 3 * t =
                  rw (length-take, length-drop, length-take) (omega (arith, length_4, c.room)) in
                  ext_get_or 0 (take (3 * t) (drop (2 * t) (take (5 * t) w₄))) (event_words g 0 t) (lw ∙ sym (words_length g 0 t)) λ i u.
                  let l : i < 3 * t = omega arith in
                  let z : i ≡ 3 * (i / 3) + i % 3 = omega arith in
                  let s : 2 * t + i ≡ 2 * t + 3 * (i / 3) + i % 3 = omega arith in
                  let d : 0 + i / 3 ≡ i / 3 = omega arith in
                  get_or-take (3 * t) (drop (2 * t) (take (5 * t) w₄)) i 0 l ∙ get_or-drop (2 * t) (take (5 * t) w₄) i 0 ∙ get_or-take (5 * t) w₄ (2 * t + i) 0 (omega arith)
                  ∙ ap (λ (k : ℕ). get_or w₄ k 0) s ∙ word_4 (i / 3) (i % 3) (omega arith) (omega arith)
                  ∙ sym (ap (λ (k : ℕ). get_or (event_words g 0 t) k 0) z ∙ words_at g 0 t (i / 3) (i % 3) (omega arith) (omega arith) ∙ ap (word g (i % 3)) d);
            }

            pub events_written : EventsWritten n a b start x y w₄
            events_written = record {
              events = events_stand;
              counts = λ s l.
                  P₁.else (q + m + s) (λ j u v e. omega arith) ∙ P₂.else (q + m + s) (λ j u v e. omega arith)
                  ∙ P₀.counted s (omega (arith, c.room, length_1)) ∙ counts_are listed t (omega (arith, size_is)) s (omega (arith, segments_are));
            }
