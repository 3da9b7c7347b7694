-- The words of events: what a tag says, which roads the events beside a part add, and the words of a part of a list.
-- In order: seeking; what a tag says; a key between two events; one key alone; in front of the part, behind it, both; lists of words.
-- Assumes nothing.
use Prim.Native.Nat.{◌%◌, ◌*◌, ◌+◌, ◌-◌, ◌/◌, ◌<◌, ◌≤◌, suc, zero, ℕ}
use mathlib.Core.Bool.{Bool, ◌&&◌, ◌||◌, and-false, cond, false, not, or_assoc, or-false, or-true, true}
use mathlib.Core.List.{List, [], ◌++◌, ◌∷◌}
use mathlib.Core.Logic.{◌⊎◌, inl, inr}
use mathlib.Core.Path.{◌∙◌, ◌≡◌, ap, ap₂, refl, subst, sym}
use lib.Dec.{eqb, leb, ltb}
use lib.ListN.{drop, get_or, length, take}
use lib.Seq.{drop-cons, take-add, take-suc}
use native.Mathlib.Numerals.{add-one}
use native.Mathlib.Omega.{arith}
use borrow.Author.Tests.{eq-eqb, eqb-false, eqb-true, le-ltb, leb-false, leb-true, lt-ltb, ltb-false, ltb-true, ne_eqb}
use Rattle.call_sizes.proofs.RefusalLaws.{seek_before, seek_found}
use Rattle.call_sizes.specs.Refusal.{seek}
use Rattle.theory_graph.proofs.Booleans.{and_elim, contradict, on_bool}
use Rattle.theory_graph.proofs.Lists.{any_in, range_mem}
use Rattle.theory_graph.specs.Cut.{crosses}
use Rattle.theory_graph.specs.Graph.{Edge, NodeSet}
use Rattle.theory_graph.specs.Lists.{any, range}
use Rattle.theory_names.proofs.NamedCuts.{weigh_append}
use Rattle.theory_names.specs.Names.{Entry, Named, weigh}
use Rattle.theory_names.specs.NamedSmallGraph.{image_named}
use Rattle.theory_timeline.proofs.Counting.{bit_most}
use Rattle.theory_timeline.proofs.EventLaws.{changes_asks, pick_ext, pick_sum, roads_stay}
use Rattle.theory_timeline.proofs.Networks.{after_append}
use Rattle.theory_timeline.proofs.RoadLaws.{ends_cross, road_most, road_same}
use Rattle.theory_timeline.specs.Events.{Event, SegmentSet, after, after_all, named_roads, open_roads, pick}
use Rattle.theory_timeline.specs.Steps.{Part, added}
use Rattle.theory_timeline.specs.Tags.{adds, adds_event, bit, ends_at, entry_at, event_words, is_open_after, key, key_of, last, names_key, next, pick_events, seek_last, tag, was_open, word}
use Rattle.theory_timeline.specs.Windows.{Timeline, Window, changes_at, during, event, open_before, roads_before, size}

-- ---- seeking
module _ (f : ℕ → Bool) where
  pub last_most : (k : ℕ) → seek_last f k ≤ k
  last_most zero = omega arith
  last_most (suc k) = go (f k) (last_most k)
    where
      go : (b : Bool) → seek_last f k ≤ k → cond b (suc k) (seek_last f k) ≤ suc k
      go true h = omega arith
      go false h = omega arith

  pub last_found : (k : ℕ) → 0 < seek_last f k → f (seek_last f k - 1) ≡ true
  last_found zero l = absurd (omega arith)
  last_found (suc k) l = go (f k) refl l (last_found k)
    where
      go : (b : Bool) → f k ≡ b → 0 < cond b (suc k) (seek_last f k) → (0 < seek_last f k → f (seek_last f k - 1) ≡ true) → f (cond b (suc k) (seek_last f k) - 1) ≡ true
      go true e l r = let z : suc k - 1 ≡ k = omega arith in ap f z ∙ e
      go false e l r = r l

  pub last_gap : (k j : ℕ) → seek_last f k ≤ j → j < k → f j ≡ false
  last_gap zero j a b = absurd (omega arith)
  last_gap (suc k) j a b = go (f k) refl a (last_gap k j)
    where
      go : (t : Bool) → f k ≡ t → cond t (suc k) (seek_last f k) ≤ j → (seek_last f k ≤ j → j < k → f j ≡ false) → f j ≡ false
      go true e a r = absurd (omega arith)
      go false e a r = on_bool (eqb j k) (λ q. ap f (eqb-true j k q) ∙ e) (λ q. let n : ¬ (j ≡ k) = eqb-false j k q in r a (omega arith))

  seek_low : (i k : ℕ) → i ≤ seek f i k
  seek_low i zero = omega arith
  seek_low i (suc k) = go (f i) (seek_low (i + 1) k)
    where
      go : (b : Bool) → i + 1 ≤ seek f (i + 1) k → i ≤ cond b i (seek f (i + 1) k)
      go true h = omega arith
      go false h = omega arith

-- ---- what a tag says
-- the last bit of a number
odd : (n k : ℕ) (b : Bool) → n ≡ 2 * k + bit b → eqb (n % 2) 1 ≡ b
odd n k true e = eq-eqb (n % 2) 1 (omega arith)
odd n k false e = ne_eqb (n % 2) 1 (λ x. omega arith)

pub record Says (t k : ℕ) (a b : Bool) : Type 0 where
  pub change : ltb 0 t ≡ true
  pub named : key_of t ≡ k
  pub was : was_open t ≡ a
  pub is : is_open_after t ≡ b

pub says : (t k : ℕ) (a b : Bool) → t ≡ 1 + 4 * k + 2 * bit a + bit b → Says t k a b
says t k a b e =
    let la = bit_most a in
    let lb = bit_most b in
    record { change = lt-ltb 0 t (omega arith); named = omega arith; was = odd ((t - 1) / 2) k a (omega arith); is = odd (t - 1) (2 * k + bit a) b (omega arith) }

module _ (g : Timeline) (i : ℕ) where
  pub tag_says : Says (tag g i) (key g i) (roads_before g i (key g i)) (roads_before g (i + 1) (key g i))
  unfolding tag
  tag_says = says _ (key g i) (roads_before g i (key g i)) (roads_before g (i + 1) (key g i)) refl

  -- the words of an event that names no segment, and of one that opens or closes
  pub word_none : (k : ℕ) → changes_at g i ≡ false → word g k i ≡ 0
  unfolding word
  word_none zero h = ap (λ (b : Bool). cond b (tag g i) 0) h
  word_none (suc zero) h = ap (λ (b : Bool). cond b (next g i) 0) h
  word_none (suc (suc k)) h = ap (λ (b : Bool). cond b (last g i) 0) h

  pub word_change : changes_at g i ≡ true → (word g 0 i ≡ tag g i) × (word g 1 i ≡ next g i) × (word g 2 i ≡ last g i)
  unfolding word
  word_change h = (ap (λ (b : Bool). cond b (tag g i) 0) h, ap (λ (b : Bool). cond b (next g i) 0) h, ap (λ (b : Bool). cond b (last g i) 0) h)

  -- an event that adds its key names a segment, and its tag has the key
  pub adds_key : (w c : Window) → adds_event g w c i ≡ true → key_of (word g 0 i) ≡ key g i
  unfolding adds
  adds_key w c h = on_bool (changes_at g i)
      (λ q. ap key_of (word_change q).0 ∙ tag_says.named)
      (λ q. and_elim (ltb 0 (word g 0 i)) _ h (λ t _. contradict t (ap (ltb 0) (word_none 0 q))))

  -- no event between i and its next names its key, and the next does; likewise before it
  next_low : i + 1 ≤ next g i
  unfolding next
  next_low = seek_low (names_key g (key g i)) (i + 1) (size g - (i + 1))

  next_before : (j : ℕ) → i + 1 ≤ j → j < next g i → names_key g (key g i) j ≡ false
  unfolding next
  next_before j p l = seek_before (names_key g (key g i)) (i + 1) (size g - (i + 1)) j p l

  next_named : next g i < size g → names_key g (key g i) (next g i) ≡ true
  unfolding next
  next_named l = seek_found (names_key g (key g i)) (i + 1) (size g - (i + 1)) (omega (arith, seek_low (names_key g (key g i)) (i + 1) (size g - (i + 1))))

  last_low : last g i ≤ i
  unfolding last
  last_low = last_most (names_key g (key g i)) i

  last_before : (j : ℕ) → last g i ≤ j → j < i → names_key g (key g i) j ≡ false
  unfolding last
  last_before j p l = last_gap (names_key g (key g i)) i j p l

  last_named : 0 < last g i → names_key g (key g i) (last g i - 1) ≡ true
  unfolding last
  last_named l = last_found (names_key g (key g i)) i l

-- ---- a key between two events
any_none : (f : ℕ → Bool) (a n : ℕ) → ((j : ℕ) → a ≤ j → j < a + n → f j ≡ false) → any f (range a n) ≡ false
any_none f a zero h = refl
any_none f a (suc n) h = ap₂ ◌||◌ (h a (omega arith) (omega arith)) (any_none f (suc a) n (λ j p q. h j (omega arith) (omega arith)))

pub any_add : (f : ℕ → Bool) (a m n : ℕ) → any f (range a (m + n)) ≡ (any f (range a m) || any f (range (a + m) n))
any_add f a zero n = let e : 0 + n ≡ n = omega arith in let z : a ≡ a + 0 = omega arith in ap₂ (λ (k b : ℕ). any f (range b k)) e z
any_add f a (suc m) n =
    let e : suc m + n ≡ suc (m + n) = omega arith in
    let z : suc a + m ≡ a + suc m = omega arith in
    ap (λ (k : ℕ). any f (range a k)) e
    ∙ ap (λ b. f a || b) (any_add f (suc a) m n ∙ ap (λ (k : ℕ). any f (range (suc a) m) || any f (range k n)) z)
    ∙ sym (or_assoc (f a) (any f (range (suc a) m)) (any f (range (a + suc m) n)))

module _ (g : Timeline) where
  -- some of n events from a on names key r
  abbrev pub names_in : ℕ → ℕ → SegmentSet
  names_in a n r = any (names_key g r) (range a n)

  named_range : (a n r : ℕ) → a + n ≤ size g → named_roads g.junctions g.segments (take n (drop a g.events)) r ≡ names_in a n r
  named_range a zero r l = refl
  named_range a (suc n) r l =
      ap (λ (e : List Event). named_roads g.junctions g.segments (take (suc n) e) r) (drop-cons g.events a (0, 0) (omega arith))
      ∙ ap (λ b. names_key g r a || b) (named_range (suc a) n r (omega arith))

  pub named_during : (w : Window) (r : ℕ) → w.0 + w.1 ≤ size g → named_roads g.junctions g.segments (during g w) r ≡ names_in w.0 w.1 r
  unfolding during
  named_during w r l = named_range w.0 w.1 r l

  -- a key that none of n events from a on names stays as it is
  pub quiet : (a n r : ℕ) → a + n ≤ size g → names_in a n r ≡ false → roads_before g (a + n) r ≡ roads_before g a r
  unfolding open_before
  quiet a n r l h =
      ap (λ (o : SegmentSet). open_roads g.segments o r)
      (ap (λ (e : List Event). after_all g.junctions e g.start) (take-add a n g.events) ∙ sym (after_append g.junctions (take a g.events) (take n (drop a g.events)) g.start))
      ∙ roads_stay g.junctions g.segments (take n (drop a g.events)) (after_all g.junctions (take a g.events) g.start) r (named_range a n r l ∙ h)

  -- from event a to event b
  pub quiet_to : (a b r : ℕ) → a ≤ b → b ≤ size g → ((j : ℕ) → a ≤ j → j < b → names_key g r j ≡ false) → roads_before g b r ≡ roads_before g a r
  quiet_to a b r l m h =
      let z : a + (b - a) ≡ b = omega arith in
      ap (λ (j : ℕ). roads_before g j r) (sym z) ∙ quiet a (b - a) r (omega arith) (any_none (names_key g r) a (b - a) (λ j p q. h j p (omega arith)))

  -- after one event more
  pub open_next : (i : ℕ) → i < size g → open_before g (i + 1) ≡ after g.junctions (event g i) (open_before g i)
  unfolding open_before
  open_next i l =
      ap (λ (l : List Event). after_all g.junctions l g.start) (ap (λ k. take k g.events) (add-one i) ∙ take-suc g.events i (0, 0) l)
      ∙ sym (after_append g.junctions (take i g.events) (event g i ∷ []) g.start)

  -- an event that opens or closes names its own key, and no other
  pub names_own : (i : ℕ) → changes_at g i ≡ true → names_key g (key g i) i ≡ true
  names_own i h = ap₂ ◌&&◌ h (eq-eqb (key g i) (key g i) refl)

  pub names_other : (i r : ℕ) → (r ≡ key g i → ⊥) → names_key g r i ≡ false
  names_other i r n = ap (λ b. changes_at g i && b) (ne_eqb r (key g i) n) ∙ and-false (changes_at g i)

  pub names_none : (i r : ℕ) → changes_at g i ≡ false → names_key g r i ≡ false
  names_none i r h = ap (λ b. b && eqb r (key g i)) h

-- ---- one key alone
pick_none : (φ : ℕ → ℕ) (U t : NodeSet) (i : ℕ) (es : List Edge) → ((k : ℕ) → k < length es → t (i + k) ≡ false) → weigh φ U (pick t i es) ≡ 0
pick_none φ U t i [] h = refl
pick_none φ U t i (e ∷ es) h =
    let z : i + 0 ≡ i = omega arith in
    rw (subst (λ (k : ℕ). t k ≡ false) z (h 0 (omega arith)))
    (pick_none φ U t (suc i) es (λ k l. let q : suc i + k ≡ i + suc k = omega arith in rw q (h (suc k) (omega arith))))

pick_one : (φ : ℕ → ℕ) (U : NodeSet) (s i : ℕ) (es : List Edge) → i ≤ s → s < i + length es
    → weigh φ U (pick (λ u. eqb u s) i es) ≡ crosses (U (get_or es (s - i) (0, 0)).0) (U (get_or es (s - i) (0, 0)).1) * φ s
pick_one φ U s i [] a b = absurd (omega arith)
pick_one φ U s i (e ∷ es) a b =
    on_bool (eqb i s)
    (λ t. let q : s - i ≡ 0 = omega (arith, eqb-true i s t) in
    let n = pick_none φ U (λ u. eqb u s) (suc i) es (λ k l. ne_eqb (suc i + k) s (λ z. omega (arith, eqb-true i s t))) in
    rw (t, q) (omega (arith, n, ap (λ (k : ℕ). crosses (U e.0) (U e.1) * φ k) (eqb-true i s t))))
    (λ t. let ne : ¬ (i ≡ s) = eqb-false i s t in
    let q : s - i ≡ suc (s - suc i) = omega arith in
    rw (t, q) (pick_one φ U s (suc i) es (omega arith) (omega arith)))

-- one more key that is not in the set yet, and one that does not count
module _ (φ : ℕ → ℕ) (U : NodeSet) (segs : List Edge) (t s : SegmentSet) (k : ℕ) (same : (r : ℕ) → (r ≡ k → ⊥) → t r ≡ s r) where
  one_more : k < length segs → t k ≡ true → s k ≡ false → weigh φ U (pick t 0 segs) ≡ crosses (U (get_or segs k (0, 0)).0) (U (get_or segs k (0, 0)).1) * φ k + weigh φ U (pick s 0 segs)
  one_more l a b =
      let z : k - 0 ≡ k = omega arith in
      let one = pick_one φ U k 0 segs (omega arith) (omega arith) ∙ ap (λ (j : ℕ). crosses (U (get_or segs j (0, 0)).0) (U (get_or segs j (0, 0)).1) * φ k) z in
      pick_sum φ U t (λ u. eqb u k) s cases 0 segs ∙ ap (λ (c : ℕ). c + weigh φ U (pick s 0 segs)) one
    where
      cases : (r : ℕ) → ((eqb r k ≡ t r) × (s r ≡ false)) ⊎ ((eqb r k ≡ false) × (s r ≡ t r))
      cases r = on_bool (eqb r k) (λ q. let e = eqb-true r k q in inl (q ∙ sym (ap t e ∙ a), ap s e ∙ b)) (λ q. inr (q, sym (same r (eqb-false r k q))))

  none_more : t k ≡ s k → weigh φ U (pick t 0 segs) ≡ weigh φ U (pick s 0 segs)
  none_more e = ap (weigh φ U) (pick_ext t s (λ r. on_bool (eqb r k) (λ q. let z = eqb-true r k q in ap t z ∙ e ∙ sym (ap s z)) (λ q. same r (eqb-false r k q))) 0 segs)

-- ---- the events beside a part
pub pick_snoc : (f : ℕ → Bool) (E : ℕ → Entry) (i n : ℕ) → pick_events f E i (suc n) ≡ pick_events f E i n ++ pick_events f E (i + n) 1
pick_snoc f E i zero = let z : i ≡ i + 0 = omega arith in ap (λ (k : ℕ). pick_events f E k 1) z
pick_snoc f E i (suc n) =
    let z : suc i + n ≡ i + suc n = omega arith in
    go (f i) (pick_snoc f E (suc i) n ∙ ap (λ (k : ℕ). pick_events f E (suc i) n ++ pick_events f E k 1) z)
  where
    go : (b : Bool) → pick_events f E (suc i) (suc n) ≡ pick_events f E (suc i) n ++ pick_events f E (i + suc n) 1
        → cond b (E i ∷ pick_events f E (suc i) (suc n)) (pick_events f E (suc i) (suc n))
        ≡ cond b (E i ∷ pick_events f E (suc i) n) (pick_events f E (suc i) n) ++ pick_events f E (i + suc n) 1
    go true h = ap (λ (l : Named). E i ∷ l) h
    go false h = h

-- the set of keys that are open, named by events of one kind and not of another
abbrev keys : SegmentSet → SegmentSet → SegmentSet → SegmentSet
keys o a b r = o r && (a r && not (b r))

off : (o a b : Bool) → (o ≡ false) ⊎ ((a ≡ false) ⊎ (b ≡ true)) → (o && (a && not b)) ≡ false
off true true true h = refl
off true true false (inl p) = contradict refl p
off true true false (inr (inl p)) = contradict refl p
off true true false (inr (inr p)) = contradict p refl
off true false b h = refl
off false a b h = refl

-- named before the part (f), in it (s) or behind it (b), and not in it: the events in front find it, or those behind
passes : (o f s b : Bool) → (((o && (f && not s)) ≡ (o && ((f || (s || b)) && not s))) × ((o && (b && not (f || s))) ≡ false))
    ⊎ (((o && (f && not s)) ≡ false) × ((o && (b && not (f || s))) ≡ (o && ((f || (s || b)) && not s))))
passes o true s b = inl (refl, ap (λ z. o && z) (and-false b) ∙ and-false o)
passes o false true b = inr (and-false o, ap (λ z. o && z) (and-false b))
passes o false false b = inr (and-false o, refl)

named_snoc : (g : Timeline) (a k r : ℕ) → names_in g a (suc k) r ≡ (names_in g a k r || names_key g r (a + k))
named_snoc g a k r =
    let e : suc k ≡ k + 1 = omega arith in
    ap (λ (n : ℕ). names_in g a n r) e ∙ any_add (names_key g r) a k 1 ∙ ap (λ (x : Bool). names_in g a k r || x) (or-false (names_key g r (a + k)))

module _ (g : Timeline) (w c : Window) (h : Part w c) (fit : w.0 + w.1 ≤ size g) (fine : (i : ℕ) → i < size g → changes_at g i ≡ true → (event g i).1 < length g.segments) where
  abbrev segs : List Edge
  segs = g.segments

  abbrev O : SegmentSet
  O = roads_before g c.0

  abbrev f : ℕ → Bool
  f = adds_event g w c

  -- event i by its words
  named_not : (i : ℕ) → changes_at g i ≡ false → f i ≡ false
  unfolding adds
  named_not i q = ap (λ (t : ℕ). ltb 0 t && cond (ltb i c.0) (leb (c.0 + c.1) (word g 1 i) && is_open_after t) (leb (word g 2 i) w.0 && was_open t)) (word_none g i 0 q)

  front_adds : (i : ℕ) → changes_at g i ≡ true → i < c.0 → f i ≡ (leb (c.0 + c.1) (next g i) && roads_before g (i + 1) (key g i))
  unfolding adds
  front_adds i q l =
      let (a, b, _) = word_change g i q in
      let s = tag_says g i in
      ap (λ (t : Bool). ltb 0 (word g 0 i) && cond t (leb (c.0 + c.1) (word g 1 i) && is_open_after (word g 0 i)) (leb (word g 2 i) w.0 && was_open (word g 0 i))) (lt-ltb i c.0 l)
      ∙ ap₂ (λ (t x : ℕ). ltb 0 t && (leb (c.0 + c.1) x && is_open_after t)) a b
      ∙ ap₂ (λ (t u : Bool). t && (leb (c.0 + c.1) (next g i) && u)) s.change s.is

  back_adds : (i : ℕ) → changes_at g i ≡ true → c.0 ≤ i → f i ≡ (leb (last g i) w.0 && roads_before g i (key g i))
  unfolding adds
  back_adds i q l =
      let (a, _, b) = word_change g i q in
      let s = tag_says g i in
      ap (λ (t : Bool). ltb 0 (word g 0 i) && cond t (leb (c.0 + c.1) (word g 1 i) && is_open_after (word g 0 i)) (leb (word g 2 i) w.0 && was_open (word g 0 i))) (le-ltb i c.0 l)
      ∙ ap₂ (λ (t y : ℕ). ltb 0 t && (leb y w.0 && was_open t)) a b
      ∙ ap₂ (λ (t u : Bool). t && (leb (last g i) w.0 && u)) s.change s.was

  -- the edge of an event that opens or closes
  edge_is : (U : NodeSet) (i : ℕ) → changes_at g i ≡ true
      → crosses (U (ends_at g i).0) (U (ends_at g i).1) ≡ crosses (U (get_or segs (key g i) (0, 0)).0) (U (get_or segs (key g i) (0, 0)).1)
  edge_is U i q = ap (λ (e : Edge). crosses (U e.0) (U e.1))
      (ap (λ (b : Bool). cond b (event g i) (get_or segs (event g i).1 (0, 0))) (changes_asks g.junctions (event g i) q))
      ∙ ends_cross U (get_or segs (event g i).1 (0, 0)) (get_or segs (key g i) (0, 0)) (road_same segs (event g i).1)

  -- one event: the set with it and the set without it differ at most in its key
  module _ (φ : ℕ → ℕ) (U : NodeSet) (i : ℕ) (li : i < size g) (t s : SegmentSet) where
    one_event : (changes_at g i ≡ false → (r : ℕ) → t r ≡ s r) → ((r : ℕ) → (r ≡ key g i → ⊥) → t r ≡ s r)
        → (changes_at g i ≡ true → ((f i ≡ true) × (t (key g i) ≡ true) × (s (key g i) ≡ false)) ⊎ ((f i ≡ false) × (t (key g i) ≡ s (key g i))))
        → weigh φ U (pick t 0 segs) ≡ weigh φ U (pick_events f (entry_at g) i 1) + weigh φ U (pick s 0 segs)
    one_event none same own = on_bool (changes_at g i)
        (λ q. go q (own q))
        (λ q. ap (weigh φ U) (pick_ext t s (none q) 0 segs) ∙ sym (ap (λ (b : Bool). weigh φ U (cond b (entry_at g i ∷ []) []) + weigh φ U (pick s 0 segs)) (named_not i q) ∙ omega arith))
      where
        go : changes_at g i ≡ true → ((f i ≡ true) × (t (key g i) ≡ true) × (s (key g i) ≡ false)) ⊎ ((f i ≡ false) × (t (key g i) ≡ s (key g i)))
            → weigh φ U (pick t 0 segs) ≡ weigh φ U (pick_events f (entry_at g) i 1) + weigh φ U (pick s 0 segs)
        go q (inl (a, b, d)) =
            let one = one_more φ U segs t s (key g i) same (omega (arith, fine i li q, road_most segs (event g i).1)) b d in
            let e : weigh φ U (cond (f i) (entry_at g i ∷ []) []) ≡ crosses (U (ends_at g i).0) (U (ends_at g i).1) * φ (key g i) + 0 = ap (λ (b : Bool). weigh φ U (cond b (entry_at g i ∷ []) [])) a in
            omega (arith, one, e, ap (λ (k : ℕ). k * φ (key g i)) (edge_is U i q))
        go q (inr (a, b)) =
            none_more φ U segs t s (key g i) same b
            ∙ sym (ap (λ (b : Bool). weigh φ U (cond b (entry_at g i ∷ []) []) + weigh φ U (pick s 0 segs)) a ∙ omega arith)

  -- ---- in front of the part: what the events from i on, k up to the part, name and the part does not
  abbrev ahead : ℕ → ℕ → SegmentSet
  ahead i k = keys O (names_in g i k) (names_in g c.0 c.1)

  front_own : (i k : ℕ) → w.0 ≤ i → i + suc k ≡ c.0 → changes_at g i ≡ true
      → ((f i ≡ true) × (ahead i (suc k) (key g i) ≡ true) × (ahead (suc i) k (key g i) ≡ false)) ⊎ ((f i ≡ false) × (ahead i (suc k) (key g i) ≡ ahead (suc i) k (key g i)))
  front_own i k lo e q =
      let b = h.before in
      on_bool (leb (c.0 + c.1) (next g i))
      (λ y. let m = leb-true (c.0 + c.1) (next g i) y in
      let gap : (j : ℕ) → i + 1 ≤ j → j < c.0 + c.1 → names_key g (key g i) j ≡ false = λ j p l. next_before g i j p (omega arith) in
      let n1 : names_in g (suc i) k (key g i) ≡ false = any_none (names_key g (key g i)) (suc i) k (λ j p l. gap j (omega arith) (omega arith)) in
      let n2 : names_in g c.0 c.1 (key g i) ≡ false = any_none (names_key g (key g i)) c.0 c.1 (λ j p l. gap j (omega arith) l) in
      let o : O (key g i) ≡ roads_before g (i + 1) (key g i) = quiet_to g (i + 1) c.0 (key g i) (omega arith) (omega arith) (λ j p l. gap j p (omega arith)) in
      on_bool (roads_before g (i + 1) (key g i))
      (λ z. inl (
        front_adds i q (omega arith) ∙ ap₂ ◌&&◌ y z,
        ap₂ (λ (a b : Bool). a && b) (o ∙ z) (ap₂ (λ (a b : Bool). a && not b) (ap (λ (b : Bool). b || names_in g (suc i) k (key g i)) (names_own g i q)) n2),
        off (O (key g i)) (names_in g (suc i) k (key g i)) (names_in g c.0 c.1 (key g i)) (inr (inl n1)),
      ))
      (λ z. inr (
        front_adds i q (omega arith) ∙ ap₂ ◌&&◌ y z,
        off (O (key g i)) (names_in g i (suc k) (key g i)) (names_in g c.0 c.1 (key g i)) (inl (o ∙ z))
            ∙ sym (off (O (key g i)) (names_in g (suc i) k (key g i)) (names_in g c.0 c.1 (key g i)) (inl (o ∙ z))),
      )))
      (λ y. let m = leb-false (c.0 + c.1) (next g i) y in
      let a = next_low g i in
      let t = next_named g i (omega arith) in
      inr (
        front_adds i q (omega arith) ∙ ap (λ (b : Bool). b && roads_before g (i + 1) (key g i)) y,
        on_bool (ltb (next g i) c.0)
            (λ u. let v = ltb-true (next g i) c.0 u in
            let n : names_in g (suc i) k (key g i) ≡ true = any_in (names_key g (key g i)) (range_mem (next g i) (suc i) k (omega arith) (omega arith)) t in
            ap (λ (b : Bool). O (key g i) && (b && not (names_in g c.0 c.1 (key g i)))) (ap (λ (b : Bool). names_key g (key g i) i || b) n ∙ or-true (names_key g (key g i) i) ∙ sym n))
            (λ u. let v = ltb-false (next g i) c.0 u in
            let n : names_in g c.0 c.1 (key g i) ≡ true = any_in (names_key g (key g i)) (range_mem (next g i) c.0 c.1 (omega arith) (omega arith)) t in
            off (O (key g i)) (names_in g i (suc k) (key g i)) (names_in g c.0 c.1 (key g i)) (inr (inr n))
            ∙ sym (off (O (key g i)) (names_in g (suc i) k (key g i)) (names_in g c.0 c.1 (key g i)) (inr (inr n)))),
      ))

  front_weigh : (φ : ℕ → ℕ) (U : NodeSet) (k i : ℕ) → w.0 ≤ i → i + k ≡ c.0 → weigh φ U (pick_events f (entry_at g) i k) ≡ weigh φ U (pick (ahead i k) 0 segs)
  front_weigh φ U zero i lo e = sym (pick_none φ U (ahead i 0) 0 segs (λ k l. and-false (O (0 + k))))
  front_weigh φ U (suc k) i lo e =
      let b = h.before in
      let ih = front_weigh φ U k (suc i) (omega arith) (omega arith) in
      let one = one_event φ U i (omega arith) (ahead i (suc k)) (ahead (suc i) k)
      (λ q r. ap (λ (b : Bool). O r && ((b || names_in g (suc i) k r) && not (names_in g c.0 c.1 r))) (names_none g i r q))
      (λ r n. ap (λ (b : Bool). O r && ((b || names_in g (suc i) k r) && not (names_in g c.0 c.1 r))) (names_other g i r n))
      (front_own i k lo e) in
      go (f i) one ih
    where
      go : (b : Bool) → weigh φ U (pick (ahead i (suc k)) 0 segs) ≡ weigh φ U (cond b (entry_at g i ∷ []) []) + weigh φ U (pick (ahead (suc i) k) 0 segs)
          → weigh φ U (pick_events f (entry_at g) (suc i) k) ≡ weigh φ U (pick (ahead (suc i) k) 0 segs)
          → weigh φ U (cond b (entry_at g i ∷ pick_events f (entry_at g) (suc i) k) (pick_events f (entry_at g) (suc i) k)) ≡ weigh φ U (pick (ahead i (suc k)) 0 segs)
      go true one ih = omega arith
      go false one ih = omega arith

  -- ---- behind the part: what k events behind the part name, and no event from the window's start up to the part's end
  abbrev behind : ℕ → SegmentSet
  behind k = keys O (names_in g (c.0 + c.1) k) (names_in g w.0 (c.0 + c.1 - w.0))

  back_own : (k : ℕ) → c.0 + c.1 + k < w.0 + w.1 → changes_at g (c.0 + c.1 + k) ≡ true
      → ((f (c.0 + c.1 + k) ≡ true) × (behind (suc k) (key g (c.0 + c.1 + k)) ≡ true) × (behind k (key g (c.0 + c.1 + k)) ≡ false))
      ⊎ ((f (c.0 + c.1 + k) ≡ false) × (behind (suc k) (key g (c.0 + c.1 + k)) ≡ behind k (key g (c.0 + c.1 + k))))
  back_own k l q =
      let a = h.after in
      on_bool (leb (last g i) w.0)
      (λ y. let m = leb-true (last g i) w.0 y in
      let gap : (j : ℕ) → w.0 ≤ j → j < i → names_key g r j ≡ false = λ j p l. last_before g i j (omega arith) l in
      let n1 : names_in g b k r ≡ false = any_none (names_key g r) b k (λ j p l. gap j (omega arith) l) in
      let n2 : names_in g w.0 (b - w.0) r ≡ false = any_none (names_key g r) w.0 (b - w.0) (λ j p l. gap j p (omega arith)) in
      let o : O r ≡ roads_before g i r = sym (quiet_to g c.0 i r (omega arith) (omega arith) (λ j p l. gap j (omega arith) l)) in
      on_bool (roads_before g i r)
      (λ z. inl (
        back_adds i q (omega arith) ∙ ap₂ ◌&&◌ y z,
        ap₂ (λ (x y : Bool). x && y) (o ∙ z) (ap₂ (λ (x y : Bool). x && not y) (ap (λ (x : Bool). x) (more ∙ ap₂ ◌||◌ n1 (names_own g i q))) n2),
        off (O r) (names_in g b k r) (names_in g w.0 (b - w.0) r) (inr (inl n1)),
      ))
      (λ z. inr (
        back_adds i q (omega arith) ∙ ap₂ ◌&&◌ y z,
        off (O r) (names_in g b (suc k) r) (names_in g w.0 (b - w.0) r) (inl (o ∙ z)) ∙ sym (off (O r) (names_in g b k r) (names_in g w.0 (b - w.0) r) (inl (o ∙ z))),
      )))
      (λ y. let m = leb-false (last g i) w.0 y in
      let v = last_low g i in
      let t = last_named g i (omega arith) in
      inr (
        back_adds i q (omega arith) ∙ ap (λ (x : Bool). x && roads_before g i r) y,
        on_bool (ltb (last g i - 1) b)
            (λ u. let z = ltb-true (last g i - 1) b u in
            let n : names_in g w.0 (b - w.0) r ≡ true = any_in (names_key g r) (range_mem (last g i - 1) w.0 (b - w.0) (omega arith) (omega arith)) t in
            off (O r) (names_in g b (suc k) r) (names_in g w.0 (b - w.0) r) (inr (inr n)) ∙ sym (off (O r) (names_in g b k r) (names_in g w.0 (b - w.0) r) (inr (inr n))))
            (λ u. let z = ltb-false (last g i - 1) b u in
            let n : names_in g b k r ≡ true = any_in (names_key g r) (range_mem (last g i - 1) b k (omega arith) (omega arith)) t in
            ap (λ (x : Bool). O r && (x && not (names_in g w.0 (b - w.0) r))) (more ∙ ap (λ (x : Bool). x || names_key g r i) n ∙ sym n)),
      ))
    where
      b : ℕ
      b = c.0 + c.1

      i : ℕ
      i = c.0 + c.1 + k

      r : ℕ
      r = key g (c.0 + c.1 + k)

      more : names_in g (c.0 + c.1) (suc k) (key g (c.0 + c.1 + k)) ≡ (names_in g (c.0 + c.1) k (key g (c.0 + c.1 + k)) || names_key g (key g (c.0 + c.1 + k)) (c.0 + c.1 + k))
      more = named_snoc g (c.0 + c.1) k (key g (c.0 + c.1 + k))

  back_weigh : (φ : ℕ → ℕ) (U : NodeSet) (k : ℕ) → c.0 + c.1 + k ≤ w.0 + w.1 → weigh φ U (pick_events f (entry_at g) (c.0 + c.1) k) ≡ weigh φ U (pick (behind k) 0 segs)
  back_weigh φ U zero l = sym (pick_none φ U (behind 0) 0 segs (λ k l. and-false (O (0 + k))))
  back_weigh φ U (suc k) l =
      let ih = back_weigh φ U k (omega arith) in
      let i : ℕ = c.0 + c.1 + k in
      let same : (r : ℕ) → names_key g r i ≡ false → behind (suc k) r ≡ behind k r = λ r n.
      ap (λ (x : Bool). O r && (x && not (names_in g w.0 (c.0 + c.1 - w.0) r)))
      (named_snoc g (c.0 + c.1) k r ∙ ap (λ (x : Bool). names_in g (c.0 + c.1) k r || x) n ∙ or-false (names_in g (c.0 + c.1) k r)) in
      let one = one_event φ U i (omega arith) (behind (suc k)) (behind k) (λ q r. same r (names_none g i r q)) (λ r n. same r (names_other g i r n)) (back_own k (omega arith)) in
      omega (arith, ap (weigh φ U) (pick_snoc f (entry_at g) (c.0 + c.1) k), weigh_append φ U (pick_events f (entry_at g) (c.0 + c.1) k) (pick_events f (entry_at g) (c.0 + c.1 + k) 1))

  -- ---- both
  -- the events that pass have the edges of the added roads
  pub events_added : (φ : ℕ → ℕ) (U : NodeSet)
      → weigh φ U (pick_events f (entry_at g) w.0 (c.0 - w.0)) + weigh φ U (pick_events f (entry_at g) (c.0 + c.1) (w.0 + w.1 - (c.0 + c.1))) ≡ weigh φ U (added g w c)
  unfolding added
  events_added φ U =
      let a = h.after in
      let b = h.before in
      let one = front_weigh φ U (c.0 - w.0) w.0 (omega arith) (omega arith) in
      let two = back_weigh φ U (w.0 + w.1 - (c.0 + c.1)) (omega arith) in
      let sum = pick_sum φ U (keys O (named_roads g.junctions segs (during g w)) (named_roads g.junctions segs (during g c))) (ahead w.0 (c.0 - w.0)) (behind (w.0 + w.1 - (c.0 + c.1))) both 0 segs in
      omega arith
    where
      x : ℕ
      x = c.0 - w.0

      y : ℕ
      y = w.0 + w.1 - (c.0 + c.1)

      both : (r : ℕ) → ((ahead w.0 (c.0 - w.0) r ≡ keys O (named_roads g.junctions segs (during g w)) (named_roads g.junctions segs (during g c)) r) × (behind (w.0 + w.1 - (c.0 + c.1)) r ≡ false))
          ⊎ ((ahead w.0 (c.0 - w.0) r ≡ false) × (behind (w.0 + w.1 - (c.0 + c.1)) r ≡ keys O (named_roads g.junctions segs (during g w)) (named_roads g.junctions segs (during g c)) r))
      both r =
          let a = h.after in
          let b = h.before in
          let e1 : w.1 ≡ x + (c.1 + y) = omega arith in
          let e2 : w.0 + x ≡ c.0 = omega arith in
          let e3 : c.0 + c.1 - w.0 ≡ x + c.1 = omega arith in
          let nc : named_roads g.junctions segs (during g c) r ≡ names_in g c.0 c.1 r = named_during g c r (omega arith) in
          let nw : named_roads g.junctions segs (during g w) r ≡ (names_in g w.0 x r || (names_in g c.0 c.1 r || names_in g (c.0 + c.1) y r)) =
          named_during g w r fit ∙ ap (λ (n : ℕ). names_in g w.0 n r) e1 ∙ any_add (names_key g r) w.0 x (c.1 + y)
          ∙ ap (λ (z : Bool). names_in g w.0 x r || z) (ap (λ (n : ℕ). names_in g n (c.1 + y) r) e2 ∙ any_add (names_key g r) c.0 c.1 y) in
          let nb : names_in g w.0 (c.0 + c.1 - w.0) r ≡ (names_in g w.0 x r || names_in g c.0 c.1 r) =
          ap (λ (n : ℕ). names_in g w.0 n r) e3 ∙ any_add (names_key g r) w.0 x c.1 ∙ ap (λ (n : ℕ). names_in g w.0 x r || names_in g n c.1 r) e2 in
          rw (nw, nc, nb) (passes (O r) (names_in g w.0 x r) (names_in g c.0 c.1 r) (names_in g (c.0 + c.1) y r))

-- ---- the words of some events, as a list
-- events numbered from another start: the same pass, and have the same entries where they do
pub pick_shift : (f f' : ℕ → Bool) (E E' : ℕ → Entry) (at i n : ℕ) → ((j : ℕ) → i ≤ j → j < i + n → (f j ≡ f' (at + j)) × (f j ≡ true → E j ≡ E' (at + j)))
    → pick_events f E i n ≡ pick_events f' E' (at + i) n
pick_shift f f' E E' at i zero h = refl
pick_shift f f' E E' at i (suc n) h =
    let (a, b) = h i (omega arith) (omega arith) in
    let z : at + suc i ≡ suc (at + i) = omega arith in
    let r : pick_events f E (suc i) n ≡ pick_events f' E' (suc (at + i)) n = pick_shift f f' E E' at (suc i) n (λ j p q. h j (omega arith) (omega arith))
    ∙ ap (λ (k : ℕ). pick_events f' E' k n) z in
    on_bool (f i)
    (λ t. ap (λ (c : Bool). cond c (E i ∷ pick_events f E (suc i) n) (pick_events f E (suc i) n)) t ∙ ap₂ (λ (e : Entry) (l : Named). e ∷ l) (b t) r
    ∙ sym (ap (λ (c : Bool). cond c (E' (at + i) ∷ pick_events f' E' (suc (at + i)) n) (pick_events f' E' (suc (at + i)) n)) (sym a ∙ t)))
    (λ t. ap (λ (c : Bool). cond c (E i ∷ pick_events f E (suc i) n) (pick_events f E (suc i) n)) t ∙ r
    ∙ sym (ap (λ (c : Bool). cond c (E' (at + i) ∷ pick_events f' E' (suc (at + i)) n) (pick_events f' E' (suc (at + i)) n)) (sym a ∙ t)))

pub pick_ext_events : (f f' : ℕ → Bool) (E E' : ℕ → Entry) (i n : ℕ) → ((j : ℕ) → i ≤ j → j < i + n → (f j ≡ f' j) × (E j ≡ E' j)) → pick_events f E i n ≡ pick_events f' E' i n
pick_ext_events f f' E E' i n h =
    let z : (j : ℕ) → j ≡ 0 + j = λ j. omega arith in
    pick_shift f f' E E' 0 i n (λ j a b. let (p, q) = h j a b in (p ∙ ap f' (z j), λ _. q ∙ ap E' (z j))) ∙ ap (λ (k : ℕ). pick_events f' E' k n) (sym (z i))

-- the edges moved to the nodes of a graph
pub pick_image : (f : ℕ → Bool) (E : ℕ → Entry) (σ : ℕ → ℕ) (i n : ℕ) → pick_events f (λ j. ((σ (E j).0.0, σ (E j).0.1), (E j).1)) i n ≡ image_named σ (pick_events f E i n)
pick_image f E σ i zero = refl
pick_image f E σ i (suc n) = go (f i) (pick_image f E σ (suc i) n)
  where
    go : (b : Bool) → pick_events f (λ j. ((σ (E j).0.0, σ (E j).0.1), (E j).1)) (suc i) n ≡ image_named σ (pick_events f E (suc i) n)
        → cond b (((σ (E i).0.0, σ (E i).0.1), (E i).1) ∷ pick_events f (λ j. ((σ (E j).0.0, σ (E j).0.1), (E j).1)) (suc i) n)
        (pick_events f (λ j. ((σ (E j).0.0, σ (E j).0.1), (E j).1)) (suc i) n)
        ≡ image_named σ (cond b (E i ∷ pick_events f E (suc i) n) (pick_events f E (suc i) n))
    go true h = ap (λ (l : Named). ((σ (E i).0.0, σ (E i).0.1), (E i).1) ∷ l) h
    go false h = h

module _ (g : Timeline) where
  pub words_length : (i n : ℕ) → length (event_words g i n) ≡ 3 * n
  unfolding event_words
  words_length i zero = refl
  words_length i (suc n) = omega (arith, words_length (suc i) n)

  pub words_at : (i n j k : ℕ) → j < n → k < 3 → get_or (event_words g i n) (3 * j + k) 0 ≡ word g k (i + j)
  unfolding event_words
  words_at i zero j k l m = absurd (omega arith)
  words_at i (suc n) zero k l m = let z : i ≡ i + 0 = omega arith in first k m ∙ ap (word g k) z
    where
      first : (k : ℕ) → k < 3 → get_or (word g 0 i ∷ word g 1 i ∷ word g 2 i ∷ event_words g (suc i) n) (3 * 0 + k) 0 ≡ word g k i
      first zero m = refl
      first (suc zero) m = refl
      first (suc (suc zero)) m = refl
      first (suc (suc (suc k))) m = absurd (omega arith)
  words_at i (suc n) (suc j) k l m =
      let z : 3 * suc j + k ≡ suc (suc (suc (3 * j + k))) = omega arith in
      let y : suc i + j ≡ i + suc j = omega arith in
      ap (λ (p : ℕ). get_or (word g 0 i ∷ word g 1 i ∷ word g 2 i ∷ event_words g (suc i) n) p 0) z ∙ words_at (suc i) n j k (omega arith) m ∙ ap (word g k) y

  drop_words : (i n k : ℕ) → k ≤ n → drop (3 * k) (event_words g i n) ≡ event_words g (i + k) (n - k)
  unfolding event_words
  drop_words i n zero l = let a : i ≡ i + 0 = omega arith in let b : n ≡ n - 0 = omega arith in ap₂ (event_words g) a b
  drop_words i zero (suc k) l = absurd (omega arith)
  drop_words i (suc n) (suc k) l =
      let z : 3 * suc k ≡ suc (suc (suc (3 * k))) = omega arith in
      let a : suc i + k ≡ i + suc k = omega arith in
      let b : n - k ≡ suc n - suc k = omega arith in
      ap (λ (p : ℕ). drop p (event_words g i (suc n))) z ∙ drop_words (suc i) n k (omega arith) ∙ ap₂ (event_words g) a b

  take_words : (i n k : ℕ) → k ≤ n → take (3 * k) (event_words g i n) ≡ event_words g i k
  unfolding event_words
  take_words i n zero l = refl
  take_words i zero (suc k) l = absurd (omega arith)
  take_words i (suc n) (suc k) l =
      let z : 3 * suc k ≡ suc (suc (suc (3 * k))) = omega arith in
      ap (λ (p : ℕ). take p (event_words g i (suc n))) z ∙ ap (λ (l : List ℕ). word g 0 i ∷ word g 1 i ∷ word g 2 i ∷ l) (take_words (suc i) n k (omega arith))

  -- those of a part
  pub words_part : (at n lo c : ℕ) → at ≤ lo → lo + c ≤ at + n → take (3 * c) (drop (3 * (lo - at)) (event_words g at n)) ≡ event_words g lo c
  words_part at n lo c a b =
      let z : at + (lo - at) ≡ lo = omega arith in
      ap (take (3 * c)) (drop_words at n (lo - at) (omega arith)) ∙ take_words (at + (lo - at)) (n - (lo - at)) c (omega arith) ∙ ap (λ (k : ℕ). event_words g k c) z
