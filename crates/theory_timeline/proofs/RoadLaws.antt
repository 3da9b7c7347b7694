-- Laws of roads, in order: having the same ends is an equivalence; the name of a road; the edges of different roads, where the loss of a road is the
-- removal of an entry; edges of the same roads, which have the same answers; open roads, and the reader's law: the answer over the open roads is by the loss
-- of all open segments of each road in turn.
-- Assumes nothing.
use Prim.Native.Nat.{◌+◌, ◌<◌, ◌≤◌, max, min, suc, zero, ℕ}
use mathlib.Core.Bool.{Bool, ◌&&◌, ◌||◌, cond, false, not, or-true, true}
use mathlib.Core.List.Memᴰ
use mathlib.Core.List.{List, Memᴰ, [], ◌++◌, ◌∷◌, map}
use mathlib.Core.Logic.{◌↔◌, ◌⊎◌, inl, inr}
use mathlib.Core.Path.{◌∙◌, ◌≡◌, ap, ap₂, refl, subst, sym}
use lib.Dec.{eqb, ltb}
use lib.ListN.{get_or, length}
use native.Mathlib.Omega.{arith}
use borrow.Author.Tests.{eq-eqb, eqb-false, eqb-true, ltb-false, ltb-true, not-true}
use Rattle.theory_graph.proofs.Booleans.{and_elim, bool_iff, contradict, on_bool, or_elim}
use Rattle.theory_graph.proofs.Cuts.{crosses_swap, crossing, crossing_in, in_crossing}
use Rattle.theory_graph.proofs.Definitions.{joined_from, joined_to}
use Rattle.theory_graph.proofs.Lists.{any_find, any_in, each_tests, filter_in, in_filter, range_mem, tests_each}
use Rattle.theory_graph.specs.Cut.{crosses, cut}
use Rattle.theory_graph.specs.Graph.{Edge, NodeSet, answer, joined, removals, two_edge}
use Rattle.theory_graph.specs.Lists.{all, range}
use Rattle.call_sizes.proofs.RefusalLaws.{seek_before, seek_found}
use Rattle.call_sizes.specs.Refusal.{seek}
use Rattle.theory_names.proofs.NamedCuts.{in_plain, plain_in}
use Rattle.theory_names.specs.Names.{Entry, plain}
use Rattle.theory_timeline.specs.Events.{SegmentSet, open_roads, pick}
use Rattle.theory_timeline.specs.Roads.{Apart, DifferentRoads, lose, road, road_answer, same_ends, same_road}

-- ---- the same ends
pub on_ends : {A : Type 0} (e f : Edge) → same_ends e f ≡ true → (e.0 ≡ f.0 → e.1 ≡ f.1 → A) → (e.0 ≡ f.1 → e.1 ≡ f.0 → A) → A
on_ends e f h k l = or_elim _ _ h
    (λ p. and_elim (eqb e.0 f.0) (eqb e.1 f.1) p λ a b. k (eqb-true _ _ a) (eqb-true _ _ b))
    (λ p. and_elim (eqb e.0 f.1) (eqb e.1 f.0) p λ a b. l (eqb-true _ _ a) (eqb-true _ _ b))

pub ends_fore : (e f : Edge) → e.0 ≡ f.0 → e.1 ≡ f.1 → same_ends e f ≡ true
ends_fore e f p q = ap₂ (λ a b. a && b || eqb e.0 f.1 && eqb e.1 f.0) (eq-eqb e.0 f.0 p) (eq-eqb e.1 f.1 q)

pub ends_back : (e f : Edge) → e.0 ≡ f.1 → e.1 ≡ f.0 → same_ends e f ≡ true
ends_back e f p q = ap₂ (λ a b. eqb e.0 f.0 && eqb e.1 f.1 || a && b) (eq-eqb e.0 f.1 p) (eq-eqb e.1 f.0 q) ∙ or-true (eqb e.0 f.0 && eqb e.1 f.1)

pub ends_refl : (e : Edge) → same_ends e e ≡ true
ends_refl e = ends_fore e e refl refl

pub ends_sym : (e f : Edge) → same_ends e f ≡ true → same_ends f e ≡ true
ends_sym e f h = on_ends e f h (λ p q. ends_fore f e (sym p) (sym q)) (λ p q. ends_back f e (sym q) (sym p))

pub ends_trans : (e f h : Edge) → same_ends e f ≡ true → same_ends f h ≡ true → same_ends e h ≡ true
ends_trans e f h a b =
    on_ends e f a
    (λ p q. on_ends f h b (λ r s. ends_fore e h (p ∙ r) (q ∙ s)) (λ r s. ends_back e h (p ∙ r) (q ∙ s)))
    (λ p q. on_ends f h b (λ r s. ends_back e h (p ∙ s) (q ∙ r)) (λ r s. ends_fore e h (p ∙ s) (q ∙ r)))

-- by the lower and the higher end
pub ends_ordered : (e f : Edge) → (same_ends e f ≡ true) ↔ ((min e.0 e.1 ≡ min f.0 f.1) × (max e.0 e.1 ≡ max f.0 f.1))
ends_ordered e f = (
  λ h. on_ends e f h (λ p q. (omega arith, omega arith)) (λ p q. (omega arith, omega arith)),
  λ (p, q). on_bool (eqb e.0 f.0)
      (λ t. let a = eqb-true e.0 f.0 t in ends_fore e f a (omega arith))
      (λ t. let a : ¬ (e.0 ≡ f.0) = eqb-false e.0 f.0 t in ends_back e f (omega arith) (omega arith)),
)

-- the same sets part their ends
pub ends_cross : (U : NodeSet) (e f : Edge) → same_ends e f ≡ true → crossing U e ≡ crossing U f
ends_cross U e f h = on_ends e f h (λ p q. ap₂ (λ a b. crosses (U a) (U b)) p q) (λ p q. ap₂ (λ a b. crosses (U a) (U b)) p q ∙ crosses_swap (U f.1) (U f.0))

-- and both are in the same sets
pub ends_in_lem : (N : NodeSet) (e f : Edge) → same_ends e f ≡ true → (N f.0 ≡ true) × (N f.1 ≡ true) → (N e.0 ≡ true) × (N e.1 ≡ true)
ends_in_lem N e f h (a, b) = on_ends e f h (λ p q. (ap N p ∙ a, ap N q ∙ b)) (λ p q. (ap N p ∙ b, ap N q ∙ a))

-- ---- the name of a road
seek_most : (f : ℕ → Bool) (i k : ℕ) → seek f i k ≤ i + k
seek_most f i zero = omega arith
seek_most f i (suc k) = go (f i) (seek_most f (i + 1) k)
  where
    go : (b : Bool) → seek f (i + 1) k ≤ i + 1 + k → cond b i (seek f (i + 1) k) ≤ i + suc k
    go true h = omega arith
    go false h = omega arith

module _ (segs : List Edge) where
  abbrev at : ℕ → Edge
  at s = get_or segs s (0, 0)

  pub road_most : (s : ℕ) → road segs s ≤ s
  unfolding road
  road_most s = omega (arith, seek_most (same_road segs s) 0 s)

  -- it is of the road
  pub road_same : (s : ℕ) → same_road segs s (road segs s) ≡ true
  unfolding road
  road_same s = on_bool (ltb (seek (same_road segs s) 0 s) s)
      (λ t. seek_found (same_road segs s) 0 s (omega (arith, ltb-true (seek (same_road segs s) 0 s) s t)))
      (λ t. let e : s ≡ seek (same_road segs s) 0 s = omega (arith, ltb-false (seek (same_road segs s) 0 s) s t, seek_most (same_road segs s) 0 s) in
      subst (λ (k : ℕ). same_road segs s k ≡ true) e (ends_refl (at s)))

  -- and the smallest
  pub road_least : (s t : ℕ) → same_road segs s t ≡ true → road segs s ≤ t
  unfolding road
  road_least s t h = on_bool (ltb t (seek (same_road segs s) 0 s))
      (λ l. contradict h (seek_before (same_road segs s) 0 s t (omega arith) (ltb-true t (seek (same_road segs s) 0 s) l)))
      (λ l. ltb-false t (seek (same_road segs s) 0 s) l)

  -- a segment that is of the road, and none before it is, is the name
  pub road_is : (s r : ℕ) → same_road segs s r ≡ true → ((t : ℕ) → t < r → same_road segs s t ≡ false) → road segs s ≡ r
  road_is s r h n = on_bool (ltb (road segs s) r)
      (λ l. contradict (road_same s) (n (road segs s) (ltb-true (road segs s) r l)))
      (λ l. omega (arith, ltb-false (road segs s) r l, road_least s r h))

  -- two segments have the same ends just where their roads have the same name
  pub same_road_lem : (s t : ℕ) → same_road segs s t ≡ true → road segs s ≡ road segs t
  same_road_lem s t h =
      omega (
        arith,
        road_least s (road segs t) (ends_trans (at s) (at t) (at (road segs t)) h (road_same t)),
        road_least t (road segs s) (ends_trans (at t) (at s) (at (road segs s)) (ends_sym (at s) (at t) h) (road_same s)),
      )

  pub road_ends : (s t : ℕ) → road segs s ≡ road segs t → same_road segs s t ≡ true
  road_ends s t h =
      ends_trans (at s) (at (road segs t)) (at t) (subst (λ (k : ℕ). same_road segs s k ≡ true) h (road_same s)) (ends_sym (at t) (at (road segs t)) (road_same t))

  pub road_twice : (s : ℕ) → road segs (road segs s) ≡ road segs s
  road_twice s = same_road_lem (road segs s) s (ends_sym (at s) (at (road segs s)) (road_same s))

-- ---- lists of edges
all_map : (f : List Edge → Bool) (k : Edge → List Edge) (l : List Edge) → all f (map k l) ≡ all (λ e. f (k e)) l
all_map f k [] = refl
all_map f k (x ∷ l) = ap (λ b. f (k x) && b) (all_map f k l)

-- ---- different roads: the loss of a road is the removal of an entry
apart_lose : (e : Edge) (E : List Edge) → Apart e E → lose e E ≡ E
apart_lose e [] h = refl
apart_lose e (f ∷ E) h = ap₂ (λ b l. cond (not b) (f ∷ l) l) (h f (Memᴰ.head refl)) (apart_lose e E (λ g m. h g (Memᴰ.tail m)))

-- the loss of the first edge's road takes that edge alone, and the loss of another's road keeps it
pub lose_own : (e : Edge) (E : List Edge) → Apart e E → lose e (e ∷ E) ≡ E
lose_own e E a = ap (λ b. cond (not b) (e ∷ lose e E) (lose e E)) (ends_refl e) ∙ apart_lose e E a

pub lose_other : (e f : Edge) (E : List Edge) → Apart e E → Memᴰ f E → lose f (e ∷ E) ≡ e ∷ lose f E
lose_other e f E a m =
    ap (λ b. cond (not b) (e ∷ lose f E) (lose f E)) (on_bool (same_ends f e) (λ t. contradict (ends_sym f e t) (a f m)) (λ t. t))

pub different_removals : (E : List Edge) → DifferentRoads E → removals E ≡ map (λ e. lose e E) E
unfolding removals
different_removals [] h = refl
different_removals (e ∷ E) (a, h) = ap₂ ◌∷◌ (sym (lose_own e E a)) (ap (map (λ l. e ∷ l)) (different_removals E h) ∙ others E (λ f m. m))
  where
    others : (F : List Edge) → ((f : Edge) → Memᴰ f F → Memᴰ f E) → map (λ l. e ∷ l) (map (λ f. lose f E) F) ≡ map (λ f. lose f (e ∷ E)) F
    others [] k = refl
    others (f ∷ F) k = ap₂ ◌∷◌ (sym (lose_other e f E a (k f (Memᴰ.head refl)))) (others F (λ g m. k g (Memᴰ.tail m)))

pub different_answer : (E : List Edge) → DifferentRoads E → (x y : ℕ) → road_answer E x y ≡ answer E x y
unfolding answer two_edge road_answer
different_answer E h x y =
    ap (λ b. cond (joined E x y) (cond (joined E x y && b) 2 1) 0) (sym (ap (all (λ l. joined l x y)) (different_removals E h) ∙ all_map (λ l. joined l x y) (λ e. lose e E) E))

pub different_append : (E F : List Edge) → DifferentRoads E → DifferentRoads F → ((e : Edge) → Memᴰ e E → Apart e F) → DifferentRoads (E ++ F)
different_append [] F a b h = b
different_append (e ∷ E) F (n, a) b h = (λ f m. either f (Memᴰ.append_cases E m), different_append E F a b (λ g m. h g (Memᴰ.tail m)))
  where
    either : (f : Edge) → Memᴰ f E ⊎ Memᴰ f F → same_ends e f ≡ false
    either f (inl m) = n f m
    either f (inr m) = h e (Memᴰ.head refl) f m

-- ---- edges of the same roads
-- each edge of E has one of F with the same ends
abbrev pub Covers : List Edge → List Edge → Type 0
Covers E F = (e : Edge) → Memᴰ e E → (f : Edge) × Memᴰ f F × (same_ends e f ≡ true)

module _ (E F : List Edge) (c : Covers E F) where
  covers_closed : (U : NodeSet) → cut U F ≤ 0 → cut U E ≤ 0
  covers_closed U z = on_bool (ltb 0 (cut U E))
      (λ t. let (e, m, p) = crossing_in U E (ltb-true 0 (cut U E) t) in
      let (f, n, q) = c e m in
      absurd (omega (arith, in_crossing U f n (omega (arith, ends_cross U e f q)))))
      (λ t. ltb-false 0 (cut U E) t)

  pub covers_joined : (x y : ℕ) → joined E x y ≡ true → joined F x y ≡ true
  covers_joined x y h = joined_from F x y (λ (U, p, q, z). joined_to E x y h (U, p, q, covers_closed U z))

  pub covers_lose : (e f : Edge) → same_ends e f ≡ true → Covers (lose e E) (lose f F)
  covers_lose e f s a m =
      let (n, k) = filter_in (λ a. not (same_ends e a)) a E m in
      let (b, o, q) = c a n in (
        b,
        in_filter (λ b. not (same_ends f b)) b F o (on_bool (same_ends f b)
            (λ t. contradict (ends_trans e b a (ends_trans e f b s t) (ends_sym a b q)) (not-true (same_ends e a) k))
            (λ t. ap not t)),
        q,
      )

covers_all : (E F : List Edge) → Covers E F → Covers F E → (x y : ℕ) → all (λ e. joined (lose e E) x y) E ≡ true → all (λ e. joined (lose e F) x y) F ≡ true
covers_all E F c d x y h = each_tests (λ e. joined (lose e F) x y) F λ f m.
    let (e, n, q) = d f m in covers_joined (lose e E) (lose f F) (covers_lose E F c e f (ends_sym f e q)) x y (tests_each (λ e. joined (lose e E) x y) e E h n)

pub covers_answer : (E F : List Edge) → Covers E F → Covers F E → (x y : ℕ) → road_answer E x y ≡ road_answer F x y
unfolding road_answer
covers_answer E F c d x y =
    ap₂ (λ j a. cond j (cond (j && a) 2 1) 0)
    (bool_iff (joined E x y) (joined F x y) (covers_joined E F c x y) (covers_joined F E d x y))
    (bool_iff (all (λ e. joined (lose e E) x y) E) (all (λ e. joined (lose e F) x y) F) (covers_all E F c d x y) (covers_all F E d c x y))

-- ---- the edges of a set of segments
pub mem_pick : (t : SegmentSet) (i : ℕ) (es : List Edge) (s : ℕ) → s < length es → t (i + s) ≡ true → Memᴰ (get_or es s (0, 0), i + s) (pick t i es)
mem_pick t i [] s l h = absurd (omega arith)
mem_pick t i (e ∷ es) zero l h =
    let z : i + 0 ≡ i = omega arith in
    subst (λ (b : Bool). Memᴰ (e, i + 0) (cond b ((e, i) ∷ pick t (suc i) es) (pick t (suc i) es))) (sym (ap t (sym z) ∙ h)) (Memᴰ.head (ap (λ (k : ℕ). (e, k)) z))
mem_pick t i (e ∷ es) (suc s) l h = let z : suc i + s ≡ i + suc s = omega arith in go (t i) (subst (λ (k : ℕ). Memᴰ (get_or es s (0, 0), k) (pick t (suc i) es)) z (mem_pick t (suc i) es s (omega arith) (ap t z ∙ h)))
  where
    go : (b : Bool) → Memᴰ (get_or es s (0, 0), i + suc s) (pick t (suc i) es) → Memᴰ (get_or es s (0, 0), i + suc s) (cond b ((e, i) ∷ pick t (suc i) es) (pick t (suc i) es))
    go true m = Memᴰ.tail m
    go false m = m

pub pick_mem : (t : SegmentSet) (i : ℕ) (es : List Edge) (a : Entry) → Memᴰ a (pick t i es) → (s : ℕ) × (s < length es) × (t (i + s) ≡ true) × (a ≡ (get_or es s (0, 0), i + s))
pick_mem t i [] a m = absurd (elim m [ ])
pick_mem t i (e ∷ es) a m = go (t i) refl m (pick_mem t (suc i) es a)
  where
    Found : ℕ → List Edge → Type 0
    Found i es = (s : ℕ) × (s < length es) × (t (i + s) ≡ true) × (a ≡ (get_or es s (0, 0), i + s))

    later : Found (suc i) es → Found i (e ∷ es)
    later (s, l, p, q) = let z : i + suc s ≡ suc i + s = omega arith in (suc s, omega arith, ap t z ∙ p, q ∙ ap (λ (k : ℕ). (get_or es s (0, 0), k)) (sym z))

    go : (b : Bool) → t i ≡ b → Memᴰ a (cond b ((e, i) ∷ pick t (suc i) es) (pick t (suc i) es)) → (Memᴰ a (pick t (suc i) es) → Found (suc i) es) → Found i (e ∷ es)
    go true h (Memᴰ.head p) ih = let z : i + 0 ≡ i = omega arith in (0, omega arith, ap t z ∙ h, p ∙ ap (λ (k : ℕ). (e, k)) (sym z))
    go true h (Memᴰ.tail m) ih = later (ih m)
    go false h m ih = later (ih m)

-- without the names
pub mem_edges : (t : SegmentSet) (i : ℕ) (es : List Edge) (s : ℕ) → s < length es → t (i + s) ≡ true → Memᴰ (get_or es s (0, 0)) (plain (pick t i es))
mem_edges t i es s l h = plain_in (mem_pick t i es s l h)

pub edges_mem : (t : SegmentSet) (i : ℕ) (es : List Edge) (a : Edge) → Memᴰ a (plain (pick t i es)) → (s : ℕ) × (s < length es) × (t (i + s) ≡ true) × (a ≡ get_or es s (0, 0))
edges_mem t i es a m =
    let (n, k) = in_plain (pick t i es) m in
    let (s, l, p, q) = pick_mem t i es (a, n) k in
    (s, l, p, ap (λ (e : Entry). e.0) q)

range_high : (z i n : ℕ) → Memᴰ z (range i n) → z < i + n
range_high z i zero m = absurd (elim m [ ])
range_high z i (suc n) (Memᴰ.head p) = omega arith
range_high z i (suc n) (Memᴰ.tail m) = omega (arith, range_high z (suc i) n m)

-- ---- open roads
module _ (segs : List Edge) (o : SegmentSet) where
  -- the road of an open segment is open
  pub segment_open : (s : ℕ) → s < length segs → o s ≡ true → open_roads segs o (road segs s) ≡ true
  unfolding open_roads
  segment_open s l h = any_in (λ u. o u && eqb (road segs s) (road segs u)) (range_mem s 0 (length segs) (omega arith) (omega arith)) (ap₂ ◌&&◌ h (eq-eqb (road segs s) (road segs s) refl))

  -- an open road is that of an open segment
  pub open_segment : (r : ℕ) → open_roads segs o r ≡ true → (s : ℕ) × (s < length segs) × (o s ≡ true) × (r ≡ road segs s)
  unfolding open_roads
  open_segment r h =
      let (s, m, p) = any_find (λ u. o u && eqb r (road segs u)) (range 0 (length segs)) h in
      and_elim (o s) (eqb r (road segs s)) p λ a b. (s, omega (arith, range_high s 0 (length segs) m), a, eqb-true r (road segs s) b)

  -- its number is a name, and that of a segment
  pub open_name : (r : ℕ) → open_roads segs o r ≡ true → (road segs r ≡ r) × (r < length segs)
  open_name r h = let (s, l, p, q) = open_segment r h in (ap (road segs) q ∙ road_twice segs s ∙ sym q, omega (arith, road_most segs s))

-- sets of names pick edges of different roads
pick_apart : (t : SegmentSet) (f : ℕ → Edge) (i : ℕ) (es : List Edge) → ((k : ℕ) → k < length es → get_or es k (0, 0) ≡ f (i + k))
    → ((r s : ℕ) → r < s → t r ≡ true → t s ≡ true → same_ends (f r) (f s) ≡ false) → DifferentRoads (plain (pick t i es))
pick_apart t f i [] g h = tt
pick_apart t f i (e ∷ es) g h = go (t i) refl (pick_apart t f (suc i) es (λ k l. let z : i + suc k ≡ suc i + k = omega arith in g (suc k) (omega arith) ∙ ap f z) h)
  where
    go : (b : Bool) → t i ≡ b → DifferentRoads (plain (pick t (suc i) es)) → DifferentRoads (plain (cond b ((e, i) ∷ pick t (suc i) es) (pick t (suc i) es)))
    go false p r = r
    go true p r = (
      λ a m.
          let (s, l, q, k) = edges_mem t (suc i) es a m in
          let z : i + 0 ≡ i = omega arith in
          let y : i + suc s ≡ suc i + s = omega arith in
          ap₂ same_ends (g 0 (omega arith) ∙ ap f z) (k ∙ g (suc s) (omega arith) ∙ ap f y) ∙ h i (suc i + s) (omega arith) p q,
      r,
    )

pub names_different : (segs : List Edge) (t : SegmentSet) → ((r : ℕ) → t r ≡ true → road segs r ≡ r) → DifferentRoads (plain (pick t 0 segs))
names_different segs t h =
    pick_apart t (λ s. get_or segs s (0, 0)) 0 segs (λ k l. let z : k ≡ 0 + k = omega arith in ap (λ n. get_or segs n (0, 0)) z) λ r s l p q.
    on_bool (same_road segs r s)
    (λ e. absurd (omega (arith, h s q, road_least segs s r (ends_sym (get_or segs r (0, 0)) (get_or segs s (0, 0)) e))))
    (λ e. e)

-- and sets of names that share none pick edges of roads that share none
pub names_apart : (segs : List Edge) (t u : SegmentSet) → ((r : ℕ) → t r ≡ true → road segs r ≡ r) → ((r : ℕ) → u r ≡ true → road segs r ≡ r) → ((r : ℕ) → t r ≡ true → u r ≡ false)
    → (e : Edge) → Memᴰ e (plain (pick t 0 segs)) → Apart e (plain (pick u 0 segs))
names_apart segs t u a b d e m f n =
    let (r, k, p, x) = edges_mem t 0 segs e m in
    let (s, l, q, y) = edges_mem u 0 segs f n in
    ap₂ same_ends x y
    ∙ on_bool (same_road segs r s)
    (λ h. let z : 0 + r ≡ r = omega arith in
    let v : 0 + s ≡ s = omega arith in
    let j : 0 + r ≡ 0 + s = omega (arith, a (0 + r) p, b (0 + s) q, ap (road segs) z, ap (road segs) v, same_road_lem segs r s h) in
    contradict (ap u j ∙ q) (d (0 + r) p))
    (λ h. h)

-- ---- the reader's law
module _ (segs : List Edge) (o : SegmentSet) where
  pub roads_different : DifferentRoads (plain (pick (open_roads segs o) 0 segs))
  roads_different = names_different segs (open_roads segs o) (λ r h. (open_name segs o r h).0)

  pub roads_cover : Covers (plain (pick (open_roads segs o) 0 segs)) (plain (pick o 0 segs))
  roads_cover a m =
      let (r, l, h, q) = edges_mem (open_roads segs o) 0 segs a m in
      let z : 0 + r ≡ r = omega arith in
      let (s, k, p, e) = open_segment segs o r (subst (λ (n : ℕ). open_roads segs o n ≡ true) z h) in
      let y : s ≡ 0 + s = omega arith in (
        get_or segs s (0, 0),
        mem_edges o 0 segs s k (ap o (sym y) ∙ p),
        subst (λ (e : Edge). same_ends e (get_or segs s (0, 0)) ≡ true) (sym q) (road_ends segs r s (ap (road segs) e ∙ road_twice segs s)),
      )

  pub cover_roads : Covers (plain (pick o 0 segs)) (plain (pick (open_roads segs o) 0 segs))
  cover_roads a m =
      let (s, l, h, q) = edges_mem o 0 segs a m in
      let z : 0 + s ≡ s = omega arith in
      let y : road segs s ≡ 0 + road segs s = omega arith in (
        get_or segs (road segs s) (0, 0),
        mem_edges (open_roads segs o) 0 segs (road segs s) (omega (arith, road_most segs s))
            (subst (λ (n : ℕ). open_roads segs o n ≡ true) y (segment_open segs o s l (subst (λ (n : ℕ). o n ≡ true) z h))),
        subst (λ (e : Edge). same_ends e (get_or segs (road segs s) (0, 0)) ≡ true) (sym q) (road_same segs s),
      )

  -- the answer over the open roads, one edge each: joined in the open segments, and joined after the loss of all open segments of each single road in turn
  pub roads_answer : (x y : ℕ) → answer (plain (pick (open_roads segs o) 0 segs)) x y ≡ road_answer (plain (pick o 0 segs)) x y
  roads_answer x y =
      sym (different_answer (plain (pick (open_roads segs o) 0 segs)) roads_different x y)
      ∙ covers_answer (plain (pick (open_roads segs o) 0 segs)) (plain (pick o 0 segs)) roads_cover cover_roads x y
