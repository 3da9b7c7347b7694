-- Laws of lists of events: what they name, what is open after them, the edges of sets of segments, active junctions, and the roads that they name.
-- Assumes nothing.
use Prim.Native.Nat.{◌+◌, ◌<◌, suc, ℕ}
use mathlib.Core.Bool.{Bool, ◌&&◌, ◌||◌, and-false, cond, false, or_assoc, or-true, true}
use mathlib.Core.List.{List, Memᴰ, [], ◌++◌, ◌∷◌}
use mathlib.Core.Logic.{◌⊎◌, inl, inr}
use mathlib.Core.Path.{◌∙◌, ◌≡◌, ap, ap₂, fun_ext, refl, subst, sym}
use lib.Dec.{eqb}
use lib.ListN.{get_or, length}
use native.Mathlib.Omega.{arith}
use borrow.Author.Tests.{eq-eqb, eqb-true}
use Rattle.call_kinds.proofs.KindLaws.{change_asks_not, query_keeps}
use Rattle.call_kinds.specs.Kinds.{kind_of}
use Rattle.theory_graph.proofs.Booleans.{and_elim, contradict, on_bool, or_elim}
use Rattle.theory_graph.specs.Graph.{Edge, NodeSet}
use Rattle.theory_graph.specs.Lists.{any, range}
use Rattle.theory_graph.specs.SmallGraph.{ends_in}
use Rattle.theory_names.specs.Names.{Named, plain, weigh}
use Rattle.theory_timeline.specs.Events.{Event, SegmentSet, active_of, after, after_all, asks, changes, ends, named, named_roads, names, names_road, open_roads, opens, pick}
use Rattle.theory_timeline.specs.Roads.{road}

-- ---- kinds
-- a query names no segment
pub asks_changes : (n : ℕ) (e : Event) → asks n e ≡ true → changes n e ≡ false
asks_changes n e = query_keeps (kind_of n e.0)

pub changes_asks : (n : ℕ) (e : Event) → changes n e ≡ true → asks n e ≡ false
changes_asks n e = change_asks_not (kind_of n e.0)

-- ---- what is named, open and active
-- what is not named stays as it is
pub after_stays : (n : ℕ) (evs : List Event) (o : NodeSet) (s : ℕ) → named n evs s ≡ false → after_all n evs o s ≡ o s
after_stays n [] o s h = refl
after_stays n (e ∷ evs) o s h = go (names n e s) refl h (after_stays n evs (after n e o) s)
  where
    go : (b : Bool) → names n e s ≡ b → (b || named n evs s) ≡ false → (named n evs s ≡ false → after_all n evs (after n e o) s ≡ after n e o s) → after_all n evs (after n e o) s ≡ o s
    go true p h rest = contradict refl h
    go false p h rest = rest h ∙ ap (λ b. cond b (opens n e) (o s)) p

pub pick_sum : (φ : ℕ → ℕ) (U : NodeSet) (t a b : NodeSet) → ((s : ℕ) → ((a s ≡ t s) × (b s ≡ false)) ⊎ ((a s ≡ false) × (b s ≡ t s))) → (i : ℕ) (es : List Edge)
    → weigh φ U (pick t i es) ≡ weigh φ U (pick a i es) + weigh φ U (pick b i es)
pick_sum φ U t a b k i [] = refl
pick_sum φ U t a b k i (e ∷ es) = go (t i) (a i) (b i) (k i) (pick_sum φ U t a b k (suc i) es)
  where
    go : (x y z : Bool) → ((y ≡ x) × (z ≡ false)) ⊎ ((y ≡ false) × (z ≡ x)) → weigh φ U (pick t (suc i) es) ≡ weigh φ U (pick a (suc i) es) + weigh φ U (pick b (suc i) es)
        → weigh φ U (cond x ((e, i) ∷ pick t (suc i) es) (pick t (suc i) es)) ≡ weigh φ U (cond y ((e, i) ∷ pick a (suc i) es) (pick a (suc i) es)) + weigh φ U (cond z ((e, i) ∷ pick b (suc i) es) (pick b (suc i) es))
    go true true true (inl (p, q)) h = contradict refl q
    go true true true (inr (p, q)) h = contradict refl p
    go true true false m h = omega arith
    go true false true m h = omega arith
    go true false false (inl (p, q)) h = contradict refl (sym p ∙ refl)
    go true false false (inr (p, q)) h = contradict refl (sym q ∙ refl)
    go false true z (inl (p, q)) h = contradict refl p
    go false true z (inr (p, q)) h = contradict refl p
    go false false true (inl (p, q)) h = contradict refl q
    go false false true (inr (p, q)) h = contradict refl q
    go false false false m h = h

pub pick_within : (N : NodeSet) (t : NodeSet) (f : ℕ → Edge) (i : ℕ) (es : List Edge) → ((k : ℕ) → get_or es k (0, 0) ≡ f (i + k))
    → ((s : ℕ) → t s ≡ true → (N (f s).0 ≡ true) × (N (f s).1 ≡ true)) → ends_in N (plain (pick t i es)) ≡ true
pick_within N t f i [] g h = refl
pick_within N t f i (e ∷ es) g h = go (t i) refl (pick_within N t f (suc i) es (λ k. g (suc k) ∙ ap f (shift k)) h)
  where
    shift : (k : ℕ) → i + suc k ≡ suc i + k
    shift k = omega arith

    here : e ≡ f i
    here = let z : i + 0 ≡ i = omega arith in g 0 ∙ ap f z

    go : (b : Bool) → t i ≡ b → ends_in N (plain (pick t (suc i) es)) ≡ true → ends_in N (plain (cond b ((e, i) ∷ pick t (suc i) es) (pick t (suc i) es))) ≡ true
    go true p r = let (a, b) = h i p in ap₂ ◌&&◌ (ap (λ (e : Edge). N e.0) here ∙ a) (ap₂ ◌&&◌ (ap (λ (e : Edge). N e.1) here ∙ b) r)
    go false p r = r

pub active_named : (n : ℕ) (segs : List Edge) (evs : List Event) (s : ℕ) → named n evs s ≡ true → Memᴰ (get_or segs s (0, 0)).0 (active_of n segs evs)
    × Memᴰ (get_or segs s (0, 0)).1 (active_of n segs evs)
unfolding active_of
active_named n segs [] s h = contradict h refl
active_named n segs (e ∷ evs) s h =
    or_elim (names n e s) (named n evs s) h
    (λ p. and_elim (changes n e) (eqb s e.1) p λ a b.
    let q : get_or segs s (0, 0) ≡ ends n segs e = ap (λ k. get_or segs k (0, 0)) (eqb-true s e.1 b) ∙ sym (ap (λ c. cond c e (get_or segs e.1 (0, 0))) (changes_asks n e a)) in
    (Memᴰ.head (ap (λ (e : Edge). e.0) q), Memᴰ.tail (Memᴰ.head (ap (λ (e : Edge). e.1) q))))
    (λ p. let (a, b) = active_named n segs evs s p in (Memᴰ.tail (Memᴰ.tail a), Memᴰ.tail (Memᴰ.tail b)))

pub active_left : (n : ℕ) (segs : List Edge) (a b : List Event) (v : ℕ) → Memᴰ v (active_of n segs a) → Memᴰ v (active_of n segs (a ++ b))
unfolding active_of
active_left n segs [] b v m = absurd (elim m [ ])
active_left n segs (e ∷ a) b v (Memᴰ.head p) = Memᴰ.head p
active_left n segs (e ∷ a) b v (Memᴰ.tail (Memᴰ.head p)) = Memᴰ.tail (Memᴰ.head p)
active_left n segs (e ∷ a) b v (Memᴰ.tail (Memᴰ.tail m)) = Memᴰ.tail (Memᴰ.tail (active_left n segs a b v m))

pub active_right : (n : ℕ) (segs : List Edge) (a b : List Event) (v : ℕ) → Memᴰ v (active_of n segs b) → Memᴰ v (active_of n segs (a ++ b))
unfolding active_of
active_right n segs [] b v m = m
active_right n segs (e ∷ a) b v m = Memᴰ.tail (Memᴰ.tail (active_right n segs a b v m))

-- ---- a query by itself: the network is all that is open
pub pick_same : (t u : NodeSet) (i : ℕ) (es : List Edge) → ((k : ℕ) → k < length es → t (i + k) ≡ u (i + k)) → pick t i es ≡ pick u i es
pick_same t u i [] h = refl
pick_same t u i (e ∷ es) h =
    let z : i + 0 ≡ i = omega arith in
    let n : (k : ℕ) → i + suc k ≡ suc i + k = λ k. omega arith in
    ap₂ (λ (b : Bool) (l : Named). cond b ((e, i) ∷ l) l) (subst (λ (k : ℕ). t k ≡ u k) z (h 0 (omega arith)))
    (pick_same t u (suc i) es (λ k l. subst (λ (j : ℕ). t j ≡ u j) (n k) (h (suc k) (omega arith))))

pub pick_ext : (t u : NodeSet) → ((s : ℕ) → t s ≡ u s) → (i : ℕ) (es : List Edge) → pick t i es ≡ pick u i es
pick_ext t u h i es = pick_same t u i es (λ k l. h (i + k))

-- ---- roads
module _ (n : ℕ) (segs : List Edge) where
  pub named_roads_append : (a b : List Event) (r : ℕ) → named_roads n segs (a ++ b) r ≡ (named_roads n segs a r || named_roads n segs b r)
  named_roads_append [] b r = refl
  named_roads_append (e ∷ a) b r = ap (λ x. names_road n segs e r || x) (named_roads_append a b r) ∙ sym (or_assoc (names_road n segs e r) (named_roads n segs a r) (named_roads n segs b r))

  -- a road is named where a segment of it is
  pub road_named : (evs : List Event) (r : ℕ) → named_roads n segs evs r ≡ true → (s : ℕ) × (named n evs s ≡ true) × (r ≡ road segs s)
  road_named [] r h = contradict h refl
  road_named (e ∷ evs) r h =
      or_elim (names_road n segs e r) (named_roads n segs evs r) h
      (λ p. and_elim (changes n e) (eqb r (road segs e.1)) p λ a b.
      (e.1, ap₂ (λ x y. x && y || named n evs e.1) a (eq-eqb e.1 e.1 refl), eqb-true r (road segs e.1) b))
      (λ p. let (s, q, k) = road_named evs r p in (s, ap (λ x. names n e s || x) q ∙ or-true (names n e s), k))

  pub named_road : (evs : List Event) (s : ℕ) → named n evs s ≡ true → named_roads n segs evs (road segs s) ≡ true
  named_road [] s h = contradict h refl
  named_road (e ∷ evs) s h =
      or_elim (names n e s) (named n evs s) h
      (λ p. and_elim (changes n e) (eqb s e.1) p λ a b.
      ap₂ (λ x y. x && y || named_roads n segs evs (road segs s)) a (eq-eqb (road segs s) (road segs e.1) (ap (road segs) (eqb-true s e.1 b))))
      (λ p. ap (λ x. names_road n segs e (road segs s) || x) (named_road evs s p) ∙ or-true (names_road n segs e (road segs s)))

  -- a road that is not named stays as it is
  pub roads_stay : (evs : List Event) (o : SegmentSet) (r : ℕ) → named_roads n segs evs r ≡ false → open_roads segs (after_all n evs o) r ≡ open_roads segs o r
  unfolding open_roads
  roads_stay evs o r h = ap (λ f. any f (range 0 (length segs))) (fun_ext λ s. on_bool (eqb r (road segs s))
      (λ t. ap (λ b. b && eqb r (road segs s)) (after_stays n evs o s (on_bool (named n evs s)
      (λ q. contradict (named_road evs s q) (subst (λ (k : ℕ). named_roads n segs evs k ≡ false) (eqb-true r (road segs s) t) h))
      (λ q. q))))
      (λ t. ap (λ b. after_all n evs o s && b) t ∙ and-false (after_all n evs o s) ∙ sym (ap (λ b. o s && b) t ∙ and-false (o s))))
