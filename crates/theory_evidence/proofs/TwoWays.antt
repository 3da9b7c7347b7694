-- Two ways from x to v that share no edge, told by a set D of edges: the edges in D join x and v, and so do those outside D. No lists of edges, no flow.
-- The step: where x and v have two ways, an edge joins v and w, and x and w stay joined without that edge, x and w have two ways. Menger carries it along a path.
-- The last case is the one with content: w is reached by neither way without the edge. Each way is cut down to x's component (grown, with the edge added),
-- and w is reached by what one of the two leaves over: else the union of what both reach that way is closed but for the edge, against the way round.
-- Assumes nothing.
use Prim.Native.Nat.{ℕ}
use mathlib.Core.Bool.{Bool, ◌&&◌, ◌||◌, false, not, or-true, true}
use mathlib.Core.List.{List, Memᴰ}
use mathlib.Core.Path.{◌∙◌, ◌≡◌, ap, ap₂, refl, sym}
use Rattle.theory_graph.proofs.Booleans.{and_elim, and_swap, contradict, on_bool, or_elim}
use Rattle.theory_graph.specs.Cut.{◌∪◌}
use Rattle.theory_graph.specs.Graph.{Edge, NodeSet}
use Rattle.theory_timeline.proofs.RoadLaws.{on_ends}
use Rattle.theory_timeline.specs.Roads.{same_ends}
use Rattle.theory_evidence.proofs.EdgeSets.{inner, within, within_closed, within_inner, within_least, within_more, within_self}
use Rattle.theory_evidence.proofs.SameEnds.{Symmetric, same_ends_side, same_ends_symmetric}

-- the edges outside D
abbrev pub outside : (Edge → Bool) → Edge → Bool
outside D f = not (D f)

-- x and v are joined by the edges in D, and by those outside D
pub record TwoWays (E : List Edge) (x v : ℕ) : Type 0 where
  pub D : Edge → Bool
  pub symmetric : Symmetric D
  pub one : within E x D v ≡ true
  pub other : within E x (outside D) v ≡ true

-- ---- facts about up to three Booleans: s that an edge is e, d that it is in D, m that it is inside a component
less_outside : (s d : Bool) → (not d && not s) ≡ true → not (d && not s) ≡ true
less_outside s true h = contradict h refl
less_outside s false h = refl

outside_less : (s d : Bool) → (d && not s) ≡ true → not (not d && not s) ≡ true
outside_less s true h = refl
outside_less s false h = contradict h refl

grown_other : (s d m : Bool) → (not d && not s) ≡ true → not (s || (d && not s) && m) ≡ true
grown_other true true m h = contradict h refl
grown_other true false m h = contradict h refl
grown_other false true m h = contradict h refl
grown_other false false m h = refl

grown_one : (s d m : Bool) → (d && not s) ≡ true → not (s || (not d && not s) && m) ≡ true
grown_one true true m h = contradict h refl
grown_one true false m h = contradict h refl
grown_one false true m h = refl
grown_one false false m h = contradict h refl

-- ---- one step, along an edge g with the ends v and w
module _ (E : List Edge) (x v w : ℕ) (g : Edge) (has : Memᴰ g E) (between : same_ends (v, w) g ≡ true) where
  abbrev is : Edge → Bool
  is = same_ends (v, w)

  -- D without the edge
  abbrev less : (Edge → Bool) → Edge → Bool
  less D f = D f && not (is f)

  -- the edge, and of D without it what lies inside x's component
  abbrev grown : (Edge → Bool) → Edge → Bool
  grown D f = is f || inner E x (less D) f

  less_symmetric : (D : Edge → Bool) → Symmetric D → Symmetric (less D)
  less_symmetric D s p q = ap₂ (λ a b. a && not b) (s p q) (same_ends_symmetric (v, w) p q)

  grown_symmetric : (D : Edge → Bool) → Symmetric D → Symmetric (grown D)
  grown_symmetric D s p q = ap₂ ◌||◌ (same_ends_symmetric (v, w) p q) (ap₂ ◌&&◌ (less_symmetric D s p q) (and_swap (within E x (less D) p) (within E x (less D) q)))

  arrive : (D : Edge → Bool) → D g ≡ true → within E x D v ≡ true → within E x D w ≡ true
  arrive D p r = sym (same_ends_side (within E x D) (v, w) g between (within_closed E x D g has p)) ∙ r

  -- without the edge, x is joined to one of its ends
  nearer : (D : Edge → Bool) → within E x D v ≡ true → within E x (less D) w ≡ false → within E x (less D) v ≡ true
  nearer D r q = on_bool (within E x (less D) v) (λ t. t) λ t. contradict (within_least E x D (within E x (less D)) (closed t) (within_self E x (less D)) v r) t
    where
      closed : within E x (less D) v ≡ false → (f : Edge) → Memᴰ f E → D f ≡ true → within E x (less D) f.0 ≡ within E x (less D) f.1
      closed t f m p =
          on_bool (is f)
          (λ i. on_ends (v, w) f i (λ a b. ap (within E x (less D)) (sym a) ∙ t ∙ sym q ∙ ap (within E x (less D)) b) (λ a b. ap (within E x (less D)) (sym b) ∙ q ∙ sym t ∙ ap (within E x (less D)) a))
          (λ i. within_closed E x (less D) f m (ap₂ (λ a b. a && not b) p i))

  grown_arrives : (D : Edge → Bool) → within E x (less D) v ≡ true → within E x (grown D) w ≡ true
  grown_arrives D r = arrive (grown D) (ap (λ b. b || inner E x (less D) g) between) (within_more E x (inner E x (less D)) (grown D) (λ f p. ap (λ b. is f || b) p ∙ or-true (is f)) v (within_inner E x (less D) v r))

  -- a way round the edge: by the edges outside one of the two grown sets
  module _ (D : Edge → Bool) (round : within E x (λ f. not (is f)) w ≡ true) where
    abbrev K₁ : NodeSet
    K₁ = within E x (outside (grown D))

    abbrev K₂ : NodeSet
    K₂ = within E x (outside (grown (outside D)))

    in_K₁ : (u : ℕ) → within E x (less (outside D)) u ≡ true → K₁ u ≡ true
    in_K₁ u r = within_more E x (less (outside D)) (outside (grown D)) (λ f p. grown_other (is f) (D f) _ p) u r

    in_K₂ : (u : ℕ) → within E x (less D) u ≡ true → K₂ u ≡ true
    in_K₂ u r = within_more E x (less D) (outside (grown (outside D))) (λ f p. grown_one (is f) (D f) _ p) u r

    -- an edge of a grown set other than g has both ends in the component
    inner_ends : (C : Edge → Bool) (f : Edge) → not (is f) ≡ true → grown C f ≡ true → (within E x (less C) f.0 ≡ true) × (within E x (less C) f.1 ≡ true)
    inner_ends C f i h =
        or_elim (is f) _ h (λ a. contradict i (ap not a)) λ a.
        and_elim (less C f) _ a λ b c. and_elim (within E x (less C) f.0) _ c λ s t. (s, t)

    round_closed : (f : Edge) → Memᴰ f E → not (is f) ≡ true → (K₁ ∪ K₂) f.0 ≡ (K₁ ∪ K₂) f.1
    round_closed f m i =
        on_bool (grown D f)
        (λ a.
        let (s, t) = inner_ends D f i a in
        ap (λ b. K₁ f.0 || b) (in_K₂ f.0 s) ∙ or-true (K₁ f.0) ∙ sym (ap (λ b. K₁ f.1 || b) (in_K₂ f.1 t) ∙ or-true (K₁ f.1)))
        (λ a.
        on_bool (grown (outside D) f)
        (λ b.
        let (s, t) = inner_ends (outside D) f i b in
        ap (λ b. b || K₂ f.0) (in_K₁ f.0 s) ∙ sym (ap (λ b. b || K₂ f.1) (in_K₁ f.1 t)))
        (λ b. ap₂ ◌||◌ (within_closed E x (outside (grown D)) f m (ap not a)) (within_closed E x (outside (grown (outside D))) f m (ap not b))))

    round_cases : {A : Type 0} → (K₁ w ≡ true → A) → (K₂ w ≡ true → A) → A
    round_cases h k = or_elim (K₁ w) (K₂ w) (within_least E x (λ f. not (is f)) (K₁ ∪ K₂) round_closed (ap (λ b. b || K₂ x) (within_self E x (outside (grown D)))) w round) h k

  pub two_ways_step : TwoWays E x v → within E x (λ f. not (is f)) w ≡ true → TwoWays E x w
  two_ways_step t round =
      let C : Edge → Bool = t.D in
      let skew : Symmetric (outside C) = λ p q. ap not (t.symmetric p q) in
      on_bool (within E x (less C) w)
      (λ a. on_bool (within E x (less (outside C)) w)
      (λ b. record {
        D = C;
        symmetric = t.symmetric;
        one = within_more E x (less C) C (λ f p. and_elim (C f) _ p λ i j. i) w a;
        other = within_more E x (less (outside C)) (outside C) (λ f p. and_elim (outside C f) _ p λ i j. i) w b;
      })
      (λ b. record {
        D = less C;
        symmetric = less_symmetric C t.symmetric;
        one = a;
        other = arrive (outside (less C)) (ap (λ i. not (C g && not i)) between ∙ taken (C g)) (within_more E x (less (outside C)) (outside (less C)) (λ f p. less_outside (is f) (C f) p) v (nearer (outside C) t.other b));
      }))
      (λ a. on_bool (within E x (less (outside C)) w)
      (λ b. record {
        D = less (outside C);
        symmetric = less_symmetric (outside C) skew;
        one = b;
        other = arrive (outside (less (outside C))) (ap (λ i. not (not (C g) && not i)) between ∙ taken (not (C g))) (within_more E x (less C) (outside (less (outside C))) (λ f p. outside_less (is f) (C f) p) v (nearer C t.one a));
      })
      (λ b.
      let r = nearer C t.one a in
      let s = nearer (outside C) t.other b in
      round_cases C round
      (λ k. record { D = grown C; symmetric = grown_symmetric C t.symmetric; one = grown_arrives C r; other = k })
      (λ k. record { D = grown (outside C); symmetric = grown_symmetric (outside C) skew; one = grown_arrives (outside C) s; other = k })))
    where
      taken : (b : Bool) → not (b && false) ≡ true
      taken true = refl
      taken false = refl
