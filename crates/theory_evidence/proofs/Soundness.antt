-- Accepted evidence is right: the answer over the open roads is the claim. By cuts: a route crosses each set that separates its ends, and by an open road.
-- Assumes nothing.
use Prim.Native.Nat.{◌<◌, ◌≤◌, ℕ}
use mathlib.Core.Bool.{Bool, ◌&&◌, ◌||◌, cond, false, not, true}
use mathlib.Core.List.{List, Memᴰ, [], ◌∷◌}
use mathlib.Core.Logic.{◌⊎◌, inl, inr}
use mathlib.Core.Path.{◌∙◌, ◌≡◌, ap, ap₂, refl, sym}
use lib.Dec.{eqb, leb}
use lib.ListN.{length}
use native.Mathlib.Omega.{arith}
use borrow.Author.Tests.{eqb-true, not-true}
use Rattle.theory_graph.proofs.Booleans.{and_elim, contradict, on_bool}
use Rattle.theory_graph.proofs.Cuts.{crosses_cases, crosses_zero, crossing, crossing_one, in_crossing}
use Rattle.theory_graph.proofs.Definitions.{joined_from, joined_to, two_edge_from, two_edge_not}
use Rattle.theory_graph.proofs.Lists.{tests_each}
use Rattle.theory_graph.proofs.Published.{answer_two, two_edge_refl}
use Rattle.theory_graph.proofs.Separation.{same_two_edge, separated_sym}
use Rattle.theory_graph.specs.Cut.{Connected, Separated, TwoEdgeConnected, cut}
use Rattle.theory_graph.specs.Graph.{Edge, NodeSet, answer, joined, two_edge}
use Rattle.theory_graph.specs.Lists.{all}
use Rattle.theory_evidence.specs.Evidence.{Evidence, is_enough, exactly_one, inside, is_route, is_set, leads, meets, opposite, separates, road_disjoint, two_routes}
use Rattle.theory_timeline.specs.Roads.{same_ends}
use Rattle.theory_evidence.specs.Network.{Network, ends_at, one_road, open_edges, open_segment}
use Rattle.theory_evidence.proofs.OpenRoads.{segment_road}
use Rattle.theory_timeline.proofs.RoadLaws.{ends_sym, ends_trans}
use Rattle.theory_evidence.proofs.SameEnds.{same_ends_side}

-- ---- the answer by cuts
pub answer_separated : (E : List Edge) (x y : ℕ) → Separated 0 E x y → answer E x y ≡ 0
unfolding answer
answer_separated E x y s = ap (λ b. cond b (cond (two_edge E x y) 2 1) 0) (on_bool (joined E x y) (λ t. absurd (joined_to E x y t s)) (λ f. f))

pub answer_bridge : (E : List Edge) (x y : ℕ) → Connected E x y → Separated 1 E x y → answer E x y ≡ 1
unfolding answer
answer_bridge E x y c s = ap₂ (λ a b. cond a (cond b 2 1) 0) (joined_from E x y c) (two_edge_not E x y s)

pub answer_two_edge : (E : List Edge) (x y : ℕ) → TwoEdgeConnected E x y → answer E x y ≡ 2
answer_two_edge E x y t = (answer_two E x y).1 (two_edge_from E x y t)

-- ---- sets
exactly_one_elim : {A : Type 0} (a b : Bool) → exactly_one a b ≡ true → (a ≡ true → b ≡ false → A) → (b ≡ true → a ≡ false → A) → A
unfolding exactly_one
exactly_one_elim true true h f g = contradict h refl
exactly_one_elim true false h f g = f refl refl
exactly_one_elim false true h f g = g refl refl
exactly_one_elim false false h f g = contradict h refl

module _ (w : Network) where
  abbrev E : List Edge
  E = open_edges w

  separates_separated : (k : ℕ) (set : List ℕ) (x y : ℕ) → separates w k set x y ≡ true → Separated k E x y
  unfolding separates
  separates_separated k set x y h =
      let U : NodeSet = inside set in
      and_elim (is_set w.n set) _ h λ a h₁. and_elim (exactly_one (U x) (U y)) _ h₁ λ b c.
      let d : cut U E ≡ k = eqb-true (cut U E) k c in
      exactly_one_elim (U x) (U y) b (λ p q. (U, p, q, omega arith)) (λ p q. separated_sym E (U, p, q, omega arith))

  -- ---- routes
  opposite_side : (U : NodeSet) (e : Edge) (x : ℕ) → meets e x ≡ true → U e.0 ≡ U e.1 → U x ≡ U (opposite e x)
  opposite_side U e x h k = go (eqb x e.0) refl h
    where
      go : (b : Bool) → eqb x e.0 ≡ b → (b || eqb x e.1) ≡ true → U x ≡ U (cond b e.1 e.0)
      go true p h = ap U (eqb-true x e.0 p) ∙ k
      go false p h = ap U (eqb-true x e.1 h) ∙ sym k

  -- a segment of the route crosses U
  record Crossed (U : NodeSet) (r : List ℕ) : Type 0 where
    segment : ℕ
    on : Memᴰ segment r
    road : Edge
    road_in : Memᴰ road E
    road_of : same_ends (ends_at w segment) road ≡ true
    crossed : 0 < crossing U road

  -- a route crosses each set that separates its ends
  leads_crosses : (U : NodeSet) (r : List ℕ) (x y : ℕ) → leads w r x y ≡ true → (U x ≡ U y) ⊎ Crossed U r
  unfolding leads
  leads_crosses U [] x y h = inl (ap U (eqb-true x y h))
  leads_crosses U (s ∷ r) x y h =
      and_elim (open_segment w s) _ h λ o h₁. and_elim (meets (ends_at w s) x) _ h₁ λ a b.
      let (g, m, e) = segment_road w s o in
      crosses_cases (U g.0) (U g.1)
      (λ z. later (opposite_side U (ends_at w s) x a (same_ends_side U (ends_at w s) g e (crosses_zero (U g.0) (U g.1) (omega arith)))) (leads_crosses U r (opposite (ends_at w s) x) y b))
      (λ z. inr (record { segment = s; on = Memᴰ.head refl; road = g; road_in = m; road_of = e; crossed = omega arith }))
    where
      later : {v : ℕ} → U x ≡ U v → (U v ≡ U y) ⊎ Crossed U r → (U x ≡ U y) ⊎ Crossed U (s ∷ r)
      later p (inl q) = inl (p ∙ q)
      later p (inr c) = inr (record { segment = c.segment; on = Memᴰ.tail c.on; road = c.road; road_in = c.road_in; road_of = c.road_of; crossed = c.crossed })

  route_leads : (r : List ℕ) (x y : ℕ) → is_route w r x y ≡ true → leads w r x y ≡ true
  unfolding is_route
  route_leads r x y h = and_elim (leb (length r) w.n) (leads w r x y) h λ a b. b

  route_connected : (r : List ℕ) (x y : ℕ) → leads w r x y ≡ true → Connected E x y
  route_connected r x y h (U, p, q, c) = go (leads_crosses U r x y h)
    where
      go : (U x ≡ U y) ⊎ Crossed U r → ⊥
      go (inl e) = contradict p (e ∙ q)
      go (inr k) = omega (arith, in_crossing U k.road k.road_in k.crossed)

  disjoint_two : (r q : List ℕ) (x y : ℕ) → leads w r x y ≡ true → leads w q x y ≡ true → road_disjoint w r q ≡ true → TwoEdgeConnected E x y
  unfolding road_disjoint
  disjoint_two r q x y h k d = same_two_edge E x y λ U c. go U c (leads_crosses U r x y h) (leads_crosses U q x y k)
    where
      go : (U : NodeSet) → cut U E ≤ 1 → (U x ≡ U y) ⊎ Crossed U r → (U x ≡ U y) ⊎ Crossed U q → U x ≡ U y
      go U c (inl e) b = e
      go U c (inr a) (inl e) = e
      go U c (inr a) (inr b) =
          let one : a.road ≡ b.road = crossing_one U a.road b.road c a.road_in b.road_in a.crossed b.crossed in
          let of : same_ends (ends_at w a.segment) b.road ≡ true = ap (same_ends (ends_at w a.segment)) (sym one) ∙ a.road_of in
          let same : one_road w a.segment b.segment ≡ true =
          ends_trans (ends_at w a.segment) b.road (ends_at w b.segment) of (ends_sym (ends_at w b.segment) b.road b.road_of) in
          contradict same (not-true _ (tests_each (λ t. not (one_road w a.segment t)) b.segment q (tests_each (λ s. all (λ t. not (one_road w s t)) q) a.segment r d a.on) b.on))

  two_answer : (r q : List ℕ) (x y : ℕ) → two_routes w r q x y ≡ true → answer E x y ≡ 2
  unfolding two_routes
  two_answer r q x y h = go (eqb x y) refl h
    where
      go : (b : Bool) → eqb x y ≡ b → cond b (eqb (length r) 0 && eqb (length q) 0) (is_route w r x y && (is_route w q x y && road_disjoint w r q)) ≡ true → answer E x y ≡ 2
      go true p h = (answer_two E x y).1 (ap (λ v. two_edge E x v) (sym (eqb-true x y p)) ∙ two_edge_refl E x)
      go false p h =
          and_elim (is_route w r x y) _ h λ a b. and_elim (is_route w q x y) _ b λ c d.
          answer_two_edge E x y (disjoint_two r q x y (route_leads r x y a) (route_leads q x y c) d)

  -- ---- the three claims
  pub accepted_right : (x y : ℕ) (e : Evidence) → is_enough w x y e ≡ true → answer E x y ≡ e.claim
  unfolding is_enough
  accepted_right x y e h = go (eqb e.claim 0) (eqb e.claim 1) (eqb e.claim 2) refl refl refl h
    where
      go : (a b c : Bool) → eqb e.claim 0 ≡ a → eqb e.claim 1 ≡ b → eqb e.claim 2 ≡ c
          → cond a (separates w 0 e.set x y) (cond b (is_route w e.first x y && separates w 1 e.set x y) (cond c (two_routes w e.first e.second x y) false)) ≡ true → answer E x y ≡ e.claim
      go true b c p q r h = answer_separated E x y (separates_separated 0 e.set x y h) ∙ sym (eqb-true e.claim 0 p)
      go false true c p q r h =
          and_elim (is_route w e.first x y) _ h λ s t.
          answer_bridge E x y (route_connected e.first x y (route_leads e.first x y s)) (separates_separated 1 e.set x y t) ∙ sym (eqb-true e.claim 1 q)
      go false false true p q r h = two_answer e.first e.second x y h ∙ sym (eqb-true e.claim 2 r)
      go false false false p q r h = contradict h refl
