-- Evidence exists for each right answer: the component of x for 0, a set that one road leaves and a path for 1, and for 2 two paths, one by roads in a set D of roads and one by roads outside it.
-- Assumes nothing.
use Prim.Native.Nat.{◌+◌, ◌<◌, ◌≤◌, suc, zero, ℕ}
use mathlib.Core.Bool.{Bool, ◌&&◌, ◌||◌, cond, false, not, or-true, true}
use mathlib.Core.List.{List, Memᴰ, [], ◌∷◌}
use mathlib.Core.Path.{◌∙◌, ◌≡◌, ap, ap₂, refl, subst, sym}
use lib.Dec.{eqb, leb, ltb}
use lib.ListN.{get_or, length}
use native.Mathlib.Omega.{arith}
use borrow.Author.Tests.{eq-eqb, eqb-true, le-leb, lt-ltb, ltb-true}
use Rattle.theory_graph.proofs.Booleans.{contradict, on_bool}
use Rattle.theory_graph.proofs.CutOffs.{on_two_edge}
use Rattle.theory_graph.proofs.Cuts.{cut_agree}
use Rattle.theory_graph.proofs.Definitions.{joined_from}
use Rattle.theory_graph.proofs.Ends.{ends_in_mem}
use Rattle.theory_graph.proofs.Lists.{each_tests, filter_in, table_length}
use Rattle.theory_graph.proofs.TableLaws.{table_get_or}
use Rattle.theory_graph.proofs.Published.{joined_route}
use Rattle.theory_graph.proofs.Reach.{reach, reach_closed, reach_connected, reach_self, reach_separated}
use Rattle.theory_graph.proofs.Separation.{insep_cut}
use Rattle.theory_graph.specs.Cut.{Connected, TwoEdgeConnected, cut}
use Rattle.theory_graph.specs.Graph.{Edge, NodeSet, answer}
use Rattle.theory_graph.specs.Lists.{all, filter, range, table}
use Rattle.theory_graph.specs.Route.{Adjacent}
use Rattle.theory_evidence.specs.Evidence.{Evidence, is_enough, evidence, exactly_one, inside, is_route, is_set, leads, meets, opposite, separates, road_disjoint, two_routes}
use Rattle.theory_timeline.proofs.RoadLaws.{ends_trans, on_ends}
use Rattle.theory_timeline.specs.Roads.{same_ends}
use Rattle.theory_evidence.specs.Network.{Network, ends_at, one_road, open_edges}
use Rattle.theory_evidence.specs.Theorem.{Sized}
use Rattle.theory_evidence.proofs.EdgeSets.{within}
use Rattle.theory_evidence.proofs.Menger.{adjacent_edge, two_ways}
use Rattle.theory_evidence.proofs.Paths.{Path, along, distinct_length, end, path_distinct, path_inside, shorten}
use Rattle.theory_evidence.proofs.OpenRoads.{road_segment, roads_ends, roads_plain}
use Rattle.theory_evidence.proofs.SameEnds.{Symmetric, symmetric_same_ends}
use Rattle.theory_evidence.proofs.Soundness.{answer_bridge, answer_separated, answer_two_edge}
use Rattle.theory_evidence.proofs.TwoWays.{TwoWays, outside}

-- ---- lists
all_range : (f : ℕ → Bool) (i n : ℕ) → ((v : ℕ) → i ≤ v → v < i + n → f v ≡ true) → all f (range i n) ≡ true
all_range f i zero k = refl
all_range f i (suc n) k = ap₂ ◌&&◌ (k i (omega arith) (omega arith)) (all_range f (suc i) n (λ v a b. k v (omega arith) (omega arith)))

mem_cons : (P : ℕ → Type 0) {x : ℕ} {l : List ℕ} → P x → ((a : ℕ) → Memᴰ a l → P a) → (a : ℕ) → Memᴰ a (x ∷ l) → P a
mem_cons P p k a (Memᴰ.head e) = subst P (sym e) p
mem_cons P p k a (Memᴰ.tail m) = k a m

-- ---- a node set as bytes
abbrev bytes : NodeSet → ℕ → List ℕ
bytes U n = table (λ v. cond (U v) 1 0) 0 n

bit_is : (b : Bool) → eqb (cond b 1 0) 1 ≡ b
bit_is true = refl
bit_is false = refl

bit_small : (b : Bool) → leb (cond b 1 0) 1 ≡ true
bit_small true = refl
bit_small false = refl

bytes_at : (U : NodeSet) (n v : ℕ) → v < n → get_or (bytes U n) v 0 ≡ cond (U v) 1 0
bytes_at U n v l = table_get_or (λ v. cond (U v) 1 0) n v l

bytes_inside : (U : NodeSet) (n v : ℕ) → v < n → inside (bytes U n) v ≡ U v
bytes_inside U n v l = ap (λ a. eqb a 1) (bytes_at U n v l) ∙ bit_is (U v)

bytes_set : (U : NodeSet) (n : ℕ) → is_set n (bytes U n) ≡ true
unfolding is_set
bytes_set U n = all_range (λ v. leb (get_or (bytes U n) v 0) 1) 0 n (λ v a b. ap (λ a. leb a 1) (bytes_at U n v (omega arith)) ∙ bit_small (U v))

module _ (w : Network) (below : (s : ℕ) → s < w.m → ((ends_at w s).0 < w.n) × ((ends_at w s).1 < w.n)) where
  abbrev E : List Edge
  E = open_edges w

  -- ---- sets
  roads_below : (g : Edge) → Memᴰ g E → (g.0 < w.n) × (g.1 < w.n)
  roads_below = roads_ends w (λ v. v < w.n) below

  bytes_cut : (U : NodeSet) → cut (inside (bytes U w.n)) E ≡ cut U E
  bytes_cut U =
      cut_agree (λ v. ltb v w.n) (inside (bytes U w.n)) U E
      (ends_in_mem (λ v. ltb v w.n) E (λ i j m. let (a, b) = roads_below (i, j) m in (lt-ltb i w.n a, lt-ltb j w.n b)))
      (λ v l. bytes_inside U w.n v (ltb-true v w.n l))

  bytes_separate : (k : ℕ) (U : NodeSet) (x y : ℕ) → x < w.n → y < w.n → U x ≡ true → U y ≡ false → cut U E ≡ k → separates w k (bytes U w.n) x y ≡ true
  unfolding separates exactly_one
  bytes_separate k U x y lx ly p q c =
      ap₂ ◌&&◌ (bytes_set U w.n)
      (ap₂ ◌&&◌ (ap₂ exactly_one (bytes_inside U w.n x lx ∙ p) (bytes_inside U w.n y ly ∙ q)) (eq-eqb (cut (inside (bytes U w.n)) E) k (bytes_cut U ∙ c)))

  -- ---- routes
  opposite_is : (e : Edge) (p q : ℕ) → same_ends (p, q) e ≡ true → (meets e p ≡ true) × (opposite e p ≡ q)
  opposite_is e p q h = on_ends (p, q) e h
      (λ a b. let t : eqb p e.0 ≡ true = eq-eqb p e.0 a in (ap (λ c. c || eqb p e.1) t, ap (λ c. cond c e.1 e.0) t ∙ sym b))
      (λ a b. (ap (λ c. eqb p e.0 || c) (eq-eqb p e.1 a) ∙ or-true (eqb p e.0), go (eqb p e.0) refl a b))
    where
      go : (c : Bool) → eqb p e.0 ≡ c → p ≡ e.1 → q ≡ e.0 → cond c e.1 e.0 ≡ q
      go true t a b = sym a ∙ eqb-true p e.0 t ∙ sym b
      go false t a b = sym b

  -- a route from x to y by roads of D, with fewer than k segments
  record Drawn (D : Edge → Bool) (x y k : ℕ) : Type 0 where
    route : List ℕ
    right : leads w route x y ≡ true
    short : suc (length route) ≡ k
    by : (s : ℕ) → Memᴰ s route → D (ends_at w s) ≡ true

  module _ (D : Edge → Bool) (even : Symmetric D) (F : List Edge) (part : (g : Edge) → Memᴰ g F → Memᴰ g E × (D g ≡ true)) where
    draw : {x y : ℕ} {l : List ℕ} → Path F x y l → Drawn D x y (length l)
    unfolding leads
    draw {x} end = record { route = []; right = eq-eqb x x refl; short = refl; by = λ s m. absurd (elim m [ ]) }
    draw {x} {y} (along {y = q} {l = l} a n p) =
        let (g, m, t) = adjacent_edge a in
        let (i, d) = part g m in
        let (s, o, u) = road_segment w g i in
        let (c, e) = opposite_is (ends_at w s) x q (ends_trans (x, q) g (ends_at w s) t u) in
        let r : Drawn D q y (length l) = draw p in
        record {
          route = s ∷ r.route;
          right = ap₂ ◌&&◌ o (ap₂ ◌&&◌ c (ap (λ v. leads w r.route v y) e ∙ r.right));
          short = ap suc r.short;
          by = mem_cons (λ v. D (ends_at w v) ≡ true) (sym (symmetric_same_ends D even g (ends_at w s) u) ∙ d) r.by;
        }

    path_short : {x y : ℕ} {l : List ℕ} → x < w.n → Path F x y l → length l ≤ w.n
    path_short {l = l} h p = distinct_length w.n l (path_distinct p) (path_inside (λ v. v < w.n) next h p)
      where
        next : (p q : ℕ) → Adjacent p q F → q < w.n
        next p q a =
            let (g, m, t) = adjacent_edge a in
            let (b, c) = roads_below g (part g m).0 in
            on_ends (p, q) g t (λ e f. subst (λ (v : ℕ). v < w.n) (sym f) c) (λ e f. subst (λ (v : ℕ). v < w.n) (sym f) b)

  joined_drawn : (D : Edge → Bool) (even : Symmetric D) (F : List Edge) (part : (g : Edge) → Memᴰ g F → Memᴰ g E × (D g ≡ true)) (x y : ℕ) → x < w.n → Connected F x y
      → (l : List ℕ) × (length l ≤ w.n) × Drawn D x y (length l)
  joined_drawn D even F part x y h c = let (l, p) = shorten (joined_route F x y (joined_from F x y c)) in (l, path_short D even F part h p, draw D even F part p)

  drawn_route : {D : Edge → Bool} {x y k : ℕ} (r : Drawn D x y k) → k ≤ w.n → is_route w r.route x y ≡ true
  unfolding is_route
  drawn_route r h = let s : suc (length r.route) ≡ _ = r.short in ap₂ ◌&&◌ (le-leb (length r.route) w.n (omega arith)) r.right

  drawn_disjoint : (D : Edge → Bool) (even : Symmetric D) {x y k j : ℕ} (r : Drawn D x y k) (q : Drawn (outside D) x y j) → road_disjoint w r.route q.route ≡ true
  unfolding road_disjoint
  drawn_disjoint D even r q =
      each_tests (λ s. all (λ t. not (one_road w s t)) q.route) r.route λ s m.
      each_tests (λ t. not (one_road w s t)) q.route λ t n.
      on_bool (one_road w s t) (λ h. contradict (q.by t n) (ap not (sym (symmetric_same_ends D even (ends_at w s) (ends_at w t) h) ∙ r.by s m))) (λ h. ap not h)

  -- ---- evidence for each answer
  pub record Found (x y : ℕ) : Type 0 where
    pub found : Evidence
    pub right : found.claim ≡ answer E x y
    pub sized : Sized w found
    pub enough : is_enough w x y found ≡ true

  module _ (x y : ℕ) (lx : x < w.n) (ly : y < w.n) where
    bytes_length : (U : NodeSet) → length (bytes U w.n) ≡ w.n
    bytes_length U = table_length (λ v. cond (U v) 1 0) 0 w.n

    unjoined : reach E x y ≡ false → Found x y
    unfolding is_enough
    unjoined h =
        let U : NodeSet = reach E x in
        record {
          found = evidence 0 (bytes U w.n) [] [];
          right = sym (answer_separated E x y (reach_separated E x y h));
          sized = record { set = bytes_length U; first = omega arith; second = omega arith };
          enough = bytes_separate 0 U x y lx ly (reach_self E x) h (omega (arith, reach_closed E x));
        }

    bridged : Connected E x y → (U : NodeSet) → U x ≡ true → U y ≡ false → cut U E ≤ 1 → Found x y
    unfolding is_enough
    bridged c U p q few =
        let (l, b, r) = joined_drawn (λ f. true) (λ p q. refl) E (λ g m. (m, refl)) x y lx c in
        let s : suc (length r.route) ≡ length l = r.short in
        record {
          found = evidence 1 (bytes U w.n) r.route [];
          right = sym (answer_bridge E x y c (U, p, q, few));
          sized = record { set = bytes_length U; first = omega arith; second = omega arith };
          enough = ap₂ ◌&&◌ (drawn_route r b) (bytes_separate 1 U x y lx ly p q (omega (arith, insep_cut E c U p q)));
        }

    doubled : TwoEdgeConnected E x y → Found x y
    unfolding is_enough two_routes within
    doubled two = on_bool (eqb x y)
        (λ h. record {
          found = evidence 2 (bytes (λ v. false) w.n) [] [];
          right = sym (answer_two_edge E x y two);
          sized = record { set = bytes_length (λ v. false); first = omega arith; second = omega arith };
          enough = ap (λ b. cond b true (is_route w [] x y && (is_route w [] x y && road_disjoint w [] []))) h;
        })
        (λ h.
        let t : TwoWays E x y = two_ways E (roads_plain w) x y two in
        let D : Edge → Bool = t.D in
        let (l, b, r) = joined_drawn D t.symmetric (filter D E) (λ g m. filter_in D g E m) x y lx (reach_connected (filter D E) x y t.one) in
        let (k, c, q) = joined_drawn (outside D) (λ p q. ap not (t.symmetric p q)) (filter (outside D) E) (λ g m. filter_in (outside D) g E m) x y lx (reach_connected (filter (outside D) E) x y t.other) in
        let s : suc (length r.route) ≡ length l = r.short in
        let u : suc (length q.route) ≡ length k = q.short in
        record {
          found = evidence 2 (bytes (λ v. false) w.n) r.route q.route;
          right = sym (answer_two_edge E x y two);
          sized = record { set = bytes_length (λ v. false); first = omega arith; second = omega arith };
          enough =
              ap (λ b. cond b (eqb (length r.route) 0 && eqb (length q.route) 0) (is_route w r.route x y && (is_route w q.route x y && road_disjoint w r.route q.route))) h
              ∙ ap₂ ◌&&◌ (drawn_route r b) (ap₂ ◌&&◌ (drawn_route q c) (drawn_disjoint D t.symmetric r q));
        })

    pub evidence_exists : Found x y
    evidence_exists = on_bool (reach E x y) (λ h. on_two_edge E x y (λ (U, p, q, c). bridged (reach_connected E x y h) U p q c) doubled) unjoined
