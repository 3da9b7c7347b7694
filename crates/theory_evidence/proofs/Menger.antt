-- Menger's theorem for two ways, in graphs without parallel edges: where no set that at most one edge leaves separates x and y, two ways join them that share no edge.
-- Assumes nothing.
use Prim.Native.Nat.{◌+◌, ◌≤◌, ℕ}
use mathlib.Core.Bool.{Bool, cond, false, not, true}
use mathlib.Core.List.{List, Memᴰ, [], ◌∷◌}
use mathlib.Core.Path.{◌∙◌, ◌≡◌, ap, refl, sym}
use lib.Dec.{eqb}
use lib.ListN.{length}
use native.Mathlib.Omega.{arith}
use borrow.Author.Tests.{eq-eqb}
use Rattle.theory_graph.proofs.Booleans.{contradict, on_bool, or_neither}
use Rattle.theory_graph.proofs.Cuts.{crosses_le}
use Rattle.theory_graph.proofs.Definitions.{joined_from}
use Rattle.theory_graph.proofs.Published.{joined_route}
use Rattle.theory_graph.proofs.Separation.{two_edge_connected}
use Rattle.theory_graph.specs.Cut.{TwoEdgeConnected, crosses, cut}
use Rattle.theory_graph.specs.Graph.{Edge, NodeSet}
use Rattle.theory_graph.specs.Lists.{filter, member}
use Rattle.theory_graph.specs.Route.{Adjacent, back, fore, next}
use Rattle.theory_timeline.proofs.RoadLaws.{ends_back, ends_refl, on_ends}
use Rattle.theory_timeline.specs.Roads.{same_ends}
use Rattle.theory_evidence.proofs.EdgeSets.{within, within_closed, within_cut, within_self}
use Rattle.theory_evidence.proofs.Paths.{Path, along, end, shorten}
use Rattle.theory_evidence.proofs.SameEnds.{same_ends_side}
use Rattle.theory_evidence.proofs.TwoWays.{TwoWays, two_ways_step}

-- at most one edge has the two ends of e
abbrev pub NoParallels : List Edge → Type 0
NoParallels E = (e : Edge) → length (filter (same_ends e) E) ≤ 1

-- the edge of the list between two adjacent nodes
pub adjacent_edge : {p q : ℕ} {E : List Edge} → Adjacent p q E → (g : Edge) × Memᴰ g E × (same_ends (p, q) g ≡ true)
adjacent_edge {p} {q} fore = ((p, q), Memᴰ.head refl, ends_refl (p, q))
adjacent_edge {p} {q} back = ((q, p), Memᴰ.head refl, ends_back (p, q) (q, p) refl refl)
adjacent_edge (next a) = let (g, m, s) = adjacent_edge a in (g, Memᴰ.tail m, s)

-- the edges that leave a set, of one kind and the others
pub cut_split_filter : (f : Edge → Bool) (U : NodeSet) (E : List Edge) → cut U E ≤ cut U (filter (λ e. not (f e)) E) + length (filter f E)
cut_split_filter f U [] = omega arith
cut_split_filter f U (e ∷ E) = go (f e) (cut_split_filter f U E)
  where
    go : (b : Bool) → cut U E ≤ cut U (filter (λ e. not (f e)) E) + length (filter f E)
        → crosses (U e.0) (U e.1) + cut U E ≤ cut U (cond (not b) (e ∷ filter (λ e. not (f e)) E) (filter (λ e. not (f e)) E)) + length (cond b (e ∷ filter f E) (filter f E))
    go true h = omega (arith, crosses_le (U e.0) (U e.1))
    go false h = omega arith

module _ (E : List Edge) (plain : NoParallels E) (x y : ℕ) (two : TwoEdgeConnected E x y) where
  -- a path that does not meet v does not use an edge at v
  beside : (v w : ℕ) (U : NodeSet) → ((f : Edge) → Memᴰ f E → not (same_ends (v, w) f) ≡ true → U f.0 ≡ U f.1)
      → {p : ℕ} {l : List ℕ} → Path E p y l → member l v ≡ false → U p ≡ U y
  beside v w U closed end h = refl
  beside v w U closed {p} (along {y = q} {l = l} a n r) h =
      let (g, m, s) = adjacent_edge a in
      let (vp, vl) = or_neither (eqb v p) (member l v) h in
      same_ends_side U (p, q) g s (closed g m (other g s vp (first_off r vl))) ∙ beside v w U closed r vl
    where
      first_off : {q : ℕ} {l : List ℕ} → Path E q y l → member l v ≡ false → eqb v q ≡ false
      first_off {q} end h = (or_neither (eqb v q) false h).0
      first_off {q} (along {l = l} a n r) h = (or_neither (eqb v q) (member l v) h).0

      other : (g : Edge) → same_ends (p, q) g ≡ true → eqb v p ≡ false → eqb v q ≡ false → not (same_ends (v, w) g) ≡ true
      other g s vp vq = on_bool (same_ends (v, w) g)
          (λ t. on_ends (v, w) g t
          (λ a b. on_ends (p, q) g s (λ c e. contradict (eq-eqb v p (a ∙ sym c)) vp) (λ c e. contradict (eq-eqb v q (a ∙ sym e)) vq))
          (λ a b. on_ends (p, q) g s (λ c e. contradict (eq-eqb v q (a ∙ sym e)) vq) (λ c e. contradict (eq-eqb v p (a ∙ sym c)) vp)))
          (λ t. ap not t)

  -- the next node of a path to y is joined to x without the edge to it
  way_round : (v w : ℕ) {l : List ℕ} → Path E w y l → member l v ≡ false → within E x (λ f. not (same_ends (v, w) f)) w ≡ true
  way_round v w r h =
      let D : Edge → Bool = λ f. not (same_ends (v, w) f) in
      let U : NodeSet = within E x D in
      on_bool (U w) (λ t. t) λ t.
      let few : cut U E ≤ 1 = omega (arith, cut_split_filter (same_ends (v, w)) U E, within_cut E x D, plain (v, w)) in
      absurd (two (U, within_self E x D, sym (beside v w U (λ f m p. within_closed E x D f m p) r h) ∙ t, few))

  carry : {v : ℕ} {l : List ℕ} → Path E v y l → TwoWays E x v → TwoWays E x y
  carry end t = t
  carry {v} (along {y = w} a n r) t = let (g, m, s) = adjacent_edge a in carry r (two_ways_step E x v w g m s t (way_round v w r n))

  pub two_ways : TwoWays E x y
  two_ways =
      let (l, p) = shorten (joined_route E x y (joined_from E x y (two_edge_connected E two))) in
      carry p (record { D = λ f. true; symmetric = λ p q. refl; one = within_self E x (λ f. true); other = within_self E x (λ f. false) })
