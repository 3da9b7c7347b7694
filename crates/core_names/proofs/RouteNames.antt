-- What the way up says: a top that is no root hangs on the smallest name on it together with the nearest kept class above. So an edge out has the name that its
-- two classes hang on. The induction goes down the forest; its step is theory_names/proofs/ForestNames.
-- Assumes nothing.
use Prim.Native.Nat.{◌*◌, ◌+◌, ◌-◌, ◌<◌, min, suc, zero, ℕ}
use mathlib.Core.Bool.{false, true}
use mathlib.Core.List.{List, Memᴰ}
use mathlib.Core.Logic.{◌⊎◌, inl, inr}
use mathlib.Core.Path.{◌∙◌, ◌≡◌, ap, sym}
use native.Mathlib.Omega.{arith}
use Rattle.core_branches.proofs.ForestOfClasses.{at_or_below, class_forest, has_parent, is_root, is_seen, root_no, seen_is}
use Rattle.core_branches.proofs.WayLaws.{NearestNumbers, ParentNumbers, nearest, nearest_numbers, parent_numbers, way, way_over, way_there}
use Rattle.core_branches.specs.Numbers.{Numbers}
use Rattle.core_branches.specs.Ways.{ParentWays, WayTree}
use Rattle.core_components.specs.Merging.{FinalTops}
use Rattle.core_forest.specs.Forest.{Forest, Joins, edges_below}
use Rattle.core_branches.specs.SmallForest.{ParentPair}
use Rattle.core_names.specs.EdgeNames.{ChildEnd}
use Rattle.theory_graph.proofs.SpanningForest.{ClassForest, below_class, on_eq}
use Rattle.theory_graph.specs.Cut.{TwoEdgeConnected, cut}
use Rattle.theory_graph.specs.Graph.{Edge, NodeSet}
use Rattle.theory_names.proofs.ForestNames.{name_over, name_parent, unparted}
use Rattle.theory_names.proofs.Hangs.{hangs_same, hangs_sym}
use Rattle.theory_names.specs.Names.{Named, hangs, plain}

module _ {n m h : ℕ} (nm : ℕ → ℕ) {to pos par te root top nr rep : ℕ → ℕ}
    (f : Forest n m to pos par te root) (g : FinalTops n m to pos par te top)
    (S : List ℕ) (active : (a : ℕ) → Memᴰ a S → (a < n) × (0 < pos a)) (rooted : (r : ℕ) → r < n → 0 < pos r → te r ≡ 0 → Memᴰ r S)
    (N : Numbers n h top nr rep) (W : WayTree n m pos par te top nr)
    (G : Named) (cuts : (U : NodeSet) → cut U (plain G) ≡ cut U (edges_below to m))
    (entry : (e : ℕ) → e < m → Memᴰ ((to (2 * e), to (2 * e + 1)), nm (2 * e)) G) where
  abbrev E : List Edge
  E = edges_below to m

  abbrev T : ClassForest E S
  T = class_forest f g S active rooted

  abbrev near : ℕ → ℕ
  near = nearest nm W

  abbrev L : NearestNumbers n pos par te top nr near
  L = nearest_numbers nm W

  abbrev least : ℕ → ℕ
  least v = (way nm W v).1

  -- the tree edge of a node is an entry
  tree_entry : (v : ℕ) → is_seen n pos v ≡ true → is_root n pos te v ≡ false → Memᴰ ((v, par v), nm (2 * (te v - 1))) G ⊎ Memᴰ ((par v, v), nm (2 * (te v - 1))) G
  tree_entry v s r =
      let k = has_parent f g v s r in
      let e : te v - 1 ≡ k.edge = omega (arith, k.is) in
      rw e (turned v (par v) k.edge k.less k.join)
    where
      turned : (u v e : ℕ) → e < m → Joins to e u v → Memᴰ ((u, v), nm (2 * e)) G ⊎ Memᴰ ((v, u), nm (2 * e)) G
      turned u v e l (inl (p, q)) = inl (rw (p, q) at (entry e l))
      turned u v e l (inr (p, q)) = inr (rw (p, q) at (entry e l))

  -- the top of the nearest kept class at or above
  abbrev over : ℕ → ℕ
  over y = top (rep (near y - 1))

  unfoldable OverAt : ℕ → Type 0
  OverAt y = (near y - 1 < h) × (is_seen n pos (over y) ≡ true) × (at_or_below f g (over y) y ≡ true)

  -- a class with a number is its own
  own : (y : ℕ) → y < n → 0 < pos y → top y ≡ y → ¬ (nr y ≡ 0) → (near y - 1 < h) × (over y ≡ y)
  own y l p t ne =
      let (b, q) = N.place_of y l ne in
      let e : near y ≡ nr y = L.numbered y l p t ne in
      rw e (omega arith, q)

  over_is : (j y : ℕ) → pos y < j → y < n → 0 < pos y → top y ≡ y → OverAt y
  unfolding class_forest OverAt
  over_is zero y b l p t = absurd (omega arith)
  over_is (suc j) y b l p t =
      on_eq (nr y) 0
      (λ z.
      let ne = W.no_root y l p t z in
      let k = W.above y l p ne in
      let sy = seen_is n pos y l p in
      let ry = root_no n pos te y ne in
      let e : near y ≡ near (top (par y)) = L.up y l p t ne z in
      let (i, so, bo) = over_is j (top (par y)) (omega (arith, k.earlier)) k.fit k.seen k.flat in
      let o = over (top (par y)) in
      let ro = N.place (near (top (par y)) - 1) i in
      let far : ¬ (y ≡ o) = λ q. omega (arith, ap nr q, ro.1) in
      let to_o : top o ≡ o = g.flat (rep (near (top (par y)) - 1)) ro.0 in
      rw e (i, so, T.below_parent o y sy ry far ∙ below_class E S T o (par y) so to_o (T.par_seen y sy ry) ∙ bo))
      (λ ne. let (i, e) = own y l p t ne in rw e (i, seen_is n pos y l p, T.below_self y))

  least_is : (j v : ℕ) → pos v < j → v < n → 0 < pos v → top v ≡ v → ¬ (te v ≡ 0) → least v ≡ hangs G v (over (top (par v)))
  unfolding class_forest OverAt
  least_is zero v b l p t ne = absurd (omega arith)
  least_is (suc j) v b l p t ne =
      let k = W.above v l p ne in
      let sv = seen_is n pos v l p in
      let rv = root_no n pos te v ne in
      let q = top (par v) in
      let c = nm (2 * (te v - 1)) in
      let m = tree_entry v sv rv in
      on_eq (nr q) 0
      (λ z.
      let nq = W.no_root q k.fit k.seen k.flat z in
      let (i, so, bo) = over_is (suc (pos q)) q (omega arith) k.fit k.seen k.flat in
      let e : near q ≡ near (top (par q)) = L.up q k.fit k.seen k.flat nq z in
      let ih : least q ≡ hangs G q (over q) = least_is j q (omega (arith, k.earlier)) k.fit k.seen k.flat nq ∙ ap (λ x. hangs G q (top (rep (x - 1)))) (sym e) in
      let far : ¬ (q ≡ over q) = λ y. omega (arith, ap nr y, (N.place (near q - 1) i).1) in
      ap (λ w. w.1) (way_over nm W v l p ne z) ∙ ap (min c) ih ∙ sym (name_over G E cuts S T v sv t rv c m (over q) so bo far))
      (λ nz.
      let (i, e) = own q k.fit k.seen k.flat nz in
      let tw = T.top_two (par v) (T.par_seen v sv rv) in
      ap (λ w. w.1) (way_there nm W v l p ne nz) ∙ sym (name_parent G E cuts S T v sv t rv c m q tw) ∙ ap (hangs G v) (sym e))

  -- a top that is no root hangs on the smallest name of its way together with the nearest kept class above
  pub top_hangs : (v : ℕ) → v < n → 0 < pos v → top v ≡ v → ¬ (te v ≡ 0) → least v ≡ hangs G v (top (rep (near (top (par v)) - 1)))
  top_hangs v = least_is (suc (pos v)) v (omega arith)

  -- a number and its parent number
  module _ {up names : ℕ → ℕ} (ways : ParentWays h nm pos par te top nr rep up names) (on : (x : ℕ) → x < h → 0 < pos (rep x)) where
    top_at : (x : ℕ) → x < h → (top (rep x) < n) × (0 < pos (top (rep x)))
    top_at x l = let p = (N.place x l).0 in (g.tops.fit (rep x) p, g.seen (rep x) p (on x l))

    abbrev U : ParentNumbers h par te top near rep up
    U = parent_numbers nm W top_at ways

    top_class : (x : ℕ) → x < h → TwoEdgeConnected (plain G) (rep x) (top (rep x))
    unfolding class_forest
    top_class x l = unparted G E cuts S T 1 (rep x) (top (rep x)) (T.top_two (rep x) (seen_is n pos (rep x) (N.place x l).0 (on x l)))

    pub parent_name : (x y : ℕ) → x < h → y < h → up x ≡ y + 1 → names x ≡ hangs G (rep x) (rep y)
    parent_name x y a b e =
        let v = top (rep x) in
        let ne : ¬ (te v ≡ 0) = λ z. omega (arith, U.none x a z) in
        let o : near (top (par v)) - 1 ≡ y = omega (arith, U.some x a ne) in
        ways.name x a ne ∙ top_hangs v (top_at x a).0 (top_at x a).1 (g.flat (rep x) (N.place x a).0) ne
        ∙ ap (λ i. hangs G v (top (rep i))) o ∙ sym (hangs_same G (rep x) (rep y) v (top (rep y)) (top_class x a) (top_class y b))

    -- the child of the two has the name
    pub edge_name : (i j x : ℕ) → i < h → j < h → ParentPair up i j → ChildEnd up i j x → names x ≡ hangs G (rep i) (rep j)
    edge_name i j x a b k (inl (u, e)) = ap names e ∙ parent_name i j a b u
    edge_name i j x a b (inl u) (inr (ne, e)) = absurd (ne u)
    edge_name i j x a b (inr u) (inr (ne, e)) = ap names e ∙ parent_name j i b a u ∙ hangs_sym G (rep j) (rep i)
