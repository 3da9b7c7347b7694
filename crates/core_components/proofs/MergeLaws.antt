-- Why merging is sound: a set that at most one edge leaves parts no node from the parent that it is merged with. Then the laws of the loop over the edges.
-- Assumes nothing.
use Prim.Native.Nat.{◌*◌, ◌+◌, ◌<◌, ◌≤◌, suc, zero, ℕ}
use mathlib.Core.List.{List}
use mathlib.Core.Logic.{inl, inr, ⊎_elim}
use mathlib.Core.Path.{◌∙◌, ◌≡◌, ap, refl, sym}
use native.Mathlib.Omega.{arith}
use borrow.Author.Count.{below_more}
use Rattle.core_components.proofs.CrossingEdges.{bool_dec, one_crosses}
use Rattle.core_words.proofs.ChangeLaws.{only_then}
use Rattle.core_components.specs.Merging.{CanMerge, CanMergeEdge, EdgeMerged, EdgesMerged, NonTreeEdge}
use Rattle.core_components.specs.Tops.{AllowsMerge, FollowsParents, MergedPath, OnlyTops, SearchOrder, Stable}
use Rattle.core_forest.specs.Forest.{Forest, ForestAt, HasParent, Joins, edges_below}
use Rattle.theory_graph.specs.Cut.{cut}
use Rattle.theory_graph.specs.Graph.{NodeSet}
use Rattle.core_words.specs.Fields.{EDGE, PARENT, POSITION, ROOT, TO, TOP, half, node}

module _ {n m : ℕ} {to pos par te root : ℕ → ℕ} (f : Forest n m to pos par te root) where
  pub order_of : SearchOrder n pos par root
  order_of = record {
    one = f.one;
    kind = λ u l s. ⊎_elim (λ r. inl (r.top, r.self)) (λ h. inr (h.fit, h.seen, h.up, h.same)) (f.kind u l s);
    first = f.first;
  }

  -- an edge is the tree edge of one node only
  pub edge_once : (a u : ℕ) (h : HasParent n m to pos par te root a) (k : HasParent n m to pos par te root u) → pos u < pos a → h.edge ≡ k.edge → ⊥
  edge_once a u h k l e =
      let j : Joins to h.edge u (par u) = rw e k.join in
      ⊎_elim
      (λ p. ⊎_elim (λ q. same (sym q.0 ∙ p.0)) (λ q. cross (sym q.1 ∙ p.1) (sym q.0 ∙ p.0)) j)
      (λ p. ⊎_elim (λ q. cross (sym q.0 ∙ p.0) (sym q.1 ∙ p.1)) (λ q. same (sym q.1 ∙ p.1)) j)
      h.join
    where
      same : u ≡ a → ⊥
      same e = let z : pos u ≡ pos a = ap pos e in omega arith

      cross : u ≡ par a → par u ≡ a → ⊥
      cross p q = let z : pos (par u) ≡ pos a = ap pos q in omega (arith, k.up)

  module _ (U : NodeSet) (cut : cut U (edges_below to m) ≤ 1) where
    -- the tree edge of a crosses: then no other does
    module _ (a : ℕ) (h : HasParent n m to pos par te root a) (c : U (par a) ≡ U a → ⊥) where
      pub tree_edge_crosses : U (to (2 * h.edge)) ≡ U (to (2 * h.edge + 1)) → ⊥
      tree_edge_crosses e = ⊎_elim
          (λ p. c (sym (ap U p.1) ∙ sym e ∙ ap U p.0))
          (λ p. c (sym (ap U p.0) ∙ e ∙ ap U p.1))
          h.join

      pub other_edges : (j : ℕ) → j < m → (h.edge ≡ j → ⊥) → U (to (2 * j)) ≡ U (to (2 * j + 1))
      other_edges j l ne = one_crosses U to m cut h.edge j h.less l ne tree_edge_crosses

      -- what comes before a is on its root's side
      rooted : (k u : ℕ) → pos u < k → u < n → 0 < pos u → pos u < pos a → U u ≡ U (root u)
      rooted zero u i l s q = absurd (omega arith)
      rooted (suc k) u i l s q = ⊎_elim
          (λ r. ap U (sym r.top))
          (λ g.
          let e = other_edges g.edge g.less (edge_once a u h g q) in
          let up : U u ≡ U (par u) = ⊎_elim (λ p. sym (ap U p.0) ∙ e ∙ ap U p.1) (λ p. sym (ap U p.1) ∙ sym e ∙ ap U p.0) g.join in
          up ∙ rooted k (par u) (omega (arith, g.up)) g.fit g.seen (omega (arith, g.up)) ∙ ap U g.same)
          (f.kind u l s)

    pub allows_merge : (e : ℕ) → e < m → NonTreeEdge to pos te e → AllowsMerge n pos par root (to (2 * e)) (to (2 * e + 1)) U
    allows_merge e l o a b i j s q r z = ⊎_elim
        (λ t. ap U t.self)
        (λ h. ⊎_elim (λ y. y)
        (λ c.
        let ne : h.edge ≡ e → ⊥ = λ p. ⊎_elim
        (λ x. o.first (ap te (rw p at x.0) ∙ h.is ∙ ap (λ k. k + 1) p))
        (λ x. o.second (ap te (rw p at x.1) ∙ h.is ∙ ap (λ k. k + 1) p))
        h.join in
        let ab = z (other_edges a h c e l ne) in
        let rb = rooted a h c (pos a) b q j s q in
        let rp = rooted a h c (pos a) (par a) h.up h.fit h.seen h.up in
        rp ∙ ap U h.same ∙ ap U r ∙ sym rb ∙ sym ab)
        (bool_dec (U (par a)) (U a)))
        (f.kind a i (omega arith))

-- a change of the tops leaves the forest as it was
pub forest_still : {n m : ℕ} {w w' : List ℕ} → OnlyTops n w w' → ForestAt n m w → ForestAt n m w'
forest_still o g = rw (o.halves TO, o.nodes POSITION (omega arith) refl, o.nodes PARENT (omega arith) refl, o.nodes ROOT (omega arith) refl, o.nodes EDGE (omega arith) refl) g

module _ {n m e x y : ℕ} {w : List ℕ} (t : CanMergeEdge n m e w) (ex : x ≡ half n TO w (2 * e)) (ey : y ≡ half n TO w (2 * e + 1)) where
  pub x_fits : x < n
  x_fits = rw ex (t.forest.ends (2 * e) (omega (arith, t.less)))

  pub y_fits : y < n
  y_fits = rw ey (t.forest.ends (2 * e + 1) (omega (arith, t.less)))

  module _ {p : ℕ} (ep : p ≡ node POSITION w x) (z : p ≡ 0 → ⊥) where
    seen_x : 0 < node POSITION w (half n TO w (2 * e))
    seen_x = omega (arith, ap (node POSITION w) ex)

    pub merged_one : {s r : ℕ} {w' : List ℕ} → s ≡ node EDGE w x → (s ≡ e + 1 → ⊥) → r ≡ node EDGE w y → (r ≡ e + 1 → ⊥) → MergedPath n w x y w' → EdgeMerged n e w w'
    merged_one es ns er nr j = inr (
      rw (ex, ey) at j,
      record {
        seen = seen_x;
        first = λ q. ns (es ∙ ap (node EDGE w) ex ∙ q);
        second = λ q. nr (er ∙ ap (node EDGE w) ey ∙ q);
      },
    )

module _ {n m e : ℕ} {w₀ w : List ℕ} (h : CanMerge n m w₀) (t : EdgesMerged n m w₀ e w) (l : e < m) where
  k0 : half n TO w ≡ half n TO w₀
  k0 = t.rest.halves TO

  k4 : node POSITION w ≡ node POSITION w₀
  k4 = t.rest.nodes POSITION (omega arith) refl

  k5 : node PARENT w ≡ node PARENT w₀
  k5 = t.rest.nodes PARENT (omega arith) refl

  k12 : node ROOT w ≡ node ROOT w₀
  k12 = t.rest.nodes ROOT (omega arith) refl

  k13 : node EDGE w ≡ node EDGE w₀
  k13 = t.rest.nodes EDGE (omega arith) refl

  pub merged_can : CanMergeEdge n m e w
  merged_can = record {
    few = h.few;
    less = l;
    room = rw t.rest.same h.room;
    forest = forest_still t.rest h.forest;
    tops = rw k4 t.tops;
    full = rw k5 t.full;
  }

  pub merged_more : {w' : List ℕ} → EdgeMerged n e w w' → EdgesMerged n m w₀ (e + 1) w'
  merged_more {w'} tried = ⊎_elim
      (λ p. rw p.0 (record {
        rest = t.rest;
        tops = t.tops;
        sound = t.sound;
        full = t.full;
        done = λ D c. below_more (λ e. NonTreeEdge (half n TO w₀) (node POSITION w₀) (node EDGE w₀) e → D (half n TO w₀ (2 * e)) ≡ D (half n TO w₀ (2 * e + 1))) e (t.done D c)
            (λ o. absurd (p.1 (rw (k0, k4, k13) o)));
      }))
      (λ p.
      let j = p.0 in
      let o : NonTreeEdge (half n TO w₀) (node POSITION w₀) (node EDGE w₀) e = rw (k0, k4, k13) at p.1 in
      let full : (D : NodeSet) → FollowsParents n (node PARENT w₀) (node TOP w') D → Stable n (node TOP w') D × (D (half n TO w₀ (2 * e)) ≡ D (half n TO w₀ (2 * e + 1))) =
      rw (k0, k5) at j.full in
      record {
        rest = only_then t.rest j.rest;
        tops = rw k4 at j.tops;
        sound = λ U c. j.keep U (rw (k0, k4, k5, k12) (allows_merge h.forest U c e l o)) (t.sound U c);
        full = λ D c. (full D c).0;
        done = λ D c. below_more (λ e. NonTreeEdge (half n TO w₀) (node POSITION w₀) (node EDGE w₀) e → D (half n TO w₀ (2 * e)) ≡ D (half n TO w₀ (2 * e + 1))) e
            (t.done D (λ u i ne. c u i (λ q. ne (j.back u i q))))
            (λ _. (full D c).1);
      })
      tried
