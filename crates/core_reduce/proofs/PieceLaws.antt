-- The pieces in the forest: two nodes that the search has seen have one root just where they are joined.
-- Assumes nothing.
use Prim.Native.Nat.{◌*◌, ◌+◌, ◌<◌, ◌≤◌, suc, zero, ℕ}
use mathlib.Core.Bool.{◌&&◌, false, true}
use mathlib.Core.List.{List}
use mathlib.Core.Logic.{inl, inr, ⊎_elim}
use mathlib.Core.Path.{◌∙◌, ◌≡◌, ap, refl, subst, sym}
use lib.Dec.{eqb, ltb}
use native.Mathlib.Omega.{arith}
use borrow.Author.Tests.{eq-eqb, eqb-true, ltb-false, ltb-true}
use Rattle.core_branches.proofs.ForestOfClasses.{edge_adjacent, is_seen, seen_is, seen_not}
use Rattle.core_components.proofs.CrossingEdges.{none_crosses}
use Rattle.core_forest.specs.Forest.{Forest, Joins, edges_below}
use Rattle.theory_graph.proofs.Adjacency.{adj_closed}
use Rattle.theory_graph.proofs.Booleans.{bool_iff, contradict, on_bool}
use Rattle.theory_graph.proofs.Definitions.{joined_from, joined_to}
use Rattle.theory_graph.specs.Cut.{Connected, cut}
use Rattle.theory_graph.specs.Graph.{Edge, NodeSet, joined}

module _ {n m : ℕ} {to pos par te root : ℕ → ℕ} (f : Forest n m to pos par te root) where
  abbrev E : List Edge
  E = edges_below to m

  -- the seen nodes of the tree of r
  abbrev tree : ℕ → NodeSet
  tree r v = is_seen n pos v && eqb (root v) r

  tree_is : (r v : ℕ) → v < n → 0 < pos v → tree r v ≡ eqb (root v) r
  tree_is r v l s = ap (λ b. b && eqb (root v) r) (seen_is n pos v l s)

  tree_not : (r v : ℕ) → ¬ (0 < pos v) → tree r v ≡ false
  tree_not r v s = ap (λ b. b && eqb (root v) r) (seen_not n pos v s)

  -- no edge leaves it
  tree_closed : (r : ℕ) → cut (tree r) E ≡ 0
  tree_closed r = none_crosses (tree r) to m λ e l.
      on_bool (ltb 0 (pos (to (2 * e))))
      (λ q.
      let p = ltb-true 0 (pos (to (2 * e))) q in
      let (p', same) = f.over e l p in
      tree_is r (to (2 * e)) (f.ends (2 * e) (omega arith)) p ∙ ap (λ v. eqb v r) same ∙ sym (tree_is r (to (2 * e + 1)) (f.ends (2 * e + 1) (omega arith)) p'))
      (λ q.
      let p = ltb-false 0 (pos (to (2 * e))) q in
      tree_not r (to (2 * e)) (λ x. omega arith) ∙ sym (tree_not r (to (2 * e + 1)) (λ x. omega (arith, f.back e l x))))

  -- a set that no edge leaves has a node just where it has its root
  root_side : (U : NodeSet) → cut U E ≤ 0 → (k v : ℕ) → pos v ≤ k → v < n → 0 < pos v → U v ≡ U (root v)
  root_side U c zero v b l s = absurd (omega arith)
  root_side U c (suc k) v b l s = ⊎_elim
      (λ r. ap U (sym r.top))
      (λ h. across h.edge h.less h.join ∙ root_side U c k (par v) (omega (arith, h.up)) h.fit h.seen ∙ ap U h.same)
      (f.kind v l s)
    where
      across : (e : ℕ) → e < m → Joins to e v (par v) → U v ≡ U (par v)
      across e l (inl (p, q)) = ap U (sym p) ∙ adj_closed U (edge_adjacent to m e l) c ∙ ap U q
      across e l (inr (p, q)) = ap U (sym q) ∙ sym (adj_closed U (edge_adjacent to m e l) c) ∙ ap U p

  module _ (u v : ℕ) (lu : u < n) (lv : v < n) (su : 0 < pos u) (sv : 0 < pos v) where
    one_root : root u ≡ root v → Connected E u v
    one_root e (U, p, q, c) = contradict p (root_side U c (pos u) u (omega arith) lu su ∙ ap U e ∙ sym (root_side U c (pos v) v (omega arith) lv sv) ∙ q)

    root_one : Connected E u v → eqb (root u) (root v) ≡ true
    root_one j = on_bool (eqb (root v) (root u)) (λ t. eq-eqb (root u) (root v) (sym (eqb-true (root v) (root u) t)))
        (λ t. absurd (j (tree (root u), tree_is (root u) u lu su ∙ eq-eqb (root u) (root u) refl, tree_is (root u) v lv sv ∙ t, omega (arith, tree_closed (root u)))))

    -- with the edges in any order
    pub root_joined : (G : List Edge) → ((U : NodeSet) → cut U E ≡ cut U G) → eqb (root u) (root v) ≡ joined G u v
    root_joined G q = bool_iff _ _
        (λ e. joined_from G u v (λ (U, a, b, c). one_root (eqb-true (root u) (root v) e) (U, a, b, omega (arith, q U))))
        (λ j. root_one (λ (U, a, b, c). joined_to G u v j (U, a, b, omega (arith, q U))))

  pub root_below : (k v : ℕ) → pos v ≤ k → v < n → 0 < pos v → root v < n
  root_below zero v b l s = absurd (omega arith)
  root_below (suc k) v b l s = ⊎_elim
      (λ r. rw r.top l)
      (λ h. subst (λ (x : ℕ). x < n) h.same (root_below k (par v) (omega (arith, h.up)) h.fit h.seen))
      (f.kind v l s)
