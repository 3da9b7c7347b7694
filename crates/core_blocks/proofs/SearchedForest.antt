-- The forest of core_forest is a forest in the sense of theory_junctions, and with the search's order and marks it is a search from the active nodes.
-- In order: edges as entries; the kinds of a seen junction; the forest; the search.
-- Assumes nothing.
use Prim.Native.Nat.{◌*◌, ◌+◌, ◌-◌, ◌<◌, ◌≤◌, suc, zero, ℕ}
use mathlib.Core.Bool.{◌&&◌, false, not, true}
use mathlib.Core.List.{List, Memᴰ}
use mathlib.Core.Logic.{◌⊎◌, inl, inr}
use mathlib.Core.Path.{◌∙◌, ◌≡◌, ap, ap₂, subst, sym}
use lib.Dec.{eqb, ltb}
use native.Mathlib.Omega.{arith}
use borrow.Author.Tests.{eqb-false, eqb-true, lt-ltb, ltb-true, not-false, not-true}
use Rattle.core_forest.specs.Forest as Base
use Rattle.core_forest.specs.Forest.{HasParent, Joins, Root, edges_below}
use Rattle.core_forest.specs.Search as Searching
use Rattle.theory_graph.proofs.Booleans.{and_elim, bool_iff, on_bool}
use Rattle.theory_graph.proofs.Lists.{mem_member, member_mem, table_in, table_mem}
use Rattle.theory_graph.specs.Graph.{Edge}
use Rattle.theory_graph.specs.Lists.{member, table}
use Rattle.theory_junctions.proofs.PathMergingLaws.{merged_blocks}
use Rattle.theory_junctions.specs.PathMerging.{Forest, PathsMerged}
use Rattle.theory_junctions.specs.Reduce.{Rising, Search}
use Rattle.core_blocks.specs.SearchSets.{child_by, first_of, seen_by}

-- ---- edges
pub below_edge : (to : ℕ → ℕ) (m e : ℕ) → e < m → Memᴰ (to (2 * e), to (2 * e + 1)) (edges_below to m)
below_edge to zero e l = absurd (omega arith)
below_edge to (suc m) e l =
    on_bool (eqb e m)
    (λ t. Memᴰ.head (ap (λ v. (to (2 * v), to (2 * v + 1))) (eqb-true e m t)))
    (λ t. let n : ¬ (e ≡ m) = eqb-false e m t in Memᴰ.tail (below_edge to m e (omega arith)))

pub edge_below : (to : ℕ → ℕ) (m p q : ℕ) → Memᴰ (p, q) (edges_below to m) → (e : ℕ) × (e < m) × (p ≡ to (2 * e)) × (q ≡ to (2 * e + 1))
edge_below to zero p q x' = elim x' [ ]
edge_below to (suc m) p q (Memᴰ.head i) = (m, omega arith, ap (λ e. e.0) i, ap (λ e. e.1) i)
edge_below to (suc m) p q (Memᴰ.tail k) = let (e, l, a, b) = edge_below to m p q k in (e, omega arith, a, b)

module _ (n m : ℕ) (to pos par te root : ℕ → ℕ) (F : Base.Forest n m to pos par te root) where
  abbrev E : List Edge
  E = edges_below to m

  -- ---- seen junctions
  pub on_seen : {A : Type 0} (v : ℕ) → seen_by n pos v ≡ true → (v < n → 0 < pos v → A) → A
  on_seen v s f = and_elim (ltb v n) (ltb 0 (pos v)) s λ a b. f (ltb-true v n a) (ltb-true 0 (pos v) b)

  pub seen_is : (v : ℕ) → v < n → 0 < pos v → seen_by n pos v ≡ true
  seen_is v a b = ap₂ ◌&&◌ (lt-ltb v n a) (lt-ltb 0 (pos v) b)

  pub child_parent : (v : ℕ) → child_by n pos te v ≡ true → HasParent n m to pos par te root v
  child_parent v c = and_elim (seen_by n pos v) (not (eqb (te v) 0)) c λ s t. on_seen v s λ a b. go (eqb-false (te v) 0 (not-true (eqb (te v) 0) t)) (F.kind v a b)
    where
      go : ¬ (te v ≡ 0) → Root par te root v ⊎ HasParent n m to pos par te root v → HasParent n m to pos par te root v
      go ne (inl r) = absurd (ne r.none)
      go ne (inr h) = h

  pub root_is : (v : ℕ) → seen_by n pos v ≡ true → child_by n pos te v ≡ false → root v ≡ v
  root_is v s c = on_seen v s λ a b. go (F.kind v a b)
    where
      zero_te : te v ≡ 0
      zero_te = eqb-true (te v) 0 (not-false (eqb (te v) 0) (sym (ap (λ b. b && not (eqb (te v) 0)) s) ∙ c))

      go : Root par te root v ⊎ HasParent n m to pos par te root v → root v ≡ v
      go (inl r) = r.top
      go (inr h) = absurd (omega (arith, h.is, zero_te))

  pub tree_edge : (v e : ℕ) → e < m → Joins to e v (par v) → Memᴰ (v, par v) E ⊎ Memᴰ (par v, v) E
  tree_edge v e l (inl (a, b)) = inl (subst (λ (u : ℕ). Memᴰ (u, par v) E) a (subst (λ (u : ℕ). Memᴰ (to (2 * e), u) E) b (below_edge to m e l)))
  tree_edge v e l (inr (a, b)) = inr (subst (λ (u : ℕ). Memᴰ (u, v) E) a (subst (λ (u : ℕ). Memᴰ (to (2 * e), u) E) b (below_edge to m e l)))

  pub ends_seen : (e : ℕ) → e < m → seen_by n pos (to (2 * e)) ≡ seen_by n pos (to (2 * e + 1))
  ends_seen e l = bool_iff (seen_by n pos (to (2 * e))) (seen_by n pos (to (2 * e + 1)))
      (λ s. on_seen (to (2 * e)) s λ a b. seen_is (to (2 * e + 1)) (F.ends (2 * e + 1) (omega arith)) (F.over e l b).0)
      (λ s. on_seen (to (2 * e + 1)) s λ a b. seen_is (to (2 * e)) (F.ends (2 * e) (omega arith)) (F.back e l b))

  -- ---- the forest
  unfoldable pub searched_forest : Forest E
  searched_forest =
      record {
        seen = seen_by n pos;
        child = child_by n pos te;
        par = par;
        pos = pos;
        tree = root;
        child_seen = λ v c. and_elim (seen_by n pos v) (not (eqb (te v) 0)) c λ s t. s;
        par_seen = λ v c. let h = child_parent v c in seen_is (par v) h.fit h.seen;
        par_pos = λ v c. (child_parent v c).up;
        par_edge = λ v c. let h = child_parent v c in tree_edge v h.edge h.less h.join;
        par_tree = λ v c. (child_parent v c).same;
        root_tree = root_is;
        edge_seen = λ p q k. let (e, l, a, b) = edge_below to m p q k in ap (seen_by n pos) a ∙ ends_seen e l ∙ ap (seen_by n pos) (sym b);
        edge_tree = λ p q k s.
            let (e, l, a, b) = edge_below to m p q k in
            on_seen p s λ c d. ap root a ∙ (F.over e l (subst (λ (u : ℕ). 0 < pos u) a d)).1 ∙ ap root (sym b);
        pos_once = λ u v s t e. on_seen u s λ a b. on_seen v t λ c d. F.one u v a c b e;
      }

  -- ---- the search: ord lists what was seen, mark says which junctions are active, and act lists these
  module _ (mark ord act : ℕ → ℕ) (seen k : ℕ) (S : Searching.Search n m mark to ord pos par te root seen seen 0)
      (active : (i : ℕ) → i < k → (act i < n) × (0 < pos (act i))) (marks : (v : ℕ) → v < n → 0 < mark v → (i : ℕ) × (i < k) × (act i ≡ v)) where
    order_rises : (i j : ℕ) → i + j ≤ seen → Rising pos (table ord i j)
    order_rises i zero l = tt
    order_rises i (suc j) l = (λ w m. later w m, order_rises (suc i) j (omega arith))
      where
        from : (i j : ℕ) (w : ℕ) → Memᴰ w (table ord i j) → (h : ℕ) × (i ≤ h) × (h < i + j) × (w ≡ ord h)
        from i zero w x'' = elim x'' [ ]
        from i (suc j) w (Memᴰ.head e) = (i, omega arith, omega arith, e)
        from i (suc j) w (Memᴰ.tail m) = let (h, a, b, e) = from (suc i) j w m in (h, omega arith, omega arith, e)

        later : (w : ℕ) → Memᴰ w (table ord (suc i) j) → pos (ord i) < pos w
        later w m =
            let (h, a, b, e) = from (suc i) j w m in
            omega (arith, (S.place i (omega arith)).1, (S.place h (omega arith)).1, ap pos e)

    pub searched : (first : ℕ → ℕ) (C : PathsMerged E searched_forest E first) → Search E (merged_blocks E searched_forest first C) (member (first_of act k)) (first_of ord seen)
    unfolding merged_blocks searched_forest
    searched first C =
        record {
          rises = order_rises 0 seen (omega arith);
          listed_seen = λ v h.
              let (i, l, e) = table_mem ord 0 seen v h in
              let (a, b) = S.place i (omega arith) in
              subst (λ (u : ℕ). seen_by n pos u ≡ true) (sym e) (seen_is (ord i) a (omega arith));
          seen_listed = λ v s. on_seen v s λ a b.
              let (l, e) = S.place_of v a b in
              subst (λ (u : ℕ). Memᴰ u (first_of ord seen)) e (table_in ord 0 seen (pos v - 1) (omega arith) (omega arith));
          active_seen = λ v h.
              let (i, l, e) = table_mem act 0 k v (member_mem (first_of act k) v h) in
              let (a, b) = active i (omega arith) in
              subst (λ (u : ℕ). seen_by n pos u ≡ true) (sym e) (seen_is (act i) a b);
          root_active = λ v s c. on_seen v s λ a b.
              let (i, l, e) = marks v a (subst (λ (u : ℕ). 0 < mark u) (root_is v s c) (S.marked v a b)) in
              mem_member v (first_of act k) (subst (λ (u : ℕ). Memᴰ u (first_of act k)) e (table_in act 0 k i (omega arith) (omega arith)));
        }
