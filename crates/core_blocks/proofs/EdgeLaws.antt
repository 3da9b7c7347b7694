-- Laws of merging along the tree path of an edge: the first nodes keep to their trees; what `merge_path` asks for; what it gives; edges that change nothing; all edges.
-- Assumes nothing.
use Prim.Native.Nat.{◌*◌, ◌+◌, ◌<◌, ◌≤◌, suc, zero, ℕ}
use mathlib.Core.Bool.{Bool, ◌&&◌, false, not, true}
use mathlib.Core.List.{List, Memᴰ}
use mathlib.Core.Path.{◌∙◌, ◌≡◌, ap, ap₂, refl, subst, sym}
use lib.Dec.{eqb, ltb}
use native.Mathlib.Omega.{arith}
use borrow.Author.Tests.{eq-eqb, eqb-false, eqb-true, le-ltb, lt-ltb, ne_eqb, not-true}
use Rattle.theory_graph.proofs.Booleans.{and_elim, on_bool}
use Rattle.theory_junctions.proofs.PathMergingLaws.{paths_all}
use Rattle.theory_junctions.specs.PathMerging.{Partition, first_after, merge_on, merge_path, pick}
use Rattle.core_words.proofs.ChangeLaws.{only_none, only_then}
use Rattle.core_words.specs.Fields.{EDGE, PARENT, POSITION, ROOT, TO, TOP, half, node}
use Rattle.core_forest.specs.Forest.{Forest, HasParent, edges_below}
use Rattle.core_components.proofs.MergeLaws.{forest_still}
use Rattle.core_components.specs.Components.{CanMergeComponents}
use Rattle.core_components.specs.Tops.{Compressed, Found, OnlyTops, OwnTops}
use Rattle.core_blocks.proofs.ClassLaws.{found_first}
use Rattle.core_blocks.proofs.PathLaws.{child_parent, later_child}
use Rattle.core_blocks.proofs.SearchedForest.{below_edge, edge_below, on_seen, searched_forest, seen_is}
use Rattle.core_blocks.specs.Classes.{BlocksMerged, CanMerge, CanMergeEdge, CanMergePath, EdgesMerged, InTreeOf, InTrees, InTreesAt, IsChild, Leads, PathMerged, firsts_below}
use Rattle.core_blocks.specs.SearchSets.{child_by, seen_by}

-- ---- the first nodes after some edges keep to their trees
module _ (n m : ℕ) (to pos par te root : ℕ → ℕ) (F : Forest n m to pos par te root) where
  is_child : (u : ℕ) → IsChild n pos te u → child_by n pos te u ≡ true
  is_child u (l, s, c) = ap₂ ◌&&◌ (seen_is n m to pos par te root F u l s) (ap not (ne_eqb (te u) 0 c))

  child_is : (u : ℕ) → child_by n pos te u ≡ true → IsChild n pos te u
  child_is u c = and_elim (seen_by n pos u) (not (eqb (te u) 0)) c λ s t. on_seen n m to pos par te root F u s λ l p. (l, p, eqb-false (te u) 0 (not-true (eqb (te u) 0) t))

  partition_trees : (first : ℕ → ℕ) → Partition (edges_below to m) (searched_forest n m to pos par te root F) first → InTrees n pos te root first
  unfolding searched_forest
  partition_trees first P = record {
    child = λ u c. child_is (first u) (P.first_child u (is_child u c));
    tree = λ u c. P.first_tree u (is_child u c);
    low = λ u c. P.first_pos u (is_child u c);
  }

  fewer_edges : (i : ℕ) → i ≤ m → (p q : ℕ) → Memᴰ (p, q) (edges_below to i) → Memᴰ (p, q) (edges_below to m)
  fewer_edges i l p q k =
      let (e, b, x, y) = edge_below to i p q k in
      subst (λ (u : ℕ). Memᴰ (u, q) (edges_below to m)) (sym x) (subst (λ (u : ℕ). Memᴰ (to (2 * e), u) (edges_below to m)) (sym y) (below_edge to m e (omega arith)))

  pub after_trees : (i : ℕ) → i ≤ m → InTrees n pos te root (first_after (seen_by n pos) par pos (edges_below to i))
  unfolding searched_forest
  after_trees i l = partition_trees (first_after (seen_by n pos) par pos (edges_below to i)) (paths_all (edges_below to m) (searched_forest n m to pos par te root F) (edges_below to i) (fewer_edges i l)).partition

-- ---- one edge more, over functions
module _ (n : ℕ) (to pos par : ℕ → ℕ) (e : ℕ) where
  abbrev first : ℕ → ℕ
  first = first_after (seen_by n pos) par pos (edges_below to e)

  abbrev x : ℕ
  x = to (2 * e)

  abbrev y : ℕ
  y = to (2 * e + 1)

  abbrev next : ℕ → ℕ
  next = first_after (seen_by n pos) par pos (edges_below to (suc e))

  unseen_next : seen_by n pos x ≡ false → next ≡ first
  unfolding first_after
  unseen_next s = ap (λ t. pick t (λ u. merge_path par pos first x y) (λ u. first)) s

  seen_next : seen_by n pos x ≡ true → next ≡ merge_path par pos first x y
  unfolding first_after
  seen_next s = ap (λ t. pick t (λ u. merge_path par pos first x y) (λ u. first)) s

  abbrev from_x : ℕ → ℕ
  from_x = merge_on par pos (suc (pos x + pos y)) first (par (first x)) y (first x)

  abbrev from_y : ℕ → ℕ
  from_y = merge_on par pos (suc (pos x + pos y)) first x (par (first y)) (first y)

  abbrev below : Unit {0} → ℕ → ℕ
  below u = pick (ltb (pos y) (pos x)) (λ u. from_x) (λ u. from_y)

  loop_path : x ≡ y → merge_path par pos first x y ≡ first
  unfolding merge_path
  loop_path i = ap (λ t. pick t (λ u. first) below) (eq-eqb x y i)

  left_path : ¬ (x ≡ y) → pos y < pos x → merge_path par pos first x y ≡ from_x
  unfolding merge_path
  left_path ne l = ap (λ t. pick t (λ u. first) below) (ne_eqb x y ne) ∙ ap (λ t. pick t (λ u. from_x) (λ u. from_y)) (lt-ltb (pos y) (pos x) l)

  right_path : ¬ (x ≡ y) → pos x ≤ pos y → merge_path par pos first x y ≡ from_y
  unfolding merge_path
  right_path ne l = ap (λ t. pick t (λ u. first) below) (ne_eqb x y ne) ∙ ap (λ t. pick t (λ u. from_x) (λ u. from_y)) (le-ltb (pos y) (pos x) l)

-- ---- one edge, at the words
module _ {n m e : ℕ} {w : List ℕ} (c : CanMergeEdge n m e w) where
  abbrev to : ℕ → ℕ
  to = half n TO w

  abbrev pos : ℕ → ℕ
  pos = node POSITION w

  abbrev par : ℕ → ℕ
  par = node PARENT w

  abbrev root : ℕ → ℕ
  root = node ROOT w

  abbrev firsts : ℕ → ℕ
  firsts = firsts_below n w e

  trees : InTreesAt n w firsts
  trees = after_trees n m to pos par (node EDGE w) root c.forest e (omega (arith, c.less))

  fits : (h : ℕ) → h < 2 * m → to h < n
  fits = c.forest.ends

  pub x_fits : to (2 * e) < n
  x_fits = fits (2 * e) (omega (arith, c.less))

  pub y_fits : to (2 * e + 1) < n
  y_fits = fits (2 * e + 1) (omega (arith, c.less))

  -- one more than e, as it is counted
  same_count : suc e ≡ e + 1
  same_count = omega arith

  merged : {w' : List ℕ} → OnlyTops n w w' → (next : ℕ → ℕ) → firsts_below n w (suc e) ≡ next → Leads n pos (node TOP w') next → EdgesMerged n w (e + 1) w'
  merged {w'} o next i h = record { rest = o; leads = subst (λ (j : ℕ). Leads n pos (node TOP w') (firsts_below n w j)) same_count (subst (λ (f : ℕ → ℕ). Leads n pos (node TOP w') f) (sym i) h) }

  -- a loop, or an edge that was not seen
  pub edge_loop : to (2 * e) ≡ to (2 * e + 1) → EdgesMerged n w (e + 1) w
  edge_loop i = on_bool (seen_by n pos (to (2 * e)))
      (λ s. merged (only_none n w) firsts (seen_next n to pos par e s ∙ loop_path n to pos par e i) c.leads)
      (λ s. merged (only_none n w) firsts (unseen_next n to pos par e s) c.leads)

  pub edge_unseen : pos (to (2 * e)) ≡ 0 → EdgesMerged n w (e + 1) w
  edge_unseen z = merged (only_none n w) firsts (unseen_next n to pos par e (ap (λ k. ltb (to (2 * e)) n && ltb 0 k) z ∙ off (ltb (to (2 * e)) n))) c.leads
    where
      off : (b : Bool) → (b && false) ≡ false
      off true = refl
      off false = refl

  -- from the later end v, with u the other end and s the first node of v's class
  module _ (v u s : ℕ) (w₁ : List ℕ) (lv : v < n) (lu : u < n) (su : 0 < pos u) (t : root v ≡ root u) (l : pos u < pos v) (f : Found n w v s w₁) where
    child : IsChild n pos (node EDGE w) v
    child = later_child n m to pos par (node EDGE w) root c.forest v u lv lu su t l

    s_is : s ≡ firsts v
    s_is = (found_first n pos (node TOP w) (node TOP w₁) firsts v s lv c.leads f.path f.top).0

    leads : Leads n pos (node TOP w₁) firsts
    leads = (found_first n pos (node TOP w) (node TOP w₁) firsts v s lv c.leads f.path f.top).1

    s_child : IsChild n pos (node EDGE w) s
    s_child = subst (IsChild n pos (node EDGE w)) (sym s_is) (trees.child v child)

    parent : HasParent n m to pos par (node EDGE w) root s
    parent = child_parent n m to pos par (node EDGE w) root c.forest s s_child

    s_tree : root s ≡ root v
    s_tree = ap root s_is ∙ trees.tree v child

    pos₁ : node POSITION w₁ ≡ pos
    pos₁ = f.rest.nodes POSITION (omega arith) refl

    root₁ : node ROOT w₁ ≡ root
    root₁ = f.rest.nodes ROOT (omega arith) refl

    par₁ : node PARENT w₁ ≡ par
    par₁ = f.rest.nodes PARENT (omega arith) refl

    edge₁ : node EDGE w₁ ≡ node EDGE w
    edge₁ = f.rest.nodes EDGE (omega arith) refl

    moved : (a : ℕ) → a < n → 0 < pos a → root a ≡ root s → InTreeOf n w₁ s a
    moved a l p i = record { fit = l; seen = rw pos₁ p; same = rw root₁ i }

    pub up_in : (a : ℕ) → a ≡ node PARENT w₁ s → InTreeOf n w₁ s a
    up_in a i =
        let j : a ≡ par s = i ∙ ap (λ g. g s) par₁ in
        subst (InTreeOf n w₁ s) (sym j) (moved (par s) parent.fit parent.seen parent.same)

    pub other_in : InTreeOf n w₁ s u
    other_in = moved u lu su (sym t ∙ sym s_tree)

    pub path_can : (a b : ℕ) → InTreeOf n w₁ s a → InTreeOf n w₁ s b → CanMergePath n m w₁ s a b
    path_can a b p q = record {
      few = c.few;
      room = omega (arith, c.room, f.rest.same);
      forest = forest_still f.rest c.forest;
      first = firsts;
      leads = rw pos₁ leads;
      trees = rw (pos₁, root₁, edge₁) trees;
      child = rw (pos₁, edge₁) s_child;
      left = p;
      right = q;
    }

    pub path_leads : (a b : ℕ) (w₂ : List ℕ) → PathMerged n w₁ s a b w₂ → (g : ℕ) → pos a + pos b < g → Leads n pos (node TOP w₂) (merge_on par pos g firsts a b s)
    path_leads a b w₂ p g k = rw (pos₁, par₁) at (p.leads firsts (rw pos₁ leads) (rw (pos₁, root₁, edge₁) trees) g (rw pos₁ k))

    up_low : pos (par s) < pos v
    up_low = omega (arith, parent.up, ap pos s_is, trees.low v child)

  -- both ends are seen and in one tree
  seen_y : 0 < pos (to (2 * e)) → (0 < pos (to (2 * e + 1))) × (root (to (2 * e)) ≡ root (to (2 * e + 1)))
  seen_y p = c.forest.over e c.less p

  module _ (ne : ¬ (to (2 * e) ≡ to (2 * e + 1))) (sx : 0 < pos (to (2 * e))) where
    seen_x : seen_by n pos (to (2 * e)) ≡ true
    seen_x = seen_is n m to pos par (node EDGE w) root c.forest (to (2 * e)) x_fits sx

    module _ (l : pos (to (2 * e + 1)) < pos (to (2 * e))) {s a : ℕ} {w₁ : List ℕ} (f : Found n w (to (2 * e)) s w₁) (i : a ≡ node PARENT w₁ s) where
      pub left_can : CanMergePath n m w₁ s a (to (2 * e + 1))
      left_can =
          path_can (to (2 * e)) (to (2 * e + 1)) s w₁ x_fits y_fits (seen_y sx).0 (seen_y sx).1 l f a (to (2 * e + 1))
          (up_in (to (2 * e)) (to (2 * e + 1)) s w₁ x_fits y_fits (seen_y sx).0 (seen_y sx).1 l f a i)
          (other_in (to (2 * e)) (to (2 * e + 1)) s w₁ x_fits y_fits (seen_y sx).0 (seen_y sx).1 l f)

      pub left_merged : {w₂ : List ℕ} → PathMerged n w₁ s a (to (2 * e + 1)) w₂ → EdgesMerged n w (e + 1) w₂
      left_merged {w₂} p =
          let j = s_is (to (2 * e)) (to (2 * e + 1)) s w₁ x_fits y_fits (seen_y sx).0 (seen_y sx).1 l f in
          let k : a ≡ par s = i ∙ ap (λ g. g s) (par₁ (to (2 * e)) (to (2 * e + 1)) s w₁ x_fits y_fits (seen_y sx).0 (seen_y sx).1 l f) in
          let low = up_low (to (2 * e)) (to (2 * e + 1)) s w₁ x_fits y_fits (seen_y sx).0 (seen_y sx).1 l f in
          merged (only_then f.rest p.rest) (merge_on par pos (suc (pos (to (2 * e)) + pos (to (2 * e + 1)))) firsts a (to (2 * e + 1)) s)
          (seen_next n to pos par e seen_x ∙ left_path n to pos par e ne l
          ∙ ap₂ (λ a s. merge_on par pos (suc (pos (to (2 * e)) + pos (to (2 * e + 1)))) firsts a (to (2 * e + 1)) s) (sym (k ∙ ap par j)) (sym j))
          (path_leads (to (2 * e)) (to (2 * e + 1)) s w₁ x_fits y_fits (seen_y sx).0 (seen_y sx).1 l f a (to (2 * e + 1)) w₂ p (suc (pos (to (2 * e)) + pos (to (2 * e + 1)))) (omega (arith, low, ap pos k)))

    module _ (k : pos (to (2 * e)) ≤ pos (to (2 * e + 1))) {s b : ℕ} {w₁ : List ℕ} (f : Found n w (to (2 * e + 1)) s w₁) (i : b ≡ node PARENT w₁ s) where
      later : pos (to (2 * e)) < pos (to (2 * e + 1))
      later = let z : ¬ (pos (to (2 * e)) ≡ pos (to (2 * e + 1))) = λ j. ne (c.forest.one (to (2 * e)) (to (2 * e + 1)) x_fits y_fits sx j) in omega (arith, k)

      pub right_can : CanMergePath n m w₁ s (to (2 * e)) b
      right_can =
          path_can (to (2 * e + 1)) (to (2 * e)) s w₁ y_fits x_fits sx (sym (seen_y sx).1) later f (to (2 * e)) b
          (other_in (to (2 * e + 1)) (to (2 * e)) s w₁ y_fits x_fits sx (sym (seen_y sx).1) later f)
          (up_in (to (2 * e + 1)) (to (2 * e)) s w₁ y_fits x_fits sx (sym (seen_y sx).1) later f b i)

      pub right_merged : {w₂ : List ℕ} → PathMerged n w₁ s (to (2 * e)) b w₂ → EdgesMerged n w (e + 1) w₂
      right_merged {w₂} p =
          let j = s_is (to (2 * e + 1)) (to (2 * e)) s w₁ y_fits x_fits sx (sym (seen_y sx).1) later f in
          let h : b ≡ par s = i ∙ ap (λ g. g s) (par₁ (to (2 * e + 1)) (to (2 * e)) s w₁ y_fits x_fits sx (sym (seen_y sx).1) later f) in
          let low = up_low (to (2 * e + 1)) (to (2 * e)) s w₁ y_fits x_fits sx (sym (seen_y sx).1) later f in
          merged (only_then f.rest p.rest) (merge_on par pos (suc (pos (to (2 * e)) + pos (to (2 * e + 1)))) firsts (to (2 * e)) b s)
          (seen_next n to pos par e seen_x ∙ right_path n to pos par e ne k
          ∙ ap₂ (λ b s. merge_on par pos (suc (pos (to (2 * e)) + pos (to (2 * e + 1)))) firsts (to (2 * e)) b s) (sym (h ∙ ap par j)) (sym j))
          (path_leads (to (2 * e + 1)) (to (2 * e)) s w₁ y_fits x_fits sx (sym (seen_y sx).1) later f (to (2 * e)) b w₂ p (suc (pos (to (2 * e)) + pos (to (2 * e + 1)))) (omega (arith, low, ap pos h)))

-- the same with the ends and their positions as they are read
module _ {n m e x y : ℕ} {w : List ℕ} (c : CanMergeEdge n m e w) (ex : x ≡ half n TO w (2 * e)) (ey : y ≡ half n TO w (2 * e + 1)) where
  module _ {i j : ℕ} (ne : ¬ (x ≡ y)) (ei : i ≡ node POSITION w x) (ni : ¬ (i ≡ 0)) (ej : j ≡ node POSITION w y) where
    differ : ¬ (half n TO w (2 * e) ≡ half n TO w (2 * e + 1))
    differ q = ne (ex ∙ q ∙ sym ey)

    seen : 0 < node POSITION w (half n TO w (2 * e))
    seen = omega (arith, ei, ni, ap (node POSITION w) ex)

    less : j < i → node POSITION w (half n TO w (2 * e + 1)) < node POSITION w (half n TO w (2 * e))
    less l = omega (arith, l, ei, ej, ap (node POSITION w) ex, ap (node POSITION w) ey)

    more : i ≤ j → node POSITION w (half n TO w (2 * e)) ≤ node POSITION w (half n TO w (2 * e + 1))
    more l = omega (arith, l, ei, ej, ap (node POSITION w) ex, ap (node POSITION w) ey)

    pub take_left : {s a : ℕ} {w₁ : List ℕ} → j < i → Found n w x s w₁ → a ≡ node PARENT w₁ s → CanMergePath n m w₁ s a y
    take_left l f k = rw ey (left_can c differ seen (less l) (rw ex at f) k)

    pub took_left : {s a : ℕ} {w₁ w₂ : List ℕ} → j < i → Found n w x s w₁ → a ≡ node PARENT w₁ s → PathMerged n w₁ s a y w₂ → EdgesMerged n w (e + 1) w₂
    took_left l f k p = left_merged c differ seen (less l) (rw ex at f) k (rw ey at p)

    pub take_right : {s b : ℕ} {w₁ : List ℕ} → i ≤ j → Found n w y s w₁ → b ≡ node PARENT w₁ s → CanMergePath n m w₁ s x b
    take_right l f k = rw ex (right_can c differ seen (more l) (rw ey at f) k)

    pub took_right : {s b : ℕ} {w₁ w₂ : List ℕ} → i ≤ j → Found n w y s w₁ → b ≡ node PARENT w₁ s → PathMerged n w₁ s x b w₂ → EdgesMerged n w (e + 1) w₂
    took_right l f k p = right_merged c differ seen (more l) (rw ey at f) k (rw ex at p)

-- ---- all edges
pub edges_none : {n m : ℕ} {w : List ℕ} → CanMerge n m w → EdgesMerged n w 0 w
unfolding first_after
edges_none {n} {m} {w} c = record {
  rest = only_none n w;
  leads = record {
    tops = record { fit = λ u l. subst (λ (x : ℕ). x < n) (sym (c.self u l)) l; up = λ u l ne. absurd (ne (c.self u l)) };
    along = λ u l. c.self u l;
    fit = λ u l. l;
    stop = λ u l. c.self u l;
    own = λ u l e. refl;
  };
}

-- the first nodes are the same where only the tops change
pub firsts_still : {n : ℕ} {w w' : List ℕ} → OnlyTops n w w' → (i : ℕ) → firsts_below n w' i ≡ firsts_below n w i
firsts_still {n} {w} {w'} o i =
    ap (λ (g : ℕ → ℕ). first_after (seen_by n g) (node PARENT w') g (edges_below (half n TO w') i)) (o.nodes POSITION (omega arith) refl)
    ∙ ap (λ (g : ℕ → ℕ). first_after (seen_by n (node POSITION w)) g (node POSITION w) (edges_below (half n TO w') i)) (o.nodes PARENT (omega arith) refl)
    ∙ ap (λ (g : ℕ → ℕ). first_after (seen_by n (node POSITION w)) (node PARENT w) (node POSITION w) (edges_below g i)) (o.halves TO)

-- ---- the whole
module _ {n m seen : ℕ} {w w₁ : List ℕ} (c : CanMergeComponents n m seen w) (o : OwnTops n n w w₁) where
  module _ {w₂ : List ℕ} (p : EdgesMerged n w₁ m w₂) where
    every : OnlyTops n w w₂
    every = only_then o.rest p.rest

    pos₂ : node POSITION w₂ ≡ node POSITION w
    pos₂ = every.nodes POSITION (omega arith) refl

    pub blocks_merged : {w₃ : List ℕ} → Compressed n seen w₂ w₃ → BlocksMerged n m w w₃
    blocks_merged {w₃} k = record { rest = only_then every k.rest; firsts = λ u l. first_is u l ∙ ap (λ f. f u) (firsts_still o.rest m) }
      where
        firsts : ℕ → ℕ
        firsts = firsts_below n w₁ m

        placed : (u : ℕ) → u < n → node POSITION w₂ u ≤ seen
        placed u l = rw pos₂ (go (node POSITION w u) refl)
          where
            go : (x : ℕ) → node POSITION w u ≡ x → node POSITION w u ≤ seen
            go zero e = omega arith
            go (suc x) e = (c.place_of u l (omega arith)).0

        stable : (d u : ℕ) → u < n → eqb (firsts (node TOP w₂ u)) d ≡ eqb (firsts u) d
        stable d u l = ap (λ x. eqb x d) (p.leads.along u l)

        along : (u : ℕ) → u < n → firsts (node TOP w₃ u) ≡ firsts u
        along u l = eqb-true (firsts (node TOP w₃ u)) (firsts u) (k.keep (λ v. eqb (firsts v) (firsts u)) (stable (firsts u)) u l ∙ eq-eqb (firsts u) (firsts u) refl)

        first_is : (u : ℕ) → u < n → node TOP w₃ u ≡ firsts u
        first_is u l =
            let f = k.tops.fit u l in
            sym (p.leads.own (node TOP w₃ u) f (k.back (node TOP w₃ u) f (k.flat u l (placed u l)))) ∙ along u l
