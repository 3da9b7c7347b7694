-- What has been numbered and written is the reduced graph: each edge that is written joins the numbers of a written edge of theory_junctions, and each of these stands there;
-- the numbers of the junctions of the reduced graph are different; how many numbers and edges there are.
-- Assumes nothing.
use Prim.Native.Nat.{◌+◌, ◌-◌, ◌<◌, ◌≤◌, suc, zero, ℕ}
use mathlib.Core.Bool.{Bool, ◌&&◌, cond, false, not, true}
use mathlib.Core.List.{List, Memᴰ, [], ◌++◌, ◌∷◌}
use mathlib.Core.Logic.{◌⊎◌, inl, inr}
use mathlib.Core.Path.{◌∙◌, ◌≡◌, ap, ap₂, refl, subst, sym}
use lib.Dec.{eqb, ltb}
use lib.ListN.{get_or, length, length-append}
use native.Mathlib.Omega.{arith}
use borrow.Author.Tests.{eq-eqb, eqb-false, eqb-true, le-ltb, ne_eqb, not-true}
use Rattle.theory_graph.proofs.Booleans.{and_elim, on_bool}
use Rattle.theory_graph.proofs.DistinctLists.{distinct_filter, distinct_fewer, split_mem}
use Rattle.theory_graph.proofs.Lists.{filter_append, filter_in, in_filter, mem_append, table_in, table_mem}
use Rattle.theory_graph.proofs.TableLaws.{table_more}
use Rattle.theory_graph.specs.Graph.{Edge, NodeSet}
use Rattle.theory_graph.specs.Lists.{Distinct, filter, member, table}
use Rattle.theory_graph.specs.SmallGraph.{image}
use Rattle.theory_junctions.proofs.Colours.{edge_append, edge_image, image_edge}
use Rattle.theory_junctions.proofs.ForwardEdges.{Closing, Forward, edge_closing, edge_forward, written_edge}
use Rattle.theory_junctions.proofs.ReduceLaws.{class_from, listed_class, members_are, names_are, rising_distinct}
use Rattle.theory_junctions.proofs.Reduced.{member_own, own_member}
use Rattle.theory_junctions.proofs.SameColourings.{Covers}
use Rattle.theory_junctions.proofs.Written.{written_count}
use Rattle.theory_junctions.proofs.Size.{filter_count}
use Rattle.theory_junctions.specs.Blocks.{Blocks, closing, last_of, top_of}
use Rattle.theory_junctions.specs.Classes.{Class, closed_cycles, count, own_members, shares, tick}
use Rattle.theory_junctions.specs.Reduce.{Numbers, classes_from, classes_in, members_in, names_in, none, roots_in, shares_top, small_junctions, written_edges}
use Rattle.core_forest.specs.Forest.{edges_below}
use Rattle.core_cycles.proofs.NumberLaws.{shared_source, source, source_relevant}
use Rattle.core_cycles.proofs.OrderLaws.{and_off, count_append, table_cut}
use Rattle.core_cycles.proofs.WriteLaws.{class_top, closing_cases, code_last, from_cases, last_relevant, number_low}
use Rattle.core_cycles.specs.BlocksIn.{BlocksBy}
use Rattle.core_cycles.specs.Numbering.{NumbersBy, numbered}
use Rattle.core_cycles.specs.Writing.{closing_by, edge_if, edges_by, edges_up_to}

-- ---- lists
-- a table cut at an entry is cut at its place
pub table_split : (f : ℕ → ℕ) (a r : ℕ) (ps : List ℕ) (q : ℕ) (bs : List ℕ) → table f a r ≡ ps ++ q ∷ bs → (j : ℕ) × (j < r) × (ps ≡ table f a j) × (q ≡ f (a + j))
table_split f a zero [] q bs e = absurd (omega (arith, ap (λ (l : List ℕ). length l) e))
table_split f a zero (p ∷ ps) q bs e = absurd (omega (arith, ap (λ (l : List ℕ). length l) e))
table_split f a (suc r) [] q bs e =
    let h : f a ≡ q = cc in
    let z : a ≡ a + 0 = omega arith in
    (0, omega arith, refl, sym h ∙ ap f z)
table_split f a (suc r) (p ∷ ps) q bs e =
    let h : f a ≡ p = cc in
    let t : table f (suc a) r ≡ ps ++ q ∷ bs = cc in
    let (j, l, x, y) = table_split f (suc a) r ps q bs t in
    let z : suc a + j ≡ a + suc j = omega arith in
    (suc j, omega arith, ap₂ (λ u l. u ∷ l) (sym h) x, y ∙ ap f z)

entry_cut : (xs : List ℕ) (v : ℕ) (ys : List ℕ) → get_or (xs ++ v ∷ ys) (length xs) 0 ≡ v
entry_cut [] v ys = refl
entry_cut (x ∷ xs) v ys = entry_cut xs v ys

-- the edge of a - 1 and b, unless the test holds
abbrev edge_or : Bool → ℕ → ℕ → List Edge
edge_or t a b = cond t [] ((a - 1, b) ∷ [])

if_edge : (a b x y : ℕ) → Memᴰ (x, y) (edge_if a b) → ¬ (a ≡ 0) × (x ≡ a - 1) × (y ≡ b)
if_edge a b x y m = go (eqb a 0) refl m
  where
    one : Memᴰ (x, y) (edge_or false a b) → (x ≡ a - 1) × (y ≡ b)
    one (Memᴰ.head e) = (ap (λ e. e.0) e, ap (λ e. e.1) e)
    one (Memᴰ.tail m) = absurd (elim m [ ])

    go : (t : Bool) → eqb a 0 ≡ t → Memᴰ (x, y) (edge_or t a b) → ¬ (a ≡ 0) × (x ≡ a - 1) × (y ≡ b)
    go true e m = absurd (elim m [ ])
    go false e m = (eqb-false a 0 e, (one m).0, (one m).1)

edge_if_lem : (a b : ℕ) → ¬ (a ≡ 0) → Memᴰ (a - 1, b) (edge_if a b)
edge_if_lem a b ne = subst (λ (t : Bool). Memᴰ (a - 1, b) (edge_or t a b)) (sym (ne_eqb a 0 ne)) (Memᴰ.head refl)

module _ {n m k seen h : ℕ} {to act ord te par top mark members below number last from : ℕ → ℕ}
    (p : NumbersBy n m k seen seen h to act ord te par top mark members below number last from) where
  abbrev b : BlocksBy n m k seen to act ord te par top mark
  b = p.counted.is

  abbrev E : List Edge
  E = edges_below to m

  abbrev B : Blocks (edges_below to m)
  B = b.blocks

  abbrev rel : NodeSet
  rel = b.rel

  abbrev K : NodeSet
  K = member (table act 0 k)

  abbrev order : List ℕ
  order = table ord 0 seen

  abbrev cs : List Class
  cs = classes_in B rel order

  abbrev own : NodeSet
  own = numbered B K rel order

  abbrev X : List Edge
  X = written_edges B K rel order

  abbrev at : ℕ → List Edge
  at v = edges_by te par top members number last from v

  abbrev H : ℕ → List Edge
  H i = edges_up_to ord te par top members number last from i

  -- ---- the edges of all nodes
  up_in : (s i : ℕ) (e : Edge) → i < s → Memᴰ e (at (ord i)) → Memᴰ e (H s)
  up_in zero i e l q = absurd (omega arith)
  up_in (suc s) i e l q = on_bool (eqb i s)
      (λ t. mem_append (H s) (at (ord s)) (inr (subst (λ (j : ℕ). Memᴰ e (at (ord j))) (eqb-true i s t) q)))
      (λ t. let ne = eqb-false i s t in mem_append (H s) (at (ord s)) (inl (up_in s i e (omega (arith, l, ne)) q)))

  in_up : (s : ℕ) (e : Edge) → Memᴰ e (H s) → (i : ℕ) × (i < s) × Memᴰ e (at (ord i))
  in_up zero e q = elim q [ ]
  in_up (suc s) e q = go (edge_append (H s) (at (ord s)) q) (in_up s e)
    where
      go : Memᴰ e (H s) ⊎ Memᴰ e (at (ord s)) → (Memᴰ e (H s) → (i : ℕ) × (i < s) × Memᴰ e (at (ord i))) → (i : ℕ) × (i < suc s) × Memᴰ e (at (ord i))
      go (inl r) ih = let (i, l, o) = ih r in (i, omega arith, o)
      go (inr r) ih = (s, omega arith, r)

  place : (u : ℕ) → B.seen u ≡ true → (j : ℕ) × (j < seen) × (u ≡ ord j)
  place u s = let (j, l, e) = table_mem ord 0 seen u (b.search.seen_listed u s) in (j, omega arith, e)

  not_shared : (u : ℕ) → own u ≡ true → (rel u ≡ true) × (shares_top B K rel order u ≡ false)
  not_shared u o = and_elim (rel u) (not (shares_top B K rel order u)) o λ r s. (r, not-true (shares_top B K rel order u) s)

  -- ---- each written edge stands there, or is a loop
  forward_there : (j : ℕ) → j < seen → B.child (ord j) ≡ true → own (ord j) ≡ true → Memᴰ (number (source b j), number (ord j)) (H seen)
  forward_there j l c o =
      let e : from (ord j) ≡ suc (number (source b j)) = p.from_is j l ∙ ap (λ x. cond x (suc (number (source b j))) 0) (ap₂ ◌&&◌ c o) in
      let z : from (ord j) - 1 ≡ number (source b j) = omega (arith, e) in
      up_in seen j (number (source b j), number (ord j)) l
      (mem_append (edge_if (from (ord j)) (number (ord j))) (edge_if (closing_by te top members last (ord j)) (number (par (ord j))))
      (inl (subst (λ (x : ℕ). Memᴰ (x, number (ord j)) (edge_if (from (ord j)) (number (ord j)))) z (edge_if_lem (from (ord j)) (number (ord j)) (λ y. omega (arith, e, y))))))

  closing_there : (j : ℕ) → j < seen → B.child (ord j) ≡ true → B.first (ord j) ≡ ord j → 2 ≤ length (members_in B rel order (ord j))
      → Memᴰ (number (last_of (B.par (ord j)) (members_in B rel order (ord j))), number (B.par (ord j))) (H seen)
  closing_there j l c f two =
      let t : eqb (te (ord j)) 0 ≡ false = not-true (eqb (te (ord j)) 0) (sym (b.child j l) ∙ c) in
      let s : eqb (top (ord j)) (ord j) ≡ true = eq-eqb (top (ord j)) (ord j) (sym (b.first (ord j) (b.placed j l)) ∙ f) in
      let r : ltb (members (ord j)) 2 ≡ false = le-ltb (members (ord j)) 2 (omega (arith, p.counted.members_are (ord j) (b.placed j l), two)) in
      let e : closing_by te top members last (ord j) ≡ suc (number (last_of (B.par (ord j)) (members_in B rel order (ord j)))) =
      ap (λ x. cond x 0 (cond (eqb (top (ord j)) (ord j)) (cond (ltb (members (ord j)) 2) 0 (last (ord j))) 0)) t ∙ ap (λ x. cond x (cond (ltb (members (ord j)) 2) 0 (last (ord j))) 0) s ∙ ap (λ x. cond x 0 (last (ord j))) r
      ∙ p.last_is (ord j) c ∙ code_last p (B.par (ord j)) (members_in B rel order (ord j)) (omega (arith, two)) in
      let z : closing_by te top members last (ord j) - 1 ≡ number (last_of (B.par (ord j)) (members_in B rel order (ord j))) = omega (arith, e) in
      up_in seen j (number (last_of (B.par (ord j)) (members_in B rel order (ord j))), number (B.par (ord j))) l
      (mem_append (edge_if (from (ord j)) (number (ord j))) (edge_if (closing_by te top members last (ord j)) (number (par (ord j))))
      (inr (subst (λ (x : ℕ). Memᴰ (x, number (B.par (ord j))) (edge_if (closing_by te top members last (ord j)) (number (par (ord j))))) z
      (subst (λ (y : ℕ). Memᴰ (closing_by te top members last (ord j) - 1, number y) (edge_if (closing_by te top members last (ord j)) (number (par (ord j))))) (sym (b.parent (ord j)))
      (edge_if_lem (closing_by te top members last (ord j)) (number (par (ord j))) (λ y. omega (arith, e, y)))))))

  pub written_there : (x y : ℕ) → Memᴰ (x, y) X → (number x ≡ number y) ⊎ Memᴰ (number x, number y) (H seen)
  written_there x y q = go (written_edge E B K rel order b.search b.relevance x y q)
    where
      go : Forward E B K rel order b.search b.relevance x y ⊎ Closing E B K rel order b.search b.relevance x y → (number x ≡ number y) ⊎ Memᴰ (number x, number y) (H seen)
      go (inl (ps, bs, o, c, r, e)) =
          let (j, l, f, g) = table_split ord 0 seen ps y bs o in
          let z : y ≡ ord j = g ∙ ap ord (let w : 0 + j ≡ j = omega arith in w) in
          let s : x ≡ source b j = e ∙ ap (λ u. last_of (top_of B u) (members_in B rel ps (B.first u))) z ∙ ap (λ xs. last_of (top_of B (ord j)) (members_in B rel xs (B.first (ord j)))) f in
          on_bool (shares_top B K rel order (ord j))
          (λ t. inl (ap number (s ∙ shared_source b j l t) ∙ sym (p.shared j l t) ∙ ap number (sym z)))
          (λ t. inr (subst (λ (u : ℕ). Memᴰ (number u, number y) (H seen)) (sym s) (subst (λ (u : ℕ). Memᴰ (number (source b j), number u) (H seen)) (sym z)
          (forward_there j l (ap B.child (sym z) ∙ c) (ap₂ ◌&&◌ (ap rel (sym z) ∙ r) (ap not t))))))
      go (inr (c, k, two, e, f)) =
          let (cc', ff, nn) = names_are E B K rel order b.search b.relevance c k in
          let (j, l, z) = place c (B.child_seen c cc') in
          inr (subst (λ (u : ℕ). Memᴰ (number u, number y) (H seen)) (sym (e ∙ ap (λ u. last_of (B.par u) (members_in B rel order u)) z)) (subst (λ (u : ℕ). Memᴰ (number (last_of (B.par (ord j)) (members_in B rel order (ord j))), number u) (H seen)) (sym (f ∙ ap B.par z))
          (closing_there j l (ap B.child (sym z) ∙ cc') (ap B.first (sym z) ∙ ff ∙ z) (subst (λ (u : ℕ). 2 ≤ length (members_in B rel order u)) z two))))

  -- ---- each edge that stands there joins the numbers of a written one, and its ends are relevant
  pub there_written : (x y : ℕ) → Memᴰ (x, y) (H seen) → (u v : ℕ) × Memᴰ (u, v) X × (rel u ≡ true) × (rel v ≡ true) × (x ≡ number u) × (y ≡ number v)
  there_written x y q =
      let (i, l, r) = in_up seen (x, y) q in
      go i l (edge_append (edge_if (from (ord i)) (number (ord i))) (edge_if (closing_by te top members last (ord i)) (number (par (ord i)))) r)
    where
      go : (i : ℕ) → i < seen → Memᴰ (x, y) (edge_if (from (ord i)) (number (ord i))) ⊎ Memᴰ (x, y) (edge_if (closing_by te top members last (ord i)) (number (par (ord i))))
          → (u v : ℕ) × Memᴰ (u, v) X × (rel u ≡ true) × (rel v ≡ true) × (x ≡ number u) × (y ≡ number v)
      go i l (inl r) =
          let (ne, ex, ey) = if_edge (from (ord i)) (number (ord i)) x y r in
          from_cases p i l (λ z. absurd (ne z)) λ c o e.
          let (re, ns) = not_shared (ord i) o in (
            source b i,
            ord i,
            edge_forward E B K rel order b.search b.relevance (ord i) (table ord 0 i) (table ord (i + 1) (seen - (i + 1))) (table_cut ord i seen l) c re ns,
            source_relevant b i c re,
            re,
            omega (arith, ex, e),
            ey,
          )
      go i l (inr r) =
          let (ne, ex, ey) = if_edge (closing_by te top members last (ord i)) (number (par (ord i))) x y r in
          closing_cases p i l (λ z. absurd (ne z)) λ c f two e. (
            last_of (B.par (ord i)) (members_in B rel order (ord i)),
            B.par (ord i),
            close (ord i) two,
            last_relevant p (ord i) (omega (arith, two)),
            class_top p (ord i) (omega (arith, two)),
            omega (arith, ex, e),
            ey ∙ ap number (sym (b.parent (ord i))),
          )
        where
          some : (us : List ℕ) → 2 ≤ length us → (u : ℕ) × Memᴰ u us
          some [] l = absurd (omega arith)
          some (u ∷ us) l = (u, Memᴰ.head refl)

          close : (v : ℕ) → 2 ≤ length (members_in B rel order v) → Memᴰ (last_of (B.par v) (members_in B rel order v), B.par v) X
          close v two =
              let (u, g) = some (members_in B rel order v) two in
              let (k, cu, ru, fu) = members_are E B K rel order b.search b.relevance v u g in
              subst (λ (w : ℕ). Memᴰ (last_of (B.par w) (members_in B rel order w), B.par w) X) fu
              (edge_closing E B K rel order b.search b.relevance u cu ru (subst (λ (w : ℕ). 2 ≤ length (members_in B rel order w)) (sym fu) two))

  pub covers_written : Covers (H seen) (image number X)
  covers_written x y q ne =
      let (u, v, r, ex, ey) = edge_image number x y X q in
      go u v ex ey (written_there u v r)
    where
      go : (u v : ℕ) → x ≡ number u → y ≡ number v → (number u ≡ number v) ⊎ Memᴰ (number u, number v) (H seen) → Memᴰ (x, y) (H seen) ⊎ Memᴰ (y, x) (H seen)
      go u v ex ey (inl z) = absurd (ne (ex ∙ z ∙ sym ey))
      go u v ex ey (inr r) = inl (subst (λ (w : ℕ). Memᴰ (w, y) (H seen)) (sym ex) (subst (λ (w : ℕ). Memᴰ (number u, w) (H seen)) (sym ey) r))

  pub written_only : (x y : ℕ) → Memᴰ (x, y) (H seen) → Memᴰ (x, y) (image number X)
  written_only x y q =
      let (u, v, r, ru, rv, ex, ey) = there_written x y q in
      subst (λ (w : ℕ). Memᴰ (w, y) (image number X)) (sym ex) (subst (λ (w : ℕ). Memᴰ (number u, w) (image number X)) (sym ey) (image_edge number u v X r))

  pub ends_low : (x y : ℕ) → Memᴰ (x, y) (H seen) → (x < h) × (y < h)
  ends_low x y q =
      let (u, v, r, ru, rv, ex, ey) = there_written x y q in
      (subst (λ (w : ℕ). w < h) (sym ex) (number_low p u ru), subst (λ (w : ℕ). w < h) (sym ey) (number_low p v rv))

  -- ---- the numbers
  -- the junctions of the reduced graph are those with numbers of their own
  pub small_own : (v : ℕ) → Memᴰ v (small_junctions B K rel order) → (j : ℕ) × (j < seen) × (v ≡ ord j) × (own v ≡ true)
  small_own v q = go (split_mem (roots_in B order) (own_members K B.par cs cs) q)
    where
      go : Memᴰ v (roots_in B order) ⊎ Memᴰ v (own_members K B.par cs cs) → (j : ℕ) × (j < seen) × (v ≡ ord j) × (own v ≡ true)
      go (inl r) =
          let (g, c) = filter_in (λ u. not (B.child u)) v order r in
          let (j, l, e) = table_mem ord 0 seen v g in
          let cf = not-true (B.child v) c in (
            j,
            omega arith,
            e,
            ap₂ ◌&&◌ (b.relevance.active v (b.search.root_active v (b.search.listed_seen v g) cf))
                (ap not (ap (λ x. x && (rel v && shares K B.par cs (B.first v, members_in B rel order (B.first v)) v)) cf)),
          )
      go (inr r) =
          let (c, g, o, s) = member_own K B.par cs cs r in
          let (nm, e) = class_from E B K rel order b.search b.relevance c (names_in B rel order) g in
          let (w, cv, rv, fv) = members_are E B K rel order b.search b.relevance c.0 v (subst (λ (xs : List ℕ). Memᴰ v xs) e o) in
          let (j, l, z) = place v (b.search.listed_seen v w) in (
            j,
            l,
            z,
            ap₂ ◌&&◌ rv (ap not (and_off (B.child v) (and_off (rel v)
                (ap₂ (λ (x : ℕ) (xs : List ℕ). shares K B.par cs (x, xs) v) fv (ap (members_in B rel order) fv ∙ sym e) ∙ s)))),
          )

  pub own_small : (j : ℕ) → j < seen → own (ord j) ≡ true → Memᴰ (ord j) (small_junctions B K rel order)
  own_small j l o = on_bool (B.child (ord j))
      (λ c.
      let (r, s) = not_shared (ord j) o in
      mem_append (roots_in B order) (own_members K B.par cs cs)
      (inr (own_member K B.par cs (B.first (ord j), members_in B rel order (B.first (ord j))) cs (listed_class E B K rel order b.search b.relevance (ord j) c r)
      (in_filter (λ u. B.child u && (rel u && eqb (B.first u) (B.first (ord j)))) (ord j) order (table_in ord 0 seen j (omega arith) (omega arith)) (ap₂ ◌&&◌ c (ap₂ ◌&&◌ r (eq-eqb (B.first (ord j)) (B.first (ord j)) refl))))
      (sym (ap (λ x. x && shares K B.par cs (B.first (ord j), members_in B rel order (B.first (ord j))) (ord j)) r)
      ∙ sym (ap (λ x. x && (rel (ord j) && shares K B.par cs (B.first (ord j), members_in B rel order (B.first (ord j))) (ord j))) c) ∙ s))))
      (λ c. mem_append (roots_in B order) (own_members K B.par cs cs) (inl (in_filter (λ u. not (B.child u)) (ord j) order (table_in ord 0 seen j (omega arith) (omega arith)) (ap not c))))

  -- the node with a number
  abbrev pub node_of : ℕ → ℕ
  node_of x = get_or (filter own order) x 0

  pub node_of_lem : (j : ℕ) → j < seen → own (ord j) ≡ true → node_of (number (ord j)) ≡ ord j
  node_of_lem j l o =
      ap node_of (p.own j l o ∙ sym (filter_count own (table ord 0 j)))
      ∙ ap (λ xs. get_or xs (length (filter own (table ord 0 j))) 0) (ap (filter own) (table_cut ord j seen l) ∙ filter_append own (table ord 0 j) (ord j ∷ table ord (j + 1) (seen - (j + 1)))
      ∙ ap (λ t. filter own (table ord 0 j) ++ cond t (ord j ∷ filter own (table ord (j + 1) (seen - (j + 1)))) (filter own (table ord (j + 1) (seen - (j + 1))))) o)
      ∙ entry_cut (filter own (table ord 0 j)) (ord j) (filter own (table ord (j + 1) (seen - (j + 1))))

  pub small_node : (v : ℕ) → Memᴰ v (small_junctions B K rel order) → node_of (number v) ≡ v
  small_node v q = let (j, l, e, o) = small_own v q in ap (λ u. node_of (number u)) e ∙ node_of_lem j l (ap own (sym e) ∙ o) ∙ sym e

  pub numbers_are : Numbers E B K rel order number node_of
  numbers_are = record {
    own = small_node;
    shared = λ v s.
        and_elim (B.child v) (rel v && shares K B.par cs (B.first v, members_in B rel order (B.first v)) v) s λ c r.
        let (j, l, e) = place v (B.child_seen v c) in
        ap number e ∙ p.shared j l (ap (shares_top B K rel order) (sym e) ∙ s) ∙ ap (λ u. number (top_of B u)) (sym e);
  }

  -- ---- how many
  pub count_own : h ≡ length (filter own order)
  count_own = p.total ∙ sym (filter_count own order)

  pub own_distinct : Distinct (filter own order)
  own_distinct = distinct_filter own order (rising_distinct B.pos order b.search.rises)

  pub own_listed : (v : ℕ) → Memᴰ v (filter own order) → Memᴰ v (small_junctions B K rel order)
  own_listed v q =
      let (g, o) = filter_in own v order q in
      let (j, l, e) = table_mem ord 0 seen v g in
      subst (λ (u : ℕ). Memᴰ u (small_junctions B K rel order)) (sym e) (own_small j (omega arith) (ap own (sym e) ∙ o))

  -- a class of two members or more
  two : List ℕ → Bool
  two [] = false
  two (u ∷ []) = false
  two (u ∷ w ∷ us) = true

  two_length : (us : List ℕ) → 2 ≤ length us → two us ≡ true
  unfolding two
  two_length [] l = absurd (omega arith)
  two_length (u ∷ []) l = absurd (omega arith)
  two_length (u ∷ w ∷ us) l = refl

  closed_two : (us : List ℕ) → length (closing 0 us) ≡ tick (two us)
  unfolding two
  closed_two [] = refl
  closed_two (u ∷ []) = refl
  closed_two (u ∷ w ∷ us) = refl

  closes : ℕ → Bool
  closes c = B.child c && (eqb (B.first c) c && not (none (members_in B rel order c))) && two (members_in B rel order c)

  count_closed : (xs : List ℕ) → closed_cycles (classes_from B rel order (filter (λ c. B.child c && (eqb (B.first c) c && not (none (members_in B rel order c)))) xs)) ≡ count closes xs
  unfolding closes
  count_closed [] = refl
  count_closed (x ∷ xs) = one (B.child x && (eqb (B.first x) x && not (none (members_in B rel order x)))) (count_closed xs)
    where
      rest : List ℕ
      rest = filter (λ c. B.child c && (eqb (B.first c) c && not (none (members_in B rel order c)))) xs

      one : (t : Bool) → closed_cycles (classes_from B rel order rest) ≡ count closes xs → closed_cycles (classes_from B rel order (cond t (x ∷ rest) rest)) ≡ tick (t && two (members_in B rel order x)) + count closes xs
      one true ih = omega (arith, ih, closed_two (members_in B rel order x))
      one false ih = omega (arith, ih)

  -- the edges of the first i nodes: one for each node with a parent and a number of its own, one for each closed cycle at most
  forward : ℕ → Bool
  forward v = B.child v && own v

  if_length : (a c : ℕ) (t : Bool) → (¬ (a ≡ 0) → t ≡ true) → length (edge_if a c) ≤ tick t
  if_length a c t f = go (eqb a 0) refl
    where
      go : (s : Bool) → eqb a 0 ≡ s → length (edge_or s a c) ≤ tick t
      go true e = omega arith
      go false e = omega (arith, ap tick (f (eqb-false a 0 e)))

  node_edges : (i : ℕ) → i < seen → length (at (ord i)) ≤ tick (forward (ord i)) + tick (closes (ord i))
  unfolding forward closes
  node_edges i l =
      let x = if_length (from (ord i)) (number (ord i)) (B.child (ord i) && own (ord i)) (λ ne. from_cases p i l (λ z. absurd (ne z)) (λ c o e. ap₂ ◌&&◌ c o)) in
      let y = if_length (closing_by te top members last (ord i)) (number (par (ord i))) (B.child (ord i) && (eqb (B.first (ord i)) (ord i) && not (none (members_in B rel order (ord i)))) && two (members_in B rel order (ord i)))
      (λ ne. closing_cases p i l (λ z. absurd (ne z)) (λ c f m e. ap₂ ◌&&◌ (ap₂ ◌&&◌ c (ap₂ ◌&&◌ (eq-eqb (B.first (ord i)) (ord i) f) (ap not (filled (members_in B rel order (ord i)) m)))) (two_length (members_in B rel order (ord i)) m))) in
      omega (arith, x, y, length-append (edge_if (from (ord i)) (number (ord i))) (edge_if (closing_by te top members last (ord i)) (number (par (ord i)))))
    where
      filled : (us : List ℕ) → 2 ≤ length us → none us ≡ false
      filled [] l = absurd (omega arith)
      filled (u ∷ us) l = refl

  edges_count : (i : ℕ) → i ≤ seen → length (H i) ≤ count forward (table ord 0 i) + count closes (table ord 0 i)
  edges_count zero l = omega arith
  edges_count (suc i) l =
      let e : table ord 0 (suc i) ≡ table ord 0 i ++ ord i ∷ [] = ap (table ord 0) (let z : suc i ≡ i + 1 = omega arith in z) ∙ table_more ord i in
      omega (
        arith,
        edges_count i (omega arith),
        node_edges i (omega arith),
        length-append (H i) (at (ord i)),
        ap (count forward) e,
        ap (count closes) e,
        count_append forward (table ord 0 i) (ord i ∷ []),
        count_append closes (table ord 0 i) (ord i ∷ []),
      )

  -- a node with a number of its own is a root or has a parent
  split_own : (xs : List ℕ) → ((v : ℕ) → Memᴰ v xs → B.seen v ≡ true) → count own xs ≡ count forward xs + count (λ v. not (B.child v)) xs
  unfolding forward
  split_own [] f = refl
  split_own (x ∷ xs) f = omega (arith, split_own xs (λ v q. f v (Memᴰ.tail q)), here)
    where
      here : tick (own x) ≡ tick (B.child x && own x) + tick (not (B.child x))
      here = on_bool (B.child x)
          (λ c. omega (arith, ap (λ t. tick (t && own x)) c, ap (λ t. tick (not t)) c))
          (λ c.
          let r = b.relevance.active x (b.search.root_active x (f x (Memᴰ.head refl)) c) in
          let o : own x ≡ true = ap₂ ◌&&◌ r (ap not (ap (λ y. y && (rel x && shares K B.par cs (B.first x, members_in B rel order (B.first x)) x)) c)) in
          omega (arith, ap tick o, ap (λ t. tick (t && own x)) c, ap (λ t. tick (not t)) c))

  -- no more edges than are written in theory_junctions
  pub edges_most : length (H seen) ≤ length X
  edges_most =
      omega (
        arith,
        edges_count seen (omega arith),
        split_own order b.search.listed_seen,
        filter_count (λ v. not (B.child v)) order,
        filter_count own order,
        count_closed order,
        distinct_fewer (small_junctions B K rel order) (filter own order) own_distinct own_listed,
        written_count E B K rel order b.search b.relevance,
      )

  -- ---- the active nodes

  pub active_low : (v : ℕ) → K v ≡ true → number v < h
  active_low v a = number_low p v (b.relevance.active v a)
