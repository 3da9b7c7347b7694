-- Laws of the search. In order: one node more; a half-edge; the half-edges of a node; a tree; all trees; and what the search leaves is a forest.
-- Assumes nothing.
use Prim.Native.Nat.{◌*◌, ◌+◌, ◌-◌, ◌/◌, ◌<◌, ◌≤◌, ℕ}
use mathlib.Core.Bool.{false}
use mathlib.Core.List.{List}
use mathlib.Core.Logic.{◌⊎◌, inl, inr, ⊎_elim}
use mathlib.Core.Path.{◌∙◌, ◌≡◌, ap, refl, sym}
use lib.Dec.{eqb, ltb}
use native.Mathlib.Omega.{arith}
use borrow.Author.Count.{below_more}
use borrow.Author.Tests.{eqb-false, eqb-true, ltb-false, ltb-true}
use Rattle.core_forest.proofs.Counting.{count_le, count_less, count_more, count_none}
use Rattle.core_forest.proofs.HalfEdges.{half_joins, twin_back, twin_even, twin_odd}
use Rattle.core_forest.specs.AdjacencyLists.{AdjacencyLists, LastFrom, origin, twin}
use Rattle.core_forest.specs.Forest.{ForestAt, HasParent, Root}
use Rattle.core_forest.specs.Search.{Appended, BetweenTrees, CanAppend, CanVisit, Growing, Grown, Scanning, Search, SearchAt, SearchKeeps, TreeEdge, Visited}
use Rattle.theory_graph.specs.Lists.{member}
use Rattle.theory_graph.proofs.Booleans.{on_bool}
use Rattle.core_words.proofs.ChangeLaws.{only_none, only_then}
use Rattle.core_words.proofs.FieldLaws.{update_at, update_other, update_same}
use Rattle.core_words.specs.Changes.{OnlyFields}
use Rattle.core_words.specs.Fields.{ACTIVE, EDGE, HEAD, MARK, NEXT, ORDER, PARENT, POSITION, ROOT, TO, half, node, update}

module _ {n m : ℕ} {mark to ord pos par te root : ℕ → ℕ} {done seen r : ℕ} (s : Search n m mark to ord pos par te root done seen r)
    (v p t : ℕ) (l : v < n) (z : pos v ≡ 0) (mr : 0 < mark r)
    (k : ((p ≡ v) × (t ≡ 0) × (r ≡ v)) ⊎ TreeEdge n m to pos root v p t r) where
  -- a seen node is not v
  off : (f : ℕ → ℕ) (x u : ℕ) → 0 < pos u → update f v x u ≡ f u
  off f x u i = update_other f v x u (λ e. let q : pos u ≡ pos v = ap pos e in omega arith)

  pos' : ℕ → ℕ
  pos' = update pos v (seen + 1)

  on : (f : ℕ → ℕ) (x : ℕ) → update f v x v ≡ x
  on f x = update_same f v x

  pub append_more : Search n m mark to (update ord seen v) (update pos v (seen + 1)) (update par v p) (update te v t) (update root v r) done (seen + 1) r
  unfolding pos'
  append_more = record {
    some = omega (arith, s.some);
    count = count_more pos n v seen l z ∙ ap (λ i. i + 1) s.count;
    place = update_at (λ i y. i < seen + 1 → (y < n) × (pos' y ≡ i + 1)) ord seen v
        (λ _. (l, on pos (seen + 1)))
        (λ i ne j. let q = s.place i (omega arith) in (q.0, off pos (seen + 1) (ord i) (omega (arith, q.1)) ∙ q.1));
    place_of = update_at (λ u y. u < n → 0 < y → (y ≤ seen + 1) × (update ord seen v (y - 1) ≡ u)) pos v (seen + 1)
        (λ _ _. (omega arith, ap (update ord seen v) (let e : seen + 1 - 1 ≡ seen = omega arith in e) ∙ update_same ord seen v))
        (λ u _ i j. let q = s.place_of u i j in (omega (arith, q.0), update_other ord seen v (pos u - 1) (λ e. omega (arith, q.0)) ∙ q.1));
    kind = update_at (λ u y. u < n → 0 < y → Root (update par v p) (update te v t) (update root v r) u
        ⊎ HasParent n m to pos' (update par v p) (update te v t) (update root v r) u) pos v (seen + 1)
        (λ _ _. new)
        (λ u _ i j. old u j (s.kind u i j));
    first = update_at (λ u y. u < n → 0 < y → (0 < pos' (update root v r u)) × (pos' (update root v r u) ≤ y)) pos v (seen + 1)
        (λ _ _. rw (on root r) root_first)
        (λ u _ i j. let q = s.first u i j in rw (off root r u j, off pos (seen + 1) (root u) q.0) q);
    marked = update_at (λ u y. u < n → 0 < y → 0 < mark (update root v r u)) pos v (seen + 1)
        (λ _ _. rw (on root r) mr)
        (λ u _ i j. rw (off root r u j) (s.marked u i j));
    pending = update_at (λ u y. u < n → done < y → update root v r u ≡ r) pos v (seen + 1)
        (λ _ _. on root r)
        (λ u _ i j. off root r u (omega arith) ∙ s.pending u i j);
    out = λ h i a b. on_bool (eqb (origin to h) v)
        (λ e. absurd (omega (arith, s.some, ap pos' (eqb-true (origin to h) v e), on pos (seen + 1))))
        (λ e.
        let c : pos' (origin to h) ≡ pos (origin to h) = update_other pos v (seen + 1) (origin to h) (eqb-false (origin to h) v e) in
        let q = s.out h i (omega arith) (omega arith) in
        rw (off pos (seen + 1) (to h) q.0, off root r (to h) q.0, update_other root v r (origin to h) (eqb-false (origin to h) v e)) q);
  }
    where
      new : Root (update par v p) (update te v t) (update root v r) v ⊎ HasParent n m to pos' (update par v p) (update te v t) (update root v r) v
      new = ⊎_elim
          (λ q. inl (record { top = on root r ∙ q.2; self = on par p ∙ q.0; none = on te t ∙ q.1 }))
          (λ q. inr (record {
            edge = q.edge;
            is = on te t ∙ q.is;
            less = q.less;
            join = rw (on par p) q.join;
            fit = rw (on par p) q.fit;
            seen = rw (on par p, off pos (seen + 1) p q.seen) q.seen;
            up = rw (on par p, off pos (seen + 1) p q.seen, on pos (seen + 1)) (omega (arith, (s.place_of p q.fit q.seen).0));
            same = rw (on par p, off root r p q.seen, on root r) q.same;
          }))
          k

      old : (u : ℕ) → 0 < pos u → Root par te root u ⊎ HasParent n m to pos par te root u → Root (update par v p) (update te v t) (update root v r) u
          ⊎ HasParent n m to pos' (update par v p) (update te v t) (update root v r) u
      old u j = ⊎_elim
          (λ q. inl (record { top = off root r u j ∙ q.top; self = off par p u j ∙ q.self; none = off te t u j ∙ q.none }))
          (λ q. inr (record {
            edge = q.edge;
            is = off te t u j ∙ q.is;
            less = q.less;
            join = rw (off par p u j) q.join;
            fit = rw (off par p u j) q.fit;
            seen = rw (off par p u j, off pos (seen + 1) (par u) q.seen) q.seen;
            up = rw (off par p u j, off pos (seen + 1) (par u) q.seen, off pos (seen + 1) u j) q.up;
            same = rw (off par p u j, off root r (par u) q.seen, off root r u j) q.same;
          }))

      root_first : (0 < pos' r) × (pos' r ≤ seen + 1)
      root_first = ⊎_elim
          (λ q. rw (q.2, on pos (seen + 1)) (omega arith, omega arith))
          (λ q.
          let a : (0 < pos r) × (pos r ≤ pos p) = rw q.same at (s.first p q.fit q.seen) in
          rw (off pos (seen + 1) r a.0) (a.0, omega (arith, a.1, (s.place_of p q.fit q.seen).0)))
          k

pub lists_still : {fs : List ℕ} {n m : ℕ} {w w' : List ℕ} → member fs HEAD ≡ false → OnlyFields fs n w w' → AdjacencyLists n m w → AdjacencyLists n m w'
lists_still h k g = record {
  few = g.few;
  much = g.much;
  room = rw k.same g.room;
  ends = rw (k.halves TO) g.ends;
  heads = rw (k.halves TO, k.nodes HEAD (omega arith) h) g.heads;
  nexts = rw (k.halves TO, k.halves NEXT) g.nexts;
}

pub seen_less : {n m : ℕ} {mark to ord pos par te root : ℕ → ℕ} {done seen r : ℕ} → Search n m mark to ord pos par te root done seen r → seen ≤ n
seen_less {n} {pos = pos} s = omega (arith, count_le pos n, s.count)

module _ {n m done seen r v h x p : ℕ} {w : List ℕ} (g : CanVisit n m w done seen r v h) (ex : x ≡ half n TO w h) (ep : p ≡ node POSITION w x) where
  pub x_fits : x < n
  x_fits = rw ex (g.scan.lists.ends h g.less)

  root_v : node ROOT w v ≡ r
  root_v = g.scan.search.pending v g.scan.fit (omega (arith, g.scan.at))

  -- a seen far end is of the tree
  root_x : 0 < node POSITION w x → node ROOT w x ≡ r
  root_x i = on_bool (ltb done (node POSITION w x))
      (λ q. g.scan.search.pending x x_fits (ltb-true _ _ q))
      (λ q.
      let b = twin_back (half n TO w) m h g.less in
      let e : origin (half n TO w) (twin h) ≡ x = b.2 ∙ sym ex in
      let o : (0 < node POSITION w (half n TO w (twin h))) × (node ROOT w (half n TO w (twin h)) ≡ node ROOT w x) =
      rw e at (g.scan.search.out (twin h) b.0 (rw e i) (rw e (ltb-false _ _ q))) in
      sym o.1 ∙ ap (node ROOT w) (b.1 ∙ g.leaves) ∙ root_v)

  pub visit_seen : (p ≡ 0 → ⊥) → Visited n m w w done seen r v h
  visit_seen ne =
      let i : 0 < node POSITION w x = omega arith in (
        record { rest = only_none n w; more = λ u _ l. l },
        record {
          lists = g.scan.lists;
          search = g.scan.search;
          fit = g.scan.fit;
          fit_r = g.scan.fit_r;
          mark = g.scan.mark;
          at = g.scan.at;
          part = λ k l b e. on_bool (eqb k h)
              (λ q. let c : half n TO w k ≡ x = ap (half n TO w) (eqb-true k h q) ∙ sym ex in rw c (i, root_x i))
              (λ q. let ne : ¬ (k ≡ h) = eqb-false k h q in g.scan.part k (omega arith) b e);
        },
      )

  module _ (z : p ≡ 0) where
    x_new : node POSITION w x ≡ 0
    x_new = sym ep ∙ z

    pub visit_new : CanAppend n w seen x v (h / 2 + 1) r
    visit_new = record {
      few = g.scan.lists.few;
      room = omega (arith, g.scan.lists.room);
      less = omega (arith, count_less (node POSITION w) n x x_fits x_new, g.scan.search.count);
      fit = x_fits;
      fit_p = g.scan.fit;
      fit_t = omega (arith, g.less, g.scan.lists.much);
      fit_r = g.scan.fit_r;
    }

    tree_edge : TreeEdge n m (half n TO w) (node POSITION w) (node ROOT w) x v (h / 2 + 1) r
    tree_edge = record {
      edge = h / 2;
      is = refl;
      less = omega (arith, g.less);
      join = rw (ex, ← g.leaves) (half_joins (half n TO w) h);
      fit = g.scan.fit;
      seen = omega (arith, g.scan.at);
      same = root_v;
    }

    pub visit_added : {w' : List ℕ} → Appended n seen x v (h / 2 + 1) r w w' → Visited n m w w' done (seen + 1) r v h
    visit_added {w'} a = (
      record {
        rest = a.rest;
        more = rw a.pos (update_at (λ u y. u < n → 0 < node POSITION w u → 0 < y) (node POSITION w) x (seen + 1) (λ _ _. omega arith) (λ u _ _ i. i));
      },
      record {
        lists = lists_still refl a.rest g.scan.lists;
        search = rw (a.ord, a.pos, a.par, a.te, a.root, a.rest.nodes MARK (omega arith) refl, a.rest.halves TO) more;
        fit = g.scan.fit;
        fit_r = g.scan.fit_r;
        mark = rw (a.rest.nodes MARK (omega arith) refl) g.scan.mark;
        at = rw (a.pos, off s x v (h / 2 + 1) x_fits x_new mr k (node POSITION w) (seen + 1) v (omega (arith, g.scan.at))) g.scan.at;
        part = rw (a.rest.halves TO, a.pos, a.root) (λ j l b e. on_bool (eqb j h)
            (λ q. let c : half n TO w j ≡ x = ap (half n TO w) (eqb-true j h q) ∙ sym ex in
            rw (c, update_same (node POSITION w) x (seen + 1), update_same (node ROOT w) x r) (omega arith, refl))
            (λ q.
            let ne : ¬ (j ≡ h) = eqb-false j h q in
            let o = g.scan.part j (omega arith) b e in
            rw (
              off s x v (h / 2 + 1) x_fits x_new mr k (node POSITION w) (seen + 1) (half n TO w j) o.0,
              off s x v (h / 2 + 1) x_fits x_new mr k (node ROOT w) r (half n TO w j) o.0,
            ) o));
      },
    )
      where
        s : SearchAt n m w done seen r
        s = g.scan.search

        mr : 0 < node MARK w r
        mr = g.scan.mark

        k : ((v ≡ x) × (h / 2 + 1 ≡ 0) × (r ≡ x)) ⊎ TreeEdge n m (half n TO w) (node POSITION w) (node ROOT w) x v (h / 2 + 1) r
        k = inr tree_edge

        more : Search n m (node MARK w) (half n TO w) (update (node ORDER w) seen x) (update (node POSITION w) x (seen + 1)) (update (node PARENT w) x v)
            (update (node EDGE w) x (h / 2 + 1)) (update (node ROOT w) x r) done (seen + 1) r
        more = append_more s x v (h / 2 + 1) x_fits x_new mr k

pub record ScanLoop (n m done r v : ℕ) (w₀ : List ℕ) (seen cur : ℕ) (w : List ℕ) : Type 0 where
  pub keeps : SearchKeeps n w₀ w
  pub scan : Scanning n m w done seen r v cur
  pub low : cur ≤ 2 * m
  pub leaves : 0 < cur → origin (half n TO w) (cur - 1) ≡ v

pub keeps_then : {n : ℕ} {a b c : List ℕ} → SearchKeeps n a b → SearchKeeps n b c → SearchKeeps n a c
keeps_then g h = record { rest = only_then g.rest h.rest; more = λ u l i. h.more u l (g.more u l i) }

module _ {n m done r v seen cur : ℕ} {w₀ w : List ℕ} (g : ScanLoop n m done r v w₀ seen cur w) where
  module _ (h : ℕ) (e : cur ≡ h + 1) where
    leaves_v : origin (half n TO w) h ≡ v
    leaves_v = let d : cur - 1 ≡ h = omega arith in rw d at (g.leaves (omega arith))

    pub scan_can : CanVisit n m w done seen r v h
    scan_can = record { scan = rw (← e) g.scan; less = omega (arith, g.low); leaves = leaves_v }

    pub scan_more : {seen' c : ℕ} {w' : List ℕ} → Visited n m w w' done seen' r v h → c ≡ half n NEXT w' h → ScanLoop n m done r v w₀ seen' c w' × (c < cur)
    scan_more {seen'} {c} {w'} k ec =
        let s = k.1 in
        let b : origin (half n TO w') h ≡ v = rw (k.0.rest.halves TO) leaves_v in
        let next : LastFrom (origin (half n TO w')) v h c = rw (ec, ← b) (s.lists.nexts h (omega (arith, g.low))) in (
          record {
            keeps = keeps_then g.keeps k.0;
            scan = record {
              lists = s.lists;
              search = s.search;
              fit = s.fit;
              fit_r = s.fit_r;
              mark = s.mark;
              at = s.at;
              part = λ j i l f. on_bool (ltb j h) (λ q. absurd (next.gap j i (ltb-true j h q) f)) (λ q. s.part j (ltb-false j h q) l f);
            };
            low = omega (arith, next.below, g.low);
            leaves = next.at;
          },
          omega (arith, next.below),
        )

  pub scan_done : cur ≡ 0 → Grown n m w₀ w (done + 1) seen r
  scan_done z = record {
    keeps = g.keeps;
    search = record {
      some = omega (arith, (s.place_of v fit (omega (arith, at))).0);
      count = s.count;
      place = s.place;
      place_of = s.place_of;
      kind = s.kind;
      first = s.first;
      marked = s.marked;
      pending = λ u l i. s.pending u l (omega arith);
      out = λ h l i j. on_bool (ltb done (node POSITION w (origin (half n TO w) h)))
          (λ q.
          let b = twin_back (half n TO w) m h l in
          let f : origin (half n TO w) h < n = rw (← b.1) (g.scan.lists.ends (twin h) b.0) in
          let e : origin (half n TO w) h ≡ v = one (origin (half n TO w) h) f i (omega (arith, ltb-true done (node POSITION w (origin (half n TO w) h)) q)) in
          let p = g.scan.part h (omega arith) l e in
          (p.0, p.1 ∙ sym (ap (node ROOT w) e ∙ s.pending v fit (omega (arith, at)))))
          (λ q. s.out h l i (ltb-false _ _ q));
    };
  }
    where
      s : SearchAt n m w done seen r
      s = g.scan.search

      fit : v < n
      fit = g.scan.fit

      at : node POSITION w v ≡ done + 1
      at = g.scan.at

      one : (u : ℕ) → u < n → 0 < node POSITION w u → node POSITION w u ≡ done + 1 → u ≡ v
      one u l i e = sym (s.place_of u l i).1 ∙ ap (λ k. node ORDER w (k - 1)) (e ∙ sym at) ∙ (s.place_of v fit (omega (arith, at))).1

pub grown_less : {n m d s r : ℕ} {w₀ w : List ℕ} → Grown n m w₀ w d s r → s ≤ n
grown_less a = seen_less a.search

-- where every seen node is finished, any root will do
pub any_root : {n m : ℕ} {mark to ord pos par te root : ℕ → ℕ} {seen r : ℕ} (q : ℕ) → Search n m mark to ord pos par te root seen seen r → Search n m mark to ord pos par te root seen seen q
any_root q s = record {
  some = s.some;
  count = s.count;
  place = s.place;
  place_of = s.place_of;
  kind = s.kind;
  first = s.first;
  marked = s.marked;
  pending = λ u l i. absurd (omega (arith, (s.place_of u l (omega arith)).0));
  out = s.out;
}

module _ {n m k seen j r p : ℕ} {w : List ℕ} (b : BetweenTrees n m k w seen j) (l : j < k) (er : r ≡ node ACTIVE w j) (ep : p ≡ node POSITION w r) where
  pub r_fits : r < n
  r_fits = rw er (b.active j l).0

  r_mark : 0 < node MARK w r
  r_mark = rw er (b.active j l).1

  have_more : {w' : List ℕ} → SearchKeeps n w w' → 0 < node POSITION w' r → (i : ℕ) → i < j + 1 → 0 < node POSITION w' (node ACTIVE w' i)
  have_more {w'} g h = rw (g.rest.nodes ACTIVE (omega arith) refl) (below_more (λ i. 0 < node POSITION w' (node ACTIVE w i)) j
      (λ i q. g.more (node ACTIVE w i) (b.active i (omega arith)).0 (b.have i q))
      (rw er at h))

  module _ (z : p ≡ 0) where
    r_new : node POSITION w r ≡ 0
    r_new = sym ep ∙ z

    pub start_new : CanAppend n w seen r r 0 r
    start_new = record {
      few = b.lists.few;
      room = omega (arith, b.lists.room);
      less = omega (arith, count_less (node POSITION w) n r r_fits r_new, b.search.count);
      fit = r_fits;
      fit_p = r_fits;
      fit_t = omega arith;
      fit_r = r_fits;
    }

    module _ {w₁ : List ℕ} (a : Appended n seen r r 0 r w w₁) where
      pub start_grows : Growing n m w₁ seen (seen + 1) r
      start_grows = record {
        lists = lists_still refl a.rest b.lists;
        search = rw (a.ord, a.pos, a.par, a.te, a.root, a.rest.nodes MARK (omega arith) refl, a.rest.halves TO)
            (append_more (any_root r b.search) r r 0 r_fits r_new r_mark (inl (refl, refl, refl)));
        fit_r = r_fits;
        mark = rw (a.rest.nodes MARK (omega arith) refl) r_mark;
      }

      pub start_done : {w₂ : List ℕ} {s : ℕ} → Grown n m w₁ w₂ s s r → SearchKeeps n w w₂ × BetweenTrees n m k w₂ s (j + 1)
      start_done {w₂} {s} g =
          let first : SearchKeeps n w w₁ = record {
            rest = a.rest;
            more = rw a.pos (update_at (λ u y. u < n → 0 < node POSITION w u → 0 < y) (node POSITION w) r (seen + 1) (λ _ _. omega arith) (λ u _ _ i. i));
          } in
          let all : SearchKeeps n w w₂ = keeps_then first g.keeps in
          let one : 0 < node POSITION w₁ r = rw (a.pos, update_same (node POSITION w) r (seen + 1)) (omega arith) in (
            all,
            record {
              lists = lists_still refl all.rest b.lists;
              active = rw (all.rest.nodes MARK (omega arith) refl, all.rest.nodes ACTIVE (omega arith) refl) b.active;
              all = b.all;
              search = any_root 0 g.search;
              have = have_more all (g.keeps.more r r_fits one);
            },
          )

-- nothing is seen at the start
pub between_none : {n m k : ℕ} {w : List ℕ} → AdjacencyLists n m w → ((i : ℕ) → i < k → (node ACTIVE w i < n) × (0 < node MARK w (node ACTIVE w i))) → k ≤ n
    → ((u : ℕ) → u < n → node POSITION w u ≡ 0) → BetweenTrees n m k w 0 0
between_none {n} {m} {k} {w} g a l z = record {
  lists = g;
  active = a;
  all = l;
  search = record {
    some = omega arith;
    count = count_none (node POSITION w) n z;
    place = λ i q. absurd (omega arith);
    place_of = λ u i q. absurd (no u i q);
    kind = λ u i q. absurd (no u i q);
    first = λ u i q. absurd (no u i q);
    marked = λ u i q. absurd (no u i q);
    pending = λ u i q. absurd (no u i q);
    out = λ h i q r. absurd (omega arith);
  };
  have = λ i q. absurd (omega arith);
}
  where
    no : (u : ℕ) → u < n → 0 < node POSITION w u → ⊥
    no u i q = omega (arith, z u i)

-- the search has ended: a forest
pub forest_of : {n m seen r : ℕ} {w : List ℕ} → AdjacencyLists n m w → SearchAt n m w seen seen r → ForestAt n m w
unfolding origin
forest_of {n} {m} {seen} {r} {w} g s = record {
  ends = g.ends;
  one = λ u v i j p e. sym (s.place_of u i p).1 ∙ ap (λ k. node ORDER w (k - 1)) e ∙ (s.place_of v j (omega arith)).1;
  kind = s.kind;
  first = λ u i p. (s.first u i p).1;
  over = λ e l p.
      let q : to (twin (2 * e + 1)) ≡ to (2 * e) = ap to (twin_odd e) in
      let o = s.out (2 * e + 1) (omega arith) (rw q p) (s.place_of (to (twin (2 * e + 1))) (rw q (g.ends (2 * e) (omega arith))) (rw q p)).0 in
      (o.0, sym (o.1 ∙ ap (node ROOT w) q));
  back = λ e l p.
      let q : to (twin (2 * e)) ≡ to (2 * e + 1) = ap to (twin_even e) in
      (s.out (2 * e) (omega arith) (rw q p) (s.place_of (to (twin (2 * e))) (rw q (g.ends (2 * e + 1) (omega arith))) (rw q p)).0).0;
}
  where
    to : ℕ → ℕ
    to = half n TO w
