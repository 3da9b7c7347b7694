-- The words from one call of `number_classes` to the next.
-- Assumes nothing.
use Prim.Native.Nat.{◌*◌, ◌<◌, ◌≤◌, ℕ}
use mathlib.Core.List.{List, [], ◌∷◌}
use mathlib.Core.Logic.{⊎_elim}
use mathlib.Core.Path.{◌∙◌, ◌≡◌, ap, refl, subst, sym}
use lib.Dec.{eqb, ltb}
use lib.ListN.{length}
use native.Mathlib.Omega.{arith}
use borrow.Author.Tests.{eqb-false, eqb-true, ltb-false, ltb-true}
use Rattle.core_branches.proofs.SmallForestOf.{root_place, small_canonical, small_forest}
use Rattle.core_branches.proofs.WayLaws.{ParentNumbers, nearest, nearest_numbers, parent_numbers}
use Rattle.core_branches.specs.BranchCounts.{Branches, CanCount, Counting, TreeOrderAt}
use Rattle.core_branches.specs.Classes.{CanNumberClasses, ClassNumbers, class_fields}
use Rattle.core_branches.specs.Numbers.{NumberingActives, NumberingOthers, OtherNumbers}
use Rattle.core_branches.specs.Ways.{CanSetParents, ParentLoop, ParentWays, WayTree}
use Rattle.core_forest.proofs.Counting.{count_le}
use Rattle.core_forest.proofs.SearchLaws.{seen_less}
use Rattle.theory_graph.proofs.Booleans.{on_bool}
use Rattle.core_words.proofs.ChangeLaws.{only_more, only_then}
use Rattle.core_words.specs.Changes.{OnlyFields}
use Rattle.core_words.specs.Fields.{ABOVE, ACTIVE, BRANCH, EDGE, LEAST, LIVE, MEMBER, NAME, NUMBER, ORDER, OTHER, PARENT, POSITION, TOP, half, node}

module _ {n m k seen : ℕ} {w₀ : List ℕ} (s : CanNumberClasses n m k seen w₀) where
  pub few : n ≤ 65536
  few = s.search.lists.few

  pub room : 16 * n ≤ length w₀
  room = omega (arith, s.search.lists.room)

  par_fit : (u : ℕ) → u < n → 0 < node POSITION w₀ u → node PARENT w₀ u < n
  par_fit u l p = ⊎_elim (λ r. rw r.self l) (λ h. h.fit) (s.forest.kind u l p)

  par_seen : (u : ℕ) → u < n → 0 < node POSITION w₀ u → 0 < node POSITION w₀ (node PARENT w₀ u)
  par_seen u l p = ⊎_elim (λ r. rw r.self p) (λ h. h.seen) (s.forest.kind u l p)

  tree_order : TreeOrderAt n seen w₀
  tree_order = record {
    less = seen_less s.search.search;
    place = s.search.search.place;
    place_of = s.search.search.place_of;
    par_fit = par_fit;
    top_fit = s.final.tops.fit;
    up = λ u l p ne. ⊎_elim (λ r. absurd (ne r.none)) (λ h. over (node PARENT w₀ u) u h.fit h.up) (s.forest.kind u l p);
  }
    where
      over : (v u : ℕ) → v < n → node POSITION w₀ v < node POSITION w₀ u → node POSITION w₀ (node TOP w₀ v) < node POSITION w₀ u
      over v u l q = on_bool (eqb (node TOP w₀ v) v) (λ e. omega (arith, ap (node POSITION w₀) (eqb-true (node TOP w₀ v) v e)))
          (λ e. omega (arith, s.final.tops.up v l (eqb-false (node TOP w₀ v) v e)))

  tree_order_at : (w : List ℕ) → OnlyFields class_fields n w₀ w → TreeOrderAt n seen w
  tree_order_at w o = rw (
    o.nodes ORDER (omega arith) refl,
    o.nodes POSITION (omega arith) refl,
    o.nodes PARENT (omega arith) refl,
    o.nodes EDGE (omega arith) refl,
    o.nodes TOP (omega arith) refl,
  ) tree_order

  module _ {g : ℕ} {w₁ : List ℕ} (a : NumberingActives n k w₀ k g w₁) where
    rest₁ : OnlyFields class_fields n w₀ w₁
    rest₁ = only_more (LIVE ∷ NUMBER ∷ MEMBER ∷ []) refl a.rest

    pub can_count : CanCount n seen w₁
    can_count = record {
      few = few;
      room = rw a.rest.same room;
      tree = tree_order_at w₁ rest₁;
      none = λ t l. (rw (a.rest.nodes BRANCH (omega arith) refl) (s.none t l).1, rw (a.rest.nodes OTHER (omega arith) refl) (s.none t l).2);
    }

    module _ {w₂ : List ℕ} (b : Counting n seen w₁ 0 w₂) where
      rest₂ : OnlyFields class_fields n w₀ w₂
      rest₂ = only_then rest₁ (only_more (LIVE ∷ BRANCH ∷ OTHER ∷ []) refl b.rest)

      e6 : node TOP w₂ ≡ node TOP w₀
      e6 = rest₂.nodes TOP (omega arith) refl

      e10 : node NUMBER w₂ ≡ node NUMBER w₁
      e10 = b.rest.nodes NUMBER (omega arith) refl

      e11 : node MEMBER w₂ ≡ node MEMBER w₁
      e11 = b.rest.nodes MEMBER (omega arith) refl

      module _ {h : ℕ} {w₃ : List ℕ} (r : NumberingOthers n g w₂ n h w₃) where
        rest₃ : OnlyFields class_fields n w₀ w₃
        rest₃ = only_then rest₂ (only_more (NUMBER ∷ MEMBER ∷ []) refl r.rest)

        others : OtherNumbers n g n h (node POSITION w₀) (node TOP w₀) (node OTHER w₂) (node NUMBER w₁) (node NUMBER w₃) (node MEMBER w₁) (node MEMBER w₃)
        others = rw (rest₂.nodes POSITION (omega arith) refl, e6, e10, e11) at r.others

        rep_seen : (x : ℕ) → x < h → 0 < node POSITION w₀ (node MEMBER w₃ x)
        rep_seen x l = on_bool (ltb x g)
            (λ q.
            let p = ltb-true x g q in
            let (j, i, e) = a.actives.reps x p in
            subst (λ (v : ℕ). 0 < node POSITION w₀ v) (sym (others.old x p ∙ e)) (s.search.have j i))
            (λ q. let ne = (others.late x (omega (arith, ltb-false x g q)) l).1 in omega arith)

        fits : h ≤ n
        fits = omega (arith, count_le (node NUMBER w₃) n, others.numbers.count)

        -- the top of a number's class
        top_at : (x : ℕ) → x < h → (node TOP w₀ (node MEMBER w₃ x) < n) × (0 < node POSITION w₀ (node TOP w₀ (node MEMBER w₃ x)))
        top_at x l =
            let p = (others.numbers.place x l).0 in
            (s.final.tops.fit (node MEMBER w₃ x) p, s.final.seen (node MEMBER w₃ x) p (rep_seen x l))

        -- the class of an active node has a number
        active_number : (j : ℕ) → j < k → ¬ (node NUMBER w₃ (node TOP w₀ (node ACTIVE w₀ j)) ≡ 0)
        active_number j i z =
            let ne = a.actives.done j i in
            ne (sym (others.still (node TOP w₀ (node ACTIVE w₀ j)) ne) ∙ z)

        -- a root is active
        root_number : (c : ℕ) → c < n → 0 < node POSITION w₀ c → node TOP w₀ c ≡ c → node NUMBER w₃ c ≡ 0 → ¬ (node EDGE w₀ c ≡ 0)
        root_number c l p t z e =
            let (j, i, q) = root_place s.forest s.marks s.search.search.marked c l p e in
            active_number j i (ap (λ (v : ℕ). node NUMBER w₃ (node TOP w₀ v)) q ∙ ap (node NUMBER w₃) t ∙ z)

        way_tree : WayTree n m (node POSITION w₀) (node PARENT w₀) (node EDGE w₀) (node TOP w₀) (node NUMBER w₃)
        way_tree = record {
          edge_fit = λ c l p. ⊎_elim (λ r. omega (arith, r.none)) (λ t. omega (arith, t.is, t.less)) (s.forest.kind c l p);
          above = λ c l p ne.
              let b = par_fit c l p in
              record {
                par_fit = b;
                fit = s.final.tops.fit (node PARENT w₀ c) b;
                seen = s.final.seen (node PARENT w₀ c) b (par_seen c l p);
                flat = s.final.flat (node PARENT w₀ c) b;
                earlier = tree_order.up c l p ne;
              };
          no_root = root_number;
        }

        e5 : node PARENT w₃ ≡ node PARENT w₀
        e5 = rest₃.nodes PARENT (omega arith) refl

        t6 : node TOP w₃ ≡ node TOP w₀
        t6 = rest₃.nodes TOP (omega arith) refl

        e4 : node POSITION w₃ ≡ node POSITION w₀
        e4 = rest₃.nodes POSITION (omega arith) refl

        e13 : node EDGE w₃ ≡ node EDGE w₀
        e13 = rest₃.nodes EDGE (omega arith) refl

        pub can_parents : CanSetParents n m h w₃
        can_parents = record {
          few = few;
          less = fits;
          each = λ x l. record {
            few = few;
            much = s.search.lists.much;
            room = rw rest₃.same s.search.lists.room;
            tree = rw (e4, e5, e13, t6) way_tree;
            fit = omega (arith, fits);
            rep_fit = (others.numbers.place x l).0;
            top_fit = rw t6 (top_at x l).0;
            seen = rw (t6, e4) (top_at x l).1;
          };
        }

        module _ {w₄ : List ℕ} (u : ParentLoop n w₃ h w₄) where
          h6 : node TOP w₄ ≡ node TOP w₀
          h6 = u.rest.nodes TOP (omega arith) refl ∙ t6

          h10 : node NUMBER w₄ ≡ node NUMBER w₃
          h10 = u.rest.nodes NUMBER (omega arith) refl

          h11 : node MEMBER w₄ ≡ node MEMBER w₃
          h11 = u.rest.nodes MEMBER (omega arith) refl

          branches : Branches n (node POSITION w₀) (node PARENT w₀) (node EDGE w₀) (node TOP w₀) (node LIVE w₁) (node LIVE w₂) (node BRANCH w₂) (node OTHER w₂) 0
          branches = rw (
            rest₁.nodes POSITION (omega arith) refl,
            rest₁.nodes PARENT (omega arith) refl,
            rest₁.nodes EDGE (omega arith) refl,
            rest₁.nodes TOP (omega arith) refl,
          ) at b.branches

          ways : ParentWays h (half n NAME w₀) (node POSITION w₀) (node PARENT w₀) (node EDGE w₀) (node TOP w₀) (node NUMBER w₃) (node MEMBER w₃) (node ABOVE w₄) (node LEAST w₄)
          ways = rw (rest₃.halves NAME, e4, e5, e13, t6) at u.ways

          parents : ParentNumbers h (node PARENT w₀) (node EDGE w₀) (node TOP w₀) (nearest (half n NAME w₀) way_tree) (node MEMBER w₃) (node ABOVE w₄)
          parents = parent_numbers (half n NAME w₀) way_tree top_at ways

          pub class_numbers : ClassNumbers n m k w₀ h w₄
          class_numbers = record {
            forest = rw (h11, h10, h6) (small_forest s.forest s.final s.marks s.search.search.marked s.search.active s.search.have
                a.actives branches others (nearest_numbers (half n NAME w₀) way_tree) parents);
            canonical = rw (h11, h10, h6) (small_canonical s.forest s.final s.marks s.search.search.marked s.search.active s.search.have
                a.actives branches others (nearest_numbers (half n NAME w₀) way_tree) parents);
            less = fits;
            numbers = rw (h11, h10) others.numbers;
            seen = rw h11 rep_seen;
            tree = rw h10 way_tree;
            ways = rw (h11, h10) ways;
            placed = λ j i.
                let p = (s.search.active j i).0 in
                record {
                  room = rw (u.rest.same, rest₃.same) room;
                  fit = p;
                  top_fit = rw h6 (s.final.tops.fit (node ACTIVE w₀ j) p);
                  some = rw (h10, h6) (active_number j i);
                };
            rest = only_then rest₃ (only_more (ABOVE ∷ LEAST ∷ []) refl u.rest);
          }
