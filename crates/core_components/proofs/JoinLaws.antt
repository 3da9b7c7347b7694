-- The words from one call of `merge_components` to the next.
-- Assumes nothing.
use Prim.Native.Nat.{◌<◌, ◌≤◌, ℕ}
use mathlib.Core.List.{List, [], ◌∷◌}
use mathlib.Core.Bool.{false}
use mathlib.Core.Path.{◌∙◌, ◌≡◌, refl}
use lib.Dec.{eqb, ltb}
use native.Mathlib.Omega.{arith}
use borrow.Author.Tests.{eqb-false, eqb-true, lt-ltb, ltb-true}
use Rattle.core_components.proofs.ComponentLaws.{class_same_top, same_top_class}
use Rattle.core_words.proofs.ChangeLaws.{only_then}
use Rattle.core_components.proofs.MergeLaws.{forest_still, order_of}
use Rattle.core_components.proofs.PathLaws.{seen_follows}
use Rattle.core_components.specs.Components.{CanMergeComponents, Components}
use Rattle.core_components.specs.Merging.{CanMerge, EdgesMerged, FinalTops}
use Rattle.core_components.specs.Tops.{CanCompress, Compressed, FollowsParents, OnlyTops, OwnTops, Stable, Tops}
use Rattle.core_forest.proofs.SearchLaws.{lists_still}
use Rattle.core_forest.specs.Forest.{ForestAt}
use Rattle.core_forest.specs.Search.{BetweenTrees}
use Rattle.theory_graph.proofs.Booleans.{on_bool}
use Rattle.theory_graph.specs.Lists.{member}
use Rattle.theory_graph.specs.Graph.{NodeSet}
use Rattle.core_words.specs.Fields.{ACTIVE, EDGE, MARK, ORDER, PARENT, POSITION, ROOT, TO, TOP, half, node}

-- the search, where only the tops change
pub between_still : {n m k seen j : ℕ} {a b : List ℕ} → OnlyTops n a b → BetweenTrees n m k a seen j → BetweenTrees n m k b seen j
between_still {n} {m} {k} {seen} {j} {a} {b} o g = record {
  lists = lists_still refl o g.lists;
  active = rw (at MARK (omega arith) refl, at ACTIVE (omega arith) refl) g.active;
  all = g.all;
  search = rw (
    o.halves TO,
    at MARK (omega arith) refl,
    at ORDER (omega arith) refl,
    at POSITION (omega arith) refl,
    at PARENT (omega arith) refl,
    at ROOT (omega arith) refl,
    at EDGE (omega arith) refl,
  ) g.search;
  have = rw (at ACTIVE (omega arith) refl, at POSITION (omega arith) refl) g.have;
}
  where
    at : (j : ℕ) → j < 16 → member (TOP ∷ []) j ≡ false → node j b ≡ node j a
    at = o.nodes

module _ {n m s : ℕ} {w₁ w₂ : List ℕ} (g : CanMergeComponents n m s w₁) (o : OwnTops n n w₁ w₂) where
  pub can_merge : CanMerge n m w₂
  can_merge = record { few = g.few; much = g.much; room = rw o.rest.same g.room; forest = forest_still o.rest g.forest; self = o.self }

  module _ {w₃ : List ℕ} (t : EdgesMerged n m w₂ m w₃) where
    all : OnlyTops n w₁ w₃
    all = only_then o.rest t.rest

    pub can_compress : CanCompress n s w₃
    can_compress = record {
      few = g.few;
      room = omega (arith, all.same, g.room);
      less = g.less;
      tops = rw (t.rest.nodes POSITION (omega arith) refl) t.tops;
      place = rw (all.nodes ORDER (omega arith) refl, all.nodes POSITION (omega arith) refl) g.place;
      place_of = rw (all.nodes ORDER (omega arith) refl, all.nodes POSITION (omega arith) refl) g.place_of;
    }

    pub components : {w₄ : List ℕ} → Compressed n s w₃ w₄ → Components n m w₁ w₄
    components {w₄} q = record { rest = every; forest = forest; final = final; same = same_top_class forest final; back = class_same_top forest final }
      where
        every : OnlyTops n w₁ w₄
        every = only_then all q.rest

        forest : ForestAt n m w₄
        forest = forest_still every g.forest

        late : OnlyTops n w₂ w₄
        late = only_then t.rest q.rest

        k4 : node POSITION w₃ ≡ node POSITION w₂
        k4 = t.rest.nodes POSITION (omega arith) refl

        tops : Tops n (node POSITION w₂) (node TOP w₄)
        tops = rw k4 at q.tops

        con : (D : NodeSet) → FollowsParents n (node PARENT w₂) (node TOP w₄) D → FollowsParents n (node PARENT w₂) (node TOP w₃) D
        con D c u i ne = c u i (λ e. ne (q.back u i e))

        full : (D : NodeSet) → FollowsParents n (node PARENT w₂) (node TOP w₄) D → Stable n (node TOP w₄) D
        full D c = q.keep D (t.full D (con D c))

        low : (u : ℕ) → u < n → node POSITION w₃ u ≤ s
        low u i = on_bool (eqb (node POSITION w₃ u) 0) (λ r. omega (arith, eqb-true (node POSITION w₃ u) 0 r))
            (λ r. let ne : ¬ (node POSITION w₃ u ≡ 0) = eqb-false (node POSITION w₃ u) 0 r in (can_compress.place_of u i (omega arith)).0)

        final₂ : FinalTops n m (half n TO w₂) (node POSITION w₂) (node PARENT w₂) (node EDGE w₂) (node TOP w₄)
        final₂ = record {
          tops = tops;
          flat = λ u i. q.flat u i (low u i);
          seen = λ u i p. ltb-true 0 (node POSITION w₂ (node TOP w₄ u))
              (full (λ v. ltb 0 (node POSITION w₂ v))
              (seen_follows n (node POSITION w₂) (node PARENT w₂) (node ROOT w₂) (order_of can_merge.forest) 0 0 (node TOP w₄) (node TOP w₄) tops) u i
              ∙ lt-ltb 0 (node POSITION w₂ u) p);
          sound = λ U c. q.keep U (t.sound U c);
          full = full;
          done = λ D c. t.done D (con D c);
        }

        final : FinalTops n m (half n TO w₄) (node POSITION w₄) (node PARENT w₄) (node EDGE w₄) (node TOP w₄)
        final = rw (late.halves TO, late.nodes POSITION (omega arith) refl, late.nodes PARENT (omega arith) refl, late.nodes EDGE (omega arith) refl) final₂
