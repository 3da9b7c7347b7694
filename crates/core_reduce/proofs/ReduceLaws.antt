-- The words from one call of `reduce` to the next: what each call asks for follows from what those before it ensure, and at the end the small graph stands
-- in the words.
-- Assumes nothing.
use Prim.Native.Nat.{ℕ, ◌+◌, ◌-◌, ◌*◌, ◌<◌, ◌≤◌}
use mathlib.Core.Bool.{false, true}
use mathlib.Core.List.{List, [], ◌∷◌}
use mathlib.Core.Logic.{inl, inr, ⊎_elim}
use mathlib.Core.Path.{◌≡◌, ◌∙◌, ap, ap₂, refl, subst, sym}
use lib.Dec.{eqb}
use lib.ListN.{length, get_or}
use native.Mathlib.Omega.{arith}
use Rattle.core_branches.proofs.SmallForestLaws.{forest_small}
use Rattle.core_branches.specs.Classes.{CanNumberClasses, ClassNumbers}
use Rattle.core_branches.specs.SmallForest.{ParentPair, ParentPairs}
use Rattle.core_components.proofs.JoinLaws.{between_still}
use Rattle.core_components.specs.Components.{CanMergeComponents, Components}
use Rattle.core_names.proofs.ChildNames.{child_hangs}
use Rattle.core_names.specs.EdgeNames.{CanNameEdges, ChildEnd, NamingEdges}
use Rattle.core_reduce.proofs.EdgeOrder.{canonical_cuts_equal, edges_cut}
use Rattle.core_reduce.proofs.PieceLaws.{root_below, root_joined}
use Rattle.core_words.specs.Clearing.{Cleared}
use Rattle.core_reduce.specs.Core.{start_fields}
use Rattle.core_reduce.specs.Core.{Loaded, Reduced, active_in, edges_in, edges_out}
use Rattle.core_reduce.specs.EdgeList.{CanList, EdgePair, EdgesListed, edge_table, list_fields}
use Rattle.core_reduce.specs.Numbers.{CanWrite, WritingNumbers}
use Rattle.core_forest.proofs.AdjacencyLaws.{linking_past}
use Rattle.core_forest.proofs.SearchLaws.{between_none, seen_less}
use Rattle.core_forest.specs.AdjacencyLists.{AdjacencyLists, Linking}
use Rattle.core_forest.specs.Forest.{ForestAt, edges_below}
use Rattle.core_forest.specs.Search.{BetweenTrees, SearchKeeps, search_fields}
use Rattle.theory_graph.proofs.CutEquivalence.{small_cuts_equal}
use Rattle.theory_graph.proofs.Lists.{table_in, table_mem}
use Rattle.theory_graph.proofs.SmallGraphDefinition.{definition_small, small_definition}
use Rattle.theory_graph.proofs.TableLaws.{table_equal, table_map}
use Rattle.theory_graph.specs.Cut.{cut}
use Rattle.theory_graph.specs.Graph.{NodeSet, joined}
use Rattle.theory_graph.specs.Lists.{member, table}
use Rattle.theory_graph.specs.SmallGraph.{Canonical, IsSmallGraph}
use Rattle.theory_names.specs.NamedSmallGraph.{IsNamedSmallGraph}
use Rattle.theory_names.specs.Names.{Entry, hangs, plain}
use Rattle.core_words.proofs.ChangeLaws.{only_more, only_past, only_then}
use Rattle.core_words.specs.Changes.{OnlyFields}
use Rattle.core_words.specs.Fields.{ABOVE, ACTIVE, BRANCH, HEAD, LEAST, LIVE, LOWER, MAPPED, MARK, MEMBER, NAME, NAMED, NUMBER, OTHER, POSITION, ROOT, TO, TOP, UPPER, half, node}

-- the listed edges are the pairs of a number and its parent
edge_pair : {h : ℕ} (up : ℕ → ℕ) (i j : ℕ) → EdgePair h up i j → (i < j) × (j < h) × ParentPair up i j
edge_pair up i j = ⊎_elim (λ c. (c.0, c.1, inr c.2)) (λ c. (c.0, c.1, inl c.2))

listed_pairs : {n h e : ℕ} {a w : List ℕ} → EdgesListed n h a w e → ParentPairs h (node ABOVE a) (edge_table (node LOWER w) (node UPPER w) 0 e)
listed_pairs {a = a} l = record {
  ascends = l.ascends;
  edge = λ i j m. edge_pair (node ABOVE a) i j (l.is i j m);
  listed = λ i j p q. ⊎_elim (λ u. l.all i j (inr (p, q, u))) (λ u. l.all i j (inl (p, q, u)));
}

-- the edges in the words without their names
pub plain_in_words : (n m : ℕ) (w : List ℕ) → plain (edges_in n m w) ≡ table (λ e. (half n TO w (2 * e), half n TO w (2 * e + 1))) 0 m
plain_in_words n m w = table_map (λ (e : Entry). e.0) (λ e. ((half n TO w (2 * e), half n TO w (2 * e + 1)), half n NAME w (2 * e))) 0 m

plain_out : (e : ℕ) (w : List ℕ) → plain (edges_out e w) ≡ edge_table (node LOWER w) (node UPPER w) 0 e
plain_out e w = table_map (λ (e : Entry). e.0) (λ j. ((node LOWER w j, node UPPER w j), node NAMED w j)) 0 e

module _ {n m k : ℕ} {w₀ : List ℕ} (s : Loaded n m k w₀) where
  module _ {w₁ : List ℕ} (c : Cleared start_fields n n w₀ w₁) where
    module _ {w₂ : List ℕ} (q : Linking n m w₁ w₂ (2 * m) × AdjacencyLists n m w₂) where
      pub act₂ : (i : ℕ) → i < k → node ACTIVE w₂ i ≡ node ACTIVE w₀ i
      act₂ i l = q.0.nodes ACTIVE (omega arith) (λ e. omega arith) i (omega (arith, s.less)) ∙ ap (λ f. f i) (c.rest.nodes ACTIVE (omega arith) refl)

      pub mark₂ : (v : ℕ) → v < n → node MARK w₂ v ≡ node MARK w₀ v
      mark₂ v l = q.0.nodes MARK (omega arith) (λ e. omega arith) v l ∙ ap (λ f. f v) (c.rest.nodes MARK (omega arith) refl)

      actives : (i : ℕ) → i < k → (node ACTIVE w₂ i < n) × (0 < node MARK w₂ (node ACTIVE w₂ i))
      actives i l = rw (act₂ i l) (s.active i l, rw (mark₂ (node ACTIVE w₀ i) (s.active i l), s.marked i l) (omega arith))

      pub can_search : BetweenTrees n m k w₂ 0 0
      can_search = between_none q.1 actives s.less (λ u l. q.0.nodes POSITION (omega arith) (λ e. omega arith) u l ∙ c.zero POSITION (omega arith) refl u l)

      module _ {seen : ℕ} {w₃ : List ℕ} (f : SearchKeeps n w₂ w₃ × BetweenTrees n m k w₃ seen k × ForestAt n m w₃) where
        pub can_merge_components : CanMergeComponents n m seen w₃
        can_merge_components = record {
          few = s.few;
          much = omega (arith, s.much);
          room = f.1.lists.room;
          forest = f.2;
          less = seen_less f.1.search;
          place = f.1.search.place;
          place_of = f.1.search.place_of;
        }

        module _ {w₄ : List ℕ} (p : Components n m w₃ w₄) where
          found : OnlyFields (TOP ∷ search_fields) n w₂ w₄
          found = only_then (only_more search_fields refl f.0.rest) (only_more (TOP ∷ []) refl p.rest)

          f0 : node MARK w₄ ≡ node MARK w₂
          f0 = found.nodes MARK (omega arith) refl

          f1 : node ACTIVE w₄ ≡ node ACTIVE w₂
          f1 = found.nodes ACTIVE (omega arith) refl

          -- a field that was cleared and is none of the search's is 0 still
          still_zero : (j : ℕ) → j < 16 → ¬ (j ≡ HEAD) → member (TOP ∷ search_fields) j ≡ false → member start_fields j ≡ true → (v : ℕ) → v < n → node j w₄ v ≡ 0
          still_zero j i ne o z v l = ap (λ f. f v) (found.nodes j i o) ∙ q.0.nodes j i ne v l ∙ c.zero j i z v l

          pub can_number_classes : CanNumberClasses n m k seen w₄
          can_number_classes = record {
            search = between_still p.rest f.1;
            forest = p.forest;
            final = p.final;
            marks = rw (f0, f1) (λ v l b. let (j, i, e) = s.marks v l (subst (λ (x : ℕ). 0 < x) (mark₂ v l) b) in (j, i, act₂ j i ∙ e));
            none = λ v l. (
              still_zero LIVE (omega arith) (λ e. omega arith) refl refl v l,
              still_zero BRANCH (omega arith) (λ e. omega arith) refl refl v l,
              still_zero OTHER (omega arith) (λ e. omega arith) refl refl v l,
              still_zero NUMBER (omega arith) (λ e. omega arith) refl refl v l,
            );
          }

          module _ {h : ℕ} {w₅ : List ℕ} (d : ClassNumbers n m k w₄ h w₅) where
            ends_same : half n TO w₄ ≡ half n TO w₀
            ends_same = found.halves TO ∙ q.0.tos ∙ c.rest.halves TO

            names_same : half n NAME w₄ ≡ half n NAME w₀
            names_same = found.halves NAME ∙ q.0.names ∙ c.rest.halves NAME

            act₄ : (i : ℕ) → i < k → node ACTIVE w₄ i ≡ node ACTIVE w₀ i
            act₄ i l = ap (λ f. f i) f1 ∙ act₂ i l

            actives_same : table (node ACTIVE w₄) 0 k ≡ active_in k w₀
            actives_same = table_equal (node ACTIVE w₄) (node ACTIVE w₀) 0 k (λ i _ l. act₄ i (omega arith))

            cuts : (U : NodeSet) → cut U (plain (edges_in n m w₀)) ≡ cut U (edges_below (half n TO w₀) m)
            cuts U = ap (cut U) (plain_in_words n m w₀) ∙ sym (edges_cut U (half n TO w₀) m)

            -- LEAST of the child of two numbers
            child_name : (i j x : ℕ) → i < h → j < h → ParentPair (node ABOVE w₅) i j → ChildEnd (node ABOVE w₅) i j x
                → node LEAST w₅ x ≡ hangs (edges_in n m w₀) (node MEMBER w₅ i) (node MEMBER w₅ j)
            child_name = child_hangs can_number_classes d (edges_in n m w₀) (rw ends_same cuts)
                (rw (ends_same, names_same) (λ e l. table_in (λ e. ((half n TO w₀ (2 * e), half n TO w₀ (2 * e + 1)), half n NAME w₀ (2 * e))) 0 m e (omega arith) (omega arith)))

            room₅ : 16 * n ≤ length w₅
            room₅ = omega (arith, s.room, d.rest.same, found.same, q.0.same, c.rest.same)

            pub can_list : CanList n h w₅
            can_list = record { few = s.few; room = room₅; less = d.less; fits = d.forest.up_fit }

            module _ {e : ℕ} {w₆ : List ℕ} (l : EdgesListed n h w₅ w₆ e) where
              -- the ends of an edge out
              ends : (j : ℕ) → j < e → (node LOWER w₆ j < h) × (node UPPER w₆ j < h) × ParentPair (node ABOVE w₅) (node LOWER w₆ j) (node UPPER w₆ j)
              ends j b =
                  let (i, u, p) = edge_pair (node ABOVE w₅) (node LOWER w₆ j) (node UPPER w₆ j)
                  (l.is (node LOWER w₆ j) (node UPPER w₆ j) (table_in (λ j. (node LOWER w₆ j, node UPPER w₆ j)) 0 e j (omega arith) (omega arith))) in
                  (omega arith, u, p)

              pub can_name : CanNameEdges n e w₆
              can_name = record {
                few = s.few;
                room = rw l.rest.same room₅;
                most = omega (arith, l.most, d.less);
                ends = λ j b. let (i, u, _) = ends j b in (omega (arith, d.less), omega (arith, d.less));
              }

              module _ {w₇ : List ℕ} (z : NamingEdges n w₆ e w₇) where
                named : OnlyFields (NAMED ∷ list_fields) n w₅ w₇
                named = only_then (only_more list_fields refl l.rest) (only_more (NAMED ∷ []) refl z.rest)

                edge_name : (j : ℕ) → j < e → node NAMED w₇ j ≡ hangs (edges_in n m w₀) (node MEMBER w₅ (node LOWER w₆ j)) (node MEMBER w₅ (node UPPER w₆ j))
                edge_name j b =
                    let (i, u, r) = ends j b in
                    let (x, y, v) = z.names j b in
                    let y' : ChildEnd (node ABOVE w₅) (node LOWER w₆ j) (node UPPER w₆ j) x = rw (l.rest.nodes ABOVE (omega arith) refl) at y in
                    v ∙ ap (λ f. f x) (l.rest.nodes LEAST (omega arith) refl) ∙ child_name (node LOWER w₆ j) (node UPPER w₆ j) x i u r y'

                act₇ : (i : ℕ) → i < k → node ACTIVE w₇ i ≡ node ACTIVE w₀ i
                act₇ i b = ap (λ f. f i) (named.nodes ACTIVE (omega arith) refl ∙ d.rest.nodes ACTIVE (omega arith) refl) ∙ act₄ i b

                pub can_write : CanWrite n k w₇
                can_write = record {
                  room = rw (z.rest.same, l.rest.same) room₅;
                  less = s.less;
                  placed = λ i b.
                      let a : node ACTIVE w₇ i ≡ node ACTIVE w₄ i = ap (λ f. f i) (named.nodes ACTIVE (omega arith) refl ∙ d.rest.nodes ACTIVE (omega arith) refl) in
                      let o = d.placed i b in
                      record {
                        room = rw (z.rest.same, l.rest.same) room₅;
                        fit = rw a o.fit;
                        top_fit = rw (named.nodes TOP (omega arith) refl, a) o.top_fit;
                        some = rw (named.nodes NUMBER (omega arith) refl, named.nodes TOP (omega arith) refl, a) o.some;
                      };
                }

                small : IsSmallGraph (plain (edges_in n m w₀)) (active_in k w₀) h (edge_table (node LOWER w₆) (node UPPER w₆) 0 e) (node MEMBER w₅) (λ v. node NUMBER w₅ (node TOP w₅ v) - 1)
                small =
                    let g : IsSmallGraph (edges_below (half n TO w₀) m) (active_in k w₀) h (edge_table (node LOWER w₆) (node UPPER w₆) 0 e) (node MEMBER w₅) (λ v. node NUMBER w₅ (node TOP w₅ v) - 1) =
                    rw (ends_same, actives_same) at (forest_small d.forest (listed_pairs l)) in
                    small_definition _ _ _ _ _ _ (small_cuts_equal _ _ (λ U. sym (cuts U)) _ _ _ _ _ (definition_small _ _ _ _ _ _ g))

                low₇ : node LOWER w₇ ≡ node LOWER w₆
                low₇ = z.rest.nodes LOWER (omega arith) refl

                upp₇ : node UPPER w₇ ≡ node UPPER w₆
                upp₇ = z.rest.nodes UPPER (omega arith) refl

                named_small : IsNamedSmallGraph (edges_in n m w₀) (active_in k w₀) h (edges_out e w₇) (node MEMBER w₅) (λ v. node NUMBER w₅ (node TOP w₅ v) - 1)
                named_small = record {
                  small = rw (plain_out e w₇, low₇, upp₇) small;
                  name = λ i j x y.
                      let (t, b, r) = table_mem (λ j. ((node LOWER w₇ j, node UPPER w₇ j), node NAMED w₇ j)) 0 e ((i, j), x) y in
                      let ri : i ≡ node LOWER w₆ t = ap (λ (f : Entry). f.0.0) r ∙ ap (λ f. f t) low₇ in
                      let rj : j ≡ node UPPER w₆ t = ap (λ (f : Entry). f.0.1) r ∙ ap (λ f. f t) upp₇ in
                      ap (λ (f : Entry). f.1) r ∙ edge_name t (omega arith)
                      ∙ ap₂ (λ (u v : ℕ). hangs (edges_in n m w₀) (node MEMBER w₅ u) (node MEMBER w₅ v)) (sym ri) (sym rj);
                }

                canonical : Canonical (plain (edges_in n m w₀)) (active_in k w₀) h (node MEMBER w₅) (λ v. node NUMBER w₅ (node TOP w₅ v) - 1)
                canonical =
                    let g : Canonical (edges_below (half n TO w₀) m) (active_in k w₀) h (node MEMBER w₅) (λ v. node NUMBER w₅ (node TOP w₅ v) - 1) =
                    rw (ends_same, actives_same) at d.canonical in
                    canonical_cuts_equal (edges_below (half n TO w₀) m) (plain (edges_in n m w₀)) (λ U. sym (cuts U)) g

                module _ {w₈ : List ℕ} (t : WritingNumbers n w₇ k w₈) where
                  numbers : (i : ℕ) → i < k → node MAPPED w₈ (node ACTIVE w₀ i) ≡ node NUMBER w₅ (node TOP w₅ (node ACTIVE w₀ i)) - 1
                  numbers i b =
                      let e : node MAPPED w₈ (node ACTIVE w₇ i) ≡ node NUMBER w₅ (node TOP w₅ (node ACTIVE w₇ i)) - 1 =
                      rw (named.nodes NUMBER (omega arith) refl, named.nodes TOP (omega arith) refl) at (t.numbers i b) in
                      rw (act₇ i b) at e

                  root_same : node ROOT w₈ ≡ node ROOT w₄
                  root_same = t.rest.nodes ROOT (omega arith) refl ∙ named.nodes ROOT (omega arith) refl ∙ d.rest.nodes ROOT (omega arith) refl

                  -- an active node is seen
                  seen₄ : (i : ℕ) → i < k → 0 < node POSITION w₄ (node ACTIVE w₀ i)
                  seen₄ i b = subst (λ (v : ℕ). 0 < node POSITION w₄ v) (act₄ i b) ((between_still p.rest f.1).have i b)

                  roots : (i : ℕ) → i < k → node ROOT w₈ (node ACTIVE w₀ i) < n
                  roots i b = rw root_same (root_below p.forest (node POSITION w₄ (node ACTIVE w₀ i)) (node ACTIVE w₀ i) (omega arith) (s.active i b) (seen₄ i b))

                  pieces : (i j : ℕ) → i < k → j < k
                      → eqb (node ROOT w₈ (node ACTIVE w₀ i)) (node ROOT w₈ (node ACTIVE w₀ j)) ≡ joined (plain (edges_in n m w₀)) (node ACTIVE w₀ i) (node ACTIVE w₀ j)
                  pieces i j b c =
                      rw root_same
                      (root_joined p.forest (node ACTIVE w₀ i) (node ACTIVE w₀ j) (s.active i b) (s.active j c) (seen₄ i b) (seen₄ j c) (plain (edges_in n m w₀)) (rw ends_same (λ U. sym (cuts U))))

                  past : (i : ℕ) → 16 * n + 6 * m ≤ i → get_or w₈ i 0 ≡ get_or w₀ i 0
                  past i b =
                      let f : 16 * n ≤ i = omega arith in
                      only_past t.rest i f ∙ only_past named i f ∙ only_past d.rest i f ∙ only_past found i f ∙ linking_past q.0 i b ∙ only_past c.rest i f

                  pub reduced : Reduced n m k w₀ w₈ h e
                  reduced = record {
                    same = t.rest.same ∙ named.same ∙ d.rest.same ∙ found.same ∙ q.0.same ∙ c.rest.same;
                    past = past;
                    less = d.less;
                    ρ = node MEMBER w₅;
                    σ = λ v. node NUMBER w₅ (node TOP w₅ v) - 1;
                    small = rw (t.rest.nodes LOWER (omega arith) refl, t.rest.nodes UPPER (omega arith) refl, t.rest.nodes NAMED (omega arith) refl) named_small;
                    canonical = canonical;
                    numbers = numbers;
                    roots = roots;
                    pieces = pieces;
                  }
