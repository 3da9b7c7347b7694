-- The words from one call of `reduce` to the next: what each call asks for follows from what those before it ensure, and at the end the reduced graph stands in the words.
-- Assumes nothing.
use Prim.Native.Nat.{◌*◌, ◌+◌, ◌-◌, ◌<◌, ◌≤◌, ℕ}
use mathlib.Core.Bool.{cond, false, true}
use mathlib.Core.List.{List, Memᴰ, [], ◌∷◌}
use mathlib.Core.Logic.{inl}
use mathlib.Core.Path.{◌∙◌, ◌≡◌, ap, ap₂, refl, subst, sym}
use lib.Dec.{ltb}
use lib.ListN.{get_or, length}
use native.Mathlib.Omega.{arith}
use borrow.Author.Tests.{lt-ltb, ltb-false, ltb-true}
use Rattle.theory_graph.proofs.Booleans.{on_bool}
use Rattle.theory_graph.proofs.Ends.{ends_in_mem}
use Rattle.theory_graph.proofs.Lists.{mem_member, member_mem, table_in, table_length, table_mem}
use Rattle.theory_graph.proofs.TableLaws.{table_equal}
use Rattle.theory_graph.specs.Graph.{Edge, NodeSet}
use Rattle.theory_graph.specs.Lists.{filter, member, table}
use Rattle.theory_graph.specs.SmallGraph.{different}
use Rattle.theory_names.specs.Names.{plain}
use Rattle.theory_junctions.proofs.SameColourings.{Covers, reply_same, same_edges, same_trans}
use Rattle.theory_junctions.proofs.Written.{written_few, written_same, written_size}
use Rattle.theory_junctions.specs.Blocks.{Blocks}
use Rattle.theory_junctions.specs.Colouring.{Same}
use Rattle.theory_junctions.specs.Reply.{read_reply, reply}
use Rattle.core_words.proofs.ChangeLaws.{only_more, only_past, only_then}
use Rattle.core_words.specs.Changes.{OnlyFields}
use Rattle.core_words.specs.Clearing.{Cleared}
use Rattle.core_words.specs.Fields.{ACTIVE, BRANCH, HEAD, LIVE, MAPPED, MARK, NUMBER, ORDER, OTHER, TO, TOP, half, node}
use Rattle.core_forest.proofs.AdjacencyLaws.{linking_past}
use Rattle.core_forest.specs.AdjacencyLists.{AdjacencyLists, Linking}
use Rattle.core_forest.specs.Forest.{ForestAt, edges_below}
use Rattle.core_forest.specs.Search.{BetweenTrees, SearchKeeps, search_fields}
use Rattle.core_blocks.proofs.SearchedForest.{below_edge, edge_below}
use Rattle.core_blocks.specs.Classes.{BlocksMerged}
use Rattle.core_cycles.proofs.CycleLaws.{active_low, count_own, covers_written, edges_most, ends_low, node_of, numbers_are, own_distinct, own_listed, written_only}
use Rattle.core_cycles.proofs.NumberingLaws.{counting_done}
use Rattle.core_cycles.specs.BlocksIn.{CanCount, Counting, LAST}
use Rattle.core_cycles.specs.Numbering.{CanNumber, Numbering, numbered}
use Rattle.core_cycles.specs.Writing.{CanMap, Mapping, Writing, edges_to}
use Rattle.core_reduce.proofs.ReduceLaws.{act₂, mark₂, plain_in_words}
use Rattle.core_reduce.specs.Core.{active_in, edges_in, start_fields}
use Rattle.core_block_reduce.proofs.BlocksFound.{blocks_at}
use Rattle.core_block_reduce.proofs.ReadLaws.{distinct_count, read_few, table_distinct}
use Rattle.theory_junctions.specs.ReducedGraph.{most_edges, most_junctions}
use Rattle.core_block_reduce.specs.Core.{BlocksReduced, CanReduce, edges_behind}

module _ {n m k : ℕ} {w₀ w₁ w₂ : List ℕ} (r : CanReduce n m k w₀) (c : Cleared start_fields n n w₀ w₁) (q : Linking n m w₁ w₂ (2 * m) × AdjacencyLists n m w₂)
    {seen : ℕ} {w₃ : List ℕ} (f : SearchKeeps n w₂ w₃ × BetweenTrees n m k w₃ seen k × ForestAt n m w₃) {w₄ : List ℕ} (b : BlocksMerged n m w₃ w₄) where
  found : OnlyFields (TOP ∷ search_fields) n w₂ w₄
  found = only_then (only_more search_fields refl f.0.rest) (only_more (TOP ∷ []) refl b.rest)

  marks₃ : (v : ℕ) → v < n → 0 < node MARK w₃ v → (i : ℕ) × (i < k) × (node ACTIVE w₃ i ≡ v)
  marks₃ v l p =
      let z : node MARK w₃ v ≡ node MARK w₀ v = ap (λ g. g v) (f.0.rest.nodes MARK (omega arith) refl) ∙ mark₂ r.loaded c q v l in
      let (i, h, e) = r.loaded.marks v l (subst (λ (x : ℕ). 0 < x) z p) in
      (i, h, ap (λ g. g i) (f.0.rest.nodes ACTIVE (omega arith) refl) ∙ act₂ r.loaded c q i h ∙ e)

  -- a field that was cleared and is none of the search's is 0 still
  still_zero : (j : ℕ) → j < 16 → ¬ (j ≡ HEAD) → member (TOP ∷ search_fields) j ≡ false → member start_fields j ≡ true → (v : ℕ) → v < n → node j w₄ v ≡ 0
  still_zero j i ne o z v l = ap (λ f. f v) (found.nodes j i o) ∙ q.0.nodes j i ne v l ∙ c.zero j i z v l

  length₄ : length w₄ ≡ length w₀
  length₄ = found.same ∙ q.0.same ∙ c.rest.same

  pub count_can : CanCount n m k seen w₄
  count_can = record {
    few = r.loaded.few;
    room = omega (arith, r.room, length₄);
    blocks = blocks_at f.1 f.2 marks₃ b;
    none = λ v l. (still_zero LIVE (omega arith) (λ e. omega arith) refl refl v l, still_zero BRANCH (omega arith) (λ e. omega arith) refl refl v l);
  }

  module _ {w₅ : List ℕ} (d : Counting n m k seen 0 w₄ w₅) where
    pub number_can : CanNumber n m k seen w₅
    number_can = record {
      few = r.loaded.few;
      room = omega (arith, r.room, length₄, d.rest.same);
      counted = counting_done d;
      none = λ v l. ap (λ g. g v) (d.rest.nodes LAST (omega arith) refl) ∙ still_zero OTHER (omega arith) (λ e. omega arith) refl refl v l;
    }

    module _ {h : ℕ} {w₆ : List ℕ} (u : Numbering n m k seen seen h w₅ w₆) where
      length₆ : length w₆ ≡ length w₀
      length₆ = u.rest.same ∙ d.rest.same ∙ length₄

      -- from the beginning to here
      ends_same : half n TO w₆ ≡ half n TO w₀
      ends_same = u.rest.halves TO ∙ d.rest.halves TO ∙ found.halves TO ∙ q.0.tos ∙ c.rest.halves TO

      act₆ : (i : ℕ) → i < k → node ACTIVE w₆ i ≡ node ACTIVE w₀ i
      act₆ i l = ap (λ g. g i) (u.rest.nodes ACTIVE (omega arith) refl ∙ d.rest.nodes ACTIVE (omega arith) refl ∙ found.nodes ACTIVE (omega arith) refl) ∙ act₂ r.loaded c q i l

      actives_same : table (node ACTIVE w₆) 0 k ≡ active_in k w₀
      actives_same = table_equal (node ACTIVE w₆) (node ACTIVE w₀) 0 k (λ i _ l. act₆ i (omega (arith, l)))

      module _ {e : ℕ} {w₇ : List ℕ} (x : Writing n m seen w₆ w₇ e) where
        act₇ : (i : ℕ) → i < k → node ACTIVE w₇ i ≡ node ACTIVE w₀ i
        act₇ i l = x.nodes ACTIVE (omega arith) i (omega (arith, l, r.loaded.less)) ∙ act₆ i l

        pub map_can : CanMap n k w₇
        map_can = record {
          few = r.loaded.few;
          room = omega (arith, r.room, x.same, length₆);
          less = r.loaded.less;
          active = λ i l. omega (arith, act₇ i l, r.loaded.active i l);
        }

        module _ {w₈ : List ℕ} (y : Mapping n w₇ k w₈) where
          abbrev number : ℕ → ℕ
          number = node NUMBER w₆

          abbrev H : List Edge
          H = edges_to w₆ seen

          abbrev K₆ : NodeSet
          K₆ = member (table (node ACTIVE w₆) 0 k)

          abbrev E₆ : List Edge
          E₆ = edges_below (half n TO w₆) m

          abbrev B₆ : Blocks E₆
          B₆ = u.numbers.counted.is.blocks

          abbrev rel₆ : NodeSet
          rel₆ = u.numbers.counted.is.rel

          abbrev order₆ : List ℕ
          order₆ = table (node ORDER w₆) 0 seen

          behind : edges_behind n m e w₈ ≡ H
          behind = ap (λ (g : ℕ → ℕ). table (λ j. (g (2 * (m + j)), g (2 * (m + j) + 1))) 0 e) (y.rest.halves TO) ∙ x.edges

          -- the graph given, as the search reads it
          in_below : Covers E₆ (plain (edges_in n m w₀))
          in_below p s o ne =
              let (j, l, e) = table_mem (λ j. (half n TO w₀ (2 * j), half n TO w₀ (2 * j + 1))) 0 m (p, s) (subst (λ (G : List Edge). Memᴰ (p, s) G) (plain_in_words n m w₀) o) in
              inl (subst (λ (a : Edge). Memᴰ a E₆) (sym (e ∙ ap (λ (g : ℕ → ℕ). (g (2 * j), g (2 * j + 1))) (sym ends_same))) (below_edge (half n TO w₆) m j (omega arith)))

          below_in : Covers (plain (edges_in n m w₀)) E₆
          below_in p s o ne =
              let (j, l, a, z) = edge_below (half n TO w₆) m p s o in
              inl (subst (λ (G : List Edge). Memᴰ (p, s) G) (sym (plain_in_words n m w₀))
              (subst (λ (a : Edge). Memᴰ a (table (λ j. (half n TO w₀ (2 * j), half n TO w₀ (2 * j + 1))) 0 m)) (sym (ap₂ (λ a z. (a, z)) a z ∙ ap (λ (g : ℕ → ℕ). (g (2 * j), g (2 * j + 1))) ends_same))
              (table_in (λ j. (half n TO w₀ (2 * j), half n TO w₀ (2 * j + 1))) 0 m j (omega arith) (omega arith))))

          given_same : Same K₆ (plain (edges_in n m w₀)) (λ v. v) E₆ (λ v. v)
          given_same = same_edges K₆ (λ v. v) (plain (edges_in n m w₀)) E₆ in_below below_in

          written : Same K₆ E₆ (λ v. v) H number
          written = written_same E₆ B₆ K₆ rel₆ order₆ u.numbers.counted.is.search u.numbers.counted.is.relevance number (node_of u.numbers) (numbers_are u.numbers) H
              (covers_written u.numbers) (λ p s o ne. inl (written_only u.numbers p s o))

          alike : Same (member (active_in k w₀)) (plain (edges_in n m w₀)) (λ v. v) (edges_behind n m e w₈) number
          alike =
              subst (λ (S : List ℕ). Same (member S) (plain (edges_in n m w₀)) (λ v. v) (edges_behind n m e w₈) number) actives_same
              (subst (λ (G : List Edge). Same K₆ (plain (edges_in n m w₀)) (λ v. v) G number) (sym behind) (same_trans K₆ (plain (edges_in n m w₀)) (λ v. v) E₆ (λ v. v) H number given_same written))

          -- an active node here is one there
          active₆ : (v : ℕ) → member (active_in k w₀) v ≡ true → K₆ v ≡ true
          active₆ v a = ap (λ (S : List ℕ). member S v) actives_same ∙ a

          count_edges : e ≡ length H
          count_edges = sym (table_length (λ j. (half n TO w₈ (2 * (m + j)), half n TO w₈ (2 * (m + j) + 1))) 0 e) ∙ ap (λ (G : List Edge). length G) behind

          -- ---- how many
          different_k : different (table (node ACTIVE w₆) 0 k) ≡ k
          different_k =
              ap different actives_same ∙ distinct_count (active_in k w₀) (table_distinct (node ACTIVE w₀) 0 k apart) ∙ table_length (node ACTIVE w₀) 0 k
            where
              apart : (i j : ℕ) → 0 ≤ i → i < j → j < 0 + k → ¬ (node ACTIVE w₀ i ≡ node ACTIVE w₀ j)
              apart i j z l g a = omega (arith, l, r.loaded.marked i (omega (arith, l, g)), r.loaded.marked j (omega (arith, g)), ap (node MARK w₀) a)

          abbrev own₆ : List ℕ
          own₆ = filter (numbered B₆ K₆ rel₆ order₆) order₆

          sizes : (h ≤ most_junctions k) × (e ≤ most_edges k)
          sizes = on_bool (ltb k 2)
              (λ t.
              let (a, z) = written_few E₆ B₆ (table (node ACTIVE w₆) 0 k) rel₆ order₆ u.numbers.counted.is.search u.numbers.counted.is.relevance (let l = ltb-true k 2 t in omega (arith, l, different_k)) own₆ (own_distinct u.numbers) (own_listed u.numbers) in
              let i : most_junctions k ≡ k = ap (λ t. cond t k (3 * k - 3)) t in
              let j : most_edges k ≡ 0 = ap (λ t. cond t 0 (4 * k - 6)) t in
              (omega (arith, a, i, different_k, count_own u.numbers), omega (arith, z, j, count_edges, edges_most u.numbers)))
              (λ t.
              let (a, z) = written_size E₆ B₆ (table (node ACTIVE w₆) 0 k) rel₆ order₆ u.numbers.counted.is.search u.numbers.counted.is.relevance (let l = ltb-false k 2 t in omega (arith, l, different_k)) own₆ (own_distinct u.numbers) (own_listed u.numbers) in
              let i : most_junctions k ≡ 3 * k - 3 = ap (λ t. cond t k (3 * k - 3)) t in
              let j : most_edges k ≡ 4 * k - 6 = ap (λ t. cond t 0 (4 * k - 6)) t in
              (omega (arith, a, i, different_k, count_own u.numbers), omega (arith, z, j, different_k, count_edges, edges_most u.numbers)))

          -- the active nodes given are k different ones
          active_k : different (active_in k w₀) ≡ k
          active_k = sym (ap different actives_same) ∙ different_k

          -- ---- the reply of two
          read : k ≤ 2 → (a z : ℕ) → member (active_in k w₀) a ≡ true → member (active_in k w₀) z ≡ true → reply (plain (edges_in n m w₀)) a z ≡ read_reply (edges_behind n m e w₈) (number a) (number z)
          read l a z ka kz =
              reply_same K₆ (plain (edges_in n m w₀)) (λ v. v) E₆ (λ v. v) given_same a z (active₆ a ka) (active₆ z kz)
              ∙ read_few E₆ B₆ rel₆ order₆ number (node_of u.numbers) H (node ACTIVE w₆) k l u.numbers.counted.is.search u.numbers.counted.is.relevance (numbers_are u.numbers)
              (covers_written u.numbers) (written_only u.numbers) a z (member_mem (table (node ACTIVE w₆) 0 k) a (active₆ a ka)) (member_mem (table (node ACTIVE w₆) 0 k) z (active₆ z kz))
              ∙ ap (λ (G : List Edge). read_reply G (number a) (number z)) (sym behind)

          past : (i : ℕ) → 28 * n + 6 * m ≤ i → get_or w₈ i 0 ≡ get_or w₀ i 0
          past i l =
              let g : 16 * n ≤ i = omega arith in
              only_past y.rest i g ∙ x.past i l ∙ only_past u.rest i g ∙ only_past d.rest i g ∙ only_past found i g ∙ linking_past q.0 i (omega (arith, l)) ∙ only_past c.rest i g

          pub blocks_reduced : BlocksReduced n m k w₀ w₈ h e
          blocks_reduced = record {
            same = y.rest.same ∙ x.same ∙ length₆;
            past = past;
            number = number;
            numbers = λ i l.
                let a = r.loaded.active i l in
                ap (node MAPPED w₈) (sym (act₇ i l)) ∙ y.numbers i l ∙ ap (node NUMBER w₇) (act₇ i l) ∙ x.nodes NUMBER (omega arith) (node ACTIVE w₀ i) a;
            active = active_k;
            graph = record {
              same = alike;
              place = λ v a. active_low u.numbers v (active₆ v (mem_member v (active_in k w₀) a));
              inside = ends_in_mem (λ v. ltb v h) (edges_behind n m e w₈) (λ p s o.
                  let (a, z) = ends_low u.numbers p s (subst (λ (G : List Edge). Memᴰ (p, s) G) behind o) in
                  (lt-ltb p h a, lt-ltb s h z));
              nodes = subst (λ (k : ℕ). h ≤ most_junctions k) (sym active_k) sizes.0;
              edges = subst (λ (k : ℕ). length (edges_behind n m e w₈) ≤ most_edges k) (sym active_k) (omega (arith, sizes.1, count_edges, ap (λ (G : List Edge). length G) behind));
              read = λ l a z ka kz. read (omega (arith, l, active_k)) a z (mem_member a (active_in k w₀) ka) (mem_member z (active_in k w₀) kz);
            };
          }
