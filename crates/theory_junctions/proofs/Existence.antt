-- Every graph has a reduced graph at every active list: the one that specs/Reduce computes from the blocks of a spanning forest.
-- In order: where at most two are active, two different ones are all of them; the reply read off; the sizes; the theorem.
-- Assumes nothing.
use Prim.Native.Nat.{◌*◌, ◌-◌, ◌≤◌, ℕ}
use mathlib.Core.Bool.{cond}
use mathlib.Core.List.{List, Memᴰ, [], ◌∷◌}
use mathlib.Core.Path.{◌∙◌, ◌≡◌, ap, fun_ext, subst, sym}
use lib.Dec.{ltb}
use lib.ListN.{length}
use native.Mathlib.Omega.{arith}
use borrow.Author.Tests.{lt-ltb, ltb-false, ltb-true}
use Rattle.theory_graph.proofs.ActiveLists.{in_firsts}
use Rattle.theory_graph.proofs.Booleans.{bool_iff, on_bool}
use Rattle.theory_graph.proofs.Ends.{ends_in_mem}
use Rattle.theory_graph.proofs.Lists.{mem_member, member_mem, three_in}
use Rattle.theory_graph.proofs.SpanningForest.{on_eq}
use Rattle.theory_graph.specs.Graph.{Edge, NodeSet}
use Rattle.theory_graph.specs.Lists.{member}
use Rattle.theory_graph.specs.SmallGraph.{different}
use Rattle.theory_junctions.proofs.Query.{reduced_few}
use Rattle.theory_junctions.proofs.ReadOut.{read_equal, reply_equal}
use Rattle.theory_junctions.proofs.ReduceLaws.{class_list, relevance, shared_list}
use Rattle.theory_junctions.proofs.Reduced.{image_length}
use Rattle.theory_junctions.proofs.ReducedGraphs.{small_below, small_ends, small_query, small_same, small_size}
use Rattle.theory_junctions.proofs.SpanningForests.{searched_blocks}
use Rattle.theory_junctions.specs.Blocks.{Blocks, merged_to}
use Rattle.theory_junctions.specs.Classes.{reduced_graph}
use Rattle.theory_junctions.specs.Reduce.{Relevance, Search, classes_in, relevant_to, roots_in, shared_in, small_graph, small_junctions, small_number, written_edges}
use Rattle.theory_junctions.specs.ReducedGraph.{HasReducedGraph, IsReducedGraph, most_edges, most_junctions}
use Rattle.theory_junctions.specs.Reply.{read_reply, reply}

-- ---- where at most two are active, two different ones are all of them
two_all : (S : List ℕ) → different S ≤ 2 → (x y : ℕ) → Memᴰ x S → Memᴰ y S → ¬ (x ≡ y) → member S ≡ member (x ∷ y ∷ [])
two_all S l x y mx my n =
    fun_ext (λ z. bool_iff (member S z) (member (x ∷ y ∷ []) z) (λ h. mem_member z (x ∷ y ∷ []) (there z (member_mem S z h))) (λ h. mem_member z S (back z (member_mem (x ∷ y ∷ []) z h))))
  where
    there : (z : ℕ) → Memᴰ z S → Memᴰ z (x ∷ y ∷ [])
    there z m = on_eq z x Memᴰ.head λ a. on_eq z y (λ e. Memᴰ.tail (Memᴰ.head e)) λ b.
        absurd (omega (arith, l, three_in (in_firsts S z m) (in_firsts S x mx) (in_firsts S y my) a n b))

    back : (z : ℕ) → Memᴰ z (x ∷ y ∷ []) → Memᴰ z S
    back z (Memᴰ.head e) = subst (λ (s : ℕ). Memᴰ s S) (sym e) mx
    back z (Memᴰ.tail (Memᴰ.tail x9)) = elim x9 [ ]
    back z (Memᴰ.tail (Memᴰ.head e)) = subst (λ (s : ℕ). Memᴰ s S) (sym e) my

module _ (E : List Edge) (B : Blocks E) (S order : List ℕ) (T : Search E B (member S) order) where
  abbrev rel : NodeSet
  rel = relevant_to B S

  W : Relevance E B (member S) rel
  W = relevance E B S

  abbrev vs : List ℕ
  vs = shared_in B (member S) rel order

  abbrev J : List ℕ
  J = small_junctions B (member S) rel order

  abbrev H : List Edge
  H = small_graph B (member S) rel order

  abbrev ν : ℕ → ℕ
  ν = small_number B (member S) rel order

  -- ---- the reply read off
  read : different S ≤ 2 → (x y : ℕ) → Memᴰ x S → Memᴰ y S → reply E x y ≡ read_reply H (ν x) (ν y)
  read l x y mx my =
      on_eq x y
      (λ e.
      ap (reply E x) (sym e) ∙ reply_equal E x ∙ sym (read_equal H (ν x)) ∙ ap (λ u. read_reply H (ν x) (ν u)) e)
      λ n.
      subst (λ (K : NodeSet). Search E B K order → Relevance E B K rel → reply E x y ≡ read_reply (small_graph B K rel order) (small_number B K rel order x) (small_number B K rel order y))
      (sym (two_all S l x y mx my n)) (small_query E B x y rel order) T W

  -- ---- the sizes
  sizes : (length J ≤ most_junctions (different S)) × (length H ≤ most_edges (different S))
  sizes = let k = different S in on_bool (ltb k 2)
      (λ t.
      let l : k ≤ 1 = omega (arith, ltb-true k 2 t) in
      let (a, z) = reduced_few E B S (roots_in B order) (classes_in B rel order) (class_list E B (member S) rel order T W) vs (shared_list E B (member S) rel order T W) l in
      let i : most_junctions k ≡ k = ap (λ t. cond t k (3 * k - 3)) t in
      (omega (arith, a, i), omega (arith, z, image_length ν (reduced_graph B (member S) (classes_in B rel order) vs), image_length (merged_to B vs) (written_edges B (member S) rel order))))
      (λ t.
      let (a, z) = small_size E B S rel order T W (ltb-false k 2 t) in
      let i : most_junctions k ≡ 3 * k - 3 = ap (λ t. cond t k (3 * k - 3)) t in
      let j : most_edges k ≡ 4 * k - 6 = ap (λ t. cond t 0 (4 * k - 6)) t in
      (omega (arith, a, i), omega (arith, z, j)))

  reduced_small : IsReducedGraph E S (length J) H ν
  reduced_small = record {
    same = small_same E B (member S) rel order T W;
    place = λ a m. small_below E B (member S) rel order T W a (mem_member a S m);
    inside = ends_in_mem (λ v. ltb v (length J)) H (λ p q m. let (a, b) = small_ends E B (member S) rel order T W p q m in (lt-ltb p (length J) a, lt-ltb q (length J) b));
    nodes = sizes.0;
    edges = sizes.1;
    read = read;
  }

-- ---- the theorem
pub reduced_graph_lem : (E : List Edge) (S : List ℕ) → HasReducedGraph E S
reduced_graph_lem E S = let (B, order, T) = searched_blocks E S in (_, _, _, reduced_small E B S order T)
