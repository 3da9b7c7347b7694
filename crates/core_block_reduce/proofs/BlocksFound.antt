-- The blocks of theory_junctions stand in the words once the search and the merging are done.
-- Assumes nothing.
use Prim.Native.Nat.{◌<◌, ℕ}
use mathlib.Core.Bool.{◌&&◌, not, true}
use mathlib.Core.List.{List, Memᴰ}
use mathlib.Core.Logic.{◌⊎◌, inl, inr}
use mathlib.Core.Path.{◌∙◌, ◌≡◌, ap, refl, subst, sym}
use lib.Dec.{eqb, ltb}
use native.Mathlib.Omega.{arith}
use borrow.Author.Tests.{lt-ltb, ltb-true}
use Rattle.theory_graph.proofs.Booleans.{and_elim, bool_iff}
use Rattle.theory_graph.proofs.Lists.{mem_member, member_mem, table_in, table_mem}
use Rattle.theory_graph.specs.Lists.{member, table}
use Rattle.theory_junctions.proofs.PathMergingLaws.{merged_blocks, paths_all}
use Rattle.theory_junctions.proofs.ReduceLaws.{relevance}
use Rattle.theory_junctions.specs.Blocks.{Blocks}
use Rattle.theory_junctions.specs.PathMerging.{PathsMerged}
use Rattle.theory_junctions.specs.Reduce.{Search, relevant_to}
use Rattle.core_forest.proofs.SearchLaws.{seen_less}
use Rattle.core_forest.specs.Forest.{ForestAt, HasParent, Root, edges_below}
use Rattle.core_forest.specs.Search.{BetweenTrees}
use Rattle.core_words.specs.Fields.{ACTIVE, EDGE, MARK, ORDER, PARENT, POSITION, ROOT, TO, TOP, half, node}
use Rattle.core_blocks.proofs.SearchedForest.{on_seen, searched, searched_forest, seen_is}
use Rattle.core_blocks.specs.Classes.{BlocksMerged, firsts_below}
use Rattle.core_blocks.specs.SearchSets.{seen_by}
use Rattle.core_cycles.specs.BlocksIn.{BlocksAt, BlocksBy}

module _ {n m k seen : ℕ} {w : List ℕ} (g : BetweenTrees n m k w seen k) (f : ForestAt n m w)
    (marks : (v : ℕ) → v < n → 0 < node MARK w v → (i : ℕ) × (i < k) × (node ACTIVE w i ≡ v)) (top : ℕ → ℕ) (firsts : (u : ℕ) → u < n → top u ≡ firsts_below n w m u) where
  abbrev to : ℕ → ℕ
  to = half n TO w

  abbrev pos : ℕ → ℕ
  pos = node POSITION w

  abbrev par : ℕ → ℕ
  par = node PARENT w

  abbrev te : ℕ → ℕ
  te = node EDGE w

  abbrev S : List ℕ
  S = table (node ACTIVE w) 0 k

  merged : PathsMerged (edges_below to m) (searched_forest n m to pos par te (node ROOT w) f) (edges_below to m) (firsts_below n w m)
  unfolding searched_forest
  merged = paths_all (edges_below to m) (searched_forest n m to pos par te (node ROOT w) f) (edges_below to m) (λ p q i. i)

  unfoldable blocks : Blocks (edges_below to m)
  blocks = merged_blocks (edges_below to m) (searched_forest n m to pos par te (node ROOT w) f) (firsts_below n w m) merged

  search : Search (edges_below to m) blocks (member S) (table (node ORDER w) 0 seen)
  unfolding blocks
  search = searched n m to pos par te (node ROOT w) f (node MARK w) (node ORDER w) (node ACTIVE w) seen k g.search (λ i l. ((g.active i l).0, g.have i l)) marks (firsts_below n w m) merged

  seen_place : (i : ℕ) → i < seen → seen_by n pos (node ORDER w i) ≡ true
  seen_place i l = let (a, e) = g.search.place i l in seen_is n m to pos par te (node ROOT w) f (node ORDER w i) a (omega (arith, e))

  child_is : (i : ℕ) → i < seen → blocks.child (node ORDER w i) ≡ not (eqb (te (node ORDER w i)) 0)
  unfolding blocks merged_blocks searched_forest
  child_is i l = ap (λ x. x && not (eqb (te (node ORDER w i)) 0)) (seen_place i l)

  child_fit : (v : ℕ) → blocks.child v ≡ true → v < n
  unfolding blocks merged_blocks searched_forest
  child_fit v c = and_elim (seen_by n pos v) (not (eqb (te v) 0)) c λ s t. on_seen n m to pos par te (node ROOT w) f v s λ a b. a

  parent_is : (v : ℕ) → blocks.par v ≡ par v
  unfolding blocks merged_blocks searched_forest
  parent_is v = refl

  first_is : (v : ℕ) → blocks.first v ≡ firsts_below n w m v
  unfolding blocks merged_blocks searched_forest
  first_is v = refl

  parent_fit : (i : ℕ) → i < seen → par (node ORDER w i) < n
  parent_fit i l = let (a, e) = g.search.place i l in go a (f.kind (node ORDER w i) a (omega (arith, e)))
    where
      go : node ORDER w i < n → Root par te (node ROOT w) (node ORDER w i) ⊎ HasParent n m to pos par te (node ROOT w) (node ORDER w i) → par (node ORDER w i) < n
      go a (inl r) = subst (λ (u : ℕ). u < n) (sym r.self) a
      go a (inr h) = h.fit

  pub blocks_by : BlocksBy n m k seen to (node ACTIVE w) (node ORDER w) te par top (node MARK w)
  blocks_by = record {
    blocks = blocks;
    rel = relevant_to blocks S;
    search = search;
    relevance = relevance (edges_below to m) blocks S;
    less = seen_less g.search;
    placed = λ i l. (g.search.place i l).0;
    child = child_is;
    child_fit = child_fit;
    parent = parent_is;
    parent_fit = parent_fit;
    first = λ v l. first_is v ∙ sym (firsts v l);
    marks = λ v l. bool_iff (member S v) (ltb 0 (node MARK w v))
        (λ h. let (i, b, e) = table_mem (node ACTIVE w) 0 k v (member_mem S v h) in lt-ltb 0 (node MARK w v) (subst (λ (u : ℕ). 0 < node MARK w u) (sym e) (g.active i (omega arith)).1))
        (λ h. let (i, b, e) = marks v l (ltb-true 0 (node MARK w v) h) in mem_member v S (subst (λ (u : ℕ). Memᴰ u S) e (table_in (node ACTIVE w) 0 k i (omega arith) (omega arith))));
  }

-- the same after the merging
pub blocks_at : {n m k seen : ℕ} {w w' : List ℕ} → BetweenTrees n m k w seen k → ForestAt n m w → ((v : ℕ) → v < n → 0 < node MARK w v → (i : ℕ) × (i < k) × (node ACTIVE w i ≡ v)) → BlocksMerged n m w w'
    → BlocksAt n m k seen w'
blocks_at {w' = w'} g f marks b =
    rw (
      b.rest.halves TO,
      b.rest.nodes ACTIVE (omega arith) refl,
      b.rest.nodes ORDER (omega arith) refl,
      b.rest.nodes EDGE (omega arith) refl,
      b.rest.nodes PARENT (omega arith) refl,
      b.rest.nodes MARK (omega arith) refl,
    ) (blocks_by g f marks (node TOP w') b.firsts)
