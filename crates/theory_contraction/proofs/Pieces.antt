-- Document 02, No. 2, of every accepted contraction: its pieces tell which entries have answer 0, in the graph given and, by the map, in the small one.
-- Assumes nothing.
use Prim.Native.Nat.{◌<◌, ◌≤◌, ℕ}
use mathlib.Core.Bool.{true}
use mathlib.Core.List.{List, [], ◌∷◌, map}
use mathlib.Core.Path.{◌∙◌, ◌≡◌, ap, ap₂, refl, subst, sym}
use lib.ListN.{drop, get_or, length, length-map, replicate, take}
use lib.Seq.{take-append_seam}
use native.Mathlib.Omega.{arith}
use Rattle.theory_contraction.proofs.Acceptance.{Accepted, accepted_faultless, contraction_done, edges_below, entries_below, entries_length, entries_table, sound}
use Rattle.theory_contraction.specs.Contraction.{Lent, contraction, done, edges, entries, fault, faults, lent, required}
use Rattle.theory_contraction.specs.Pieces.{PiecesTell, small_edges}
use Rattle.theory_graph.proofs.Pieces.{contract_map_length, pieces_below, pieces_differ, pieces_differ_small, pieces_length, pieces_order, pieces_used}
use Rattle.theory_graph.proofs.TableLaws.{over_front, over_length, over_past, table_get_or}
use Rattle.theory_graph.specs.Contraction.{Contracted, contract}
use Rattle.theory_graph.specs.Graph.{Edge, joined, rep}
use Rattle.theory_graph.specs.Lists.{over, pairs}
use Rattle.theory_graph.specs.Pieces.{numbered, pieces}
use Rattle.theory_graph.specs.SmallGraph.{in_order}

-- ---- lists
pub over_take : (xs table : List ℕ) (k : ℕ) → k ≡ length xs → take k (over xs table) ≡ xs
over_take xs table k e = ap (λ (n : ℕ). take n (over xs table)) e ∙ take-append_seam xs (drop (length xs) table)

pub pairs_ends : {A B : Type 0} (E : List (A × B)) → pairs (map (λ (e : A × B). e.0) E) (map (λ (e : A × B). e.1) E) ≡ E
pairs_ends [] = refl
pairs_ends (e ∷ E) = ap (λ l. e ∷ l) (pairs_ends E)

-- ---- an example: edges 0-2 and 1-3; the entries 3, 0, 1, 2 meet the two pieces in turn, and node 3's is the first
two_pieces : Lent
two_pieces =
    lent 4 2 4 (0 ∷ 1 ∷ []) (2 ∷ 3 ∷ []) (5 ∷ 6 ∷ []) (3 ∷ 0 ∷ 1 ∷ 2 ∷ []) (replicate 4 9) (replicate 8 9) (replicate 8 9) (replicate 8 9) (replicate 5 9) (replicate (required 4 2) 7)

example : (contraction two_pieces).pieces ≡ 0 ∷ 1 ∷ 0 ∷ 1 ∷ 9 ∷ []
unfolding two_pieces contraction fault faults done edges entries pieces numbered joined rep
example = refl

-- ---- every accepted contraction
module _ (l : Lent) where
  abbrev result : Contracted
  result = contract l.n (edges l) (entries l)

  abbrev numbers : List ℕ
  numbers = pieces (edges l) (entries l)

  pub done_edges : small_edges (done l) ≡ result.edges
  unfolding small_edges done
  done_edges =
      let H = result.edges in
      ap₂ pairs
      (over_take (map (λ (e : Edge). e.0) H) _ (length H) (sym (length-map H (λ (e : Edge). e.0))))
      (over_take (map (λ (e : Edge). e.1) H) _ (length H) (sym (length-map H (λ (e : Edge). e.1))))
      ∙ pairs_ends H

  module _ (s : Accepted l) where
    entry_at_lem : (i : ℕ) → i < l.k → get_or (entries l) i 0 ≡ get_or l.active i 0
    entry_at_lem i j = ap (λ (xs : List ℕ). get_or xs i 0) (entries_table l s) ∙ table_get_or (λ i. get_or l.active i 0) l.k i j

    numbers_count : length numbers ≡ l.k
    numbers_count = pieces_length (edges l) (entries l) ∙ entries_length l s

    done_order : in_order 0 (take l.k (done l).pieces) ≡ true
    unfolding done
    done_order = ap (in_order 0) (over_take numbers l.pieces l.k (sym numbers_count)) ∙ pieces_order (edges l) (entries l)

    piece_at : (i : ℕ) → i < l.k → get_or (done l).pieces i 0 ≡ get_or numbers i 0
    unfolding done
    piece_at i j = over_front numbers l.pieces i (omega (arith, numbers_count))

    pub map_at : (i : ℕ) → i < l.k → get_or (done l).map i 0 ≡ get_or result.map i 0
    unfolding done
    map_at i j =
        over_front result.map l.map i
        (omega (arith, contract_map_length l.n (edges l) (entries l) (edges_below l s) (entries_below l s), entries_length l s))

    done_same : length (done l).pieces ≡ length l.pieces
    unfolding done
    done_same = over_length numbers l.pieces (omega (arith, numbers_count, s.long.pieces_length))

    done_later : (i : ℕ) → l.k ≤ i → get_or (done l).pieces i 0 ≡ get_or l.pieces i 0
    unfolding done
    done_later i j = over_past numbers l.pieces i (omega (arith, numbers_count))

    done_tells : PiecesTell l (done l)
    done_tells =
        let c = entries_length l s in
        record {
          in_given = λ i j li lj.
              rw (piece_at i li, piece_at j lj, ← (entry_at_lem i li), ← (entry_at_lem j lj)) (pieces_differ (edges l) (entries l) i j (omega arith) (omega arith));
          in_small = λ i j li lj. rw (piece_at i li, piece_at j lj, map_at i li, map_at j lj, done_edges)
              (pieces_differ_small l.n (edges l) (entries l) (edges_below l s) (entries_below l s) i j (omega arith) (omega arith));
          below = λ i li. rw (piece_at i li) (pieces_below (edges l) (entries l) i (omega arith));
          used = λ p lp. let (i, li, e) = pieces_used (edges l) (entries l) p lp in let b : i < l.k = omega arith in (i, b, piece_at i b ∙ e);
          order = done_order;
          same = done_same;
          later = done_later;
        }

  -- the theorem
  pub accepted_pieces : (contraction l).accepted ≡ true → PiecesTell l (contraction l)
  accepted_pieces a = let z = accepted_faultless l a in subst (PiecesTell l) (sym (contraction_done l z)) (done_tells (sound l z))
