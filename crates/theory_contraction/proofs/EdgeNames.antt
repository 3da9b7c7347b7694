-- Document 02, No. 5, of every accepted contraction: each edge of the small graph has the smallest name along the route that it stands for, and two entries
-- hang on the same name in the graph given and, by the map, in the small one.
-- Assumes nothing.
use Prim.Native.Nat.{◌<◌, ◌≤◌, ℕ}
use mathlib.Core.Bool.{true}
use mathlib.Core.List.{List, Memᴰ, [], ◌∷◌, append-nil, map}
use mathlib.Core.Path.{◌∙◌, ◌≡◌, ap, ap₂, refl, subst, sym}
use lib.ListN.{get_or, length, length-map, replicate, take}
use native.Mathlib.Omega.{arith}
use Rattle.theory_contraction.proofs.Acceptance.{Accepted, accepted_faultless, contraction_done, entries_at, entries_below, entries_length, entries_table}
use Rattle.theory_contraction.proofs.Acceptance.{named_below, named_contract, named_contract_edges, sound}
use Rattle.theory_contraction.proofs.Pieces.{done_edges, map_at, over_take, pairs_ends}
use Rattle.theory_contraction.specs.Contraction.{Lent, contraction, done, edges, entries, fault, faults, lent, named_edges, required}
use Rattle.theory_contraction.specs.EdgeNames.{NamesTell, class_of, small_named}
use Rattle.theory_graph.proofs.EdgeCount.{small_edges_entries}
use Rattle.theory_graph.proofs.SmallGraphDefinition.{definition_small}
use Rattle.theory_graph.proofs.TableLaws.{over_length, over_past, table_get_or, table_map}
use Rattle.theory_graph.specs.Contraction.{Contracted, contract, kept, kept_classes, linked, number, parts, third, without}
use Rattle.theory_graph.specs.Graph.{answer, joined, removals, rep, two_edge}
use Rattle.theory_graph.specs.Lists.{pairs}
use Rattle.theory_names.proofs.NamedContraction.{contract_is_named_small, contract_map}
use Rattle.theory_names.proofs.NamedTransfer.{small_transfer}
use Rattle.theory_names.proofs.Trails.{edge_trail}
use Rattle.theory_names.specs.NamedSmallGraph.{IsNamedSmallGraph}
use Rattle.theory_names.specs.Names.{Entry, Named, class_node, contract_named, hangs, plain}

-- ---- an example: edges 0-1, 1-2, 2-1 and 2-3 with the names 7, 2, 4 and 5; the loss of one edge between 1 and 2 parts nothing, so that 0 and 3 hang on 5
spliced : Lent
spliced =
    lent 4 4 2 (0 ∷ 1 ∷ 2 ∷ 2 ∷ []) (1 ∷ 2 ∷ 1 ∷ 3 ∷ []) (7 ∷ 2 ∷ 4 ∷ 5 ∷ []) (0 ∷ 3 ∷ []) (replicate 2 9) (replicate 4 9) (replicate 4 9) (replicate 4 9) (replicate 2 9) (replicate (required 4 4) 7)

example : (contraction spliced).out_names ≡ 5 ∷ 9 ∷ 9 ∷ 9 ∷ []
unfolding spliced contraction fault faults done edges named_edges entries contract_named class_node hangs answer contract kept_classes kept parts without linked third two_edge removals joined rep
example = refl

-- ---- every accepted contraction
module _ (l : Lent) (s : Accepted l) where
  -- the graph given, its contraction with names and without, and the number of an entry's class
  abbrev given : Named
  given = named_edges l

  abbrev named : Named
  named = contract_named l.n given (entries l)

  abbrev unnamed : Contracted
  unnamed = contract l.n (plain given) (entries l)

  abbrev number_of : ℕ → ℕ
  number_of = number l.n (plain given) (entries l)

  small : IsNamedSmallGraph given (entries l) unnamed.nodes named (class_of l) number_of
  small = contract_is_named_small l.n given (entries l) (named_below l s) (entries_below l s)

  -- ---- the tables hold the contraction with names
  abbrev names : List ℕ
  names = map (λ (e : Entry). e.1) named

  names_count : length names ≡ (done l).edges
  unfolding done
  names_count = length-map named (λ (e : Entry). e.1) ∙ sym (length-map named (λ (e : Entry). e.0)) ∙ ap length (named_contract_edges l s)

  names_taken : take (done l).edges (done l).out_names ≡ names
  unfolding done
  names_taken = over_take names l.out_names (done l).edges (sym names_count)

  done_named : small_named (done l) ≡ named
  unfolding small_named
  done_named = ap₂ pairs (done_edges l ∙ sym (named_contract_edges l s)) names_taken ∙ pairs_ends named

  -- ---- what the map gives an entry is the number of its class
  number_at : (i : ℕ) → i < l.k → get_or (done l).map i 0 ≡ number_of (get_or l.active i 0)
  number_at i j =
      map_at l s i j
      ∙ ap (λ (c : Contracted). get_or c.map i 0) (sym (named_contract l s))
      ∙ ap (λ (xs : List ℕ). get_or xs i 0)
      (contract_map l.n given (entries l) ∙ ap (map number_of) (entries_table l s) ∙ table_map number_of (λ i. get_or l.active i 0) 0 l.k)
      ∙ table_get_or (λ i. number_of (get_or l.active i 0)) l.k i j

  -- nothing is added to either graph
  small_hangs : (x y : ℕ) → Memᴰ x (entries l) → Memᴰ y (entries l) → hangs given x y ≡ hangs named (number_of x) (number_of y)
  small_hangs x y mx my =
      ap (λ (G : Named). hangs G x y) (sym (append-nil given))
      ∙ (small_transfer given (entries l) unnamed.nodes named (class_of l) number_of small [] refl x y mx my).1
      ∙ ap (λ (H : Named). hangs H (number_of x) (number_of y)) (append-nil named)

  -- ---- the names out
  names_room : length names ≤ length l.out_names
  names_room = omega (
    arith,
    length-map named (λ (e : Entry). e.1),
    length-map named (λ (e : Entry). e.0),
    small_edges_entries (plain given) (entries l) unnamed.nodes (plain named) (class_of l) number_of
        (definition_small (plain given) (entries l) unnamed.nodes (plain named) (class_of l) number_of small.small),
    entries_length l s,
    s.long.out_names_length,
  )

  done_long : length (done l).out_names ≡ length l.out_names
  unfolding done
  done_long = over_length names l.out_names names_room

  done_later : (i : ℕ) → (done l).edges ≤ i → get_or (done l).out_names i 0 ≡ get_or l.out_names i 0
  unfolding done
  done_later i j = over_past names l.out_names i (omega (arith, names_count))

  in_named : (e : Entry) → Memᴰ e (small_named (done l)) → Memᴰ e named
  in_named e m = subst (λ (H : Named). Memᴰ e H) done_named m

  done_names_tell : NamesTell l (done l)
  done_names_tell = record {
    edges = ap plain done_named ∙ named_contract_edges l s ∙ sym (done_edges l);
    parts = λ e m. small.name e.0.0 e.0.1 e.1 (in_named e m);
    along = λ e m T t. edge_trail given (entries l) unnamed.nodes named (class_of l) number_of small e.0.0 e.0.1 e.1 (in_named e m) T t;
    same = λ i j li lj. rw (number_at i li, number_at j lj, done_named)
        (small_hangs (get_or l.active i 0) (get_or l.active j 0) (entries_at l s i li) (entries_at l s j lj));
    long = done_long;
    later = done_later;
  }

-- the theorem
pub accepted_names : (l : Lent) → (contraction l).accepted ≡ true → NamesTell l (contraction l)
accepted_names l a = let z = accepted_faultless l a in subst (NamesTell l) (sym (contraction_done l z)) (done_names_tell l (sound l z))
