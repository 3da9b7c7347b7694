-- From the words to the outcome: the named small graph that the words hold is the contraction that the definition gives, with its names, and the tables
-- filled from them are those of the outcome.
-- Assumes nothing.
use Prim.Native.Nat.{◌*◌, ◌+◌, ◌<◌, ◌≤◌, zero, ℕ}
use mathlib.Core.List.{List, Memᴰ, map}
use mathlib.Core.Path.{◌∙◌, ◌≡◌, ap, refl, subst, sym}
use lib.Dec.{eqb}
use lib.ListN.{get_or, length, length-replicate, replicate}
use native.Mathlib.Omega.{arith}
use Rattle.theory_contraction.proofs.Acceptance.{Accepted, entries_at, entries_below, entries_length, entries_table, named_below, named_contract}
use Rattle.theory_contraction.proofs.Acceptance.{named_contract_edges, named_plain}
use Rattle.theory_graph.proofs.ActiveLists.{canonical_repeats, in_firsts}
use Rattle.theory_graph.proofs.Pieces.{numbered_map}
use Rattle.theory_graph.proofs.TableLaws.{over_equal, table_map}
use Rattle.theory_graph.proofs.Lists.{map_equal, table_in, table_length, table_mem}
use Rattle.theory_contraction.specs.Contraction.{Lent, done, edges, entries, named_edges, required}
use Rattle.contraction_tables.specs.Transfer.{CanNumber, Loadable, Prepared, TreesNumbered, roots_of}
use Rattle.call_contract.specs.Reply.{outcome}
use Rattle.std.specs.Prelude.{Ok}
use Rattle.core_reduce.specs.Core.{Reduced, active_in, edges_in, edges_out}
use Rattle.theory_graph.proofs.EdgeCount.{small_edges_entries, small_edges_most}
use Rattle.theory_graph.proofs.SmallGraphDefinition.{definition_small}
use Rattle.theory_graph.proofs.SmallGraphs.{SmallGraph}
use Rattle.theory_graph.specs.Contraction.{Contracted, contract}
use Rattle.theory_graph.specs.Graph.{Edge, joined}
use Rattle.theory_graph.specs.Lists.{firsts, over, table}
use Rattle.theory_graph.specs.Pieces.{numbered, pieces}
use Rattle.theory_graph.specs.SmallGraph.{Canonical}
use Rattle.theory_names.proofs.NamedCanonical.{named_contraction_one}
use Rattle.theory_names.proofs.NamedContraction.{named_small_repeats}
use Rattle.theory_names.proofs.NamedCuts.{plain_in}
use Rattle.theory_names.proofs.NamedSmallCuts.{named_small_sixteen}
use Rattle.theory_names.specs.NamedSmallGraph.{IsNamedSmallGraph}
use Rattle.theory_names.specs.Names.{Entry, Named, Sixteen, contract_named, plain}
use Rattle.core_words.specs.Fields.{ACTIVE, LOWER, MAPPED, NAME, NAMED, ROOT, TO, UPPER, half, node}

-- ---- the call
module _ (l : Lent) (s : Accepted l) where
  pub loadable : Loadable l.n l.m l.k l.from l.to l.names l.active l.work
  loadable = record {
    few = omega (arith, s.within.nodes);
    much = omega (arith, s.within.edges);
    room = omega (arith, s.long.work_length);
    from_length = s.long.from_length;
    to_length = s.long.to_length;
    names_length = s.long.names_length;
    active_length = s.long.active_length;
    ends = s.ends;
    entries = s.entries;
  }

  module _ {d h e : ℕ} {w w₂ : List ℕ} (p : Prepared l.n l.m l.k l.from l.to l.names l.active l.work w d) (r : Reduced l.n l.m d w w₂ h e) where
    given_edges : edges_in l.n l.m w ≡ named_edges l
    unfolding named_edges edges
    given_edges = p.edges

    given_plain : plain (edges_in l.n l.m w) ≡ edges l
    given_plain = ap plain given_edges ∙ named_plain l s

    given_active : active_in d w ≡ firsts eqb (entries l)
    unfolding entries
    given_active = p.actives

    small : IsNamedSmallGraph (named_edges l) (entries l) h (edges_out e w₂) r.ρ r.σ
    small = named_small_repeats (named_edges l) (entries l) h (edges_out e w₂) r.ρ r.σ
        (subst (λ (G : Named). IsNamedSmallGraph G (firsts eqb (entries l)) h (edges_out e w₂) r.ρ r.σ) given_edges
        (subst (λ (S : List ℕ). IsNamedSmallGraph (edges_in l.n l.m w) S h (edges_out e w₂) r.ρ r.σ) given_active r.small))

    canonical : Canonical (plain (named_edges l)) (entries l) h r.ρ r.σ
    canonical = canonical_repeats (entries l)
        (subst (λ (G : Named). Canonical (plain G) (firsts eqb (entries l)) h r.ρ r.σ) given_edges
        (subst (λ (S : List ℕ). Canonical (plain (edges_in l.n l.m w)) S h r.ρ r.σ) given_active r.canonical))

    -- without the names
    graph : SmallGraph (plain (named_edges l)) (entries l) h (plain (edges_out e w₂)) r.ρ r.σ
    graph = definition_small (plain (named_edges l)) (entries l) h (plain (edges_out e w₂)) r.ρ r.σ small.small

    -- the names given are 16-bit numbers
    given_sixteen : Sixteen (named_edges l)
    given_sixteen = subst Sixteen given_edges
        (λ x k.
        let (i, j, q) = table_mem (λ e. ((half l.n TO w (2 * e), half l.n TO w (2 * e + 1)), half l.n NAME w (2 * e))) 0 l.m x k in
        rw q (omega (arith, p.loaded.names i (omega arith))))

    -- an entry is one of the different active nodes
    active_at : (a : ℕ) → Memᴰ a (entries l) → (i : ℕ) × (i < d) × (a ≡ node ACTIVE w i)
    active_at a m =
        let (i, j, q) = table_mem (node ACTIVE w) 0 d a (subst (λ (xs : List ℕ). Memᴰ a xs) (sym given_active) (in_firsts (entries l) a m)) in
        (i, omega arith, q)

    -- MAPPED of an entry is its number
    number_at : (a : ℕ) → Memᴰ a (entries l) → node MAPPED w₂ a ≡ r.σ a
    number_at a m = let (i, j, q) = active_at a m in ap (node MAPPED w₂) q ∙ r.numbers i j ∙ ap r.σ (sym q)

    -- ---- what the fills ask
    pub words_length : length w₂ ≡ length l.work
    words_length = r.same ∙ p.same

    pub map_fits : (i : ℕ) → i < l.k → (get_or l.active i 0 < l.n) × (node MAPPED w₂ (get_or l.active i 0) < 65536)
    map_fits i j = (s.entries i j, omega (arith, number_at (get_or l.active i 0) (entries_at l s i j), (graph.place (get_or l.active i 0) (entries_at l s i j)).0, r.less, s.within.nodes))

    abbrev edge_out : ℕ → Entry
    edge_out i = ((node LOWER w₂ i, node UPPER w₂ i), node NAMED w₂ i)

    out_at : (i : ℕ) → i < e → Memᴰ (edge_out i) (edges_out e w₂)
    out_at i j = table_in edge_out 0 e i (omega arith) (omega arith)

    pub ends_fit : (i : ℕ) → i < e → (node LOWER w₂ i < 65536) × (node UPPER w₂ i < 65536)
    ends_fit i j =
        let q = graph.edge (node LOWER w₂ i) (node UPPER w₂ i) (plain_in (out_at i j)) in
        (omega (arith, q.0, q.1, r.less, s.within.nodes), omega (arith, q.1, r.less, s.within.nodes))

    pub names_fit : (i : ℕ) → i < e → node NAMED w₂ i < 65536
    names_fit i j = omega (arith, named_small_sixteen (named_edges l) (entries l) h (edges_out e w₂) r.ρ r.σ small given_sixteen (edge_out i) (out_at i j))

    plain_out : plain (edges_out e w₂) ≡ table (λ j. (node LOWER w₂ j, node UPPER w₂ j)) 0 e
    plain_out = table_map (λ (x : Entry). x.0) edge_out 0 e

    edges_length : length (plain (edges_out e w₂)) ≡ e
    edges_length = ap length plain_out ∙ table_length (λ j. (node LOWER w₂ j, node UPPER w₂ j)) 0 e

    edges_few : e ≤ l.n
    edges_few = omega (arith, edges_length, small_edges_most (plain (named_edges l)) (entries l) h (plain (edges_out e w₂)) r.ρ r.σ graph, r.less)

    edges_room : e ≤ 2 * l.k
    edges_room = omega (arith, edges_length, small_edges_entries (plain (named_edges l)) (entries l) h (plain (edges_out e w₂)) r.ρ r.σ graph, entries_length l s)

    -- of each field of the edges out
    pub can_fill : (j : ℕ) (out : List ℕ) → j < 16 → 2 * l.k ≤ length out → ((i : ℕ) → i < e → node j w₂ i < 65536)
        → (16 * e ≤ length w₂) × (e ≤ length out) × (j < 16) × ((i : ℕ) → i < e → node j w₂ i < 65536)
    can_fill j out b room fits = (omega (arith, words_length, s.long.work_length, edges_few), omega (arith, edges_room, room), b, fits)

    -- ---- what they give
    abbrev result : Contracted
    result = contract l.n (edges l) (entries l)

    abbrev named : Named
    named = contract_named l.n (named_edges l) (entries l)

    abbrev unnamed : Contracted
    unnamed = contract l.n (plain (named_edges l)) (entries l)

    -- the definition's contraction is the only named small graph so numbered
    the_one : (h ≡ unnamed.nodes) × (map r.σ (entries l) ≡ unnamed.map) × (edges_out e w₂ ≡ named)
    the_one = named_contraction_one l.n (named_edges l) (entries l) (named_below l s) (entries_below l s) h (edges_out e w₂) r.ρ r.σ small canonical

    result_nodes : h ≡ result.nodes
    result_nodes = the_one.0 ∙ ap (λ (c : Contracted). c.nodes) (named_contract l s)

    result_map : table (λ i. node MAPPED w₂ (get_or l.active i 0)) 0 l.k ≡ result.map
    result_map =
        sym (table_map (node MAPPED w₂) (λ i. get_or l.active i 0) 0 l.k) ∙ ap (map (node MAPPED w₂)) (sym (entries_table l s)) ∙ map_equal (node MAPPED w₂) r.σ (entries l) number_at
        ∙ the_one.1
        ∙ ap (λ (c : Contracted). c.map) (named_contract l s)

    result_edges : plain (edges_out e w₂) ≡ result.edges
    result_edges = ap plain the_one.2 ∙ named_contract_edges l s

    result_from : table (node LOWER w₂) 0 e ≡ map (λ (x : Edge). x.0) result.edges
    result_from = sym (table_map (λ (x : Edge). x.0) (λ j. (node LOWER w₂ j, node UPPER w₂ j)) 0 e) ∙ ap (map (λ (x : Edge). x.0)) (sym plain_out ∙ result_edges)

    result_to : table (node UPPER w₂) 0 e ≡ map (λ (x : Edge). x.1) result.edges
    result_to = sym (table_map (λ (x : Edge). x.1) (λ j. (node LOWER w₂ j, node UPPER w₂ j)) 0 e) ∙ ap (map (λ (x : Edge). x.1)) (sym plain_out ∙ result_edges)

    result_names : table (node NAMED w₂) 0 e ≡ map (λ (x : Entry). x.1) named
    result_names = sym (table_map (λ (x : Entry). x.1) edge_out 0 e) ∙ ap (map (λ (x : Entry). x.1)) the_one.2

    -- ---- the pieces: one root just where joined
    root_joined : (a b : ℕ) → Memᴰ a (entries l) → Memᴰ b (entries l) → joined (edges l) a b ≡ eqb (node ROOT w₂ a) (node ROOT w₂ b)
    root_joined a b ma mb =
        let (i, li, ei) = active_at a ma in
        let (j, lj, ej) = active_at b mb in
        rw (ei, ej) (ap (λ (E : List Edge). joined E (node ACTIVE w i) (node ACTIVE w j)) (sym given_plain) ∙ sym (r.pieces i j li lj))

    result_pieces : numbered eqb (roots_of l.k l.active w₂) ≡ pieces (edges l) (entries l)
    unfolding pieces
    result_pieces = sym (
        numbered_map (node ROOT w₂) (joined (edges l)) eqb (entries l) root_joined
        ∙ ap (λ (xs : List ℕ). numbered eqb (map (node ROOT w₂) xs)) (entries_table l s)
        ∙ ap (numbered eqb) (table_map (node ROOT w₂) (λ i. get_or l.active i 0) 0 l.k)
        )

    pub can_number : CanNumber l.n l.k l.active l.pieces w₂
    can_number = record {
      few = omega (arith, s.within.nodes);
      room = omega (arith, words_length, s.long.work_length);
      active_length = s.long.active_length;
      pieces_length = s.long.pieces_length;
      entries = λ i j. let (x, b, q) = active_at (get_or l.active i 0) (entries_at l s i j) in (s.entries i j, rw q (r.roots x b));
    }

    module _ {ps w₃ : List ℕ} (f : TreesNumbered l.n l.k l.active w₂ w₃ l.pieces ps) where
      pub numbered_length : length w₃ ≡ length l.work
      numbered_length = f.same ∙ words_length

      result_work : over (replicate (required l.n l.m) 0) w₃ ≡ over (replicate (required l.n l.m) 0) l.work
      result_work = over_equal (replicate (required l.n l.m) 0) w₃ l.work numbered_length
          (λ i j. let k = length-replicate (required l.n l.m) zero in f.past i (omega arith) ∙ r.past i (omega arith) ∙ p.past i (omega arith))

      pub outcome_is : {mp lows highs names w₄ : List ℕ} {k : ℕ}
          → mp ≡ over (table (λ i. node MAPPED w₂ (get_or l.active i 0)) 0 l.k) l.map
          → lows ≡ over (table (node LOWER w₂) 0 e) l.out_from
          → highs ≡ over (table (node UPPER w₂) 0 e) l.out_to
          → names ≡ over (table (node NAMED w₂) 0 e) l.out_names
          → k ≡ required l.n l.m → w₄ ≡ over (replicate k 0) w₃
          → outcome (Ok record { nodes = h; edges = e }) mp lows highs names ps w₄ ≡ done l
      unfolding done
      outcome_is a b c n k g =
          rw (
            result_nodes,
            sym edges_length ∙ ap length result_edges,
            a,
            b,
            c,
            n,
            f.filled,
            g,
            k,
            result_map,
            result_from,
            result_to,
            result_names,
            result_pieces,
            result_work,
          ) refl
