-- What holds where nothing is refused: sizes within their limits, tables long enough, ends and entries below n; and so of the edges and the entries that count.
-- Assumes nothing.
use Prim.Native.Nat.{◌*◌, ◌+◌, ◌<◌, ◌≤◌, suc, zero, ℕ}
use mathlib.Core.Bool.{◌&&◌, true}
use mathlib.Core.List.{List, Memᴰ, [], ◌++◌, ◌∷◌}
use mathlib.Core.Path.{◌∙◌, ◌≡◌, ap, ap₂, refl, subst, sym}
use lib.Dec.{eqb, leb, ltb}
use lib.ListN.{get_or, length, take}
use lib.Seq.{length-take-le}
use native.Mathlib.Omega.{arith}
use borrow.Author.Tests.{eq-eqb, eqb-false, eqb-true, leb-false, lt-ltb, ltb-false, ne_eqb}
use Rattle.call_sizes.proofs.RefusalLaws.{accepted_long, fault_silent, numbered_append, seek_none, short_numbered, silent_fault, silent_left, silent_right, sizes_numbered}
use Rattle.call_sizes.specs.Refusal.{Refusal, Row, bad_ends, first_fault, row, seek}
use Rattle.call_sizes.specs.Sizes.{size_faults}
use Rattle.theory_contraction.specs.Contraction.{Faultless, Lent, Outcome, bad_entry, contraction, done, edges, entries, fault, faults, named_edges, refused, required}
use Rattle.theory_contraction.specs.Contraction.{short_tables, table_lengths}
use Rattle.theory_graph.proofs.Booleans.{contradict, on_bool, or_neither}
use Rattle.theory_graph.proofs.Lists.{table_in, table_length, table_mem}
use Rattle.theory_graph.proofs.TableLaws.{pairs_first, pairs_table, take_table}
use Rattle.theory_graph.specs.Contraction.{Contracted, contract}
use Rattle.theory_graph.specs.Graph.{Edge}
use Rattle.theory_graph.specs.Lists.{table}
use Rattle.theory_graph.specs.SmallGraph.{ends_in}
use Rattle.theory_names.proofs.NamedContraction.{contract_plain}
use Rattle.theory_names.specs.Names.{contract_named, plain}

-- ---- the rows of the call
-- what the sizes' check leaves
pub record Within (n m k : ℕ) : Type 0 where
  pub nodes : n ≤ 4096
  pub edges : m ≤ 8192
  pub entries : k ≤ 8192

-- what the check of the lengths leaves
pub record LongTables (l : Lent) : Type 0 where
  pub from_length : l.m ≤ length l.from
  pub to_length : l.m ≤ length l.to
  pub names_length : l.m ≤ length l.names
  pub active_length : l.k ≤ length l.active
  pub map_length : l.k ≤ length l.map
  pub out_from_length : 2 * l.k ≤ length l.out_from
  pub out_to_length : 2 * l.k ≤ length l.out_to
  pub out_names_length : 2 * l.k ≤ length l.out_names
  pub pieces_length : l.k ≤ length l.pieces
  pub work_length : required l.n l.m ≤ length l.work

-- what holds where nothing is refused
pub record Accepted (l : Lent) : Type 0 where
  pub within : Within l.n l.m l.k
  pub long : LongTables l
  pub ends : (s : ℕ) → s < l.m → (get_or l.from s 0 < l.n) × (get_or l.to s 0 < l.n)
  pub entries : (i : ℕ) → i < l.k → get_or l.active i 0 < l.n

pub sizes_within : {n m k : ℕ} → (0, 0) ≡ first_fault (size_faults n m 0 k) → Within n m k
sizes_within {n} {m} {k} e =
    let s = fault_silent (size_faults n m 0 k) (sizes_numbered n m 0 k) (ap (λ (f : Refusal). f.0) (sym e)) in
    record { nodes = ltb-false 4096 n s.0; edges = ltb-false 8192 m s.1.0; entries = ltb-false 8192 k s.1.1.1.0 }

pub lengths_long : (l : Lent) → (0, 0) ≡ first_fault (short_tables l) → LongTables l
lengths_long l e =
    let (from, (to, (names, (active, (map, (out_from, (out_to, (out_names, (pieces, (work, _)))))))))) = accepted_long (table_lengths l) (ap (λ (f : Refusal). f.0) (sym e)) in
    record {
      from_length = from;
      to_length = to;
      names_length = names;
      active_length = active;
      map_length = map;
      out_from_length = out_from;
      out_to_length = out_to;
      out_names_length = out_names;
      pieces_length = pieces;
      work_length = work;
    }

module _ (l : Lent) where
  abbrev edge_at : ℕ
  edge_at = seek (bad_ends l.n l.from l.to) 0 l.m

  abbrev entry_at : ℕ
  entry_at = seek (bad_entry l.n l.active) 0 l.k

  abbrev placed : List Row
  placed = row (ltb edge_at l.m) 4 edge_at ∷ row (ltb entry_at l.k) 8 entry_at ∷ []

  pub sound : Faultless l → Accepted l
  unfolding fault faults
  sound z =
      let sizes = size_faults l.n l.m 0 l.k in
      let numbers = numbered_append sizes (short_tables l ++ placed) (sizes_numbered l.n l.m 0 l.k)
      (numbered_append (short_tables l) placed (short_numbered (table_lengths l)) ((λ e. omega arith), ((λ e. omega arith), tt))) in
      let s = fault_silent (sizes ++ short_tables l ++ placed) numbers z in
      let t = silent_right sizes (short_tables l ++ placed) s in
      let u = silent_right (short_tables l) placed t in
      record {
        within = sizes_within (sym (silent_fault sizes (silent_left sizes (short_tables l ++ placed) s)));
        long = lengths_long l (sym (silent_fault (short_tables l) (silent_left (short_tables l) placed t)));
        ends = λ i j.
            let x = get_or l.from i 0 in
            let y = get_or l.to i 0 in
            let (p, q) = or_neither (leb l.n x) (leb l.n y) (seek_none (bad_ends l.n l.from l.to) l.m i u.0 j) in
            (leb-false l.n x p, leb-false l.n y q);
        entries = λ i j. leb-false l.n (get_or l.active i 0) (seek_none (bad_entry l.n l.active) l.k i u.1.0 j);
      }

  -- ---- the outcome in both cases
  pub contraction_done : Faultless l → contraction l ≡ done l
  unfolding contraction
  contraction_done z = rw (contraction, eq-eqb (fault l).0 0 z) refl

  pub contraction_refused : ¬ Faultless l → contraction l ≡ refused l (fault l)
  unfolding contraction
  contraction_refused n = rw (contraction, ne_eqb (fault l).0 0 n) refl

  pub accepted_faultless : (contraction l).accepted ≡ true → Faultless l
  unfolding refused
  accepted_faultless a = on_bool (eqb (fault l).0 0)
      (λ e. eqb-true (fault l).0 0 e)
      (λ e. contradict a (ap (λ (o : Outcome). o.accepted) (contraction_refused (eqb-false (fault l).0 0 e))))

-- ---- the edges and the entries that count
ends_in_table : (n : ℕ) (f g : ℕ → ℕ) (i k : ℕ) → ((j : ℕ) → i ≤ j → j < i + k → (f j < n) × (g j < n)) → ends_in (λ v. ltb v n) (table (λ j. (f j, g j)) i k) ≡ true
ends_in_table n f g i zero l = refl
ends_in_table n f g i (suc k) l =
    let q = l i (omega arith) (omega arith) in
    ap₂ ◌&&◌ (lt-ltb (f i) n q.0) (ap₂ ◌&&◌ (lt-ltb (g i) n q.1) (ends_in_table n f g (suc i) k (λ j a b. l j (omega arith) (omega arith))))

module _ (l : Lent) (s : Accepted l) where
  pub edges_below : ends_in (λ v. ltb v l.n) (edges l) ≡ true
  unfolding edges
  edges_below =
      ap (ends_in (λ v. ltb v l.n)) (pairs_table l.m l.from l.to s.long.from_length s.long.to_length)
      ∙ ends_in_table l.n (λ i. get_or l.from i 0) (λ i. get_or l.to i 0) 0 l.m (λ j a b. s.ends j (omega arith))

  -- the edges with their names, without the names, are the edges
  pub named_plain : plain (named_edges l) ≡ edges l
  unfolding named_edges edges
  named_plain = pairs_first (edges l) (take l.m l.names)
      (ap length (pairs_table l.m l.from l.to s.long.from_length s.long.to_length) ∙ table_length (λ e. (get_or l.from e 0, get_or l.to e 0)) 0 l.m
      ∙ sym (length-take-le l.m l.names s.long.names_length))

  pub named_below : ends_in (λ v. ltb v l.n) (plain (named_edges l)) ≡ true
  named_below = ap (ends_in (λ v. ltb v l.n)) named_plain ∙ edges_below

  -- so that their contraction, without the names, is that of the edges
  pub named_contract : contract l.n (plain (named_edges l)) (entries l) ≡ contract l.n (edges l) (entries l)
  named_contract = ap (λ (E : List Edge). contract l.n E (entries l)) named_plain

  pub named_contract_edges : plain (contract_named l.n (named_edges l) (entries l)) ≡ (contract l.n (edges l) (entries l)).edges
  named_contract_edges = contract_plain l.n (named_edges l) (entries l) ∙ ap (λ (c : Contracted). c.edges) named_contract

  pub entries_table : entries l ≡ table (λ i. get_or l.active i 0) 0 l.k
  unfolding entries
  entries_table = take_table l.k l.active s.long.active_length

  pub entries_at : (i : ℕ) → i < l.k → Memᴰ (get_or l.active i 0) (entries l)
  entries_at i j = subst (λ (xs : List ℕ). Memᴰ (get_or l.active i 0) xs) (sym entries_table) (table_in (λ i. get_or l.active i 0) 0 l.k i (omega arith) (omega arith))

  pub entries_below : (a : ℕ) → Memᴰ a (entries l) → a < l.n
  entries_below a m =
      let (i, j, e) = table_mem (λ i. get_or l.active i 0) 0 l.k a (subst (λ (xs : List ℕ). Memᴰ a xs) entries_table m) in
      rw e (s.entries i (omega arith))

  pub entries_length : length (entries l) ≡ l.k
  unfolding entries
  entries_length = length-take-le l.k l.active s.long.active_length
