-- Laws of the checks: each `?` hands on the first fault there is; the faults of the lengths and the share; the ends, the starting table and the first event
-- with a fault.
-- Assumes nothing.
use Prim.Native.Nat.{◌+◌, ◌<◌, ◌≤◌, min, ℕ}
use mathlib.Core.Bool.{Bool, ◌&&◌, ◌||◌, cond, false, not, true}
use mathlib.Core.List.{List, [], ◌++◌, ◌∷◌, append_assoc}
use mathlib.Core.Logic.{◌⊎◌, inl, inr}
use mathlib.Core.Path.{◌∙◌, ◌≡◌, ap, ap₂, refl, sym}
use lib.Dec.{eqb, ltb}
use lib.ListN.{get_or, length, set, take}
use lib.Seq.{take_all, take-suc}
use native.Mathlib.Numerals.{add-one}
use native.Mathlib.Omega.{arith}
use borrow.Author.Count.{below_more}
use borrow.Author.Tests.{eq-eqb, eqb-true, le-ltb, lt-ltb, ltb-false}
use Rattle.std.specs.Prelude.{Err, IfOk, Ok, Result}
use Rattle.std.specs.Result.{IsErrAnd}
use Rattle.std.proofs.lemmas.Result.{err_from_is_err_and}
use Rattle.call_kinds.proofs.KindLaws.{query_keeps}
use Rattle.call_kinds.specs.Kinds.{is_closing, is_opening, is_query, kind_of}
use Rattle.call_kinds.specs.declared.Kind.{Kind}
use Rattle.call_kinds.specs.declared.Kind.TheVariants.{Closes, None, Opens, Query}
use Rattle.call_open_set.proofs.OpenSetLaws.{stored_length}
use Rattle.call_open_set.specs.OpenSet.{bits, is_open}
use Rattle.call_sizes.proofs.RefusalLaws.{Numbered, fault_silent, first_refuses, long_numbered, number_positive, numbered_append, rest_decides, seek_at, seek_end, short_numbered, silent_left, silent_right, sizes_numbered, skip_silent}
use Rattle.call_sizes.specs.Numbers.{numbers_of, refused_by}
use Rattle.call_sizes.specs.Refusal.{Refusal, Row, bad_ends, bad_start, first_fault, row, seek, short_rows}
use Rattle.call_sizes.specs.Sizes.{size_faults}
use Rattle.call_sizes.specs.declared.Refusal as declared
use Rattle.theory_graph.proofs.Booleans.{on_bool}
use Rattle.theory_graph.proofs.TableLaws.{pairs_at}
use Rattle.theory_graph.specs.Lists.{pairs, sum}
use Rattle.theory_timeline.proofs.Acceptance.{AcceptedList, accepted_sound, exact_from, fault_fine, faultless_list, pairs_both}
use Rattle.theory_timeline.proofs.EventLoops.{Met}
use Rattle.theory_timeline.proofs.Networks.{after_append}
use Rattle.theory_timeline.specs.Call.{lent_of}
use Rattle.theory_timeline.specs.Events.{Event, SegmentSet, after, after_all, changes, closes, opens}
use Rattle.theory_timeline.specs.Replay.{Lent, event_fault, fault_at, fault_of_kind, faults_with, given, lengths_with, list_faults, long_tables, open_at_end, read_lengths, share_faults}
use Rattle.theory_timeline.specs.Windows.{at_start, open_before, size}
use Rattle.theory_timeline.specs.declared.EventList.{EventList}
use Rattle.replay_checks.proofs.SetLaws.{StartsBelow, event_stays, event_stored, open_count, start_all, start_below}
use Rattle.replay_checks.specs.Check.{CanCheckList, CheckedEvents, CheckedList, CheckedTables, EventFits, SizesFit, bound_faults, event_row, events_fault, fault_of, tables_of}

-- what a `?` returns is the refusal that it met
pub refusal_returned : {T : Type 0} (r : Result T declared.Refusal) (e : declared.Refusal) → IsErrAnd r (λ d. d ≡ e) → r ≡ Err e
refusal_returned r e h = let (d, is, same) = err_from_is_err_and r h in is ∙ ap Err same

-- the segments open before the end are those after all events
ends_with : (l : Lent) → open_before (given l) (size (given l)) ≡ after_all l.n (pairs l.x l.y) (at_start l.start)
unfolding open_before given
ends_with l = ap (λ (k : List Event). after_all l.n k (at_start l.start)) (take_all (length (pairs l.x l.y)) (pairs l.x l.y) (omega arith))

-- those open at the start are segments: the starting table is as long as the segments are many
starts_below : (l : Lent) (p : ℕ) → AcceptedList l p → StartsBelow (given l)
unfolding given
starts_below l p a s h = omega (arith, start_below l.start s h, a.exact.start_exact, pairs_both l.a l.b a.exact.a_exact a.exact.b_exact)

-- ---- 2, 12 and 3
-- some lengths, and others behind them
module _ (ts us : List (ℕ × ℕ)) where
  rows_append : short_rows (ts ++ us) ≡ short_rows ts ++ short_rows us
  rows_append = go ts
    where
      go : (ts : List (ℕ × ℕ)) → short_rows (ts ++ us) ≡ short_rows ts ++ short_rows us
      go [] = refl
      go (t ∷ ts) = ap (λ (k : List Row). row (ltb t.0 t.1) 2 0 ∷ k) (go ts)

  pub lengths_refused : (r : declared.Refusal) → numbers_of r ≡ first_fault (short_rows ts) → numbers_of r ≡ first_fault (short_rows (ts ++ us))
  lengths_refused r e = first_refuses (short_rows ts) (short_rows us) r e ∙ sym (ap first_fault rows_append)

  pub lengths_behind : (0, 0) ≡ first_fault (short_rows ts) → {f : Refusal} → f ≡ first_fault (short_rows us) → f ≡ first_fault (short_rows (ts ++ us))
  lengths_behind z e = rest_decides (short_rows ts) (short_rows us) (short_numbered ts) z e ∙ sym (ap first_fault rows_append)

-- the tables of both replays, those of `rest`, the tables that are only read, the share
module _ (rest : List (ℕ × ℕ)) (l : Lent) (p : ℕ) where
  abbrev both : List Row
  both = short_rows (lengths_with [] l)

  abbrev behind_short : List Row
  behind_short = long_tables l ++ share_faults p

  pub bounds_numbered : Numbered (bound_faults rest l p)
  bounds_numbered =
      numbered_append (short_rows (lengths_with rest l)) behind_short (short_numbered (lengths_with rest l))
      (numbered_append (long_tables l) (share_faults p) (long_numbered (read_lengths l)) (λ h. omega arith, (λ h. omega arith, tt)))

  module _ (e : (0, 0) ≡ first_fault both) where
    behind_both : {f : Refusal} → f ≡ first_fault (short_rows rest ++ behind_short) → f ≡ first_fault (bound_faults rest l p)
    behind_both = rest_decides both (short_rows rest ++ behind_short) (short_numbered (lengths_with [] l)) e

    pub own_refused : (r : declared.Refusal) → numbers_of r ≡ first_fault (short_rows rest) → numbers_of r ≡ first_fault (bound_faults rest l p)
    own_refused r h = behind_both (first_refuses (short_rows rest) behind_short r h)

    module _ (h : (0, 0) ≡ first_fault (short_rows rest)) where
      behind_own : {f : Refusal} → f ≡ first_fault behind_short → f ≡ first_fault (bound_faults rest l p)
      behind_own k = behind_both (rest_decides (short_rows rest) behind_short (short_numbered rest) h k)

      pub long_refused : (r : declared.Refusal) → numbers_of r ≡ first_fault (long_tables l) → numbers_of r ≡ first_fault (bound_faults rest l p)
      long_refused r k = behind_own (first_refuses (long_tables l) (share_faults p) r k)

      pub share_left : (0, 0) ≡ first_fault (long_tables l) → {f : Refusal} → f ≡ first_fault (share_faults p) → f ≡ first_fault (bound_faults rest l p)
      share_left k u = behind_own (rest_decides (long_tables l) (share_faults p) (long_numbered (read_lengths l)) k u)

-- ---- the sizes, what is behind them, and the list
pub refused_checked : (rest : List (ℕ × ℕ)) (l : Lent) (p : ℕ) {r : declared.Refusal} → numbers_of r ≡ first_fault (faults_with rest l p) → CheckedTables rest l p (Err r)
refused_checked rest l p e = record { refusal = e; open_last = tt }

module _ (l : EventList) where
  abbrev sizes : List Row
  sizes = size_faults l.n l.m l.t 0

  -- a size is not refused exactly where it is within its limit
  pub within : (0, 0) ≡ first_fault sizes → SizesFit l
  within e =
      let s = fault_silent sizes (sizes_numbered l.n l.m l.t 0) (ap (λ (f : Refusal). f.0) (sym e)) in
      record { n_fits = ltb-false 4096 l.n s.0; m_fits = ltb-false 8192 l.m s.1.0; t_fits = ltb-false 4096 l.t s.1.1.0 }

  -- of a call's own tables nothing but their lengths is looked at
  module _ (rest : List (ℕ × ℕ)) (p : ℕ) (answers names work : List ℕ) where
    pub size_refused : {r : declared.Refusal} → numbers_of r ≡ first_fault sizes → CheckedTables rest (lent_of l answers names work) p (Err r)
    size_refused {r} e = refused_checked rest (lent_of l answers names work) p (first_refuses sizes
        (short_rows (lengths_with rest (tables_of l answers)) ++ (long_tables (tables_of l answers) ++ (share_faults p ++ list_faults (lent_of l answers names work)))) r e)

    pub own_checked : {r : Result ℕ declared.Refusal} → CheckedTables rest (tables_of l answers) p r → CheckedTables rest (lent_of l answers names work) p r
    unfolding list_faults fault_at given
    own_checked c = record { refusal = c.refusal; open_last = c.open_last }

module _ (rest : List (ℕ × ℕ)) (l : EventList) (answers : List ℕ) (p : ℕ) (fits : SizesFit l) where
  abbrev tables : Lent
  tables = tables_of l answers

  abbrev bounds : List Row
  bounds = bound_faults rest tables p

  whole : first_fault (faults_with rest tables p) ≡ first_fault (bounds ++ list_faults tables)
  whole =
      ap (λ (k : List Row). first_fault (sizes l ++ k)) (sym (brackets (short_rows (lengths_with rest tables)) (long_tables tables) (share_faults p) (list_faults tables)))
      ∙ skip_silent (sizes l) (bounds ++ list_faults tables)
      (le-ltb 4096 l.n fits.n_fits, (le-ltb 8192 l.m fits.m_fits, (le-ltb 4096 l.t fits.t_fits, (le-ltb 8192 0 (omega arith), tt))))
    where
      brackets : (a b c d : List Row) → (a ++ (b ++ c)) ++ d ≡ a ++ (b ++ (c ++ d))
      brackets a b c d = append_assoc a (b ++ c) d ∙ ap (λ (k : List Row). a ++ k) (append_assoc b c d)

  pub bounds_refused : {r : declared.Refusal} → numbers_of r ≡ first_fault bounds → CheckedTables rest tables p (Err r)
  bounds_refused {r} k = refused_checked rest tables p (first_refuses bounds (list_faults tables) r k ∙ sym whole)

  module _ (k : (0, 0) ≡ first_fault bounds) where
    pub can_check : CanCheckList l
    can_check =
        let s = fault_silent bounds (bounds_numbered rest tables p) (ap (λ (f : Refusal). f.0) (sym k)) in
        let v = silent_right (short_rows (lengths_with rest tables)) (long_tables tables ++ share_faults p) s in
        record {
          sizes = fits;
          exact = exact_from rest tables (silent_left (short_rows (lengths_with rest tables)) (long_tables tables ++ share_faults p) s)
              (silent_left (long_tables tables) (share_faults p) v);
        }

    -- what the check of the list finds is what the whole input has
    pub list_checked : (r : Result ℕ declared.Refusal) → CheckedList l r → CheckedTables rest tables p r
    unfolding list_faults fault_at given
    list_checked r c = record { refusal = found; open_last = last r c.last found }
      where
        found : refused_by r ≡ first_fault (faults_with rest tables p)
        found = rest_decides bounds (list_faults tables) (bounds_numbered rest tables p) k c.refusal ∙ sym whole

        last : (r : Result ℕ declared.Refusal) → IfOk r (λ o. (held : List ℕ) × (is_open held ≡ after_all l.n (pairs l.x.now l.y.now) (at_start l.start.now)) × (o ≡ sum (bits held)))
            → refused_by r ≡ first_fault (faults_with rest tables p) → IfOk r (λ o. o ≡ open_at_end (given tables))
        last (Err e) h q = tt
        last (Ok o) (held, i, e) q =
            let a = (faultless_list rest tables p (ap (λ (f : Refusal). f.0) (sym q))).0 in
            e ∙ open_count (given tables) (accepted_sound tables p a) (starts_below tables p a) held (i ∙ sym (ends_with tables))

-- ---- the ends, the starting table and the events
module _ {l : EventList} (q : CanCheckList l) where
  -- the rows of the ends, the starting table and the events
  abbrev ends_row : Row
  ends_row =
      let s : ℕ = seek (bad_ends l.n l.a.now l.b.now) 0 l.m in
      row (ltb s l.m) 4 s

  abbrev start_row : ℕ → Row
  start_row k =
      let s : ℕ = seek (bad_start l.start.now) 0 k in
      row (ltb s k) 11 s

  abbrev events_row : Row
  events_row =
      let i : ℕ = seek (λ i. not (eqb (fault_at (tables_of l []) i) 0)) 0 l.t in
      row (ltb i l.t) (fault_at (tables_of l []) i) i

  abbrev list_rows : List Row
  list_rows = ends_row ∷ start_row l.m ∷ events_row ∷ []

  rows : first_fault (list_faults (tables_of l [])) ≡ first_fault list_rows
  unfolding list_faults
  rows = refl

  pub ends_refused : {r : declared.Refusal} → numbers_of r ≡ first_fault (ends_row ∷ []) → CheckedList l (Err r)
  ends_refused {r} e = record { refusal = first_refuses (ends_row ∷ []) (start_row l.m ∷ events_row ∷ []) r e ∙ sym rows; last = tt }

  module _ (h : (0, 0) ≡ first_fault (ends_row ∷ [])) where
    behind_ends : {f : Refusal} → f ≡ first_fault (start_row l.m ∷ events_row ∷ []) → f ≡ first_fault (list_faults (tables_of l []))
    behind_ends e = rest_decides (ends_row ∷ []) (start_row l.m ∷ events_row ∷ []) (λ _. omega arith, tt) h e ∙ sym rows

    start_is : first_fault (start_row (length l.start.now) ∷ []) ≡ first_fault (start_row l.m ∷ [])
    start_is = ap (λ (k : ℕ). first_fault (start_row k ∷ [])) q.exact.start_exact

    pub start_refused : {r : declared.Refusal} → numbers_of r ≡ first_fault (start_row (length l.start.now) ∷ []) → CheckedList l (Err r)
    start_refused {r} e = record { refusal = behind_ends (first_refuses (start_row l.m ∷ []) (events_row ∷ []) r (e ∙ start_is)); last = tt }

    module _ (k : (0, 0) ≡ first_fault (start_row (length l.start.now) ∷ [])) (first : List ℕ) (o : is_open first ≡ (λ d. ltb d l.m && eqb (get_or l.start.now d 0) 1)) where
      first_is : is_open first ≡ at_start l.start.now
      first_is = o ∙ start_all l.m l.start.now q.exact.start_exact

      behind_start : {f : Refusal} → f ≡ events_fault l.n l.m (is_open first) (pairs l.x.now l.y.now) l.t → f ≡ first_fault (list_faults (tables_of l []))
      unfolding events_fault fault_of fault_at given open_before
      behind_start e =
          behind_ends (rest_decides (start_row l.m ∷ []) (events_row ∷ []) (λ _. omega arith, tt) (k ∙ start_is)
          (e ∙ ap (λ (o : SegmentSet). events_fault l.n l.m o (pairs l.x.now l.y.now) l.t) first_is))

      abbrev Found : Result (List ℕ) declared.Refusal → Type 0
      Found r = CheckedEvents l.n l.m (is_open first) (pairs l.x.now l.y.now) l.t r

      pub events_refused : {r : declared.Refusal} → Found (Err r) → CheckedList l (Err r)
      events_refused c = record { refusal = behind_start c.refusal; last = tt }

      pub list_passed : {held : List ℕ} {k : ℕ} → Found (Ok held) → k ≡ sum (bits held) → CheckedList l (Ok k)
      list_passed {held} c e = record { refusal = behind_start c.refusal; last = (held, c.last ∙ ap (after_all l.n (pairs l.x.now l.y.now)) first_is, e) }

-- ---- events
-- an event's fault is that of its kind
pub fault_kind : (n m : ℕ) (o : SegmentSet) (x y : ℕ) {k : Kind} → kind_of n x ≡ k → {r : ℕ} → r ≡ fault_of_kind n m o y k → r ≡ event_fault n m o (x, y)
unfolding event_fault
fault_kind n m o x y e h = h ∙ ap (fault_of_kind n m o y) (sym e)

-- its row refuses where the fault is not 0
row_refused : (f i : ℕ) (r : declared.Refusal) → numbers_of r ≡ cond (not (eqb f 0)) (f, i) (0, 0) → (numbers_of r ≡ (f, i)) × (not (eqb f 0) ≡ true)
row_refused f i r = go (eqb f 0)
  where
    go : (b : Bool) → numbers_of r ≡ cond (not b) (f, i) (0, 0) → (numbers_of r ≡ (f, i)) × (not b ≡ true)
    go true e = absurd (omega (arith, number_positive r, ap (λ (f : Refusal). f.0) e))
    go false e = (e, refl)

row_passed : (f i : ℕ) → ◌≡◌ {A = Refusal} (0, 0) (cond (not (eqb f 0)) (f, i) (0, 0)) → f ≡ 0
row_passed f i e = on_bool (eqb f 0) (λ t. eqb-true f 0 t)
    (λ t. ap (λ (f : Refusal). f.0) (sym (e ∙ ap (λ (b : Bool). cond (not b) (f, i) (0, 0)) t)))

-- the loop: i events without a fault, and the segments open after them where those of o are open before the first
pub record Passing (l : EventList) (o : SegmentSet) (held : List ℕ) (i : ℕ) : Type 0 where
  pub low : i ≤ l.t
  pub words : length held ≡ 128
  pub held_open : is_open held ≡ after_all l.n (take i (pairs l.x.now l.y.now)) o
  pub fine : (u : ℕ) → u < i → not (eqb (fault_of l.n l.m o (pairs l.x.now l.y.now) u) 0) ≡ false

module _ {l : EventList} (q : CanCheckList l) {o : SegmentSet} {held : List ℕ} {i j event_x event_y : ℕ} (p : Passing l o held i) (e : Met l.x.now l.y.now i j event_x event_y) where
  abbrev evs : List Event
  evs = pairs l.x.now l.y.now

  within_t : i < l.t
  within_t = omega (arith, e.in_x, q.exact.x_exact)

  event_is : get_or evs i (0, 0) ≡ (event_x, event_y)
  event_is = pairs_at l.x.now l.y.now i e.in_x e.in_y ∙ sym (λ k. (e.x_is k, e.y_is k))

  abbrev found : ℕ
  found = event_fault l.n l.m (is_open held) (event_x, event_y)

  fault_is : found ≡ fault_of l.n l.m o evs i
  unfolding fault_of
  fault_is = ap₂ (λ (o : ℕ → Bool) (v : Event). event_fault l.n l.m o v) p.held_open (sym event_is)

  abbrev Row_of : Refusal → Type 0
  Row_of f = f ≡ first_fault (event_row l.n l.m (is_open held) (event_x, event_y) j ∷ [])

  pub event_refused : {r : declared.Refusal} → Row_of (numbers_of r) → CheckedEvents l.n l.m o evs l.t (Err r)
  unfolding events_fault
  event_refused {r} h =
      let (v, u) = row_refused found j r h in
      let s : i ≡ seek (λ i. not (eqb (fault_of l.n l.m o evs i) 0)) 0
      l.t = sym (seek_at (λ i. not (eqb (fault_of l.n l.m o evs i) 0)) 0 l.t i (omega arith) (omega (arith, within_t))
      (ap (λ (f : ℕ). not (eqb f 0)) (sym fault_is) ∙ u) (λ u _ k. p.fine u k)) in
      record {
        refusal = v ∙ (λ k. (fault_is k, e.place k))
            ∙ sym (ap (λ (k : ℕ). cond (ltb k l.t) (fault_of l.n l.m o evs k, k) (0, 0)) (sym s) ∙ ap (λ (c : Bool). cond c (fault_of l.n l.m o evs i, i) (0, 0)) (lt-ltb i l.t within_t));
        last = tt;
      }

  module _ (h : Row_of (0, 0)) where
    no_fault : found ≡ 0
    no_fault = row_passed found j h

    pub event_fits : EventFits l.n held event_x event_y
    event_fits = record { words = p.words; m = l.m; much = q.sizes.m_fits; fine = no_fault }

    -- so one more event has none
    pub event_passes : (next : List ℕ) → (length next ≡ 128) × (is_open next ≡ after l.n (event_x, event_y) (is_open held)) → Passing l o next (i + 1)
    event_passes next (k, q') =
        record {
          low = omega (arith, within_t);
          words = k;
          held_open =
              q' ∙ ap₂ (λ (v : Event) (w : SegmentSet). after l.n v w) (sym event_is) p.held_open ∙ after_append l.n (take i evs) (get_or evs i (0, 0) ∷ []) o
              ∙ ap (λ (k : List Event). after_all l.n k o)
              (sym (ap (λ k. take k evs) (add-one i) ∙ take-suc evs i (0, 0) (omega (arith, within_t, pairs_both l.x.now l.y.now q.exact.x_exact q.exact.y_exact))));
          fine = below_more (λ u. not (eqb (fault_of l.n l.m o evs u) 0) ≡ false) i p.fine (ap not (eq-eqb (fault_of l.n l.m o evs i) 0 (sym fault_is ∙ no_fault)));
        }

module _ {l : EventList} (q : CanCheckList l) where
  module _ {o : SegmentSet} {held : List ℕ} {i : ℕ} (p : Passing l o held i) (e : i ≡ min (length l.x.now) (length l.y.now)) where
    abbrev whole_list : List Event
    whole_list = pairs l.x.now l.y.now

    at_end : i ≡ l.t
    at_end = omega (arith, q.exact.x_exact, q.exact.y_exact)

    none_found : i ≡ seek (λ i. not (eqb (fault_of l.n l.m o whole_list i) 0)) 0 l.t
    none_found = at_end ∙ sym (seek_end (λ i. not (eqb (fault_of l.n l.m o whole_list i) 0)) 0 l.t (λ u _ k. p.fine u (omega (arith, at_end))) ∙ omega arith)

    pub events_pass : CheckedEvents l.n l.m o whole_list l.t (Ok held)
    unfolding events_fault
    events_pass = record {
      refusal = sym (ap (λ (k : ℕ). cond (ltb k l.t) (fault_of l.n l.m o whole_list k, k) (0, 0)) (sym none_found)
          ∙ ap (λ (c : Bool). cond c (fault_of l.n l.m o whole_list i, i) (0, 0)) (le-ltb i l.t (omega (arith, at_end))));
      last = p.held_open ∙ ap (λ (k : List Event). after_all l.n k o) (take_all i whole_list (omega (arith, at_end, pairs_both l.x.now l.y.now q.exact.x_exact q.exact.y_exact)));
    }

-- ---- the set after an event without a fault, by its kind
module _ {n : ℕ} {held : List ℕ} {x y : ℕ} (q : EventFits n held x y) where
  abbrev After : List ℕ → Type 0
  After next = (length next ≡ 128) × (is_open next ≡ after n (x, y) (is_open held))

  named_fits : changes n (x, y) ≡ true → y < 8192
  named_fits t = let f = (fault_fine n q.m (is_open held) (x, y) q.fine).segment t in omega (arith, q.much)

  pub set_opened : kind_of n x ≡ Opens → (next : List ℕ) → bits next ≡ set (bits held) y 1 → After next
  unfolding is_opening
  set_opened k next e =
      let o : opens n (x, y) ≡ true = ap is_opening k in
      let t : changes n (x, y) ≡ true = ap (λ (b : Bool). b || closes n (x, y)) o in
      (stored_length held next y 1 q.words e, event_stored n held next (x, y) 1 q.words t (named_fits t) (sym o) e)

  pub set_closed : kind_of n x ≡ Closes → (next : List ℕ) → bits next ≡ set (bits held) y 0 → After next
  unfolding is_opening is_closing
  set_closed k next e =
      let o : opens n (x, y) ≡ false = ap is_opening k in
      let t : changes n (x, y) ≡ true = ap₂ ◌||◌ o (ap is_closing k) in
      (stored_length held next y 0 q.words e, event_stored n held next (x, y) 0 q.words t (named_fits t) (sym o) e)

  pub set_kept : ((kind_of n x ≡ Query) ⊎ (kind_of n x ≡ None)) → After held
  unfolding is_query
  set_kept (inl k) = (q.words, event_stays n held (x, y) (query_keeps (kind_of n x) (ap is_query k)))
  set_kept (inr k) = absurd ((fault_fine n q.m (is_open held) (x, y) q.fine).some k)
