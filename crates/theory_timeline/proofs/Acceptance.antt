-- What acceptance gives: sizes within the limits, tables of their sizes or long enough, an allowed share, ends and active junctions below N, starting entries
-- of 0 or 1, and events without a fault.
-- In order: an event without a fault; parallel arrays as pairs; a list whose ends and active junctions are below N; an accepted replay; shares and acceptance.
-- Assumes nothing.
use Prim.Native.Nat.{◌<◌, ◌≤◌, suc, zero, ℕ}
use mathlib.Core.Bool.{Bool, ◌&&◌, ◌||◌, cond, false, not, true}
use mathlib.Core.List.{List, Memᴰ, [], ◌++◌, ◌∷◌}
use mathlib.Core.Logic.{◌⊎◌, inl, inr}
use mathlib.Core.Path.{◌∙◌, ◌≡◌, ap, ap₂, refl, subst, sym}
use lib.Dec.{eqb, leb, ltb}
use lib.ListN.{drop, get_or, length, take}
use native.Mathlib.Omega.{arith}
use borrow.Author.Tests.{eqb-false, eqb-true, le-ltb, leb-false, lt-ltb, ltb-false, ltb-true, not-false, not-true}
use Rattle.theory_graph.proofs.Booleans.{and_elim, contradict, on_bool}
use Rattle.theory_graph.proofs.Ends.{ends_in_all, ends_in_at}
use Rattle.theory_graph.proofs.TableLaws.{pairs_at, pairs_length}
use Rattle.theory_graph.specs.Graph.{Edge, NodeSet}
use Rattle.theory_graph.specs.Lists.{pairs}
use Rattle.theory_graph.specs.SmallGraph.{ends_in}
use Rattle.theory_names.specs.Names.{plain}
use Rattle.call_kinds.proofs.KindLaws.{closes_some, opens_some, query_junction, query_some, some_changes}
use Rattle.call_kinds.specs.Kinds.{is_closing, is_opening, is_query, kind_of}
use Rattle.call_kinds.specs.declared.Kind.{Kind}
use Rattle.call_kinds.specs.declared.Kind.TheVariants.{Closes, None, Opens, Query}
use Rattle.call_sizes.proofs.RefusalLaws.{Long, Numbered, Silent, below_long, fault_silent, long_numbered, numbered_append, seek_found, seek_none}
use Rattle.call_sizes.proofs.RefusalLaws.{short_numbered, silent_left, silent_right, sizes_numbered, skip_silent}
use Rattle.call_sizes.specs.Refusal.{Refusal, Row, first_fault, bad_ends, bad_start, short_rows}
use Rattle.call_sizes.specs.Sizes.{size_faults}
use Rattle.theory_timeline.specs.DemandThree.{Allowed}
use Rattle.theory_timeline.specs.Events.{Event, SegmentSet, active_of, asks, changes, closes, ends, opens, pick}
use Rattle.theory_timeline.specs.Replay.{Exact, Faultless, Lent, event_fault, fault, fault_at, fault_of_kind, faults, faults_with, given, lengths_with, list_faults, long_tables, own_lengths}
use Rattle.theory_timeline.specs.Replay.{read_lengths, required, share_faults}
use Rattle.theory_timeline.specs.Steps.{Sound}
use Rattle.theory_timeline.specs.Windows.{Timeline, Window, active, asks_at, changes_at, during, event, open_before, size}

-- ---- an event without a fault, of n junctions and m segments, where the segments of o are open
pub record Fine (n m : ℕ) (o : SegmentSet) (e : Event) : Type 0 where
  pub some : ¬ (kind_of n e.0 ≡ None)
  pub query : asks n e ≡ true → (e.0 < n) × (e.1 < n)
  pub segment : changes n e ≡ true → e.1 < m
  pub fresh : opens n e ≡ true → o e.1 ≡ false
  pub stale : closes n e ≡ true → o e.1 ≡ true

pub fault_fine : (n m : ℕ) (o : SegmentSet) (e : Event) → event_fault n m o e ≡ 0 → Fine n m o e
unfolding event_fault is_query is_opening is_closing
fault_fine n m o e h = go (kind_of n e.0) refl h
  where
    first : (b : Bool) (c : ℕ) → cond b c 5 ≡ 0 → (b ≡ true) × (c ≡ 0)
    first true c h = (refl, h)
    first false c h = absurd (omega arith)

    closed : (b : Bool) → ◌≡◌ {A = ℕ} (cond b 6 0) 0 → b ≡ false
    closed true h = absurd (omega arith)
    closed false h = refl

    opened : (b : Bool) → ◌≡◌ {A = ℕ} (cond b 0 7) 0 → b ≡ true
    opened true h = refl
    opened false h = absurd (omega arith)

    changing : Kind → Bool
    changing k = is_opening k || is_closing k

    go : (k : Kind) → kind_of n e.0 ≡ k → fault_of_kind n m o e.1 k ≡ 0 → Fine n m o e
    go Query q h =
        let (l, _) = first (ltb e.1 n) 0 h in
        record {
          some = λ z. query_some (sym q ∙ z);
          query = λ _. (query_junction n e.0 q, ltb-true e.1 n l);
          segment = λ s. contradict s (ap changing q);
          fresh = λ s. contradict s (ap is_opening q);
          stale = λ s. contradict s (ap is_closing q);
        }
    go Opens q h =
        let (l, f) = first (ltb e.1 m) (cond (o e.1) 6 0) h in
        record {
          some = λ z. opens_some (sym q ∙ z);
          query = λ s. contradict s (ap is_query q);
          segment = λ _. ltb-true e.1 m l;
          fresh = λ _. closed (o e.1) f;
          stale = λ s. contradict s (ap is_closing q);
        }
    go Closes q h =
        let (l, f) = first (ltb e.1 m) (cond (o e.1) 0 7) h in
        record {
          some = λ z. closes_some (sym q ∙ z);
          query = λ s. contradict s (ap is_query q);
          segment = λ _. ltb-true e.1 m l;
          fresh = λ s. contradict s (ap is_opening q);
          stale = λ _. opened (o e.1) f;
        }
    go None q h = absurd (omega arith)

-- it is a query, or it opens or closes
pub fine_changes : {n m : ℕ} {o : SegmentSet} {e : Event} → Fine n m o e → changes n e ≡ not (asks n e)
fine_changes {n} {e = e} f = some_changes (kind_of n e.0) f.some

-- ---- two parallel arrays
pub pairs_most : (x y : List ℕ) (i : ℕ) → length x ≤ i → length (pairs x y) ≤ i
pairs_most [] y i l = omega arith
pairs_most (u ∷ x) [] i l = omega arith
pairs_most (u ∷ x) (v ∷ y) zero l = absurd (omega arith)
pairs_most (u ∷ x) (v ∷ y) (suc i) l = omega (arith, pairs_most x y i (omega arith))

pub pairs_equal : (x y : List ℕ) → length y ≡ length x → length (pairs x y) ≡ length x
pairs_equal x y e = omega (arith, pairs_length x y (length x) (omega arith) (omega arith), pairs_most x y (length x) (omega arith))

-- of one length k
pub pairs_both : {k : ℕ} (x y : List ℕ) → length x ≡ k → length y ≡ k → length (pairs x y) ≡ k
pairs_both x y e f = pairs_equal x y (f ∙ sym e) ∙ e

-- ---- a network and list in which all ends and active junctions are below N
pub record Good (g : Timeline) : Type 0 where
  pub segments : ends_in (λ v. ltb v g.junctions) g.segments ≡ true
  pub active : (w : Window) (a : ℕ) → Memᴰ a (active g w) → a < g.junctions

pub pick_inside : (N : NodeSet) (t : SegmentSet) (i : ℕ) (es : List Edge) → ends_in N es ≡ true → ends_in N (plain (pick t i es)) ≡ true
pick_inside N t i [] h = refl
pick_inside N t i (e ∷ es) h = and_elim (N e.0) (N e.1 && ends_in N es) h λ p q. and_elim (N e.1) (ends_in N es) q λ r s. go (t i) p r (pick_inside N t (suc i) es s)
  where
    go : (b : Bool) → N e.0 ≡ true → N e.1 ≡ true → ends_in N (plain (pick t (suc i) es)) ≡ true → ends_in N (plain (cond b ((e, i) ∷ pick t (suc i) es) (pick t (suc i) es))) ≡ true
    go true p r s = ap₂ ◌&&◌ p (ap₂ ◌&&◌ r s)
    go false p r s = s

mem_take : (n : ℕ) (e : Event) (l : List Event) → Memᴰ e (take n l) → Memᴰ e l
mem_take zero e l m = absurd (elim m [ ])
mem_take (suc n) e [] m = m
mem_take (suc n) e (x ∷ l) (Memᴰ.head p) = Memᴰ.head p
mem_take (suc n) e (x ∷ l) (Memᴰ.tail m) = Memᴰ.tail (mem_take n e l m)

mem_drop : (n : ℕ) (e : Event) (l : List Event) → Memᴰ e (drop n l) → Memᴰ e l
mem_drop zero e l m = m
mem_drop (suc n) e [] m = m
mem_drop (suc n) e (x ∷ l) m = Memᴰ.tail (mem_drop n e l m)

mem_at : (e : Event) (l : List Event) → Memᴰ e l → (i : ℕ) × (i < length l) × (get_or l i (0, 0) ≡ e)
mem_at e [] x' = elim x' [ ]
mem_at e (x ∷ l) (Memᴰ.head p) = (0, omega arith, sym p)
mem_at e (x ∷ l) (Memᴰ.tail m) = let (i, h, q) = mem_at e l m in (suc i, omega arith, q)

-- an active junction is one of the two of an event of the list
active_from : (n : ℕ) (segs : List Edge) (l : List Event) (a : ℕ) → Memᴰ a (active_of n segs l)
    → (e : Event) × Memᴰ e l × ((a ≡ (ends n segs e).0) ⊎ (a ≡ (ends n segs e).1))
unfolding active_of
active_from n segs [] a m = absurd (elim m [ ])
active_from n segs (e ∷ l) a (Memᴰ.head p) = (e, Memᴰ.head refl, inl p)
active_from n segs (e ∷ l) a (Memᴰ.tail (Memᴰ.head p)) = (e, Memᴰ.head refl, inr p)
active_from n segs (e ∷ l) a (Memᴰ.tail (Memᴰ.tail m)) = let (f, k, q) = active_from n segs l a m in (f, Memᴰ.tail k, q)

-- the two junctions of an event without a fault
pub fine_ends : (n : ℕ) (segs : List Edge) (o : SegmentSet) (e : Event) → ends_in (λ v. ltb v n) segs ≡ true → Fine n (length segs) o e → ((ends n segs e).0 < n) × ((ends n segs e).1 < n)
fine_ends n segs o e s f = go (asks n e) refl
  where
    go : (b : Bool) → asks n e ≡ b → ((cond b e (get_or segs e.1 (0, 0))).0 < n) × ((cond b e (get_or segs e.1 (0, 0))).1 < n)
    go true p = f.query p
    go false p = let (x, y) = ends_in_at (λ v. ltb v n) segs e.1 (f.segment (fine_changes f ∙ ap not p)) s in (ltb-true _ n x, ltb-true _ n y)

pub fine_good : (g : Timeline) → ends_in (λ v. ltb v g.junctions) g.segments ≡ true
    → ((i : ℕ) → i < size g → Fine g.junctions (length g.segments) (open_before g i) (event g i)) → Good g
unfolding active during
fine_good g s f =
    record {
      segments = s;
      active = λ w a m.
          let (e, n, q) = active_from g.junctions g.segments (during g w) a m in
          let (i, l, p) = mem_at e g.events (mem_drop w.0 e g.events (mem_take w.1 e (drop w.0 g.events) n)) in
          either (event g i) (f i l) (subst (λ (e : Event). (a ≡ (ends g.junctions g.segments e).0) ⊎ (a ≡ (ends g.junctions g.segments e).1)) (sym p) q);
    }
  where
    either : {a : ℕ} {o : SegmentSet} (e : Event) → Fine g.junctions (length g.segments) o e → (a ≡ (ends g.junctions g.segments e).0) ⊎ (a ≡ (ends g.junctions g.segments e).1) → a < g.junctions
    either {o} e f (inl q) = let (x, y) = fine_ends g.junctions g.segments o e s f in omega arith
    either {o} e f (inr q) = let (x, y) = fine_ends g.junctions g.segments o e s f in omega arith

-- ---- a list without a fault
pub sound_fine : (g : Timeline) → Sound g → (i : ℕ) → i < size g → Fine g.junctions (length g.segments) (open_before g i) (event g i)
sound_fine g s i l = fault_fine g.junctions (length g.segments) (open_before g i) (event g i) (s.events i l)

pub sound_good : (g : Timeline) → Sound g → Good g
sound_good g s = fine_good g s.ends (sound_fine g s)

-- an event that opens or closes names a segment
pub sound_segment : (g : Timeline) → Sound g → (i : ℕ) → i < size g → changes_at g i ≡ true → (event g i).1 < length g.segments
sound_segment g s i l h = (sound_fine g s i l).segment h

-- and every other event is a query
pub sound_changes : (g : Timeline) → Sound g → (i : ℕ) → i < size g → changes_at g i ≡ not (asks_at g i)
sound_changes g s i l = fine_changes (sound_fine g s i l)

-- ---- what an accepted replay was lent
-- but for the name table and the work table
pub record AcceptedList (l : Lent) (p : ℕ) : Type 0 where
  pub n_fits : l.n ≤ 4096
  pub m_fits : l.m ≤ 8192
  pub t_fits : l.t ≤ 4096
  pub exact : Exact l.m l.t l.a l.b l.start l.x l.y
  pub answers_long : l.t ≤ length l.answers
  pub share : Allowed p
  pub ends_fit : (s : ℕ) → s < l.m → bad_ends l.n l.a l.b s ≡ false
  pub start_fits : (s : ℕ) → s < l.m → get_or l.start s 0 ≤ 1
  pub events_fine : (i : ℕ) → i < l.t → fault_at l i ≡ 0

pub record Accepted (l : Lent) (p : ℕ) : Type 0 where
  pub list : AcceptedList l p
  pub names_long : l.t ≤ length l.names
  pub work_long : required l.t l.n l.m ≤ length l.work

list_numbered : (l : Lent) → Numbered (list_faults l)
unfolding list_faults
list_numbered l = (λ h. omega arith, (λ h. omega arith, (λ h. positive (seek_found (λ i. not (eqb (fault_at l i) 0)) 0 l.t (omega (arith, ltb-true _ l.t h))), tt)))
  where
    positive : {x : ℕ} → not (eqb x 0) ≡ true → 0 < x
    positive {x} h = let n : ¬ (x ≡ 0) = eqb-false x 0 (not-true (eqb x 0) h) in omega arith

faults_numbered : (rest : List (ℕ × ℕ)) (l : Lent) (p : ℕ) → Numbered (faults_with rest l p)
faults_numbered rest l p =
    let short = short_rows (lengths_with rest l) in
    numbered_append (size_faults l.n l.m l.t 0) (short ++ (long_tables l ++ (share_faults p ++ list_faults l))) (sizes_numbered l.n l.m l.t 0)
    (numbered_append short (long_tables l ++ (share_faults p ++ list_faults l)) (short_numbered (lengths_with rest l))
    (numbered_append (long_tables l) (share_faults p ++ list_faults l) (long_numbered (read_lengths l))
    (numbered_append (share_faults p) (list_faults l) (λ h. omega arith, (λ h. omega arith, tt)) (list_numbered l))))

-- where neither 2 nor 12 refuses, what is only read has exactly its stated length
exact_long : (rest : List (ℕ × ℕ)) (l : Lent) → Long (lengths_with rest l) → Silent (long_tables l) → Exact l.m l.t l.a l.b l.start l.x l.y
exact_long rest l (la, (lb, (ls, (lx, (ly, _))))) v =
    let (ma, (mb, (ms, (mx, (my, _))))) = (below_long 12 (read_lengths l)).0 v in
    record { a_exact = omega arith; b_exact = omega arith; start_exact = omega arith; x_exact = omega arith; y_exact = omega arith }

pub exact_from : (rest : List (ℕ × ℕ)) (l : Lent) → Silent (short_rows (lengths_with rest l)) → Silent (long_tables l)
    → Exact l.m l.t l.a l.b l.start l.x l.y
exact_from rest l s v = exact_long rest l ((below_long 2 (lengths_with rest l)).0 s) v

-- what is known where no row refuses: the tables of `rest` are as long as they must be, and each field of Accepted but those of names and work
pub faultless_list : (rest : List (ℕ × ℕ)) (l : Lent) (p : ℕ) → (first_fault (faults_with rest l p)).0 ≡ 0 → AcceptedList l p × Long rest
unfolding list_faults
faultless_list rest l p h =
    let short = short_rows (lengths_with rest l) in
    let s = fault_silent (faults_with rest l p) (faults_numbered rest l p) h in
    let a = silent_left (size_faults l.n l.m l.t 0) (short ++ (long_tables l ++ (share_faults p ++ list_faults l))) s in
    let r = silent_right (size_faults l.n l.m l.t 0) (short ++ (long_tables l ++ (share_faults p ++ list_faults l))) s in
    let long = (below_long 2 (lengths_with rest l)).0 (silent_left short (long_tables l ++ (share_faults p ++ list_faults l)) r) in
    let v = silent_right short (long_tables l ++ (share_faults p ++ list_faults l)) r in
    let q = silent_right (long_tables l) (share_faults p ++ list_faults l) v in
    let c = silent_left (share_faults p) (list_faults l) q in
    let e = silent_right (share_faults p) (list_faults l) q in
    let (_, (_, (_, (_, (_, (lr, others)))))) = long in (
      record {
        n_fits = ltb-false 4096 l.n a.0;
        m_fits = ltb-false 8192 l.m a.1.0;
        t_fits = ltb-false 4096 l.t a.1.1.0;
        exact = exact_long rest l long (silent_left (long_tables l) (share_faults p ++ list_faults l) v);
        answers_long = lr;
        share = (ltb-false p 4 c.0, ltb-false 12 p c.1.0);
        ends_fit = λ s k. seek_none (bad_ends l.n l.a l.b) l.m s e.0 k;
        start_fits = λ s k. ltb-false 1 (get_or l.start s 0) (seek_none (bad_start l.start) l.m s e.1.0 k);
        events_fine = λ i k. eqb-true (fault_at l i) 0 (not-false (eqb (fault_at l i) 0) (seek_none (λ i. not (eqb (fault_at l i) 0)) l.t i e.1.1.0 k));
      },
      others,
    )

pub accepted_from : (l : Lent) (p : ℕ) → Faultless l p → Accepted l p
unfolding fault faults
accepted_from l p h = let (a, (ln, (lw, _))) = faultless_list (own_lengths l) l p h in record { list = a; names_long = ln; work_long = lw }

module _ (l : Lent) (p : ℕ) (a : AcceptedList l p) where
  pub events_length : size (given l) ≡ l.t
  unfolding given
  events_length = pairs_both l.x l.y a.exact.x_exact a.exact.y_exact

  pub segments_length : length (given l).segments ≡ l.m
  unfolding given
  segments_length = pairs_both l.a l.b a.exact.a_exact a.exact.b_exact

  pub accepted_ends : ends_in (λ v. ltb v l.n) (given l).segments ≡ true
  unfolding given
  accepted_ends = ends_in_all (λ v. ltb v l.n) (pairs l.a l.b) λ k j.
      let i : k < l.m = omega (arith, pairs_both l.a l.b a.exact.a_exact a.exact.b_exact) in
      ap (λ (e : Edge). ltb e.0 l.n && ltb e.1 l.n) (pairs_at l.a l.b k (omega (arith, a.exact.a_exact)) (omega (arith, a.exact.b_exact)))
      ∙ both (get_or l.a k 0) (get_or l.b k 0) (a.ends_fit k i)
    where
      both : (x y : ℕ) → (leb l.n x || leb l.n y) ≡ false → (ltb x l.n && ltb y l.n) ≡ true
      both x y h = on_bool (leb l.n x) (λ t. contradict (ap (λ (b : Bool). b || leb l.n y) t) h) λ f.
          let g : leb l.n y ≡ false = sym (ap (λ (b : Bool). b || leb l.n y) f) ∙ h in
          ap₂ ◌&&◌ (lt-ltb x l.n (leb-false l.n x f)) (lt-ltb y l.n (leb-false l.n y g))

  pub accepted_fine : (i : ℕ) → i < l.t → Fine l.n l.m (open_before (given l) i) (event (given l) i)
  unfolding fault_at
  accepted_fine i h = fault_fine l.n l.m (open_before (given l) i) (event (given l) i) (a.events_fine i h)

  pub accepted_good : Good (given l)
  unfolding given
  accepted_good = fine_good (given l) accepted_ends λ i h.
      subst (λ (m : ℕ). Fine l.n m (open_before (given l) i) (event (given l) i)) (sym segments_length) (accepted_fine i (omega (arith, events_length)))

  pub accepted_sound : Sound (given l)
  unfolding given fault_at
  accepted_sound = record {
    few = a.n_fits;
    segments_few = omega (arith, segments_length, a.m_fits);
    ends = accepted_ends;
    events = λ i k. ap (λ (m : ℕ). event_fault l.n m (open_before (given l) i) (event (given l) i)) segments_length ∙ a.events_fine i (omega (arith, events_length));
  }

-- ---- with another allowed share nothing changes
share_silent : (p : ℕ) → Allowed p → Silent (share_faults p)
share_silent p a = (le-ltb p 4 a.0, (le-ltb 12 p a.1, tt))

first_append : (rs bs cs : List Row) → first_fault bs ≡ first_fault cs → first_fault (rs ++ bs) ≡ first_fault (rs ++ cs)
first_append [] bs cs h = h
first_append (r ∷ rs) bs cs h = ap (λ (f : Refusal). cond r.test (r.code, r.place) f) (first_append rs bs cs h)

pub faults_share : (rest : List (ℕ × ℕ)) (l : Lent) (p q : ℕ) → Allowed p → Allowed q → first_fault (faults_with rest l p) ≡ first_fault (faults_with rest l q)
faults_share rest l p q a b =
    let short = short_rows (lengths_with rest l) in
    first_append (size_faults l.n l.m l.t 0) (short ++ (long_tables l ++ (share_faults p ++ list_faults l))) (short ++ (long_tables l ++ (share_faults q ++ list_faults l)))
    (first_append short (long_tables l ++ (share_faults p ++ list_faults l)) (long_tables l ++ (share_faults q ++ list_faults l))
    (first_append (long_tables l) (share_faults p ++ list_faults l) (share_faults q ++ list_faults l)
    (skip_silent (share_faults p) (list_faults l) (share_silent p a) ∙ sym (skip_silent (share_faults q) (list_faults l) (share_silent q b)))))

pub fault_share : (l : Lent) (p q : ℕ) → Allowed p → Allowed q → fault l p ≡ fault l q
unfolding fault faults
fault_share l p q a b = faults_share (own_lengths l) l p q a b
