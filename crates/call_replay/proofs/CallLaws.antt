-- The whole list and the public call: from the events' words to the windows, the queries, and the outcome of an accepted replay and of a refusal.
-- In order of the code. Assumes nothing.
use Prim.Native.Nat.{◌*◌, ◌+◌, ◌-◌, ◌<◌, ◌≤◌, ℕ}
use mathlib.Core.Bool.{Bool, false, true}
use mathlib.Core.List.{List, ◌++◌, map}
use mathlib.Core.Path.{◌∙◌, ◌≡◌, ap, refl, sym}
use lib.ListN.{drop, length, replicate, take}
use native.Mathlib.Omega.{arith}
use borrow.Author.Tests.{ne_eqb}
use Rattle.std.specs.Prelude.{Err, Ok}
use Rattle.call_sizes.specs.Refusal.{Refusal}
use Rattle.call_sizes.specs.declared.Refusal as declared
use Rattle.call_sizes.proofs.RefusalLaws.{number_positive}
use Rattle.replay_events.specs.Kinds.{queries_by}
use Rattle.replay_events.specs.Writing.{EventsWritten, list_of}
use Rattle.replay_start.proofs.ListLaws.{area_in, inside, list_ready_of, queries_are, table_is}
use Rattle.replay_start.specs.Whole.{WholeMade}
use Rattle.replay_step.proofs.WordLaws.{cleared}
use Rattle.replay_step.specs.Area.{SmallArea}
use Rattle.replay_step.specs.declared.Window.{Window}
use Rattle.replay_windows.specs.Descent.{Replied, WindowDone, Written, written}
use Rattle.theory_graph.specs.Lists.{over, sum}
use Rattle.theory_timeline.proofs.Acceptance.{Accepted, AcceptedList, accepted_from, events_length}
use Rattle.theory_timeline.proofs.DemandThree.{accepted_done, bytes_length, demand_3, names_length}
use Rattle.theory_timeline.specs.Call.{outcome}
use Rattle.theory_timeline.specs.DemandThree.{KeepsDemand3}
use Rattle.theory_timeline.specs.Replay.{Faultless, Lent, Outcome, byte, bytes, done, fault, faults, given, name_at, names_at, open_at_end, queries, refused, replay, required}
use Rattle.theory_timeline.specs.Windows.{Timeline, kept, small, windows, windows_from}
use Rattle.call_replay.specs.List.{ListReady, ListReplied, ReplayChecked}

-- ---- the list
-- where the window of the whole list has its replies, the list has them. WholeListLaws of replay_windows has this of either replay, for `replay_list` there
module _ {n p : ℕ} {a b start x y answers names work : List ℕ} (q : ListReady n p a b start x y answers names work) where
  abbrev t : ℕ
  t = length x

  -- the places of the counts of the roads and of the whole list's area
  abbrev counts : ℕ
  counts = 5 * length x + length a

  abbrev area : ℕ
  area = 5 * length x + length a + length a

  -- the replies of n events from `at` on, in the replay's two tables
  abbrev Wrote : Timeline → ℕ → ℕ → ℕ → Written → Written → ℕ → Type 0
  Wrote g p at n before after kept = Replied g at n p before after kept

  module _ (some : 0 < t) {w : List ℕ} (e : EventsWritten n a b start x y w) (l : length w ≡ length work) {z : List ℕ} {r : Window} (m : WholeMade n t a b counts area w z r)
      (k : length z ≡ length work) where
    fits : area + 17 * t ≤ length work
    fits = omega (arith, q.ready.room)

    pub list_replied : {Same : Written → Written → Type 0} {after : Written} {kept : ℕ}
        → WindowDone SmallArea Same Wrote r p (take (17 * r.events) (take (length z - area) (drop area z))) (written answers names) after kept
        → ListReplied n p a b start x y (written answers names) after kept
    list_replied d =
        let u = d.replied (list_of n a b start x y) q.ready.events.sound (omega (arith, m.at, m.events, inside q.ready.events)) (area_in q.ready.events some e l m k fits) in
        rw (m.at, m.events) at u

-- ---- an accepted replay
-- a list with k words of work; and what its windows leave
abbrev ReadyOf : Lent → ℕ → ℕ → Type 0
ReadyOf l p k =
    ListReady l.n p l.a l.b l.start l.x l.y l.answers l.names (take k l.work)

abbrev RepliedOf : Lent → ℕ → Written → ℕ → Type 0
RepliedOf l p after kept =
    ListReplied l.n p l.a l.b l.start l.x l.y (written l.answers l.names) after kept

module _ (l : Lent) (p : ℕ) (f : Faultless l p) where
  pub granted : Accepted l p
  granted = accepted_from l p f

  abbrev need : ℕ
  need = required l.t l.n l.m

  pub list_need : ReadyOf l p need
  list_need = record {
    ready = list_ready_of l p granted.list _ need granted.work_long (omega (arith, granted.list.exact.a_exact, granted.list.exact.x_exact)) (omega arith);
    names_long = omega (arith, granted.names_long, granted.list.exact.x_exact);
  }

  module _ {after : Written} {kept' : ℕ} (d : RepliedOf l p after kept') where
    replied : Replied (given l) 0 l.t p (written l.answers l.names) after kept'
    unfolding given
    replied = rw granted.list.exact.x_exact at d

    answers_is : after.answers ≡ over (bytes (given l)) l.answers
    unfolding bytes
    answers_is = replied.answers ∙ table_is l p granted.list (byte (given l)) l.answers (omega (arith, bytes_length l p granted.list, granted.list.answers_long))

    names_is : after.names ≡ over (names_at (given l)) l.names
    unfolding names_at
    names_is = replied.names ∙ table_is l p granted.list (name_at (given l)) l.names (omega (arith, names_length l p granted.list, granted.names_long))

    pub done_is : {cleared' : List ℕ} (zs : List ℕ) (q o : ℕ) → q ≡ queries_by l.n l.x l.t → o ≡ open_at_end (given l) → length zs ≡ length (take need l.work)
        → cleared' ≡ over (replicate need 0) (zs ++ drop need l.work) → outcome (Ok (record { queries = q; «open» = o; kept = kept' })) after.answers after.names cleared' ≡ done l p
    unfolding done kept windows queries
    done_is {cleared'} zs q o eq eo lz ew =
        let e1 = eq ∙ queries_are l p granted.list in
        let e3 = replied.kept ∙ ap (λ (k : ℕ). sum (map (λ w. (small (given l) w).nodes) (windows_from p k 0 k))) (sym (events_length l p granted.list)) in
        let e5 = cleared need l.work zs cleared' granted.work_long lz ew in
        λ i. record { accepted = true; code = 0; place = 0; queries = e1 i; opened = eo i; kept = e3 i; answers = answers_is i; names = names_is i; work = e5 i }

-- ---- the outcome
abbrev Promise : Lent → ℕ → Outcome → Type 0
Promise l p r = (r ≡ replay l p) × KeepsDemand3 l p r

-- demand 3 follows from the equation
promise : (l : Lent) (p : ℕ) (r : Outcome) → r ≡ replay l p → Promise l p r
promise l p r e = (e, λ k q a b. demand_3 l k p q a b r (replay k q) e refl)

pub refused_is : (l : Lent) (p : ℕ) {r : declared.Refusal} → ReplayChecked l p (Err r) → Promise l p (outcome (Err r) l.answers l.names l.work)
unfolding replay refused fault faults
refused_is l p {r} c = promise l p _ (ap (λ (f : Refusal). refused l f) c.refusal
    ∙ sym (ap (λ (b : Bool). elim b as (λ x. Outcome) [ true ↦ done l p | false ↦ refused l (fault l p) ])
    (ne_eqb (fault l p).0 0 (λ z. omega (arith, number_positive r, ap (λ (f : Refusal). f.0) c.refusal)))))

pub faultless : {l : Lent} {p o : ℕ} → ReplayChecked l p (Ok o) → Faultless l p
unfolding fault faults
faultless c = sym (ap (λ (f : Refusal). f.0) c.refusal)

pub replayed : (l : Lent) (p : ℕ) (r : Outcome) → Faultless l p → r ≡ done l p → Promise l p r
replayed l p r f e = promise l p r (e ∙ sym (accepted_done l p f))

-- ---- where the check finds nothing
module _ {l : Lent} {p o : ℕ} (c : ReplayChecked l p (Ok o)) where
  pub grants : AcceptedList l p
  grants = (granted l p (faultless c)).list

  module _ (k : ℕ) (e : k ≡ required l.t l.n l.m) where
    pub work_need : k ≤ length l.work
    work_need = omega (arith, (granted l p (faultless c)).work_long)

    pub list_ready : ReadyOf l p k
    list_ready = rw e (list_need l p (faultless c))

    module _ {after : Written} {kept' : ℕ} (d : RepliedOf l p after kept') where
      pub replay_is : {cleared : List ℕ} (zs : List ℕ) (q : ℕ) → q ≡ queries_by l.n l.x l.t → length zs ≡ length (take k l.work)
          → cleared ≡ over (replicate k 0) (zs ++ drop k l.work)
          → Promise l p (outcome (Ok (record { queries = q; «open» = o; kept = kept' })) after.answers after.names cleared)
      unfolding fault faults
      replay_is zs q eq lz ew =
          let f = faultless c in
          replayed l p _ f (done_is l p f d zs q o eq (c.open_last) (lz ∙ ap (λ (n : ℕ). length (take n l.work)) e)
          (ew ∙ ap (λ (n : ℕ). over (replicate n 0) (zs ++ drop n l.work)) e))
