-- The whole list and the public call of the sibling: from the events' words to the windows, and the outcome of an accepted call and of a refusal.
-- In order of the code. Assumes nothing.
use Prim.Native.Nat.{◌*◌, ◌+◌, ◌-◌, ◌<◌, ◌≤◌, ℕ}
use mathlib.Core.Bool.{Bool, false, true}
use mathlib.Core.List.{List, ◌++◌}
use mathlib.Core.Path.{◌∙◌, ◌≡◌, ap, refl, sym}
use lib.ListN.{drop, length, replicate, take}
use lib.Seq.{sets}
use native.Mathlib.Omega.{arith}
use borrow.Author.Tests.{ne_eqb}
use Rattle.std.specs.Prelude.{Err, Ok}
use Rattle.call_sizes.proofs.RefusalLaws.{number_positive}
use Rattle.call_sizes.specs.Refusal.{Refusal}
use Rattle.call_sizes.specs.declared.Refusal as declared
use Rattle.junction_start.specs.JunctionWhole.{JunctionWholeMade}
use Rattle.junction_step.specs.JunctionArea.{JunctionArea}
use Rattle.junction_windows.specs.JunctionDescent.{JunctionReplied}
use Rattle.replay_events.specs.Kinds.{queries_by}
use Rattle.replay_events.specs.Writing.{EventsWritten, list_of}
use Rattle.replay_start.proofs.ListLaws.{area_in, inside, list_ready_of, queries_are, table_is}
use Rattle.replay_step.proofs.WordLaws.{cleared}
use Rattle.replay_step.specs.declared.Window.{Window}
use Rattle.replay_windows.specs.Descent.{WindowDone}
use Rattle.theory_graph.specs.Lists.{over, table}
use Rattle.theory_timeline.proofs.Acceptance.{AcceptedList}
use Rattle.theory_timeline.specs.Replay.{Lent, given, open_at_end, queries}
use Rattle.theory_timeline.specs.Windows.{Timeline}
use Rattle.theory_junction_timeline.proofs.JunctionDemand.{JunctionAccepted, junction_accepted, junction_bytes_length, junction_demand, junction_done_lem}
use Rattle.theory_junction_timeline.specs.JunctionCall.{junction_outcome}
use Rattle.theory_junction_timeline.specs.JunctionDemand.{KeepsJunctionDemand}
use Rattle.theory_junction_timeline.specs.JunctionReplay.{JunctionFaultless, JunctionOutcome, junction_byte, junction_bytes, junction_done, junction_fault, junction_refused, junction_required}
use Rattle.theory_junction_timeline.specs.JunctionReplay.{replay_junctions}
use Rattle.call_replay_junctions.specs.JunctionList.{JunctionChecked, JunctionListReady, JunctionListReplied}

-- ---- the list
-- where the window of the whole list has its replies, the list has them. WholeListLaws of replay_windows has this of either replay, for `replay_list` there
module _ {n p : ℕ} {a b start x y answers work : List ℕ} (q : JunctionListReady n p a b start x y answers work) where
  abbrev t : ℕ
  t = length x

  -- the places of the counts of the roads and of the whole list's area
  abbrev counts : ℕ
  counts = 5 * length x + length a

  abbrev area : ℕ
  area = 5 * length x + length a + length a

  -- the bytes of n events from `at` on
  abbrev Wrote : Timeline → ℕ → ℕ → ℕ → List ℕ → List ℕ → ℕ → Type 0
  Wrote g p at n before after kept = JunctionReplied g at n before after

  module _ (some : 0 < t) {w : List ℕ} (e : EventsWritten n a b start x y w) (l : length w ≡ length work) {z : List ℕ} {r : Window}
      (m : JunctionWholeMade n t a b counts area w z r) (k : length z ≡ length work) where
    fits : area + 29 * t ≤ length work
    fits = omega (arith, q.room)

    pub list_replied : {Same : List ℕ → List ℕ → Type 0} {after : List ℕ} {kept : ℕ}
        → WindowDone JunctionArea Same Wrote r p (take (29 * r.events) (take (length z - area) (drop area z))) answers after kept
        → JunctionListReplied n a b start x y answers after
    list_replied d =
        let u = d.replied (list_of n a b start x y) q.events.sound (omega (arith, m.at, m.events, inside q.events)) (area_in q.events some e l m k fits) in
        rw (m.at, m.events) at u

-- ---- an accepted call
-- a list with k words of work; and what its windows leave
abbrev ReadyOf : Lent → ℕ → ℕ → Type 0
ReadyOf l p k = JunctionListReady l.n p l.a l.b l.start l.x l.y l.answers (take k l.work)

abbrev RepliedOf : Lent → List ℕ → Type 0
RepliedOf l after = JunctionListReplied l.n l.a l.b l.start l.x l.y l.answers after

module _ (l : Lent) (p : ℕ) (f : JunctionFaultless l p) where
  granted : JunctionAccepted l p
  granted = junction_accepted l p f

  abbrev need : ℕ
  need = junction_required l.t l.n l.m

  list_need : ReadyOf l p need
  list_need = list_ready_of l p granted.list _ need granted.work_long (omega (arith, granted.list.exact.a_exact, granted.list.exact.x_exact)) (omega arith)

  module _ {after : List ℕ} (d : RepliedOf l after) where
    replied : after ≡ sets l.answers 0 (table (junction_byte (given l)) 0 l.t)
    unfolding given
    replied = rw granted.list.exact.x_exact at d

    answers_is : after ≡ over (junction_bytes (given l)) l.answers
    unfolding junction_bytes
    answers_is =
        replied ∙ table_is l p granted.list (junction_byte (given l)) l.answers (omega (arith, junction_bytes_length l p granted.list, granted.list.answers_long))

    done_is : {cleared' : List ℕ} (zs : List ℕ) (q o : ℕ) → q ≡ queries_by l.n l.x l.t → o ≡ open_at_end (given l) → length zs ≡ length (take need l.work)
        → cleared' ≡ over (replicate need 0) (zs ++ drop need l.work) → junction_outcome (Ok (record { queries = q; «open» = o })) after cleared' ≡ junction_done l
    unfolding junction_done queries
    done_is {cleared'} zs q o eq eo lz ew =
        let e1 = eq ∙ queries_are l p granted.list in
        let e5 = cleared need l.work zs cleared' granted.work_long lz ew in
        λ i. record { accepted = true; code = 0; place = 0; queries = e1 i; opened = eo i; answers = answers_is i; work = e5 i }

-- ---- the outcome
abbrev Promise : Lent → ℕ → JunctionOutcome → Type 0
Promise l p r = (r ≡ replay_junctions l p) × KeepsJunctionDemand l p r

-- what is kept follows from the equation
promise : (l : Lent) (p : ℕ) (r : JunctionOutcome) → r ≡ replay_junctions l p → Promise l p r
promise l p r e = (e, λ k q a b. junction_demand l k p q a b r (replay_junctions k q) e refl)

pub refused_is : (l : Lent) (p : ℕ) {r : declared.Refusal} → JunctionChecked l p (Err r) → Promise l p (junction_outcome (Err r) l.answers l.work)
unfolding replay_junctions junction_refused junction_fault
refused_is l p {r} c = promise l p _ (ap (λ (f : Refusal). junction_refused l f) c.refusal
    ∙ sym (ap (λ (b : Bool). elim b as (λ x. JunctionOutcome) [ true ↦ junction_done l | false ↦ junction_refused l (junction_fault l p) ])
    (ne_eqb (junction_fault l p).0 0 (λ z. omega (arith, number_positive r, ap (λ (f : Refusal). f.0) c.refusal)))))

faultless : {l : Lent} {p o : ℕ} → JunctionChecked l p (Ok o) → JunctionFaultless l p
unfolding junction_fault
faultless c = sym (ap (λ (f : Refusal). f.0) c.refusal)

-- ---- where the check finds nothing
module _ {l : Lent} {p o : ℕ} (c : JunctionChecked l p (Ok o)) where
  pub grants : AcceptedList l p
  grants = (granted l p (faultless c)).list

  module _ (k : ℕ) (e : k ≡ junction_required l.t l.n l.m) where
    pub work_need : k ≤ length l.work
    work_need = omega (arith, (granted l p (faultless c)).work_long)

    pub list_ready : ReadyOf l p k
    list_ready = rw e (list_need l p (faultless c))

    module _ {after : List ℕ} (d : RepliedOf l after) where
      pub replay_is : {cleared : List ℕ} (zs : List ℕ) (q : ℕ) → q ≡ queries_by l.n l.x l.t → length zs ≡ length (take k l.work)
          → cleared ≡ over (replicate k 0) (zs ++ drop k l.work) → Promise l p (junction_outcome (Ok (record { queries = q; «open» = o })) after cleared)
      unfolding junction_fault
      replay_is zs q eq lz ew =
          let f = faultless c in
          promise l p _ (done_is l p f d zs q o eq c.open_last (lz ∙ ap (λ (n : ℕ). length (take n l.work)) e)
          (ew ∙ ap (λ (n : ℕ). over (replicate n 0) (zs ++ drop n l.work)) e) ∙ sym (junction_done_lem l p f))
