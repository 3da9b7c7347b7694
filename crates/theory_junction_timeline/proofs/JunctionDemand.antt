-- The proof of the sibling's demand, stated in specs/JunctionDemand: what acceptance gives, the tables of an accepted call, and two outcomes.
-- Assumes nothing.
use Prim.Native.Nat.{◌+◌, ◌<◌, ◌≤◌, ℕ}
use mathlib.Core.Bool.{Bool, false, true}
use mathlib.Core.List.{List, Memᴰ}
use mathlib.Core.Logic.{◌↔◌}
use mathlib.Core.Path.{◌∙◌, ◌≡◌, ap, refl, subst, sym}
use lib.Dec.{eqb}
use lib.ListN.{drop, get_or, length, length-map, take}
use lib.Seq.{get_or-take, take_at}
use native.Mathlib.Omega.{arith}
use borrow.Author.Tests.{eq-eqb, eqb-true}
use Rattle.theory_graph.proofs.Booleans.{contradict}
use Rattle.theory_graph.proofs.Lists.{range_length}
use Rattle.theory_graph.specs.Lists.{range}
use Rattle.call_sizes.specs.Refusal.{Refusal}
use Rattle.theory_timeline.proofs.Acceptance.{AcceptedList, events_length, faultless_list, faults_share}
use Rattle.theory_timeline.proofs.DemandThree.{alike_given}
use Rattle.theory_timeline.proofs.Leaves.{map_from}
use Rattle.theory_timeline.specs.DemandThree.{Allowed}
use Rattle.theory_timeline.specs.Replay.{Lent, given, open_at_end, queries}
use Rattle.theory_timeline.specs.Windows.{size, windows}
use Rattle.theory_junction_timeline.proofs.JunctionNetworks.{made_faithful, made_reduced}
use Rattle.theory_junction_timeline.proofs.JunctionReaders.{byte_is}
use Rattle.theory_junction_timeline.proofs.JunctionSteps.{junctions_made}
use Rattle.theory_junction_timeline.specs.JunctionDemand.{IsJunctionByte, JunctionDemandHolds, JunctionDemand}
use Rattle.theory_junction_timeline.specs.JunctionReplay.{JunctionFaultless, JunctionOutcome, junction_byte, junction_bytes, junction_done, junction_fault, junction_lengths, junction_refused}
use Rattle.theory_junction_timeline.specs.JunctionReplay.{junction_required, replay_junctions}

-- ---- what an accepted call was lent
pub record JunctionAccepted (l : Lent) (p : ℕ) : Type 0 where
  pub list : AcceptedList l p
  pub work_long : junction_required l.t l.n l.m ≤ length l.work

pub junction_accepted : (l : Lent) (p : ℕ) → JunctionFaultless l p → JunctionAccepted l p
unfolding junction_fault
junction_accepted l p h = let (a, (w, _)) = faultless_list (junction_lengths l) l p h in record { list = a; work_long = w }

-- acceptance does not depend on which allowed share is given
pub junction_share : (l : Lent) (p q : ℕ) → Allowed p → Allowed q → junction_fault l p ≡ junction_fault l q
unfolding junction_fault
junction_share l p q a b = faults_share (junction_lengths l) l p q a b

-- ---- the outcome of an accepted call
pub junction_done_lem : (l : Lent) (p : ℕ) → JunctionFaultless l p → replay_junctions l p ≡ junction_done l
unfolding replay_junctions
junction_done_lem l p h = ap (λ (b : Bool). elim b as (λ x. JunctionOutcome) [ true ↦ junction_done l | false ↦ junction_refused l (junction_fault l p) ]) (eq-eqb (junction_fault l p).0 0 h)

pub done_faultless : (l : Lent) (p : ℕ) → (replay_junctions l p).accepted ≡ true → JunctionFaultless l p
unfolding replay_junctions junction_refused
done_faultless l p = go (eqb (junction_fault l p).0 0) refl
  where
    go : (b : Bool) → eqb (junction_fault l p).0 0 ≡ b
        → (elim b as (λ x. JunctionOutcome) [ true ↦ junction_done l | false ↦ junction_refused l (junction_fault l p) ]).accepted ≡ true → (junction_fault l p).0 ≡ 0
    go true e h = eqb-true (junction_fault l p).0 0 e
    go false e h = contradict h refl

done_accepted : (l : Lent) → (junction_done l).accepted ≡ true
unfolding junction_done
done_accepted l = refl

-- ---- its answer table
pub junction_bytes_length : (l : Lent) (p : ℕ) → AcceptedList l p → length (junction_bytes (given l)) ≡ l.t
unfolding junction_bytes
junction_bytes_length l p a = length-map (range 0 (size (given l))) _ ∙ range_length 0 (size (given l)) ∙ events_length l p a

junction_answers : (l : Lent) (p : ℕ) → AcceptedList l p → take l.t (junction_done l).answers ≡ junction_bytes (given l)
unfolding junction_done
junction_answers l p a = take_at (junction_bytes (given l)) (drop (length (junction_bytes (given l))) l.answers) l.t (junction_bytes_length l p a)

byte_at : (l : Lent) (p : ℕ) → AcceptedList l p → (i : ℕ) → i < l.t → get_or (junction_done l).answers i 0 ≡ junction_byte (given l) i
unfolding junction_bytes
byte_at l p a i h =
    let e : 0 + i ≡ i = omega arith in
    sym (get_or-take l.t (junction_done l).answers i 0 h)
    ∙ ap (λ (x : List ℕ). get_or x i 0) (junction_answers l p a)
    ∙ map_from (junction_byte (given l)) (size (given l)) 0 i (omega (arith, events_length l p a))
    ∙ ap (junction_byte (given l)) e

-- ---- two outcomes
done_numbers : (l k : Lent) → given l ≡ given k → ((junction_done l).queries ≡ (junction_done k).queries) × ((junction_done l).opened ≡ (junction_done k).opened)
unfolding junction_done
done_numbers l k g = (ap queries g, ap open_at_end g)

share_accepted : (l : Lent) (p q : ℕ) → Allowed p → Allowed q → (replay_junctions l p).accepted ≡ true → (replay_junctions l q).accepted ≡ true
share_accepted l p q a b h =
    ap (λ (r : JunctionOutcome). r.accepted) (junction_done_lem l q (ap (λ (v : Refusal). v.0) (sym (junction_share l p q a b)) ∙ done_faultless l p h)) ∙ done_accepted l

both : (l k : Lent) (p q : ℕ) → Allowed p → Allowed q → JunctionDemand l k p q (replay_junctions l p) (replay_junctions k q)
both l k p q a b = record {
  bytes = λ h i u.
      let f = done_faultless l p h in
      subst (IsJunctionByte (given l) i)
      (sym (ap (λ (r : JunctionOutcome). get_or r.answers i 0) (junction_done_lem l p f) ∙ byte_at l p (junction_accepted l p f).list i u)) (byte_is (given l) i);
  made = λ h w m.
      let t = events_length l p (junction_accepted l p (done_faultless l p h)).list in
      junctions_made (given l) p a w (subst (λ (t : ℕ). Memᴰ w (windows p t)) (sym t) m);
  faithful = λ h w m n H σ d. made_faithful (made_reduced d);
  alike = λ h j s.
      let f = done_faultless l p h in
      let e = done_faultless k q j in
      let c = (junction_accepted l p f).list in
      let d = (junction_accepted k q e).list in
      let g = alike_given l k s in
      let t : l.t ≡ k.t = sym c.exact.x_exact ∙ ap length s.x ∙ d.exact.x_exact in
      let (x, y) = done_numbers l k g in (
        ap (λ (r : JunctionOutcome). take l.t r.answers) (junction_done_lem l p f) ∙ junction_answers l p c ∙ ap junction_bytes g ∙ sym (junction_answers k q d)
            ∙ ap (λ (t : ℕ). take t (junction_done k).answers) (sym t) ∙ ap (λ (r : JunctionOutcome). take l.t r.answers) (sym (junction_done_lem k q e)),
        ap (λ (r : JunctionOutcome). r.queries) (junction_done_lem l p f) ∙ x ∙ ap (λ (r : JunctionOutcome). r.queries) (sym (junction_done_lem k q e)),
        ap (λ (r : JunctionOutcome). r.opened) (junction_done_lem l p f) ∙ y ∙ ap (λ (r : JunctionOutcome). r.opened) (sym (junction_done_lem k q e)),
      );
  tables = λ e. subst (λ (k : Lent). ((replay_junctions l p).accepted ≡ true ↔ (replay_junctions k q).accepted ≡ true)
      × ((replay_junctions l p).accepted ≡ true → ((replay_junctions l p).answers ≡ (replay_junctions k q).answers) × ((replay_junctions l p).work ≡ (replay_junctions k q).work))) e (
        (share_accepted l p q a b, share_accepted l q p b a),
        λ h.
            let r : replay_junctions l p ≡ replay_junctions l q =
            junction_done_lem l p (done_faultless l p h) ∙ sym (junction_done_lem l q (done_faultless l q (share_accepted l p q a b h))) in
            (ap (λ (r : JunctionOutcome). r.answers) r, ap (λ (r : JunctionOutcome). r.work) r),
      );
}

-- ---- the theorem
pub junction_demand : JunctionDemandHolds
junction_demand l k p q a b r s e f =
    subst (λ (x : JunctionOutcome). JunctionDemand l k p q x s) (sym e) (subst (λ (x : JunctionOutcome). JunctionDemand l k p q (replay_junctions l p) x) (sym f) (both l k p q a b))
