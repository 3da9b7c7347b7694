-- The program's limits: what an input has that is refused by neither 9 nor 10; the tables that it lends have then just their sizes, and the others are long
-- enough, with the 16,384 words of the program's work table. So its replay is refused by neither 2 nor 12.
-- Assumes nothing.
use Prim.Native.Nat.{◌*◌, ◌+◌, ◌≤◌, suc, zero, ℕ}
use mathlib.Core.Bool.{Bool, cond, false, true}
use mathlib.Core.List.{List, [], ◌++◌, ◌∷◌}
use mathlib.Core.Path.{◌≡◌, ap, refl}
use lib.Dec.{ltb}
use lib.ListN.{drop, length, length-drop, length-replicate, replicate, take}
use lib.Seq.{length-take-le}
use native.Mathlib.Omega.{arith}
use borrow.Author.Tests.{eqb-true, ltb-false, not-false}
use Rattle.call_kinds.specs.Kinds.{kind_of}
use Rattle.call_kinds.specs.declared.Kind.{Kind}
use Rattle.call_kinds.specs.declared.Kind.TheVariants.{Closes, None, Opens, Query}
use Rattle.call_sizes.proofs.RefusalLaws.{Silent, below_long, fault_silent}
use Rattle.call_sizes.specs.Refusal.{Row, first_fault}
use Rattle.call_sizes.specs.Sizes.{size_faults}
use Rattle.theory_graph.proofs.Booleans.{contradict}
use Rattle.theory_timeline.specs.Program.{events_of, input_fault, input_faults, input_length, input_lent, junctions_of, segments_of, words16}
use Rattle.theory_timeline.specs.Replay.{Lent, event_fault, fault, fault_at, fault_of_kind, faults, given, list_faults, long_tables, read_lengths, required, share_faults, short_tables, table_lengths}
use Rattle.theory_timeline.specs.Windows.{event, open_before}

-- the numbers of an input
pub words16_length : (bs : List ℕ) (k : ℕ) → length bs ≡ 2 * k → length (words16 bs) ≡ k
words16_length [] zero h = refl
words16_length [] (suc k) h = absurd (omega arith)
words16_length (a ∷ []) k h = absurd (omega arith)
words16_length (a ∷ b ∷ bs) zero h = absurd (omega arith)
words16_length (a ∷ b ∷ bs) (suc k) h = ap suc (words16_length bs k (omega arith))

-- ---- an input within the limits
pub record Within (bytes : List ℕ) : Type 0 where
  pub junctions : junctions_of (words16 bytes) ≤ 176
  pub segments : segments_of (words16 bytes) ≤ 64
  pub events : events_of (words16 bytes) ≤ 32
  pub long : length bytes ≡ 2 * input_length (segments_of (words16 bytes)) (events_of (words16 bytes))

pub input_within : (bytes : List ℕ) → (input_fault bytes).0 ≡ 0 → Within bytes
unfolding input_fault input_faults
input_within bytes h =
    let s = fault_silent (input_faults bytes) (λ e. omega arith, (λ e. omega arith, (λ e. omega arith, (λ e. omega arith, (λ e. omega arith, tt))))) h in
    record {
      junctions = ltb-false 176 (junctions_of (words16 bytes)) s.1.0;
      segments = ltb-false 64 (segments_of (words16 bytes)) s.1.1.0;
      events = ltb-false 32 (events_of (words16 bytes)) s.1.1.1.0;
      long = eqb-true (length bytes) (2 * input_length (segments_of (words16 bytes)) (events_of (words16 bytes))) (not-false _ s.1.1.1.1.0);
    }

-- at the limits the work table is just long enough
pub program_words : required 32 176 64 ≡ 16384
program_words = refl

-- ---- the numbers by which the program may refuse
abbrev pub Said : ℕ → Type 0
Said c = (c ≤ 11) × ¬ (c ≡ 2)

-- each row that holds has such a number
abbrev Says : List Row → Type 0
Says [] = Unit {0}
Says (r ∷ rs) = (r.test ≡ true → Said r.code) × Says rs

says_fault : (rs : List Row) → Says rs → Said (first_fault rs).0
says_fault [] s = (omega arith, λ e. omega arith)
says_fault (r ∷ rs) s = go r.test refl (says_fault rs s.1)
  where
    go : (b : Bool) → r.test ≡ b → Said (first_fault rs).0 → Said (cond b (r.code, r.place) (first_fault rs)).0
    go true h n = s.0 h
    go false h n = n

says_append : (rs bs : List Row) → Says rs → Says bs → Says (rs ++ bs)
says_append [] bs a b = b
says_append (r ∷ rs) bs a b = (a.0, says_append rs bs a.1 b)

says_silent : (rs : List Row) → Silent rs → Says rs
says_silent [] s = tt
says_silent (r ∷ rs) s = (λ h. contradict h s.0, says_silent rs s.1)

event_said : (l : Lent) (i : ℕ) → Said (fault_at l i)
unfolding fault_at event_fault
event_said l i =
    let e = event (given l) i in
    go (kind_of l.n e.0) e.1
  where
    one : (a : Bool) {x y : ℕ} → Said x → Said y → Said (cond a x y)
    one true p q = p
    one false p q = q

    five : Said 5
    five = (omega arith, λ e. omega arith)

    nothing : Said 0
    nothing = (omega arith, λ e. omega arith)

    go : (k : Kind) (y : ℕ) → Said (fault_of_kind l.n l.m (open_before (given l) i) y k)
    go Query y = one (ltb y l.n) nothing five
    go Opens y = one (ltb y l.m) (one (open_before (given l) i y) (omega arith, λ e. omega arith) nothing) five
    go Closes y = one (ltb y l.m) (one (open_before (given l) i y) nothing (omega arith, λ e. omega arith)) five
    go None y = five

pub input_said : (bytes : List ℕ) → Said (input_fault bytes).0
unfolding input_fault input_faults
input_said bytes =
    let nine : Said 9 = (omega arith, λ e. omega arith) in
    let ten : Said 10 = (omega arith, λ e. omega arith) in
    says_fault (input_faults bytes) (λ _. nine, (λ _. ten, (λ _. ten, (λ _. ten, (λ _. nine, tt)))))

-- ---- the program
module _ (work bytes : List ℕ) (enough : length work ≡ 16384) (h : (input_fault bytes).0 ≡ 0) where
  -- a part of the input has just its size
  part_exact : (i k : ℕ) → i + k ≤ length (words16 bytes) → length (take k (drop i (words16 bytes))) ≡ k
  part_exact i k l = length-take-le k (drop i (words16 bytes)) (omega (arith, length-drop i (words16 bytes)))

  part_long : (i k : ℕ) → i + k ≤ length (words16 bytes) → k ≤ length (take k (drop i (words16 bytes)))
  part_long i k l = omega (arith, part_exact i k l)

  part_most : (i k : ℕ) → i + k ≤ length (words16 bytes) → length (take k (drop i (words16 bytes))) ≤ k
  part_most i k l = omega (arith, part_exact i k l)

  -- no table is too short, and none that is only read is too long
  pub program_room : Silent (short_tables (input_lent work bytes)) × Silent (long_tables (input_lent work bytes))
  unfolding input_lent
  program_room =
      let i = input_within bytes h in
      let answers : List ℕ = replicate 32 0 in
      let r : events_of (words16 bytes) ≤ length answers = omega (arith, i.events, length-replicate {A = ℕ} 32 0) in
      let m = segments_of (words16 bytes) in
      let t = events_of (words16 bytes) in
      let w = words16_length bytes (input_length m t) i.long in
      let a : 4 + m ≤ length (words16 bytes) = omega arith in
      let b : 4 + m + m ≤ length (words16 bytes) = omega arith in
      let s : 4 + 2 * m + m ≤ length (words16 bytes) = omega arith in
      let x : 4 + 3 * m + t ≤ length (words16 bytes) = omega arith in
      let y : 4 + 3 * m + t + t ≤ length (words16 bytes) = omega arith in
      let work_long : required t (junctions_of (words16 bytes)) m ≤ length work = omega (arith, i.junctions, i.segments, i.events) in (
        (below_long 2 (table_lengths (input_lent work bytes))).1
            (part_long 4 m a, (part_long (4 + m) m b, (part_long (4 + 2 * m) m s, (part_long (4 + 3 * m) t x, (part_long (4 + 3 * m + t) t y, (r, (r, (work_long, tt)))))))),
        (below_long 12 (read_lengths (input_lent work bytes))).1
            (part_most 4 m a, (part_most (4 + m) m b, (part_most (4 + 2 * m) m s, (part_most (4 + 3 * m) t x, (part_most (4 + 3 * m + t) t y, tt))))),
      )

  pub fault_said : (p : ℕ) → Said (fault (input_lent work bytes) p).0
  unfolding fault faults list_faults
  fault_said p =
      let l : Lent = input_lent work bytes in
      let one : Said 1 = (omega arith, λ e. omega arith) in
      let three : Said 3 = (omega arith, λ e. omega arith) in
      says_fault (faults l p)
      (says_append (size_faults l.n l.m l.t 0) (short_tables l ++ long_tables l ++ share_faults p ++ list_faults l) (λ _. one, (λ _. one, (λ _. one, (λ _. one, tt))))
      (says_append (short_tables l) (long_tables l ++ share_faults p ++ list_faults l) (says_silent (short_tables l) program_room.0)
      (says_append (long_tables l) (share_faults p ++ list_faults l) (says_silent (long_tables l) program_room.1)
      (says_append (share_faults p) (list_faults l) (λ _. three, (λ _. three, tt))
      (λ _. (omega arith, λ e. omega arith), (λ _. (omega arith, λ e. omega arith), (λ _. event_said l _, tt)))))))
