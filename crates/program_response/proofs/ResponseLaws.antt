-- Laws of the response: what a header says of its input, the tables that are filled from the input, and the reply to them.
-- Assumes nothing.
use Prim.Native.Nat.{◌*◌, ◌+◌, ◌<◌, ◌≤◌, ℕ}
use mathlib.Core.Bool.{false, true}
use mathlib.Core.List.{List, [], ◌++◌, ◌∷◌}
use mathlib.Core.Path.{◌∙◌, ◌≡◌, ap, ap₂, refl, sym}
use lib.Dec.{eqb, ltb}
use lib.ListN.{drop, get_or, length, length-append, length-drop, replicate, take}
use lib.Seq.{get_or-take, length-take-le, take_all}
use native.Mathlib.Omega.{arith}
use Rattle.std.proofs.Math.Seq.{take-append_seam}
use borrow.Author.Tests.{eqb-true, ltb-false, ltb-true}
use Rattle.std.specs.Prelude.{Err, Ok, Result}
use Rattle.call_sizes.specs.Numbers.{number_of, place_of}
use Rattle.call_sizes.specs.Refusal.{Refusal}
use Rattle.call_sizes.specs.declared.Refusal as declared
use Rattle.theory_graph.proofs.Booleans.{on_bool}
use Rattle.program_reading.proofs.ReadingLaws.{many_events, many_junctions, many_segments, other_length, word_at}
use Rattle.program_printing.proofs.TextLaws.{decimal_most}
use Rattle.program_reading.specs.Reading.{HeaderOutcome, Read, check_input, header_outcome}
use Rattle.program_reading.specs.declared.Header.{Header}
use Rattle.theory_timeline.proofs.ProgramLaws.{input_within, words16_length}
use Rattle.theory_timeline.specs.Call.{lent, outcome}
use Rattle.theory_timeline.specs.Program.{decimal, events_of, input_fault, input_length, input_lent, junctions_of}
use Rattle.theory_timeline.specs.Program.{output_with, printed, printed_input, refused_line, segments_of, share_of, totals_line, words16}
use Rattle.theory_timeline.specs.Replay.{Lent, Outcome, replay}
use Rattle.theory_timeline.specs.declared.Totals.{Totals}
use Rattle.program_response.specs.Response.{work_after}

-- ---- the header
module _ (I : List ℕ) where
  module _ {h : Header} (e : header_outcome (Ok h) ≡ check_input I) where
    accepts : eqb (input_fault I).0 0 ≡ true
    accepts = sym (ap (λ (o : HeaderOutcome). o.accepted) e)

    pub header_read : Read h.n h.m h.t I
    header_read =
        let f : h.m ≡ segments_of (words16 I) = rw accepts at (ap (λ (o : HeaderOutcome). o.m) e) in
        let g : h.t ≡ events_of (words16 I) = rw accepts at (ap (λ (o : HeaderOutcome). o.t) e) in
        let w = input_within I (eqb-true (input_fault I).0 0 accepts) in
        record {
          junctions = rw accepts at (ap (λ (o : HeaderOutcome). o.n) e);
          segments = f;
          events = g;
          few_segments = omega (arith, w.segments);
          few_events = omega (arith, w.events);
          long = w.long ∙ ap₂ (λ (x y : ℕ). 2 * input_length x y) (sym f) (sym g);
        }

    header_share : h.p ≡ share_of (words16 I)
    header_share = rw accepts at (ap (λ (o : HeaderOutcome). o.p) e)

    pub output_accepted : (work : List ℕ) → printed_input work I h.p ≡ output_with work I
    unfolding output_with
    output_accepted work = rw (output_with, accepts) (ap (printed_input work I) header_share)

    pub work_accepted : (work : List ℕ) {left : List ℕ} → left ≡ (replay (input_lent work I) h.p).work → left ≡ work_after work I
    unfolding work_after
    work_accepted work l = rw (work_after, accepts) (l ∙ ap (λ (q : ℕ). (replay (input_lent work I) q).work) header_share)

  -- an input that is refused
  output_fault : {f : Refusal} → input_fault I ≡ f → eqb f.0 0 ≡ false → (work : List ℕ) → refused_line f.0 f.1 ≡ output_with work I
  unfolding output_with
  output_fault e n work =
      let r = ap (λ (g : Refusal). eqb g.0 0) e ∙ n in
      rw (output_with, r) (ap₂ refused_line (ap (λ (g : Refusal). g.0) (sym e)) (ap (λ (g : Refusal). g.1) (sym e)))

  module _ (r : declared.Refusal) (e : header_outcome (Err r) ≡ check_input I) where
    refuses : eqb (input_fault I).0 0 ≡ false
    refuses = sym (ap (λ (o : HeaderOutcome). o.accepted) e)

    pub output_refused : (work : List ℕ) → refused_line (number_of r) (place_of r) ≡ output_with work I
    unfolding output_with
    output_refused work = rw (output_with, refuses) (ap₂ refused_line (ap (λ (o : HeaderOutcome). o.code) e) (ap (λ (o : HeaderOutcome). o.place) e))

    pub work_refused : (work : List ℕ) → work ≡ work_after work I
    unfolding work_after
    work_refused work = rw (work_after, refuses) refl

  -- ---- the tables
  module _ {n m t : ℕ} (r : Read n m t I) where
    pub numbers : length (words16 I) ≡ input_length m t
    numbers = words16_length I (input_length m t) r.long

    -- the front of a table, once it is filled from number i on
    pub table_is : (i k : ℕ) (old rest : List ℕ) {part : List ℕ} → part ≡ take (length old) (drop i (words16 I)) → length old ≡ k → i + k ≤ input_length m t
        → take k (part ++ rest) ≡ take k (drop i (words16 I))
    table_is i k old rest {part} e l b =
        let whole : part ≡ take k (drop i (words16 I)) = e ∙ ap (λ (k : ℕ). take k (drop i (words16 I))) l in
        let long : length part ≡ k = ap length whole ∙ length-take-le k (drop i (words16 I)) (omega (arith, length-drop i (words16 I), numbers)) in
        ap (λ (k : ℕ). take k (part ++ rest)) (sym long) ∙ take-append_seam part rest ∙ whole

    pub lent_input : (work : List ℕ) {a b start x y : List ℕ} → a ≡ take m (drop 4 (words16 I)) → b ≡ take m (drop (4 + m) (words16 I))
        → start ≡ take m (drop (4 + 2 * m) (words16 I)) → x ≡ take t (drop (4 + 3 * m) (words16 I)) → y ≡ take t (drop (4 + 3 * m + t) (words16 I))
        → lent n m t a b start x y (replicate 32 0) (replicate 32 0) work ≡ input_lent work I
    unfolding input_lent
    lent_input work e f s g k =
        (λ i. lent n m t (e i) (f i) (s i) (g i) (k i) (replicate 32 0) (replicate 32 0) work)
        ∙ (λ i. lent (r.junctions i) (r.segments i) (r.events i)
        (take (r.segments i) (drop 4 (words16 I))) (take (r.segments i) (drop (4 + r.segments i) (words16 I)))
        (take (r.segments i) (drop (4 + 2 * r.segments i) (words16 I)))
        (take (r.events i) (drop (4 + 3 * r.segments i) (words16 I))) (take (r.events i) (drop (4 + 3 * r.segments i + r.events i) (words16 I)))
        (replicate 32 0) (replicate 32 0) work)

-- ---- the reply
outcome_work : (r : Result Totals declared.Refusal) (answers names work : List ℕ) → (outcome r answers names work).work ≡ work
outcome_work (Ok t) answers names work = refl
outcome_work (Err e) answers names work = refl

-- to what an input lends: its print, and the work table
pub replied : (I : List ℕ) {n m t : ℕ} (r : Read n m t I) (p : ℕ) (work : List ℕ) {a b start x y : List ℕ}
    → a ≡ take m (drop 4 (words16 I)) → b ≡ take m (drop (4 + m) (words16 I)) → start ≡ take m (drop (4 + 2 * m) (words16 I))
    → x ≡ take t (drop (4 + 3 * m) (words16 I)) → y ≡ take t (drop (4 + 3 * m + t) (words16 I))
    → (reply : Result Totals declared.Refusal) (answers names left : List ℕ)
    → outcome reply answers names left ≡ replay (lent n m t a b start x y (replicate 32 0) (replicate 32 0) work) p
    → (printed n (length x) x (outcome reply answers names left) ≡ printed_input work I p) × (left ≡ (replay (input_lent work I) p).work)
unfolding input_lent
replied I {n} {m} {t} r p work {x = x} ea eb es ex ey reply answers names left e =
    let l = lent_input I r work ea eb es ex ey in
    let lx : length x ≡ t = ap length ex ∙ length-take-le t (drop (4 + 3 * m) (words16 I)) (omega (arith, length-drop (4 + 3 * m) (words16 I), numbers I r)) in
    let f = e ∙ ap (λ (l : Lent). replay l p) l in (
      ap₂ (λ (k : ℕ) (o : Outcome). printed n k x o) lx e ∙ ap (λ (l : Lent). printed l.n l.t l.x (replay l p)) l,
      sym (outcome_work reply answers names left) ∙ ap (λ (o : Outcome). o.work) f,
    )

-- ---- where a line ends
pub totals_most : (q o k : ℕ) → length (totals_line q o k) ≤ 78
unfolding totals_line
totals_most q o k =
    omega (
      arith,
      decimal_most q,
      decimal_most o,
      decimal_most k,
      length-append (decimal q) (32 ∷ 111 ∷ 112 ∷ 101 ∷ 110 ∷ 32 ∷ (decimal o ++ (32 ∷ 107 ∷ 101 ∷ 112 ∷ 116 ∷ 32 ∷ (decimal k ++ (10 ∷ []))))),
      length-append (decimal o) (32 ∷ 107 ∷ 101 ∷ 112 ∷ 116 ∷ 32 ∷ (decimal k ++ (10 ∷ []))),
      length-append (decimal k) (10 ∷ []),
    )

pub refused_most : (c i : ℕ) → length (refused_line c i) ≤ 53
unfolding refused_line
refused_most c i = omega (arith, decimal_most c, decimal_most i, length-append (decimal c) (32 ∷ 97 ∷ 116 ∷ 32 ∷ (decimal i ++ (10 ∷ []))), length-append (decimal i) (10 ∷ []))

-- ---- reading 1,024 bytes is enough: an input longer than any list is refused in the same words whatever follows
longer : (work I J : List ℕ) → 520 < length I → 520 < length J → junctions_of (words16 I) ≡ junctions_of (words16 J) → segments_of (words16 I) ≡ segments_of (words16 J)
    → events_of (words16 I) ≡ events_of (words16 J)
    → output_with work I ≡ output_with work J
longer work I J a b e f g =
    on_bool (ltb 176 (junctions_of (words16 I)))
    (λ h. let l = ltb-true 176 (junctions_of (words16 I)) h in both 10 refl (many_junctions I (omega arith) l) (many_junctions J (omega arith) (omega arith)))
    (λ h.
    let l = ltb-false 176 (junctions_of (words16 I)) h in
    on_bool (ltb 64 (segments_of (words16 I)))
    (λ h. let k = ltb-true 64 (segments_of (words16 I)) h in both 10 refl (many_segments I (omega arith) l k) (many_segments J (omega arith) (omega arith) (omega arith)))
    (λ h.
    let k = ltb-false 64 (segments_of (words16 I)) h in
    on_bool (ltb 32 (events_of (words16 I)))
    (λ h. let j = ltb-true 32 (events_of (words16 I)) h in both 10 refl (many_events I (omega arith) l k j) (many_events J (omega arith) (omega arith) (omega arith) (omega arith)))
    (λ h.
    let j = ltb-false 32 (events_of (words16 I)) h in
    both 9 refl (other_length I (omega arith) l k j (λ q. omega arith)) (other_length J (omega arith) (omega arith) (omega arith) (omega arith) (λ q. omega arith)))))
  where
    both : (c : ℕ) → eqb c 0 ≡ false → input_fault I ≡ (c, 0) → input_fault J ≡ (c, 0) → output_with work I ≡ output_with work J
    both c n p q = sym (output_fault I p n work) ∙ output_fault J q n work

pub enough : (work bytes : List ℕ) → output_with work (take 1024 bytes) ≡ output_with work bytes
enough work bytes = on_bool (ltb 1024 (length bytes))
    (λ h.
    let l = ltb-true 1024 (length bytes) h in
    let e : length (take 1024 bytes) ≡ 1024 = length-take-le 1024 bytes (omega arith) in
    let at : (i : ℕ) → i < 3 → get_or (words16 (take 1024 bytes)) i 0 ≡ get_or (words16 bytes) i 0 = λ i b.
    word_at (take 1024 bytes) i (omega arith)
    ∙ ap₂ (λ (x y : ℕ). x + 256 * y) (get_or-take 1024 bytes (2 * i) 0 (omega arith)) (get_or-take 1024 bytes (2 * i + 1) 0 (omega arith)) ∙ sym (word_at bytes i (omega arith)) in
    longer work (take 1024 bytes) bytes (omega arith) (omega arith) (at 0 (omega arith)) (at 1 (omega arith)) (at 2 (omega arith)))
    (λ h. ap (output_with work) (take_all 1024 bytes (ltb-false 1024 (length bytes) h)))
