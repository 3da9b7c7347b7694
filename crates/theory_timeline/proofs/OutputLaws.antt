-- The program's refusals: no input is answered by 2 or by 12. What an accepted replay prints begins with a digit or with "asks"; a line of a refusal begins with
-- "refused" and shows its number; and the numbers are those that ProgramLaws leaves.
-- Assumes nothing.
use Prim.Native.Nat.{◌%◌, ◌+◌, ◌/◌, ◌<◌, ◌≤◌, suc, zero, ℕ}
use mathlib.Core.Bool.{Bool, false, true}
use mathlib.Core.List.{List, [], ◌++◌, ◌∷◌}
use mathlib.Core.Path.{◌∙◌, ◌≡◌, ap, refl, subst}
use lib.Dec.{eqb, ltb}
use lib.ListN.{get_or, length-replicate, replicate}
use native.Mathlib.Omega.{arith}
use borrow.Author.Tests.{eqb-true, ltb-false, ltb-true}
use Rattle.theory_graph.proofs.Booleans.{on_bool}
use Rattle.call_kinds.specs.Kinds.{is_query, kind_of}
use Rattle.theory_timeline.proofs.Decimals.{decimal_one, spell_more, spell_one}
use Rattle.theory_timeline.proofs.ProgramLaws.{Said, fault_said, input_said}
use Rattle.theory_timeline.specs.Program.{NeverAnswers, decimal, input_fault, input_lent, output, output_with, printed, printed_input, query_line, query_lines, refused_line, share_of, spell, totals_line, words16}
use Rattle.theory_timeline.specs.Replay.{Lent, Outcome, done, fault, refused, replay}

-- ---- the first byte
abbrev Low : List ℕ → Type 0
Low l = get_or l 0 0 ≤ 97

low_append : (xs ys : List ℕ) → Low xs → Low ys → Low (xs ++ ys)
low_append [] ys a b = b
low_append (x ∷ xs) ys a b = a

spell_low : (k n : ℕ) (rest : List ℕ) → Low rest → Low (spell k n rest)
unfolding spell
spell_low zero n rest h = h
spell_low (suc k) n rest h = go (ltb n 10) refl (spell_low k (n / 10) more (omega arith))
  where
    more : List ℕ
    more = (48 + n % 10) ∷ rest

    go : (b : Bool) → ltb n 10 ≡ b → Low (spell k (n / 10) more) → Low (elim b as (λ x. List ℕ) [ true ↦ (48 + n) ∷ rest | false ↦ spell k (n / 10) more ])
    go true e l = omega (arith, ltb-true n 10 e)
    go false e l = l

query_low : (i a : ℕ) → Low (query_line i a)
unfolding query_line decimal
query_low i a = low_append (spell 20 i []) _ (spell_low 20 i [] (omega arith)) (omega arith)

lines_low : (n : ℕ) (x answers : List ℕ) (i k : ℕ) → Low (query_lines n x answers i k)
unfolding query_lines
lines_low n x answers i zero = omega arith
lines_low n x answers i (suc k) = go (is_query (kind_of n (get_or x i 0))) (lines_low n x answers (suc i) k)
  where
    rest : List ℕ
    rest = query_lines n x answers (suc i) k

    go : (b : Bool) → Low rest → Low (elim b as (λ x. List ℕ) [ true ↦ query_line i (get_or answers i 0) ++ rest | false ↦ rest ])
    go true l = low_append (query_line i (get_or answers i 0)) rest (query_low i (get_or answers i 0)) l
    go false l = l

totals_low : (q o k : ℕ) → Low (totals_line q o k)
unfolding totals_line
totals_low q o k = omega arith

-- ---- the number of a refusal's line
decimal_two : (c : ℕ) → 10 ≤ c → c < 100 → decimal c ≡ (48 + c / 10) ∷ (48 + c % 10) ∷ []
unfolding decimal
decimal_two c h l = spell_more 19 c [] h ∙ spell_one 18 (c / 10) ((48 + c % 10) ∷ []) (omega arith)

-- a line with these digits
abbrev line : List ℕ → ℕ → List ℕ
line digits i = 114 ∷ 101 ∷ 102 ∷ 117 ∷ 115 ∷ 101 ∷ 100 ∷ 32 ∷ (digits ++ (32 ∷ 97 ∷ 116 ∷ 32 ∷ (decimal i ++ (10 ∷ []))))

line_first : (c i : ℕ) → get_or (refused_line c i) 0 0 ≡ 114
unfolding refused_line
line_first c i = refl

-- its bytes 8 and 9: a digit and a space, or two digits
line_one : (c i : ℕ) → c < 10 → (get_or (refused_line c i) 8 0 ≡ 48 + c) × (get_or (refused_line c i) 9 0 ≡ 32)
unfolding refused_line
line_one c i l = (ap (λ (d : List ℕ). get_or (line d i) 8 0) (decimal_one c l), ap (λ (d : List ℕ). get_or (line d i) 9 0) (decimal_one c l))

line_two : (c i : ℕ) → 10 ≤ c → c < 100 → (get_or (refused_line c i) 8 0 ≡ 48 + c / 10) × (get_or (refused_line c i) 9 0 ≡ 48 + c % 10)
unfolding refused_line
line_two c i h l = (ap (λ (d : List ℕ). get_or (line d i) 8 0) (decimal_two c h l), ap (λ (d : List ℕ). get_or (line d i) 9 0) (decimal_two c h l))

-- so a line tells its number
line_number : (c d i j : ℕ) → c < 100 → d < 100 → refused_line c i ≡ refused_line d j → c ≡ d
line_number c d i j lc ld e =
    let e8 = ap (λ (l : List ℕ). get_or l 8 0) e in
    let e9 = ap (λ (l : List ℕ). get_or l 9 0) e in
    on_bool (ltb c 10)
    (λ p. let (c8, c9) = line_one c i (ltb-true c 10 p) in on_bool (ltb d 10)
    (λ q. let (d8, d9) = line_one d j (ltb-true d 10 q) in omega arith)
    (λ q. let (d8, d9) = line_two d j (ltb-false d 10 q) ld in absurd (omega arith)))
    (λ p. let (c8, c9) = line_two c i (ltb-false c 10 p) lc in on_bool (ltb d 10)
    (λ q. let (d8, d9) = line_one d j (ltb-true d 10 q) in absurd (omega arith))
    (λ q. let (d8, d9) = line_two d j (ltb-false d 10 q) ld in omega arith))

-- ---- what the program writes
module _ (bytes : List ℕ) (d i : ℕ) (few : d < 100) (never : ¬ Said d) where
  abbrev work : List ℕ
  work = replicate 16384 0

  line_never : (c j : ℕ) → Said c → ¬ (refused_line c j ≡ refused_line d i)
  line_never c j s e = never (subst Said (line_number c d j i (omega (arith, s.0)) few e) s)

  printed_never : (input_fault bytes).0 ≡ 0 → (p : ℕ) → ¬ (printed_input work bytes p ≡ refused_line d i)
  unfolding printed replay done refused
  printed_never h p = go (eqb (fault l p).0 0)
    where
      l : Lent
      l = input_lent work bytes

      go : (b : Bool) → ¬ (printed l.n l.t l.x (elim b as (λ x. Outcome) [ true ↦ done l p | false ↦ refused l (fault l p) ]) ≡ refused_line d i)
      go true e =
          let r = done l p in
          let lines = query_lines l.n l.x r.answers 0 l.t in
          let totals = totals_line r.queries r.opened r.kept in
          let low : Low (lines ++ totals) =
          low_append lines totals (lines_low l.n l.x r.answers 0 l.t) (totals_low r.queries r.opened r.kept) in
          let first : get_or (lines ++ totals) 0 0 ≡ get_or (refused_line d i) 0 0 = ap (λ (l : List ℕ). get_or l 0 0) e in
          omega (arith, line_first d i)
      go false e = line_never (fault l p).0 (fault l p).1 (fault_said work bytes (length-replicate {A = ℕ} 16384 0) h p) e

  output_never : ¬ (output bytes ≡ refused_line d i)
  unfolding output output_with
  output_never = go (eqb (input_fault bytes).0 0) refl
    where
      go : (b : Bool) → eqb (input_fault bytes).0 0 ≡ b
          → ¬ (elim b as (λ x. List ℕ) [ true ↦ printed_input work bytes (share_of (words16 bytes)) | false ↦ refused_line (input_fault bytes).0 (input_fault bytes).1 ] ≡ refused_line d i)
      go true h = printed_never (eqb-true (input_fault bytes).0 0 h) (share_of (words16 bytes))
      go false h = line_never (input_fault bytes).0 (input_fault bytes).1 (input_said bytes)

-- "its parts have their exact lengths": the program never answers 12, nor 2
pub never_two : NeverAnswers 2
never_two bytes i = output_never bytes 2 i (omega arith) (λ s. s.1 refl)

pub never_twelve : NeverAnswers 12
never_twelve bytes i = output_never bytes 12 i (omega arith) (λ s. omega (arith, s.0))
