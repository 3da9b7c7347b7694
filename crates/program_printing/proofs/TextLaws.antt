-- Laws of the program's text: texts written one after the other, numbers in base ten, the lines of the queries.
-- Assumes nothing.
use Prim.Native.Nat.{◌%◌, ◌+◌, ◌-◌, ◌/◌, ◌<◌, ◌^◌, ◌≤◌, suc, zero, ℕ}
use mathlib.Core.Bool.{Bool, cond, false, true}
use mathlib.Core.List.{List, [], ◌++◌, ◌∷◌, append_assoc, append-nil}
use mathlib.Core.Path.{◌∙◌, ◌≡◌, ap, ap₂, refl, subst, sym}
use lib.Dec.{ltb}
use borrow.Rule.Slice.PartMut.{put_mid}
use lib.ListN.{drop, get_or, length, length-append, take}
use lib.Seq.{length-sets, sets}
use Rattle.std.proofs.lemmas.List.{drop-drop}
use Rattle.std.proofs.lemmas.Fmt.{decimal_from_prepends, decimal_step, length-decimal-le}
use Rattle.std.proofs.lemmas.List.Edits.{sets-eq}
use Rattle.std.specs.Fmt as printed
use native.Mathlib.Omega.{arith}
use Rattle.theory_graph.proofs.TableLaws.{sets_append}
use Rattle.call_kinds.specs.Kinds.{is_query, kind_of}
use Rattle.program_printing.specs.Printing.{Wrote}
use Rattle.theory_timeline.proofs.EventLoops.{Met}
use Rattle.theory_timeline.proofs.Decimals.{spell_more, spell_one}
use Rattle.theory_timeline.specs.Program.{decimal, query_line, query_lines, spell}

-- a text that is copied into its place
pub wrote_text : (at : ℕ) (text a b : List ℕ) → at + length text ≤ length a → b ≡ text → Wrote at text a (put_mid at (at + length text - at) a b) (at + length text)
wrote_text at text a b l e = record { table = placed ∙ sym (sets-eq text a at l); next = refl }
  where
    after : drop (at + length text - at) (drop at a) ≡ drop (at + length text) a
    after = let k : at + length text - at ≡ length text = omega arith in ap (λ (k : ℕ). drop k (drop at a)) k ∙ drop-drop (length text) at a

    placed : put_mid at (at + length text - at) a b ≡ take at a ++ text ++ drop (at + length text) a
    placed = ap₂ (λ (x y : List ℕ). take at a ++ (x ++ y)) e after ∙ sym (append_assoc (take at a) text (drop (at + length text) a))

pub wrote_then : {at r q : ℕ} (s t : List ℕ) {a b c : List ℕ} → Wrote at s a b r → Wrote r t b c q → Wrote at (s ++ t) a c q
wrote_then {at} s t {a} {b} w v =
    record {
      table = v.table ∙ ap₂ (λ (x : List ℕ) (k : ℕ). sets x k t) w.table w.next ∙ sym (sets_append s a at t);
      next = omega (arith, v.next, w.next, length-append s t);
    }

pub wrote_none : (at : ℕ) (a : List ℕ) → Wrote at [] a a at
wrote_none at a = record { table = refl; next = omega arith }

pub wrote_length : {at r : ℕ} (s : List ℕ) {a b : List ℕ} → Wrote at s a b r → length b ≡ length a
wrote_length {at} s {a} w = ap length w.table ∙ length-sets a at s

-- ---- numbers in base ten
spell_most : (k n : ℕ) (rest : List ℕ) → length (spell k n rest) ≤ k + length rest
unfolding spell
spell_most zero n rest = omega arith
spell_most (suc k) n rest = go (ltb n 10) (spell_most k (n / 10) ((48 + n % 10) ∷ rest))
  where
    go : (b : Bool) → length (spell k (n / 10) ((48 + n % 10) ∷ rest)) ≤ k + suc (length rest)
        → length {A = ℕ} (elim b as (λ x. List ℕ) [ true ↦ (48 + n) ∷ rest | false ↦ spell k (n / 10) ((48 + n % 10) ∷ rest) ]) ≤ suc k + length rest
    go true h = omega arith
    go false h = omega arith

pub decimal_most : (n : ℕ) → length (decimal n) ≤ 20
unfolding decimal
decimal_most n = omega (arith, spell_most 20 n [])

-- the library's text of a number is the definition's
decimal_is : (n : ℕ) → n < 2 ^ 64 → decimal n ≡ printed.decimal n
unfolding decimal
decimal_is n h = decimal_from_prepends spell (record { one = spell_one; more = spell_more }) 20 n [] h (length-decimal-le 20 n (omega arith) (omega arith) h) ∙ append-nil (printed.decimal n)

pub decimal_more : (n : ℕ) → 10 ≤ n → n < 2 ^ 64 → decimal n ≡ decimal (n / 10) ++ ((48 + n % 10) ∷ [])
decimal_more n l h = decimal_is n h ∙ decimal_step n l h ∙ sym (ap (λ (x : List ℕ). x ++ ((48 + n % 10) ∷ [])) (decimal_is (n / 10) (omega arith)))

-- ---- the lines of the queries
module _ (n : ℕ) (x answers : List ℕ) where
  abbrev lines : ℕ → ℕ → List ℕ
  lines = query_lines n x answers

  -- the line of event i in front of others, where it is a query
  abbrev in_front : ℕ → Bool → List ℕ → List ℕ
  in_front i b rest = elim b as (λ x. List ℕ) [ true ↦ query_line i (get_or answers i 0) ++ rest | false ↦ rest ]

  pub lines_snoc : (i k : ℕ) → lines i (k + 1) ≡ lines i k ++ lines (i + k) 1
  unfolding query_lines
  lines_snoc i zero = let e : i + 0 ≡ i = omega arith in ap (λ (j : ℕ). lines j 1) (sym e)
  lines_snoc i (suc k) =
      let e : suc k + 1 ≡ suc (k + 1) = omega arith in
      let f : suc i + k ≡ i + suc k = omega arith in
      ap (lines i) e
      ∙ step (is_query (kind_of n (get_or x i 0))) (lines_snoc (suc i) k ∙ ap (λ (j : ℕ). lines (suc i) k ++ lines j 1) f)
    where
      step : (b : Bool) → lines (suc i) (k + 1) ≡ lines (suc i) k ++ lines (i + suc k) 1
          → in_front i b (lines (suc i) (k + 1)) ≡ in_front i b (lines (suc i) k) ++ lines (i + suc k) 1
      step true h = ap (λ (l : List ℕ). query_line i (get_or answers i 0) ++ l) h ∙ sym (append_assoc (query_line i (get_or answers i 0)) (lines (suc i) k) (lines (i + suc k) 1))
      step false h = h

  pub lines_zero : lines 0 0 ≡ []
  unfolding query_lines
  lines_zero = refl

  pub from_zero : (i : ℕ) → lines i 1 ≡ lines (0 + i) 1
  from_zero i = let e : i ≡ 0 + i = omega arith in ap (λ (j : ℕ). lines j 1) e

  pub lines_query : (i : ℕ) → is_query (kind_of n (get_or x i 0)) ≡ true → lines i 1 ≡ query_line i (get_or answers i 0)
  unfolding query_lines
  lines_query i h = ap (λ (b : Bool). in_front i b []) h ∙ append-nil (query_line i (get_or answers i 0))

  pub lines_none : (i : ℕ) → is_query (kind_of n (get_or x i 0)) ≡ false → lines i 1 ≡ []
  unfolding query_lines
  lines_none i h = ap (λ (b : Bool). in_front i b []) h

  -- what an event adds
  pub line_met : {k i event_x answer : ℕ} → Met x answers k i event_x answer → cond (is_query (kind_of n event_x)) (query_line i answer) [] ≡ lines (0 + k) 1
  line_met {k} e = (λ j. cond (is_query (kind_of n (e.x_is j))) (query_line (e.place j) (e.y_is j)) []) ∙ of (is_query (kind_of n (get_or x k 0))) refl ∙ from_zero k
    where
      of : (b : Bool) → is_query (kind_of n (get_or x k 0)) ≡ b → cond b (query_line k (get_or answers k 0)) [] ≡ lines k 1
      of true t = sym (lines_query k t)
      of false t = sym (lines_none k t)

-- ---- where a text ends
pub number_end : (n : ℕ) {at r : ℕ} {a b : List ℕ} → Wrote at (decimal n) a b r → (r ≤ at + 20) × (length b ≡ length a)
number_end n w = (omega (arith, w.next, decimal_most n), wrote_length (decimal n) w)

pub text_end : {at r : ℕ} (s : List ℕ) {a b : List ℕ} → Wrote at s a b r → (r ≡ at + length s) × (length b ≡ length a)
text_end s w = (w.next, wrote_length s w)

-- an equal text
pub wrote_as : {at r : ℕ} {s t a b : List ℕ} → s ≡ t → Wrote at s a b r → Wrote at t a b r
wrote_as {at} {r} {a = a} {b = b} e w = subst (λ (s : List ℕ). Wrote at s a b r) e w

-- the last digit
pub decimal_length : (n : ℕ) → 10 ≤ n → n < 2 ^ 64 → length (decimal n) ≡ length (decimal (n / 10)) + 1
decimal_length n l h = ap length (decimal_more n l h) ∙ length-append (decimal (n / 10)) ((48 + n % 10) ∷ [])
