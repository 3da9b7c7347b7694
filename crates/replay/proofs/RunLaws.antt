-- What is written for the bytes that were read is the output for the whole input. Assumes nothing.
use Rattle.std.proofs.Common.{◌≡◌, ℕ, ◌+◌, ◌<◌, ◌≤◌, List, [], ◌∷◌, ◌++◌, None, Some, IfSome, arith, length, take, drop, replicate, sym, ap, ◌∙◌, subst, append-nil, take_all, length-take-le}
use Rattle.std.proofs.Math.Seq.{take-append_seam}
use Rattle.std.proofs.lemmas.List.Edits.{sets-eq}
use Rattle.std.specs.declared.option.Option.{Option}
use Rattle.std.specs.Io.KnownBytes.{Consumes, IsAtEnd}
use Rattle.program_printing.specs.Printing.{Wrote}
use Rattle.program_response.proofs.ResponseLaws.{enough}
use Rattle.theory_timeline.specs.Program.{output, output_with}

-- what was written stands at the front of the table
pub written : (text a b : List ℕ) (r : ℕ) → Wrote 0 text a b r → r ≤ length a → take r b ≡ text
written text a b r w h =
    let long : length text ≡ r = omega (arith, w.next) in
    ap (take r) (w.table ∙ sets-eq text a 0 (omega (arith, w.next)))
    ∙ ap (λ k. take k (text ++ drop (0 + length text) a)) (sym long) ∙ take-append_seam text (drop (0 + length text) a)

-- the bytes that were read are the first 1,024 of the input, where it has as many, and else all of it
front : (x y bs : List ℕ) → x ≡ bs ++ y → length bs ≤ 1024 → (length bs < 1024 → y ≡ []) → bs ≡ take 1024 x
front x [] bs e h end = sym (ap (take 1024) (e ∙ append-nil bs) ∙ take_all 1024 bs h)
front x (v ∷ vs) bs e h end =
    let none : length bs < 1024 → ⊥ = λ l. let q = end l in cc in
    let full : length bs ≡ 1024 = omega arith in
    sym (ap (take 1024) e ∙ ap (λ k. take k (bs ++ (v ∷ vs))) (sym full) ∙ take-append_seam bs (v ∷ vs))

-- of n bytes that were read into a table of 1,024, and fewer only at the end of the input
pub whole : (a b : Option (List ℕ)) (t : List ℕ) (n : ℕ) (P : List ℕ → Type 0) → length t ≡ 1024 → n ≤ length t → Consumes a b (take n t)
    → (n < length t → IsAtEnd b) → P (output_with (replicate 16384 0) (take n t)) → IfSome a (λ bytes. P (output bytes))
unfolding output
whole None b t n P long within read end p = tt
whole (Some x) None t n P long within read end p = absurd read
whole (Some x) (Some y) t n P long within read end p = subst P same p
  where
    count : length (take n t) ≡ n
    count = length-take-le n t within

    same : output_with (replicate 16384 0) (take n t) ≡ output x
    same = ap (output_with (replicate 16384 0)) (front x y (take n t) read (omega (arith, count)) (λ l. end (omega (arith, count)))) ∙ enough (replicate 16384 0) x
