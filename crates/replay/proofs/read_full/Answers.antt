-- A read puts its bytes behind those that were read before.
use Rattle.std.proofs.Common.{rules, ◌≡◌, ℕ, ◌+◌, ◌≤◌, List, ◌++◌, arith, length, take, refl, sym, ap, ◌∙◌, subst, length-take-le}
use Rattle.std.proofs.Math.Seq.{take-append-add}
use Rattle.std.proofs.lemmas.List.{take-append-le}
use Rattle.std.proofs.KnownBytes.{Consumes-trans, Consumes-nil}
use Rattle.std.specs.Io.KnownBytes.{Consumes}
use Rattle.replay.proofs.read_full.Goals as goal

-- n bytes of ys, written over xs from a on, follow the first a of xs
grown : (a n b : ℕ) (xs ys rest : List ℕ) → a + n ≡ b → a ≤ length xs → n ≤ length ys → take b (take a xs ++ (ys ++ rest)) ≡ take a xs ++ take n ys
grown a n b xs ys rest e h k =
    ap (λ i. take i (take a xs ++ (ys ++ rest))) (sym e) ∙ ap (λ i. take (i + n) (take a xs ++ (ys ++ rest))) (sym (length-take-le a xs h))
    ∙ take-append-add (take a xs) (ys ++ rest) n ∙ ap (λ l. take a xs ++ l) (take-append-le n ys rest k)

pub loop-count-init : goal.loop-count-init
loop-count-init g c = record { within = omega arith; bytes = Consumes-nil _ }

pub returns-then-n-eq0-clause-bytes : goal.returns-then-n-eq0-clause-bytes
returns-then-n-eq0-clause-bytes g c =
    let i = c.loop-count.invariant in
    subst (Consumes _ _) (sym (grown _ c.in_ok-n.n _ _ _ _ (omega arith) i.within c.in_ok-n.ensures.bound.0)) (Consumes-trans _ _ _ _ _ i.bytes c.in_ok-n.ensures.bytes.0)

pub loop-count-preserved : goal.loop-count-preserved
loop-count-preserved g c =
    let i = c.loop-count.invariant in
    record {
      within = search rules;
      bytes = subst (Consumes _ _) (sym (grown _ c.in_ok-n.n _ _ _ _ refl i.within c.in_ok-n.ensures.bound.0)) (Consumes-trans _ _ _ _ _ i.bytes c.in_ok-n.ensures.bytes.0);
    }
