use Prim.Native.Nat.{◌<◌, ℕ}
use mathlib.Core.Bool.{◌&&◌}
use mathlib.Core.Path.{◌∙◌, ◌≡◌, ap, fun_ext, sym}
use lib.Dec.{eqb, ltb}
use lib.ListN.{get_or, length, take}
use lib.Seq.{length-take-le, get_or-take}
use native.Mathlib.Omega.{arith}
use Rattle.call_open_set.proofs.OpenSetLaws.{filled_closed, filled_none, filled_open, set_at_segment}
use Rattle.call_open_set.specs.OpenSet.{bits}
use Rattle.call_open_set.proofs.from_table.Goals as goal
use Rattle.call_open_set.proofs.from_table.Goals.{then-entry-eq1, else-entry-eq1}

pub loop-s-init : goal.loop-s-init
loop-s-init c = (omega arith, filled_none _)

pub loop-s-preserved : goal.loop-s-preserved
loop-s-preserved c =
    let start = c.args.start.now in
    let s = c.loop-s.s in
    let (l, p) = c.loop-s.invariant in
    let e : length (take c.args.m start) ≡ c.args.m = length-take-le c.args.m start (omega arith) in
    let few : s < 8192 = omega arith in
    let here = get_or-take c.args.m start s 0 (omega arith) in
    elim c.if-entry-eq1.branch [
      | then-entry-eq1 w ↦ (omega arith, filled_open p few (sym here ∙ w.if-entry-eq1.true) _ (ap bits w.held-is ∙ set_at_segment c.loop-s.held s _ 1 p.words few w.with_bit.ensures))
      | else-entry-eq1 w ↦ (omega arith, rw w.held-is (filled_closed p (λ k. w.if-entry-eq1.false (here ∙ k))))
    ]

pub returns : goal.returns
returns c =
    let (l, p) = c.loop-s.invariant in
    let m = c.args.m in
    let n : length (take m c.args.start.now) ≡ m = length-take-le m c.args.start.now (omega arith) in
    let e : c.loop-s.s ≡ m = omega arith in
    (p.words, fun_ext (λ u. p.entered u ∙ ap (λ (k : ℕ). ltb u k && eqb (get_or c.args.start.now u 0) 1) e))
