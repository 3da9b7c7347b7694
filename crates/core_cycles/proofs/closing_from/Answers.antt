-- `closing_from` meets its contract. The answer stands here so that a wrong test of the count is refused as false.
use native.Mathlib.Omega.{arith}
use Rattle.core_cycles.proofs.WriteLaws.{closing_few}
use Rattle.core_words.proofs.LinkLaws.{not_none}
use Rattle.core_cycles.proofs.closing_from.Goals as goal

pub returns-then-r-lt2 : goal.returns-then-r-lt2
returns-then-r-lt2 c =
    let p = not_none _ c.is_none.ensures c.if-is_none.false in
    closing_few _ _ c.link.ensures.0 (λ z. omega arith) c.get-t.ensures.0 (omega (arith, c.if-t-v.false)) c.get-r.ensures.0 (omega arith)
