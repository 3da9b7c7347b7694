-- `write_edge` meets its contract.
use Prim.Native.Nat.{◌-◌}
use mathlib.Core.Path.{◌≡◌, ap}
use native.Mathlib.Omega.{arith}
use Rattle.core_cycles.proofs.WriteLaws.{written_one}
use Rattle.core_words.specs.Links.{link_word}
use Rattle.core_cycles.proofs.write_edge.Goals as goal

pub returns : goal.returns
returns c =
    let e = ap link_word c.in-Some.is in
    let d : link_word c.args.a - 1 ≡ c.in-Some.a = omega arith in
    written_one c.requires (λ z. omega arith) (rw d c.put_half.ensures) c.put_half-2.ensures
