use Rattle.core_words.proofs.ClearLaws.{clear_none, clear_put, cleared_more}
use mathlib.Core.Path.{refl}
use Prim.Native.Nat.{◌<◌}
use native.Mathlib.Omega.{arith}
use Rattle.core_words.proofs.clear_field.Goals as goal

pub loop-v-preserved : goal.loop-v-preserved
loop-v-preserved c =
    let l : c.loop-v.v < c.args.n = omega arith in
    (omega arith, cleared_more c.loop-v.invariant.1 (clear_put refl l (clear_none _ _) c.put.ensures))
