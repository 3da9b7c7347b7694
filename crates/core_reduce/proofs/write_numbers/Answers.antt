use Rattle.core_reduce.proofs.NumberLaws.{writing_more}
use native.Mathlib.Omega.{arith}
use Rattle.core_reduce.proofs.write_numbers.Goals as goal

pub loop-i-preserved : goal.loop-i-preserved
loop-i-preserved c =
    (omega arith, writing_more c.requires c.loop-i.invariant.1 (omega arith) c.get-v.ensures.0 c.class_number-x.ensures.0 c.put.ensures)
