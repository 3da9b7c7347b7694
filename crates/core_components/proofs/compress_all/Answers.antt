use native.Mathlib.Omega.{arith}
use Rattle.core_components.proofs.CompressionLaws.{compressed_can, compressed_more}
use Rattle.core_components.proofs.compress_all.Goals as goal

pub compress-requires : goal.compress-requires
compress-requires c =
    compressed_can c.requires c.loop-i.invariant.1 (omega arith) c.get-v.ensures.0

pub loop-i-preserved : goal.loop-i-preserved
loop-i-preserved c =
    (omega arith, compressed_more c.requires c.loop-i.invariant.1 (omega arith) c.get-v.ensures.0 c.compress.ensures)
