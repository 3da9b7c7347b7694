-- The bytes that were read lie in the text. Rattle would find this by itself; it stands here so that a byte behind them is refused as such.
-- Assumes nothing.
use Rattle.std.proofs.Common.{arith}
use Rattle.test_library.proofs.vectors.compare.Goals as goal

pub slice_bounds-text-end : goal.slice_bounds-text-end
slice_bounds-text-end g c = omega (arith, c.in_ok-length.ensures)
