use mathlib.Core.Path.{◌≡◌}
use native.Mathlib.Omega.{arith}
use Rattle.core_forest.proofs.SearchLaws.{forest_of}
use Rattle.core_forest.proofs.spanning_forest.Goals as goal

pub returns : goal.returns
returns c = let e : c.loop-j.j ≡ c.args.k = omega arith in
    let b = c.loop-j.invariant.2 in
    (c.loop-j.invariant.1, rw e at b, forest_of b.lists b.search)
