use lib.Seq.{length-take-le}
use native.Mathlib.Omega.{arith}
use Rattle.contraction_tables.proofs.TreeLaws.{mark_fits, numbering_more, root_read, trees_numbered}
use Rattle.contraction_tables.proofs.number_trees.Goals as goal

pub overflow_sub-pieces : goal.overflow_sub-pieces
overflow_sub-pieces c =
    let (is, less) = root_read c.requires.0 c.loop-j.invariant c.loop-j-test.true c.get-r.ensures.0 in
    omega (arith, c.get-x.ensures.0, (mark_fits c.requires.0 c.loop-j.invariant less is c.enter-trees.ensures).0)

pub overflow_cast-pieces : goal.overflow_cast-pieces
overflow_cast-pieces c =
    let (is, less) = root_read c.requires.0 c.loop-j.invariant c.loop-j-test.true c.get-r.ensures.0 in
    let (x, y, z) = mark_fits c.requires.0 c.loop-j.invariant less is c.enter-trees.ensures in
    omega (arith, c.get-x.ensures.0, c.requires.0.few)

pub loop-j-preserved : goal.loop-j-preserved
loop-j-preserved c =
    let p = c.requires.0 in
    let g = c.loop-j.invariant in
    let (is, less) = root_read p g c.loop-j-test.true c.get-r.ensures.0 in
    numbering_more p g less is c.enter-trees.ensures (omega (arith, c.get-x.ensures.0))

pub returns : goal.returns
returns c =
    let a = c.args in
    let long = length-take-le a.k a.active.now c.requires.0.active_length in
    trees_numbered c.loop-j.invariant (omega (arith, c.loop-j.invariant.some))
