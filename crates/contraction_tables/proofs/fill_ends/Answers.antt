use lib.ListN.{take}
use lib.Seq.{length-take-le}
use native.Mathlib.Omega.{arith}
use Rattle.core_words.specs.Fields.{node}
use Rattle.theory_graph.proofs.TableLaws.{written_all, written_more}
use Rattle.contraction_tables.proofs.TransferLaws.{part_written}
use Rattle.contraction_tables.proofs.fill_ends.Goals as goal

pub loop-i-preserved : goal.loop-i-preserved
loop-i-preserved c =
    let a = c.args in
    written_more (node a.j a.work.now) c.loop-i.i (take a.e a.out.now) c.loop-i.invariant c.loop-i-test.true c.get.ensures.0

pub returns : goal.returns
returns c =
    let a = c.args in
    let long = length-take-le a.e a.out.now (omega arith) in
    part_written (node a.j a.work.now) a.e a.out.now (omega arith)
    (written_all (node a.j a.work.now) c.loop-i.i (take a.e a.out.now) c.loop-i.invariant a.e (omega arith))
