use mathlib.Core.Path.{◌∙◌, ap}
use lib.ListN.{get_or}
use lib.Seq.{get_or-take, length-take-le}
use native.Mathlib.Omega.{arith}
use Rattle.theory_graph.proofs.TableLaws.{written_more}
use Rattle.core_words.specs.Fields.{MAPPED, node}
use Rattle.contraction_tables.proofs.fill_map.Goals as goal

pub loop-i-preserved : goal.loop-i-preserved
loop-i-preserved c =
    let a = c.args in
    let (l, e) = c.loop-i.invariant in
    let long = length-take-le a.k a.active.now (omega arith) in
    let here = get_or-take a.k a.active.now c.loop-i.i 0 (omega arith) in
    (omega arith, written_more (λ i. node MAPPED a.work.now (get_or a.active.now i 0)) c.loop-i.i a.map.now e (omega arith) (c.get.ensures.0 ∙ ap (node MAPPED a.work.now) here))
