use mathlib.Core.Path.{ap}
use native.Mathlib.Omega.{arith}
use Rattle.core_reduce.proofs.ListingLaws.{m_fits, row_done, row_more, writing_self}
use Rattle.core_words.specs.Links.{link_word}
use Rattle.core_reduce.proofs.edge_list.write_row.Goals as goal

pub overflow_add-m : goal.overflow_add-m
overflow_add-m c =
    let g = rw (ap link_word c.in-Some.is) at c.loop-next.invariant in
    omega (arith, m_fits (writing_self g.listing) c.requires.1 c.in-Some.t g.next, c.requires.0.ready.few, c.requires.0.ready.less)

pub loop-next-preserved : goal.loop-next-preserved
loop-next-preserved c =
    let g = rw (ap link_word c.in-Some.is) at c.loop-next.invariant in
    row_more g c.requires.1 (omega arith) c.write_edge.ensures c.next_child-child.ensures
    c.if_above-in-Some.ensures c.least-next-in-Some.ensures

pub returns : goal.returns
returns c =
    row_done c.loop-next.invariant c.requires.1 (ap link_word c.in_default.is)
