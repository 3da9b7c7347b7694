-- `edge_list::write_edge` meets its contract.
use native.Mathlib.Omega.{arith}
use Rattle.core_reduce.proofs.ListingLaws.{m_fits, t_fits, wrote}
use Rattle.core_reduce.proofs.edge_list.write_edge.Goals as goal

pub put-requires : goal.put-requires
put-requires c =
    let q = m_fits c.requires.0 c.requires.1 c.args.t c.requires.2 in
    (omega (arith, c.requires.0.ready.room, c.requires.0.ready.less), omega (arith, c.requires.0.ready.few, c.requires.0.ready.less, c.requires.1), omega arith)

pub put-requires-2 : goal.put-requires-2
put-requires-2 c =
    let q = m_fits c.requires.0 c.requires.1 c.args.t c.requires.2 in
    let r = t_fits c.requires.0 c.requires.1 c.args.t c.requires.2 in
    (omega (arith, c.requires.0.ready.room, c.requires.0.ready.less, c.put.ensures.same), omega (arith, c.requires.0.ready.few, c.requires.0.ready.less), omega arith)

pub returns : goal.returns
returns c =
    wrote c.requires.0 c.requires.1 c.args.t c.requires.2 c.put.ensures c.put-2.ensures
