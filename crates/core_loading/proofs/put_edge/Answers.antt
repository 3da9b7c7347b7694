-- `put_edge` meets its contract: two half-edges, and the name at the first.
use Rattle.core_loading.proofs.LoadingLaws.{put_edge_lem}
use Rattle.core_loading.proofs.put_edge.Goals as goal

pub returns : goal.returns
returns c =
    let a = c.args in
    put_edge_lem a.n a.j a.a a.b a.c c.put_half.ensures c.put_half-2.ensures c.put_half-3.ensures
