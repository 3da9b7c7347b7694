-- `link_half` meets its contract.
use native.Mathlib.Omega.{arith}
use Rattle.core_forest.proofs.AdjacencyLaws.{half_linked, v_fits}
use Rattle.core_forest.proofs.link_half.Goals as goal

pub link-first-requires : goal.link-first-requires
link-first-requires c = omega (arith, v_fits c.requires.0 c.requires.1 c.requires.2)

pub put_link-requires : goal.put_link-requires
put_link-requires c =
    let v = v_fits c.requires.0 c.requires.1 c.requires.2 in
    (omega arith, omega arith, omega arith)

pub returns : goal.returns
returns c =
    half_linked c.requires.0 c.requires.1 c.requires.2 c.link-first.ensures.0 c.put_half_link.ensures c.put_link.ensures
