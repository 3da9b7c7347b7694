-- `load` meets its contract.
use native.Mathlib.Omega.{arith}
use Rattle.contraction_tables.proofs.TransferLaws.{prepared}
use Rattle.contraction_tables.proofs.load.Goals as goal

pub returns : goal.returns
returns c =
    prepared c.requires c.clear_field.ensures c.enter_active-d.ensures c.put_edges.ensures
    (λ e. omega (arith, c.shared_slice_known-3-1.given e))
