-- `merge_edge` meets its contract.
use native.Mathlib.Omega.{arith}
use Rattle.core_components.proofs.MergeLaws.{merged_one}
use Rattle.core_words.proofs.LinkLaws.{link_differs, not_none}
use Rattle.core_components.proofs.merge_edge.Goals as goal

pub returns : goal.returns
returns c =
    let p = not_none _ c.is_none.ensures c.if-is_none.false in
    merged_one c.requires c.get_half-x.ensures.0 c.get_half-y.ensures.0 c.link.ensures.0 (λ z. omega arith)
    c.link-2.ensures.0 (link_differs _ _ c.eq.ensures c.if-eq.false)
    c.link-3.ensures.0 (link_differs _ _ c.eq-2.ensures c.if-eq-2.false) c.merge_path.ensures
