-- `visit_half` meets its contract.
use native.Mathlib.Omega.{arith}
use Rattle.core_forest.proofs.SearchLaws.{visit_added, visit_new, visit_seen}
use Rattle.core_words.proofs.LinkLaws.{link_none, link_some}
use Rattle.core_forest.proofs.visit_half.Goals as goal

pub returns-then-is_some : goal.returns-then-is_some
returns-then-is_some c =
    let p = link_some _ c.is_some.ensures c.if-is_some.true in
    visit_seen c.requires c.get_half-x.ensures.0 c.link.ensures.0 (λ z. omega arith)

pub append_node-requires : goal.append_node-requires
append_node-requires c =
    visit_new c.requires c.get_half-x.ensures.0 c.link.ensures.0
    (link_none _ c.is_some.ensures c.if-is_some.false)

pub overflow_add-result : goal.overflow_add-result
overflow_add-result c =
    omega (
      arith,
      (visit_new c.requires c.get_half-x.ensures.0 c.link.ensures.0
          (link_none _ c.is_some.ensures c.if-is_some.false)).less,
    )

pub returns : goal.returns
returns c =
    visit_added c.requires c.get_half-x.ensures.0 c.link.ensures.0
    (link_none _ c.is_some.ensures c.if-is_some.false) c.append_node.ensures
