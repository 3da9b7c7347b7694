-- `start_tree` meets its contract.
use native.Mathlib.Omega.{arith}
use Rattle.core_forest.proofs.SearchLaws.{start_done, start_grows, start_new}
use Rattle.core_words.proofs.LinkLaws.{link_none}
use Rattle.core_forest.proofs.start_tree.Goals as goal

pub append_node-requires : goal.append_node-requires
append_node-requires c =
    start_new c.requires.0 c.requires.1 c.get-r.ensures.0 c.link.ensures.0
    (link_none _ c.is_some.ensures c.if-is_some.false)

pub overflow_add-seen : goal.overflow_add-seen
overflow_add-seen c =
    let a = start_new c.requires.0 c.requires.1 c.get-r.ensures.0 c.link.ensures.0
    (link_none _ c.is_some.ensures c.if-is_some.false) in
    omega (arith, a.less, a.few)

pub grow_tree-requires : goal.grow_tree-requires
grow_tree-requires c =
    start_grows c.requires.0 c.requires.1 c.get-r.ensures.0 c.link.ensures.0
    (link_none _ c.is_some.ensures c.if-is_some.false) c.append_node.ensures

pub returns : goal.returns
returns c =
    start_done c.requires.0 c.requires.1 c.get-r.ensures.0 c.link.ensures.0
    (link_none _ c.is_some.ensures c.if-is_some.false) c.append_node.ensures c.grow_tree.ensures
