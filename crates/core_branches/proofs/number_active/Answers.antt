-- `number_active` meets its contract.
use native.Mathlib.Omega.{arith}
use Rattle.core_branches.proofs.NumberLaws.{can_assign, room_more}
use Rattle.core_words.proofs.LinkLaws.{link_none}
use Rattle.core_branches.proofs.number_active.Goals as goal

pub assign_number-requires : goal.assign_number-requires
assign_number-requires c =
    can_assign c.requires c.get-t.ensures.0 c.link.ensures.0 (link_none _ c.is_some.ensures c.if-is_some.false)

pub overflow_add-result : goal.overflow_add-result
overflow_add-result c =
    let l = room_more c.requires c.get-t.ensures.0 c.link.ensures.0 (link_none _ c.is_some.ensures c.if-is_some.false) in
    omega (arith, c.requires.few)
