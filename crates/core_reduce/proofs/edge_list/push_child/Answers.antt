-- `edge_list::push_child` meets its contract.
use mathlib.Core.Path.{refl}
use native.Mathlib.Omega.{arith}
use Rattle.core_reduce.proofs.ListingLaws.{push_skip, pushed}
use Rattle.core_reduce.proofs.edge_list.push_child.Goals as goal

pub returns-in_default : goal.returns-in_default
returns-in_default c =
    push_skip c.requires.0 c.requires.1 c.in_default.ensures.0 (λ z. omega arith)

pub returns-then-x-parent : goal.returns-then-x-parent
returns-then-x-parent c =
    push_skip c.requires.0 c.requires.1 c.in-Some.ensures.0 (λ z. omega arith)

pub returns : goal.returns
returns c =
    pushed c.requires.0 c.requires.1 c.in-Some.ensures.0 _ refl (omega arith) c.link-first.ensures.0 c.put_link.ensures
    c.put_link-2.ensures
