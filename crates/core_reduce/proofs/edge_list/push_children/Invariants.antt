-- `edge_list::push_children` meets its contract. The loop's invariant: the numbers from x on are in their lists.
use Rattle.core_reduce.specs.EdgeList.{Pushing}
use Rattle.core_reduce.proofs.edge_list.push_children.Given as goal

abbrev pub invariant-loop-x : goal.invariant-loop-x
invariant-loop-x l = Pushing l.n l.h l.initial.work l.work l.x
