-- `edge_list::write_row` meets its contract. The loop's invariant: the edges of s up to the larger end `last` are written, `next` is the next, and `child`
-- the next of the list.
use Prim.Native.Nat.{◌+◌, ◌-◌}
use Rattle.core_reduce.proofs.ListingLaws.{RowLoop}
use Rattle.core_words.specs.Links.{link_word}
use Rattle.core_reduce.proofs.edge_list.write_row.Given as goal

abbrev pub invariant-loop-next : goal.invariant-loop-next
invariant-loop-next l = RowLoop l.n l.h l.initial.work l.work l.s (link_word l.parent) (link_word l.child) (l.last + 1) l.m (link_word l.next)

abbrev pub decreases-loop-next : goal.decreases-loop-next
decreases-loop-next l = l.h - l.last
