-- `scan_node` meets its contract. The loop's invariant: the half-edges of v before `next` have been followed, and `next` is the next in v's list.
use Rattle.core_forest.proofs.SearchLaws.{ScanLoop}
use Rattle.core_words.specs.Links.{link_word}
use Rattle.core_forest.proofs.scan_node.Given as goal

abbrev pub invariant-loop-next : goal.invariant-loop-next
invariant-loop-next l = ScanLoop l.n l.m l.done l.r l.v l.initial.work l.seen (link_word l.next) l.work

abbrev pub decreases-loop-next : goal.decreases-loop-next
decreases-loop-next l = link_word l.next
