use mathlib.Core.Path.{ap}
use native.Mathlib.Omega.{arith}
use Rattle.core_forest.proofs.SearchLaws.{scan_can, scan_done, scan_more, seen_less}
use Rattle.core_words.specs.Links.{link_word}
use Rattle.core_forest.proofs.scan_node.Goals as goal

pub get-v-requires : goal.get-v-requires
get-v-requires c = omega (arith, seen_less c.requires.0.search)

pub visit_half-seen-requires : goal.visit_half-seen-requires
visit_half-seen-requires c = scan_can c.loop-next.invariant _ (ap link_word c.in-Some.is)

pub loop-next-preserved : goal.loop-next-preserved
loop-next-preserved c =
    (scan_more c.loop-next.invariant _ (ap link_word c.in-Some.is) c.visit_half-seen.ensures c.half_link-next.ensures.0).0

pub returns : goal.returns
returns c = scan_done c.loop-next.invariant (ap link_word c.in_default.is)
