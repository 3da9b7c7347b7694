-- `merge_edge` meets its contract.
use mathlib.Core.Path.{◌∙◌, ap, sym}
use native.Mathlib.Omega.{arith}
use Rattle.core_blocks.proofs.EdgeLaws.{edge_loop, edge_unseen, take_left, take_right, took_left, took_right}
use Rattle.core_words.specs.Fields.{POSITION, node}
use Rattle.core_blocks.proofs.merge_edge.Goals as goal

pub returns-then-x-y : goal.returns-then-x-y
returns-then-x-y c =
    edge_loop c.requires (sym c.get_half-x.ensures.0 ∙ c.if-x-y.true ∙ c.get_half-y.ensures.0)

pub returns-then-i-eq0 : goal.returns-then-i-eq0
returns-then-i-eq0 c =
    edge_unseen c.requires (ap (node POSITION _) (sym c.get_half-x.ensures.0) ∙ sym c.get-i.ensures.0 ∙ c.if-i-eq0.true)

pub merge_path-requires : goal.merge_path-requires
merge_path-requires c =
    take_left c.requires c.get_half-x.ensures.0 c.get_half-y.ensures.0 c.if-x-y.false c.get-i.ensures.0 c.if-i-eq0.false c.get-j.ensures.0 c.if-j-i.true c.find-s.ensures c.get-a.ensures.0

pub returns-then-j-i : goal.returns-then-j-i
returns-then-j-i c =
    took_left c.requires c.get_half-x.ensures.0 c.get_half-y.ensures.0 c.if-x-y.false c.get-i.ensures.0 c.if-i-eq0.false c.get-j.ensures.0 c.if-j-i.true c.find-s.ensures c.get-a.ensures.0 c.merge_path.ensures

pub merge_path-requires-2 : goal.merge_path-requires-2
merge_path-requires-2 c =
    take_right c.requires c.get_half-x.ensures.0 c.get_half-y.ensures.0 c.if-x-y.false c.get-i.ensures.0 c.if-i-eq0.false c.get-j.ensures.0 (omega (arith, c.if-j-i.false)) c.find-s-2.ensures c.get-b.ensures.0

pub returns : goal.returns
returns c =
    took_right c.requires c.get_half-x.ensures.0 c.get_half-y.ensures.0 c.if-x-y.false c.get-i.ensures.0 c.if-i-eq0.false c.get-j.ensures.0 (omega (arith, c.if-j-i.false)) c.find-s-2.ensures c.get-b.ensures.0 c.merge_path-2.ensures
