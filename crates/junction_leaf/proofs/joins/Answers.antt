-- The chain gives the edges of the area, and `any` asks each of them.
use Rattle.std.proofs.Common.{◌∙◌, ap, rules, tests}
use Rattle.std.specs.List.{list_any}
use Rattle.std.proofs.lemmas.Iterator.{YieldsList-from_slice, YieldsList-from_zip}
use Rattle.std.proofs.lemmas.Iterator.Search.{any_from_yields_List}
use Rattle.std.specs.Slice.Iter.{iter_rest}
use Rattle.junction_leaf.specs.JunctionLeaf.{hits}
use Rattle.junction_leaf.proofs.JunctionLeafLaws.{area_edges, any_adjacent}
use Rattle.junction_leaf.proofs.joins.Goals as goal

pub returns : goal.returns
returns c =
    let a = c.args in
    let z = c.zip.ensures in
    any_from_yields_List (λ e. hits e a.x a.y) c.any.new.self _ _ c.any.ensures.ran
    (YieldsList-from_zip (YieldsList-from_slice _ (ap iter_rest z.first ∙ c.iter.ensures.rest)) (YieldsList-from_slice _ z.second.0))
    (λ x b q k. search (rules, tests))
    ∙ ap (λ G. list_any (λ e. hits e a.x a.y) G) (area_edges a.m a.work.now c.requires.0 c.requires.1) ∙ any_adjacent _ a.x a.y
