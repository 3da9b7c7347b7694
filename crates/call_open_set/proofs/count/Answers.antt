-- `count` meets its contract: the chain gives the ones of each word.
use Rattle.std.proofs.Common.{◌∙◌, ap, arith, rules, tests}
use Rattle.std.proofs.lemmas.Iterator.{YieldsList-from_map, YieldsList-from_slice}
use Rattle.std.proofs.lemmas.Iterator.Consumers.{fits_from_yields_list, sum_from_yields_List}
use Rattle.std.specs.Slice.Iter.{iter_rest}
use lib.Count.{ones}
use Rattle.call_open_set.proofs.OpenSetLaws.{ones_most, ones_summed, word_fits}
use Rattle.call_open_set.proofs.count.Goals as goal

pub sum-requires-clause-fits : goal.sum-requires-clause-fits
sum-requires-clause-fits c =
    let held = c.args.held in
    fits_from_yields_list c.map.result _
    (YieldsList-from_map _ ones (YieldsList-from_slice held (ap iter_rest c.map.ensures.source ∙ c.iter.ensures.rest)) c.map.ensures.closure (λ x r q k. search (rules, tests)))
    (omega (arith, ones_most held (word_fits held _ c.well_formed.0), c.well_formed.0.1.0.1))

pub returns : goal.returns
returns c =
    let held = c.args.held in
    sum_from_yields_List c.map.result _ c.sum.ensures.ran
    (YieldsList-from_map _ ones (YieldsList-from_slice held (ap iter_rest c.map.ensures.source ∙ c.iter.ensures.rest)) c.map.ensures.closure (λ x r q k. search (rules, tests)))
    ∙ ones_summed held (word_fits held _ c.well_formed.0)
