-- The chain keeps the queries.
use Rattle.std.proofs.Common.{◌∙◌, rules, tests}
use Rattle.std.proofs.lemmas.Iterator.{YieldsList-from_slice}
use Rattle.std.proofs.lemmas.Iterator.Consumers.{YieldsList-at, YieldsList-from_filter, count_from_yields_List}
use Rattle.call_kinds.specs.Kinds.{is_query, kind_of}
use Rattle.replay_events.proofs.KindLaws.{queries_kept}
use Rattle.replay_events.proofs.count_queries.Goals as goal

pub returns : goal.returns
returns c =
    let a = c.args in
    count_from_yields_List c.filter.result _ c.count.ensures.ran
    (YieldsList-from_filter _ (λ x. is_query (kind_of a.n x)) (YieldsList-at c.filter.ensures.source (YieldsList-from_slice _ c.iter.ensures.rest)) c.filter.ensures.closure
    (λ x r q k. search (rules, tests)))
    ∙ queries_kept a.n a.x.now a.t c.requires
