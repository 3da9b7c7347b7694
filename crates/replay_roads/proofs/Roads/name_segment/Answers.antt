-- By the one that is kept, or by itself.
use mathlib.Core.Path.{◌∙◌, ap, refl, sym}
use native.Mathlib.Omega.{arith}
use Rattle.theory_graph.specs.Lists.{pairs}
use Rattle.replay_roads.specs.Naming.{low}
use Rattle.replay_roads.proofs.RoadWordLaws.{name_fits, name_found, name_new, none_named, some_named}
use Rattle.replay_roads.proofs.Roads.name_segment.Goals as goal
use Rattle.replay_roads.proofs.Roads.name_segment.Goals.{in-Some+else-ends_of-v, in_default}

pub returns-then-ends_of-v : goal.returns-then-ends_of-v
returns-then-ends_of-v c =
    let (g, l, ev) = c.requires in
    let (e, i) = some_named (sym c.segment_at.ensures ∙ c.in-Some.is) in
    name_found g l ev c.ends_of.ensures.1 e (omega arith) (omega (arith, c.ends_of-in-Some.ensures.0)) c.put.ensures

pub put-requires-3 : goal.put-requires-3
put-requires-3 c =
    let l = name_fits c.requires.0 c.requires.1 c.requires.2 c.ends_of.ensures.1 in
    (omega (arith, c.requires.0.room), omega (arith, c.requires.0.tables.much))

pub returns : goal.returns
returns c =
    let (g, l, ev) = c.requires in
    let a = c.args.self in
    let named = c.segment_at.ensures in
    name_new g l ev c.ends_of.ensures.1 refl
    (λ k z. elim c.match-segment_at.branch [
      | in-Some+else-ends_of-v w ↦ (let (e, i) = some_named (sym named ∙ w.in-Some.is) in w.if-ends_of-v.false (w.ends_of-in-Some.ensures.0 ∙ ap (low (pairs a.a.now a.b.now)) e ∙ z))
      | in_default w ↦ none_named (sym named ∙ w.in_default.is) k
    ])
    c.put-2.ensures c.put-3.ensures
