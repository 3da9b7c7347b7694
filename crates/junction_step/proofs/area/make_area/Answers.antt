-- The reduction, then the five runs of words.
use Prim.Native.Nat.{◌*◌, ◌+◌}
use mathlib.Core.Path.{◌∙◌}
use native.Mathlib.Omega.{arith}
use Rattle.replay_step.proofs.WordLaws.{copied_words}
use Rattle.junction_step.proofs.JunctionAreaLaws.{area_made, can_reduce, ends_need}
use Rattle.junction_step.proofs.area.make_area.Goals as goal

pub reduce-r-requires : goal.reduce-r-requires
reduce-r-requires c = can_reduce c.requires

pub put_every-requires : goal.put_every-requires
put_every-requires c =
    let (a, _, _, d) = ends_need c.requires c.reduce-r.ensures (omega arith) c.copy_within.new.self (omega arith) in
    (omega (arith, a), λ i l. omega (arith, d))

pub put_every-requires-2 : goal.put_every-requires-2
put_every-requires-2 c =
    let (_, b, _, d) = ends_need c.requires c.reduce-r.ensures (omega arith) c.put_every.new.work (omega arith) in
    (omega (arith, b), λ i l. omega (arith, d))

pub put_every-requires-3 : goal.put_every-requires-3
put_every-requires-3 c =
    let (_, _, a, d) = ends_need c.requires c.reduce-r.ensures (omega arith) c.put_every-2.new.work (omega arith) in
    (omega (arith, a), λ i l. omega (arith, d))

pub returns : goal.returns
returns c =
    let p = c.args.part in
    area_made c.requires c.reduce-r.ensures (omega arith) c.put_map.ensures
    (c.copy_within.ensures.after ∙ copied_words p.words (3 * p.events) (p.area + 2 * p.events) c.put_map.new.work (omega arith) (omega arith))
    c.put_every.ensures c.put_every-2.ensures c.put_every-3.ensures
