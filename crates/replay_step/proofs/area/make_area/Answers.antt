-- The contraction, then the five runs of words.
use Prim.Native.Nat.{◌*◌, ◌+◌}
use mathlib.Core.Path.{◌∙◌}
use native.Mathlib.Omega.{arith}
use Rattle.core_words.specs.Fields.{LOWER, NAMED, UPPER}
use Rattle.replay_step.proofs.AreaLaws.{area_made, fields_need, loaded}
use Rattle.replay_step.proofs.WordLaws.{copied_words, field_table}
use Rattle.replay_step.proofs.area.make_area.Goals as goal

pub reduce-r-requires : goal.reduce-r-requires
reduce-r-requires c = loaded c.requires.0 c.requires.1

pub put_every-requires : goal.put_every-requires
put_every-requires c =
    let (a, _, _, d) = fields_need c.requires.0 c.requires.1 c.reduce-r.ensures (omega arith) c.copy_within.new.self (omega arith) in
    (omega (arith, a), λ i l. omega (arith, d))

pub put_every-requires-2 : goal.put_every-requires-2
put_every-requires-2 c =
    let (_, b, _, d) = fields_need c.requires.0 c.requires.1 c.reduce-r.ensures (omega arith) c.put_every.new.work (omega arith) in
    (omega (arith, b), λ i l. omega (arith, d))

pub put_every-requires-3 : goal.put_every-requires-3
put_every-requires-3 c =
    let (_, _, a, d) = fields_need c.requires.0 c.requires.1 c.reduce-r.ensures (omega arith) c.put_every-2.new.work (omega arith) in
    (omega (arith, a), λ i l. omega (arith, d))

pub returns : goal.returns
returns c =
    let p = c.args.part in
    let e = c.reduce-r.result.edges in
    area_made c.requires.0 c.requires.1 c.reduce-r.ensures (omega arith) c.put_map.ensures
    (c.copy_within.ensures.after ∙ copied_words p.words (3 * p.events) (p.area + 2 * p.events) c.put_map.new.work (omega arith) (omega arith))
    (field_table LOWER p.scratch e (p.area + 5 * p.events) c.copy_within.new.self c.put_every.ensures)
    (field_table UPPER p.scratch e (p.area + 9 * p.events) c.put_every.new.work c.put_every-2.ensures)
    (field_table NAMED p.scratch e (p.area + 13 * p.events) c.put_every-2.new.work c.put_every-3.ensures)
