use mathlib.Core.Path.{◌∙◌, ◌≡◌, ap, sym}
use lib.ListN.{drop}
use lib.Seq.{sets}
use native.Mathlib.Omega.{arith}
use Rattle.replay_step.proofs.WordLaws.{map_table, mapped_length, mapped_low, mapped_more}
use Rattle.core_words.specs.Fields.{MAPPED, node}
use Rattle.replay_step.proofs.area.put_map.Goals as goal

pub bounds-work-s : goal.bounds-work-s
bounds-work-s c = omega (arith, mapped_low c.loop-i.invariant c.args.n (omega arith) (c.requires.3 c.loop-i.i (omega arith)), mapped_length c.loop-i.invariant)

pub loop-i-preserved : goal.loop-i-preserved
loop-i-preserved c = mapped_more c.loop-i.invariant (omega arith) (omega arith)

pub returns : goal.returns
returns c =
    let a = c.args in
    let e : c.loop-i.i ≡ a.count = omega arith in
    (rw e at c.loop-i.invariant.written) ∙ ap (sets a.work.now a.q)
    (sym (map_table (node MAPPED (drop a.s a.work.now)) a.work.now a.from a.count (omega arith)))
