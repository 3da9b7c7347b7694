-- What is loaded, and the area made out of it.
use native.Mathlib.Omega.{arith}
use Rattle.replay_step.proofs.StepLaws.{edges_fit, is_part, part_ready, stepped_by}
use Rattle.replay_step.proofs.step.Goals as goal

pub overflow_mul-EDGES : goal.overflow_mul-EDGES
overflow_mul-EDGES g c =
    let h = edges_fit g.met.R.Reduction.reduces (part_ready c.requires 0 (omega arith)) (is_part 0 c.WORDS.ensures c.WORDS-2.ensures) in
    rw c.EDGES.ensures (omega (arith, h))

pub load_part-l-requires : goal.load_part-l-requires
load_part-l-requires g c =
    let o = g.met.R.Reduction.reduces in
    rw c.EDGES.ensures (o.loads _ _ _ (part_ready c.requires _ (omega arith)) (is_part _ c.WORDS.ensures c.WORDS-2.ensures))

pub returns : goal.returns
returns g c =
    let l = rw c.EDGES.ensures at c.load_part-l.ensures in
    stepped_by g.met.R.Reduction.reduces (part_ready c.requires _ (omega arith)) (is_part _ c.WORDS.ensures c.WORDS-2.ensures) l (omega arith)
    c.make_area-small.ensures (omega (arith, c.requires.starts))
