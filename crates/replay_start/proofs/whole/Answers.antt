-- What is loaded, and the area made out of it.
use native.Mathlib.Omega.{arith}
use Rattle.replay_start.proofs.WholeLaws.{make_ready, whole_made, whole_need}
use Rattle.replay_start.proofs.whole.Goals as goal

pub load_whole-l-requires : goal.load_whole-l-requires
load_whole-l-requires g c = rw c.WORDS.ensures (whole_need c.requires.ready)

pub make_area-r-requires : goal.make_area-r-requires
make_area-r-requires g c =
    let l = rw c.WORDS.ensures at c.load_whole-l.ensures in
    rw c.WORDS.ensures (make_ready g.met.R.Reduction.reduces c.requires l (omega arith))

pub returns : goal.returns
returns g c =
    let l = rw c.WORDS.ensures at c.load_whole-l.ensures in
    let m = rw c.WORDS.ensures at c.make_area-r.ensures in
    whole_made g.met.R.Reduction.reduces c.requires l (omega arith) m
