-- The loop fills the words in order; they are read behind them.
use Prim.Native.Nat.{◌*◌, ◌+◌}
use mathlib.Core.Path.{◌≡◌}
use lib.ListN.{get_or}
use lib.Seq.{sets}
use Rattle.theory_graph.specs.Lists.{table}
use Rattle.replay_step.proofs.area.put_every.Given as goal

abbrev pub invariant-loop-i : goal.invariant-loop-i
invariant-loop-i l = l.work ≡ sets l.initial.work l.q (table (λ j. get_or l.initial.work (l.from + l.step * j) 0) 0 l.i)
