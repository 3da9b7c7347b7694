-- `enter_active` meets its contract. The loop's invariant: the first i entries are entered.
use lib.ListN.{take}
use Rattle.contraction_tables.specs.Transfer.{Entries}
use Rattle.contraction_tables.proofs.enter_active.Given as goal

abbrev pub invariant-loop-v : goal.invariant-loop-v
invariant-loop-v l = Entries l.n (take l.v-index l.active) l.initial.work l.work l.d
