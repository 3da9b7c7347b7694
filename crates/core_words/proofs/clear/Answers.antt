use Prim.Native.Nat.{ℕ}
use mathlib.Core.List.{List}
use mathlib.Core.Path.{◌∙◌, ap, refl}
use native.Mathlib.Omega.{arith}
use Rattle.theory_graph.proofs.TableLaws.{written_all, written_more, zeros_table}
use Rattle.theory_graph.specs.Lists.{over}
use Rattle.core_words.proofs.clear.Goals as goal

pub loop-i-preserved : goal.loop-i-preserved
loop-i-preserved c = (omega arith, written_more (λ _. 0) c.loop-i.i c.args.work.now c.loop-i.invariant.1 (omega arith) refl)

pub returns : goal.returns
returns c =
    let a = c.args in
    written_all (λ _. 0) c.loop-i.i a.work.now c.loop-i.invariant.1 a.count (omega arith) ∙ ap (λ (l : List ℕ). over l a.work.now)
    (zeros_table a.count 0)
