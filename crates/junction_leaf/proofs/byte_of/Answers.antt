-- Written out, so that a wrong byte of nodes that no edge joins is refused by the fact that is false.
use mathlib.Core.Path.{◌∙◌, refl, sym}
use native.Mathlib.Omega.{arith}
use borrow.Author.Tests.{eq-eqb, ne_eqb}
use Rattle.junction_leaf.proofs.JunctionLeafLaws.{byte_apart}
use Rattle.junction_leaf.proofs.byte_of.Goals as goal

pub returns-then-m-eq0 : goal.returns-then-m-eq0
returns-then-m-eq0 c =
    let a = c.args in
    let e = byte_apart a.m a.work.now (omega arith) c.if-x-y.false (sym c.joins.ensures ∙ c.if-joins.false) in
    rw (e, eq-eqb a.m 0 c.if-m-eq0.true) refl

pub returns : goal.returns
returns c =
    let a = c.args in
    let e = byte_apart a.m a.work.now (omega arith) c.if-x-y.false (sym c.joins.ensures ∙ c.if-joins.false) in
    rw (e, ne_eqb a.m 0 c.if-m-eq0.false) refl
