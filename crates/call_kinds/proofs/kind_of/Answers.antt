-- By the cases, which are those of the definition, in the same order.
use Rattle.std.proofs.Common.{arith, refl, sym}
use borrow.Author.Tests.{eq-eqb, le-ltb, lt-ltb, ne_eqb}
use Rattle.call_kinds.proofs.KindLaws.{kind_told, kind_with_lem}
use Rattle.call_kinds.proofs.kind_of.Goals as goal

pub returns-then-x-n : goal.returns-then-x-n
returns-then-x-n c =
    let a = c.args in
    let (v, t) = kind_told a.n a.x (sym (kind_with_lem a.n a.x (lt-ltb a.x a.n (omega arith)) refl refl)) in
    record { value = v; kind_by_table = t }

pub returns-then-x-eq65535 : goal.returns-then-x-eq65535
returns-then-x-eq65535 c =
    let a = c.args in
    let (v, t) = kind_told a.n a.x (sym (kind_with_lem a.n a.x (le-ltb a.x a.n (omega arith)) (eq-eqb a.x 65535 (omega arith)) refl)) in
    record { value = v; kind_by_table = t }

pub returns-then-x-eq65534 : goal.returns-then-x-eq65534
returns-then-x-eq65534 c =
    let a = c.args in
    let (v, t) = kind_told a.n a.x
    (sym (kind_with_lem a.n a.x (le-ltb a.x a.n (omega arith)) (ne_eqb a.x 65535 (λ z. omega arith)) (eq-eqb a.x 65534 (omega arith)))) in
    record { value = v; kind_by_table = t }

pub returns : goal.returns
returns c =
    let a = c.args in
    let (v, t) = kind_told a.n a.x
    (sym (kind_with_lem a.n a.x (le-ltb a.x a.n (omega arith)) (ne_eqb a.x 65535 (λ z. omega arith)) (ne_eqb a.x 65534 (λ z. omega arith)))) in
    record { value = v; kind_by_table = t }
