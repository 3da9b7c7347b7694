-- `enter` meets its contract.
use mathlib.Core.Path.{◌∙◌, ◌≡◌, sym}
use native.Mathlib.Omega.{arith}
use Rattle.core_loading.proofs.LoadingLaws.{entering_again, entering_new, entering_room}
use Rattle.core_words.proofs.LinkLaws.{link_none, link_some}
use Rattle.core_words.specs.Fields.{MARK, node}
use Rattle.core_loading.proofs.enter.Goals as goal

pub returns-then-is_some : goal.returns-then-is_some
returns-then-is_some c =
    entering_again c.requires.2 (omega (arith, c.link.ensures.0, link_some _ c.is_some.ensures c.if-is_some.true))

pub put-requires : goal.put-requires
put-requires c =
    let r = entering_room c.args.work.now c.requires.2 (sym c.link.ensures.0 ∙ link_none _ c.is_some.ensures c.if-is_some.false) c.requires.3 in
    (omega (arith, c.requires.1), omega (arith, c.requires.0), omega arith)

pub put_link-requires : goal.put_link-requires
put_link-requires c =
    let r = entering_room c.args.work.now c.requires.2 (sym c.link.ensures.0 ∙ link_none _ c.is_some.ensures c.if-is_some.false) c.requires.3 in
    (omega (arith, c.requires.1, c.put.ensures.same), omega (arith, c.requires.0), omega arith)

pub overflow_add-result : goal.overflow_add-result
overflow_add-result c =
    omega (arith, entering_room c.args.work.now c.requires.2 (sym c.link.ensures.0 ∙ link_none _ c.is_some.ensures c.if-is_some.false) c.requires.3, c.requires.0)

pub returns : goal.returns
returns c =
    let a = c.args in
    let z : node MARK a.work.now a.v ≡ 0 = sym c.link.ensures.0 ∙ link_none _ c.is_some.ensures c.if-is_some.false in
    entering_new c.requires.2 z (entering_room a.work.now c.requires.2 z c.requires.3) c.put.ensures c.put_link.ensures
