-- Laws of the test whether a node shares the number of its top, at the words.
-- Assumes nothing.
use Prim.Native.Nat.{ℕ}
use mathlib.Core.Bool.{◌&&◌}
use mathlib.Core.List.{List}
use mathlib.Core.Path.{◌∙◌, ◌≡◌, ap, sym}
use lib.Dec.{eqb}
use borrow.Author.Tests.{eq-eqb}
use Rattle.core_words.specs.Fields.{MARK, PARENT, node}
use Rattle.core_cycles.specs.BlocksIn.{BELOW, MEMBERS}
use Rattle.core_cycles.specs.Numbering.{CanReadLast, shares_at}

module _ {n t : ℕ} {w : List ℕ} (h : CanReadLast n w t) (v : ℕ) where
  first : {a : ℕ} → a ≡ node MARK w v → a ≡ 0 → shares_at w v t ≡ (eqb (node MARK w (node PARENT w t)) 0 && (eqb (node BELOW w v) 1 && eqb (node MEMBERS w t) 1))
  first e z = ap (λ x. x && (eqb (node MARK w (node PARENT w t)) 0 && (eqb (node BELOW w v) 1 && eqb (node MEMBERS w t) 1))) (eq-eqb (node MARK w v) 0 (sym e ∙ z))

  second : {a b p : ℕ} → a ≡ node MARK w v → a ≡ 0 → p ≡ node PARENT w t → b ≡ node MARK w p → b ≡ 0 → shares_at w v t ≡ (eqb (node BELOW w v) 1 && eqb (node MEMBERS w t) 1)
  second e z ep eb y = first e z ∙ ap (λ x. x && (eqb (node BELOW w v) 1 && eqb (node MEMBERS w t) 1)) (eq-eqb (node MARK w (node PARENT w t)) 0 (sym (eb ∙ ap (node MARK w) ep) ∙ y))

  pub shares_members : {a b c r p : ℕ} → a ≡ node MARK w v → a ≡ 0 → p ≡ node PARENT w t → b ≡ node MARK w p → b ≡ 0 → c ≡ node BELOW w v → c ≡ 1 → r ≡ node MEMBERS w t → eqb r 1 ≡ shares_at w v t
  shares_members e z ep eb y ec one er = sym (second e z ep eb y ∙ ap (λ x. x && eqb (node MEMBERS w t) 1) (eq-eqb (node BELOW w v) 1 (sym ec ∙ one)) ∙ ap (λ x. eqb x 1) (sym er))
