-- Laws of the words that name something or nothing: what is read from a word, and what `is_some`, `is_none` and `==` say of the word.
-- Assumes nothing.
use Rattle.std.proofs.Common.{◌≡◌, ◌∙◌, ap, sym, refl, ℕ, ◌+◌, ◌-◌, ◌<◌, ◌≤◌, Bool, false, true, not, Option, Some, None, arith}
use lib.Dec.{eqb}
use borrow.Author.Tests.{eqb-false}
use Rattle.std.specs.Option.{SomeIff, is_some, option_eq}
use Rattle.core_words.specs.Links.{link_word}

-- of `checked_sub(1)`
pub link_less : (x : Option ℕ) {w : ℕ} → SomeIff x (1 ≤ w) (w - 1) → link_word x ≡ w
link_less (Some x) h = omega (arith, h.0, h.1)
link_less None h = omega arith

some_positive : (x : Option ℕ) → is_some x ≡ true → 0 < link_word x
some_positive (Some x) e = omega arith
some_positive None e = cc

none_zero : (x : Option ℕ) → is_some x ≡ false → link_word x ≡ 0
none_zero (Some x) e = cc
none_zero None e = refl

-- of `is_some`
pub link_some : (x : Option ℕ) {b : Bool} → b ≡ is_some x → b ≡ true → 0 < link_word x
link_some x e t = some_positive x (sym e ∙ t)

pub link_none : (x : Option ℕ) {b : Bool} → b ≡ is_some x → b ≡ false → link_word x ≡ 0
link_none x e f = none_zero x (sym e ∙ f)

-- of `is_none`
pub not_none : (x : Option ℕ) {b : Bool} → is_some x ≡ not b → b ≡ false → 0 < link_word x
not_none x e f = some_positive x (e ∙ ap not f)

-- of `== Some(y)`
some_differs : (x : Option ℕ) (y : ℕ) → option_eq eqb x (Some y) ≡ false → link_word x ≡ y + 1 → ⊥
some_differs (Some x) y f e = eqb-false x y f (omega arith)
some_differs None y f e = omega arith

pub link_differs : (x : Option ℕ) (y : ℕ) {b : Bool} → b ≡ option_eq eqb x (Some y) → b ≡ false → link_word x ≡ y + 1 → ⊥
link_differs x y e f = some_differs x y (sym e ∙ f)
