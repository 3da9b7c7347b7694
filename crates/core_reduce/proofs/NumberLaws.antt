-- Laws of the loop that writes the number of each active node.
-- Assumes nothing.
use Prim.Native.Nat.{ℕ, ◌+◌, ◌-◌, ◌<◌}
use mathlib.Core.List.{List}
use mathlib.Core.Path.{◌≡◌, ◌∙◌, ap, refl, sym}
use lib.Dec.{eqb}
use native.Mathlib.Omega.{arith}
use borrow.Author.Tests.{eqb-false, eqb-true}
use Rattle.core_branches.specs.Classes.{HasNumber}
use Rattle.core_reduce.specs.Numbers.{CanWrite, WritingNumbers}
use Rattle.theory_graph.proofs.Booleans.{on_bool}
use Rattle.core_words.proofs.ChangeLaws.{only_none, only_then_put}
use Rattle.core_words.proofs.FieldLaws.{update_other, update_same}
use Rattle.core_words.specs.Fields.{ACTIVE, MAPPED, NUMBER, TOP, Put, node}

pub writing_none : (n : ℕ) (a : List ℕ) → WritingNumbers n a 0 a
writing_none n a = record { rest = only_none n a; numbers = λ j l. absurd (omega arith) }

module _ {n k i v : ℕ} {a w : List ℕ} (g : CanWrite n k a) (s : WritingNumbers n a i w) (l : i < k) (ev : v ≡ node ACTIVE w i) where
  v_is : v ≡ node ACTIVE a i
  v_is = ev ∙ ap (λ f. f i) (s.rest.nodes ACTIVE (omega arith) refl)

  pub writing_can : HasNumber n w v
  writing_can = let p = g.placed i l in record {
    room = rw s.rest.same g.room;
    fit = rw v_is p.fit;
    top_fit = rw (s.rest.nodes TOP (omega arith) refl, v_is) p.top_fit;
    some = rw (s.rest.nodes NUMBER (omega arith) refl, s.rest.nodes TOP (omega arith) refl, v_is) p.some;
  }

  pub writing_more : {x : ℕ} {w' : List ℕ} → x ≡ node NUMBER w (node TOP w v) - 1 → Put MAPPED v x w w' → WritingNumbers n a (i + 1) w'
  writing_more {x} {w'} ex p = record {
    rest = only_then_put refl writing_can.fit s.rest p;
    numbers = λ j b. ap (λ f. f (node ACTIVE a j)) p.here ∙ on_bool (eqb (node ACTIVE a j) v)
        (λ q. let e : node ACTIVE a j ≡ v = eqb-true (node ACTIVE a j) v q in rw e (update_same (node MAPPED w) v x ∙ value))
        (λ q.
        let ne : ¬ (node ACTIVE a j ≡ v) = eqb-false (node ACTIVE a j) v q in
        let nj : ¬ (j ≡ i) = λ e. ne (ap (node ACTIVE a) e ∙ sym v_is) in
        update_other (node MAPPED w) v x (node ACTIVE a j) ne ∙ s.numbers j (omega arith));
  }
    where
      value : x ≡ node NUMBER a (node TOP a v) - 1
      value = rw (s.rest.nodes NUMBER (omega arith) refl, s.rest.nodes TOP (omega arith) refl) at ex
