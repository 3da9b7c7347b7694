-- Laws of clearing: one field more of a node, and one node more.
-- Assumes nothing.
use Prim.Native.Nat.{ℕ, ◌+◌, ◌<◌}
use mathlib.Core.Bool.{◌||◌, false}
use mathlib.Core.List.{List, [], ◌∷◌}
use mathlib.Core.Path.{◌≡◌, ◌∙◌, ap, refl, subst, sym}
use lib.Dec.{eqb}
use native.Mathlib.Omega.{arith}
use borrow.Author.Tests.{eqb-false, eqb-true}
use Rattle.core_words.specs.Clearing.{Cleared, ClearedNode}
use Rattle.theory_graph.proofs.Booleans.{contradict, on_bool}
use Rattle.theory_graph.specs.Lists.{member}
use Rattle.core_words.proofs.ChangeLaws.{only_none, only_then}
use Rattle.core_words.proofs.FieldLaws.{update_at}
use Rattle.core_words.specs.Fields.{Put, node, update}

pub clear_none : {n : ℕ} (v : ℕ) (a : List ℕ) → ClearedNode [] n v a a
clear_none {n} v a = record { rest = only_none n a; zero = λ j l t. contradict t refl }

pub clear_put : {fs : List ℕ} {n k v : ℕ} {a b c : List ℕ} → member fs k ≡ false → v < n → ClearedNode fs n v a b → Put k v 0 b c → ClearedNode (k ∷ fs) n v a c
clear_put {fs} {n} {k} {v} {a} {b} {c} out l z p = record {
  rest = record {
    same = p.same ∙ z.rest.same;
    nodes = λ j i f. on_bool (eqb j k)
        (λ e. contradict (ap (λ t. t || member fs j) e) f)
        (λ e. p.else j i (eqb-false j k e) ∙ z.rest.nodes j i (sym (ap (λ t. t || member fs j) e) ∙ f));
    halves = λ j. p.halves n l j ∙ z.rest.halves j;
  };
  zero = λ j i t. on_bool (eqb j k)
      (λ e.
      let q : j ≡ k = eqb-true j k e in
      let b : k < 16 = omega arith in
      subst (λ (i : ℕ). node i c ≡ update (node i a) v 0) (sym q) (p.here ∙ ap (λ f. update f v 0) (z.rest.nodes k b out)))
      (λ e. p.else j i (eqb-false j k e) ∙ z.zero j i (sym (ap (λ t. t || member fs j) e) ∙ t));
}

pub cleared_more : {fs : List ℕ} {n i : ℕ} {a b c : List ℕ} → Cleared fs n i a b → ClearedNode fs n i b c → Cleared fs n (i + 1) a c
cleared_more {i = i} {b = b} s p = record {
  rest = only_then s.rest p.rest;
  zero = λ j l t. rw (p.zero j l t) (update_at (λ u y. u < i + 1 → y ≡ 0) (node j b) i 0 (λ _. refl) (λ u ne m. s.zero j l t u (omega arith)));
}
