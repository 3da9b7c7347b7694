-- Laws of naming the edges out: one edge, and one more.
-- Assumes nothing.
use Prim.Native.Nat.{◌+◌, ◌<◌, ℕ}
use mathlib.Core.List.{List}
use mathlib.Core.Path.{◌≡◌, refl}
use native.Mathlib.Omega.{arith}
use Rattle.core_names.specs.EdgeNames.{CanNameEdges, ChildEnd, NamedEdge, NamingEdges}
use Rattle.core_words.proofs.ChangeLaws.{only_then}
use Rattle.core_words.proofs.FieldLaws.{update_at}
use Rattle.core_words.specs.Fields.{ABOVE, LEAST, LOWER, NAMED, UPPER, node}

-- ---- one edge
-- ---- all edges

module _ {n e i : ℕ} {a w : List ℕ} (g : CanNameEdges n e a) (s : NamingEdges n a i w) (l : i < e) where
  k4 : node LOWER w ≡ node LOWER a
  k4 = s.rest.nodes LOWER (omega arith) refl

  k5 : node UPPER w ≡ node UPPER a
  k5 = s.rest.nodes UPPER (omega arith) refl

  k9 : node ABOVE w ≡ node ABOVE a
  k9 = s.rest.nodes ABOVE (omega arith) refl

  k14 : node LEAST w ≡ node LEAST a
  k14 = s.rest.nodes LEAST (omega arith) refl

  pub naming_more : {w' : List ℕ} → NamedEdge n i w w' → NamingEdges n a (i + 1) w'
  naming_more {w'} f = record {
    rest = only_then s.rest f.rest;
    names = rw f.named (update_at (λ j y. j < i + 1 → (x : ℕ) × ChildEnd (node ABOVE a) (node LOWER a j) (node UPPER a j) x × (y ≡ node LEAST a x)) (node NAMED w) i (node LEAST w f.child)
        (λ _. (f.child, rw (k9, k4, k5) at f.is_child, rw k14 refl))
        (λ j ne b. s.names j (omega arith)));
  }
