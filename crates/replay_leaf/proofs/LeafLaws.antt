-- The byte of a window of one event, case by case, and demand 2 there: it is the byte that is read off the window's small graph.
-- Assumes nothing.
use Prim.Native.Nat.{ℕ}
use mathlib.Core.List.{[], ◌∷◌}
use mathlib.Core.Path.{◌≡◌, refl, sym}
use lib.ListN.{length}
use native.Mathlib.Omega.{arith}
use borrow.Author.Tests.{eq-eqb, ne_eqb}
use Rattle.theory_graph.specs.SmallGraph.{read_off}
use Rattle.theory_names.specs.Names.{Named, plain}
use Rattle.replay_leaf.specs.Leaf.{byte_by}

-- the byte by the tag and the counts: each way out has one byte, whatever the other numbers are. The bytes are not spelled here, so that byte_read alone tells
-- whether they are the right ones
module _ (tag nodes edges : ℕ) where
  pub byte_3 : ¬ (tag ≡ 0) → byte_by 1 0 0 ≡ byte_by tag nodes edges
  byte_3 h = rw (ne_eqb tag 0 h) refl

  -- demand 2 at a leaf: the byte of a query by the counts is the one that is read off the small graph
  pub byte_read : (H : Named) → tag ≡ 0 → length H ≡ edges → byte_by tag nodes edges ≡ read_off nodes (plain H)
  byte_read [] z e = rw (eq-eqb tag 0 z, eq-eqb edges 0 (sym e)) refl
  byte_read (h ∷ H) z e = rw (eq-eqb tag 0 z, ne_eqb edges 0 (λ q. omega arith)) refl
