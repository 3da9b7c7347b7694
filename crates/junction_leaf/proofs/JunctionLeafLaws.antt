-- The edges of an area of one event: those of the two slices side by side, and that `any` asks whether one of them joins; the byte where none does.
-- Assumes nothing.
use Prim.Native.Nat.{◌+◌, ◌-◌, ◌≤◌, suc, zero, ℕ}
use mathlib.Core.Bool.{Bool, ◌||◌, cond, false}
use mathlib.Core.List.{List, [], ◌∷◌}
use mathlib.Core.Path.{◌∙◌, ◌≡◌, ap, ap₂, refl, sym}
use lib.Dec.{eqb}
use lib.ListN.{drop, get_or, length, length-drop, take}
use lib.Seq.{get_or-drop}
use native.Mathlib.Omega.{arith}
use borrow.Author.Tests.{eq-eqb, ne_eqb}
use Rattle.std.specs.List.{list_any, zip}
use Rattle.theory_graph.proofs.TableLaws.{pairs_table, table_equal}
use Rattle.theory_graph.specs.Graph.{Edge}
use Rattle.theory_graph.specs.Lists.{pairs}
use Rattle.theory_graph.specs.SmallGraph.{no_edge}
use Rattle.theory_junctions.specs.Reply.{adjacent}
use Rattle.junction_leaf.specs.JunctionLeaf.{byte_at, hits, leaf_graph}

-- ---- the edges of an area
-- two lists side by side
zipped : (xs ys : List ℕ) → zip xs ys ≡ pairs xs ys
zipped [] ys = refl
zipped (x ∷ xs) [] = refl
zipped (x ∷ xs) (y ∷ ys) = ap (λ (G : List Edge). (x, y) ∷ G) (zipped xs ys)

pub area_edges : (m : ℕ) (v : List ℕ) → m ≤ 8 → 29 ≤ length v → zip (take (5 + m - 5) (drop 5 v)) (take (13 + m - 13) (drop 13 v)) ≡ leaf_graph m v
area_edges m v few room =
    let e : 5 + m - 5 ≡ m = omega arith in
    let f : 13 + m - 13 ≡ m = omega arith in
    rw (e, f, zipped) (pairs_table m (drop 5 v) (drop 13 v) (omega (arith, length-drop 5 v)) (omega (arith, length-drop 13 v))
    ∙ table_equal _ _ 0 m (λ j a b. ap₂ (λ (s t : ℕ). (s, t)) (get_or-drop 5 v j 0) (get_or-drop 13 v j 0)))

pub any_adjacent : (G : List Edge) (x y : ℕ) → list_any (λ e. hits e x y) G ≡ adjacent G x y
any_adjacent [] x y = refl
any_adjacent (e ∷ G) x y = ap (λ (b : Bool). hits e x y || b) (any_adjacent G x y)

-- ---- the byte of a query whose nodes are apart and not joined by an edge
leaf_none : (m : ℕ) (v : List ℕ) → no_edge (leaf_graph m v) ≡ eqb m 0
leaf_none zero v = refl
leaf_none (suc m) v = sym (ne_eqb (suc m) 0 (λ z. omega arith))

pub byte_apart : (m : ℕ) (v : List ℕ) → get_or v 2 0 ≡ 0 → ¬ (get_or v 0 0 ≡ get_or v 1 0) → adjacent (leaf_graph m v) (get_or v 0 0) (get_or v 1 0) ≡ false
    → byte_at m v ≡ cond (eqb m 0) 0 1
byte_apart m v z n h = rw (eq-eqb (get_or v 2 0) 0 z, ne_eqb (get_or v 0 0) (get_or v 1 0) n, h, leaf_none m v) refl
