-- Paths: routes that meet no node twice. Every route is shortened to one; a path in a graph of n nodes has at most n nodes.
-- Assumes nothing.
use Prim.Native.Nat.{◌<◌, ◌≤◌, ℕ}
use mathlib.Core.Bool.{false, true}
use mathlib.Core.List.{List, Memᴰ, [], ◌∷◌}
use mathlib.Core.Path.{◌≡◌, refl, subst, sym}
use lib.Dec.{eqb}
use lib.ListN.{length}
use native.Mathlib.Omega.{arith}
use borrow.Author.Tests.{eqb-true}
use Rattle.theory_graph.proofs.Booleans.{contradict, on_bool, or_elim}
use Rattle.theory_graph.proofs.DistinctLists.{distinct_fewer}
use Rattle.theory_graph.proofs.Lists.{mem_member, range_length, range_mem}
use Rattle.theory_graph.specs.Graph.{Edge}
use Rattle.theory_graph.specs.Lists.{Distinct, member, range}
use Rattle.theory_graph.specs.Route.{Adjacent, Route, stay, step}

-- a route from x to y along edges of E that meets the nodes of the list, in this order, and none twice
pub data Path (E : List Edge) : ℕ → ℕ → List ℕ → Type 0 where
  end : {x : ℕ} → Path E x x (x ∷ [])
  along : {x y z : ℕ} {l : List ℕ} → Adjacent x y E → member l x ≡ false → Path E y z l → Path E x z (x ∷ l)

-- ---- shortening
-- the path from one of its nodes on
from : {E : List Edge} {u y : ℕ} {l : List ℕ} (x : ℕ) → Path E u y l → member l x ≡ true → (k : List ℕ) × Path E x y k
from {E} {u} x end m = or_elim (eqb x u) false m (λ p. (u ∷ [], subst (λ (v : ℕ). Path E v u (u ∷ [])) (sym (eqb-true x u p)) end)) (λ p. contradict p refl)
from {E} {u} {y} x (along {l = l} a n p) m = or_elim (eqb x u) (member l x) m (λ q. (u ∷ l, subst (λ (v : ℕ). Path E v y (u ∷ l)) (sym (eqb-true x u q)) (along a n p))) (λ q. from x p q)

pub shorten : {E : List Edge} {x y : ℕ} → Route E x y → (l : List ℕ) × Path E x y l
shorten {x} stay = (x ∷ [], end)
shorten {x} (step a r) = let (l, p) = shorten r in on_bool (member l x) (λ m. from x p m) (λ n. (x ∷ l, along a n p))

-- ---- the number of nodes
pub path_distinct : {E : List Edge} {x y : ℕ} {l : List ℕ} → Path E x y l → Distinct l
path_distinct end = (λ m. absurd (elim m [ ]), tt)
path_distinct (along a n p) = (λ m. contradict (mem_member _ _ m) n, path_distinct p)

-- different numbers below n are at most n
pub distinct_length : (n : ℕ) (l : List ℕ) → Distinct l → ((a : ℕ) → Memᴰ a l → a < n) → length l ≤ n
distinct_length n l d h = omega (arith, range_length 0 n, distinct_fewer (range 0 n) l d (λ a m. range_mem a 0 n (omega arith) (omega (arith, h a m))))

-- a path's nodes lie in a set that holds its first node and that no edge leaves
pub path_inside : {E : List Edge} {x y : ℕ} {l : List ℕ} (P : ℕ → Type 0) → ((p q : ℕ) → Adjacent p q E → P q) → P x → Path E x y l → (a : ℕ) → Memᴰ a l → P a
path_inside P h k end a (Memᴰ.head e) = subst P (sym e) k
path_inside P h k end a (Memᴰ.tail m) = absurd (elim m [ ])
path_inside P h k (along b n p) a (Memᴰ.head e) = subst P (sym e) k
path_inside P h k (along {x = x} {y = y} b n p) a (Memᴰ.tail m) = path_inside P h (h x y b) p a m
