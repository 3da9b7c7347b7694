-- The component of a node as a set, by recursion on the edges: closed, and least among the closed sets that have the node. So being connected is decided.
-- Assumes nothing.
use Prim.Native.Nat.{◌≤◌, ℕ}
use mathlib.Core.Bool.{Bool, ◌&&◌, ◌||◌, false, true, true≢false}
use mathlib.Core.List.{List, [], ◌∷◌}
use mathlib.Core.Path.{◌∙◌, ◌≡◌, refl, subst, sym}
use lib.Dec.{eqb}
use native.Mathlib.Omega.{arith}
use borrow.Author.Tests.{eq-eqb, eqb-true}
use Rattle.theory_graph.proofs.Booleans.{and_elim, on_bool, or_elim}
use Rattle.theory_graph.proofs.Cuts.{closed_union, closed_when, crosses_same, crosses_zero, when}
use Rattle.theory_graph.specs.Cut.{Connected, Separated, ◌∪◌, cut}
use Rattle.theory_graph.specs.Graph.{Edge, NodeSet}

-- the nodes that E joins to x: the first edge joins its ends' components to x's where one of them is x's
abbrev pub reach : List Edge → ℕ → NodeSet
reach [] x = eqb x
reach (e ∷ E) x = reach E x ∪ (when (reach E x e.0) (reach E e.1) ∪ when (reach E x e.1) (reach E e.0))

pub reach_self : (E : List Edge) (x : ℕ) → reach E x x ≡ true
reach_self [] x = eq-eqb x x refl
reach_self (e ∷ E) x = rw (reach_self E x)

-- each closed set that has x has all of reach E x
pub reach_least : (E : List Edge) (U : NodeSet) → cut U E ≤ 0 → (x v : ℕ) → U x ≡ true → reach E x v ≡ true → U v ≡ true
reach_least [] U h x v p r = subst (λ (z : ℕ). U z ≡ true) (eqb-true x v r) p
reach_least (e ∷ E) U h x v p r =
    let h' : cut U E ≤ 0 = omega arith in
    let q : U e.0 ≡ U e.1 = crosses_zero _ _ (omega arith) in
    or_elim _ _ r (reach_least E U h' x v p) λ r.
    or_elim _ _ r
    (λ r. and_elim _ _ r λ a b. reach_least E U h' e.1 v (sym q ∙ reach_least E U h' x e.0 p a) b)
    (λ r. and_elim _ _ r λ a b. reach_least E U h' e.0 v (q ∙ reach_least E U h' x e.1 p a) b)

first_edge : (a b s t : Bool) → (a || (a && s || b && true)) ≡ (b || (a && true || b && t))
first_edge true true s t = refl
first_edge true false s t = refl
first_edge false true s t = refl
first_edge false false s t = refl

pub reach_closed : (E : List Edge) (x : ℕ) → cut (reach E x) E ≤ 0
reach_closed [] x = omega arith
reach_closed (e ∷ E) x =
    let same : reach (e ∷ E) x e.0 ≡ reach (e ∷ E) x e.1 =
    rw (reach_self E e.0, reach_self E e.1) (first_edge (reach E x e.0) (reach E x e.1) (reach E e.1 e.0) (reach E e.0 e.1)) in
    let P : NodeSet = when (reach E x e.0) (reach E e.1) in
    let Q : NodeSet = when (reach E x e.1) (reach E e.0) in
    omega (
      arith,
      crosses_same same,
      closed_union (reach E x) (P ∪ Q) E (reach_closed E x)
          (closed_union P Q E (closed_when (reach E x e.0) (reach E e.1) E (reach_closed E e.1)) (closed_when (reach E x e.1) (reach E e.0) E (reach_closed E e.0))),
    )

-- joined is decided by reach
pub reach_connected : (E : List Edge) (x y : ℕ) → reach E x y ≡ true → Connected E x y
reach_connected E x y r s = true≢false (sym (reach_least E s.0 s.3 x y s.1 r) ∙ s.2)

pub reach_separated : (E : List Edge) (x y : ℕ) → reach E x y ≡ false → Separated 0 E x y
reach_separated E x y r = (reach E x, reach_self E x, r, reach_closed E x)

pub connected_reach : (E : List Edge) (x y : ℕ) → Connected E x y → reach E x y ≡ true
connected_reach E x y j = on_bool (reach E x y) (λ r. r) (λ r. absurd (j (reach_separated E x y r)))
