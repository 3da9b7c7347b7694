-- Colourings: each junction is inside, outside or lost, at most one is lost, and no edge has one end inside and the other outside.
-- The least number of lost junctions in a colouring that has x inside and y outside is the reply of x and y, cut at 2 (proofs/Replies).
-- Then when two graphs have the same colourings at their labels, which is all that replies at labels depend on (proofs/SameColourings).
-- Assumes nothing: these are definitions.
use Rattle.std.specs.Prelude.{◌*◌, ◌+◌, ◌≤◌, ℕ, cond, false, not, true, ◌↔◌, ◌≡◌, eqb}
use mathlib.Core.List.{List, Memᴰ}
use Rattle.theory_graph.specs.Cut.{cut}
use Rattle.theory_graph.specs.Graph.{Edge, NodeSet, induced}

-- no junction is lost, or one is
pub data Loss : Type 0 where
  nothing : Loss
  junction : ℕ → Loss

abbrev pub lost : Loss → NodeSet
lost nothing v = false
lost (junction c) v = eqb v c

-- the number of lost junctions
abbrev pub size : Loss → ℕ
size nothing = 0
size (junction c) = 1

-- each edge that touches no lost junction has its ends on one side
abbrev pub Uncrossed : Loss → NodeSet → List Edge → Type 0
Uncrossed z U E = (p q : ℕ) → Memᴰ (p, q) E → lost z p ≡ false → lost z q ≡ false → U p ≡ U q

pub record Colouring (E : List Edge) : Type 0 where
  pub loss : Loss
  pub side : NodeSet
  pub uncrossed : Uncrossed loss side E

pub data Colour : Type 0 where
  inside : Colour
  outside : Colour
  gone : Colour

abbrev pub colour : Loss → NodeSet → ℕ → Colour
colour z U v = cond (lost z v) gone (cond (U v) inside outside)

abbrev pub colour_of : {E : List Edge} → Colouring E → ℕ → Colour
colour_of φ v = colour φ.loss φ.side v

-- a colouring with at most j lost junctions has x inside and y outside
abbrev pub Parted : ℕ → List Edge → ℕ → ℕ → Type 0
Parted j E x y = (φ : Colouring E) × (size φ.loss ≤ j) × (colour_of φ x ≡ inside) × (colour_of φ y ≡ outside)

-- the value of a colouring that may be crossed: 1 for a lost junction, and 2 for each edge with one end inside and the other outside
abbrev pub value : Loss → NodeSet → List Edge → ℕ
value z U E = size z + 2 * cut U (induced (λ v. not (lost z v)) E)

-- r is the least number of lost junctions in such a colouring, cut at 2
abbrev pub LeastLoss : List Edge → ℕ → ℕ → ℕ → Type 0
LeastLoss E x y r = (r ≤ 2) × ((j : ℕ) → j ≤ 1 → (r ≤ j) ↔ Parted j E x y)

-- ---- two graphs with labels: g k and h k are the junctions of the label k, for k in K
-- a colouring of H agrees with φ at the labels and loses no more
abbrev pub Followed : {G : List Edge} → NodeSet → Colouring G → (ℕ → ℕ) → List Edge → (ℕ → ℕ) → Type 0
Followed K φ g H h = (ψ : Colouring H) × ((k : ℕ) → K k ≡ true → colour_of ψ (h k) ≡ colour_of φ (g k)) × (size ψ.loss ≤ size φ.loss)

-- each colouring of G is so followed
abbrev pub Follows : NodeSet → List Edge → (ℕ → ℕ) → List Edge → (ℕ → ℕ) → Type 0
Follows K G g H h = (φ : Colouring G) → Followed K φ g H h

-- the same colourings at the labels
pub record Same (K : NodeSet) (G : List Edge) (g : ℕ → ℕ) (H : List Edge) (h : ℕ → ℕ) : Type 0 where
  pub there : Follows K G g H h
  pub back : Follows K H h G g
