-- Cuts: the number of edges that leave a node set, and what a set that few edges leave can part.
-- The theory speaks in these words; proofs/Published ties them to joined and answer.
-- Assumes nothing: these are definitions.
use Rattle.std.specs.Prelude.{◌+◌, ◌≤◌, ℕ, Bool, ◌&&◌, ◌||◌, false, not, true, List, [], ◌∷◌, ◌≡◌}
use Rattle.theory_graph.specs.Graph.{Edge, NodeSet}

-- 1 where the two ends of an edge lie on different sides, else 0
abbrev pub crosses : Bool → Bool → ℕ
crosses true true = 0
crosses true false = 1
crosses false true = 1
crosses false false = 0

-- the number of edges with just one end in U
abbrev pub cut : NodeSet → List Edge → ℕ
cut U [] = 0
cut U (e ∷ E) = crosses (U e.0) (U e.1) + cut U E

infixl 35 ◌∩◌
infixl 30 ◌∪◌
infixl 35 ◌∖◌
abbrev pub ◌∩◌ : NodeSet → NodeSet → NodeSet
◌∩◌ U W = λ v. U v && W v

abbrev pub ◌∪◌ : NodeSet → NodeSet → NodeSet
◌∪◌ U W = λ v. U v || W v

abbrev pub ◌∖◌ : NodeSet → NodeSet → NodeSet
◌∖◌ U W = λ v. U v && not (W v)

abbrev pub ∁ : NodeSet → NodeSet
∁ U = λ v. not (U v)

-- a set has x and not y, and at most j edges leave it
abbrev pub Separated : ℕ → List Edge → ℕ → ℕ → Type 0
Separated j E x y = (U : NodeSet) × (U x ≡ true) × (U y ≡ false) × (cut U E ≤ j)

abbrev pub Inseparable : ℕ → List Edge → ℕ → ℕ → Type 0
Inseparable j E x y = ¬ Separated j E x y

-- no set that no edge leaves parts the two
abbrev pub Connected : List Edge → ℕ → ℕ → Type 0
Connected = Inseparable 0

-- no set that at most one edge leaves parts the two
abbrev pub TwoEdgeConnected : List Edge → ℕ → ℕ → Type 0
TwoEdgeConnected = Inseparable 1

-- a set that at most one edge leaves has z, and neither x nor y
abbrev pub CutOff : List Edge → ℕ → ℕ → ℕ → Type 0
CutOff E z x y = (U : NodeSet) × (U z ≡ true) × (U x ≡ false) × (U y ≡ false) × (cut U E ≤ 1)

-- z lies between x and y: no such set has z and neither of them
abbrev pub Between : List Edge → ℕ → ℕ → ℕ → Type 0
Between E x z y = ¬ CutOff E z x y
