-- The reduced graph as lists: the classes with a relevant member, each with its name, which is its first member, and its relevant members in the order of its cycle.
-- A class's top is the parent of its name. A junction shares the number of its top where it is the only relevant member of its class, it and its top are idle,
-- and it is the top of just one of the classes; all other relevant junctions have numbers of their own.
-- Assumes nothing: these are definitions.
use Rattle.std.specs.Prelude.{◌+◌, ◌<◌, ◌≤◌, ℕ, Bool, ◌&&◌, cond, false, not, true, ◌≡◌, eqb, length}
use mathlib.Core.List.{List, Memᴰ, [], ◌++◌, ◌∷◌}
use Rattle.theory_graph.specs.Graph.{Edge, NodeSet}
use Rattle.theory_graph.specs.Lists.{Distinct, any, filter, position}
use Rattle.theory_graph.specs.SmallGraph.{image}
use Rattle.theory_junctions.specs.Blocks.{Blocks, closing, cycle, merged_to}

abbrev pub Class : Type 0
Class = ℕ × List ℕ

abbrev pub members_of : List Class → List ℕ
members_of [] = []
members_of (c ∷ cs) = c.1 ++ members_of cs

-- 1 where it holds, else 0
abbrev pub tick : Bool → ℕ
tick true = 1
tick false = 0

-- the number of entries that pass
abbrev pub count : (ℕ → Bool) → List ℕ → ℕ
count f [] = 0
count f (x ∷ xs) = tick (f x) + count f xs

-- the number of classes with the top v
abbrev pub classes_below : (ℕ → ℕ) → List Class → ℕ → ℕ
classes_below par [] v = 0
classes_below par (c ∷ cs) v = tick (eqb (par c.0) v) + classes_below par cs v

-- a list of one entry
abbrev pub single : List ℕ → Bool
single [] = false
single (v ∷ []) = true
single (v ∷ w ∷ us) = false

-- v, a member of the class c, shares the number of its top; K are the active junctions, cs all classes
abbrev pub shares : NodeSet → (ℕ → ℕ) → List Class → Class → ℕ → Bool
shares K par cs c v = single c.1 && (not (K v) && (not (K (par c.0)) && eqb (classes_below par cs v) 1))

-- the members with numbers of their own, of the classes ds among cs
abbrev pub own_members : NodeSet → (ℕ → ℕ) → List Class → List Class → List ℕ
own_members K par cs [] = []
own_members K par cs (c ∷ ds) = filter (λ v. not (shares K par cs c v)) c.1 ++ own_members K par cs ds

-- a cycle for each class, all of them
abbrev pub cycles_of : (ℕ → ℕ) → List Class → List Edge
cycles_of par [] = []
cycles_of par (c ∷ cs) = cycle (par c.0) c.1 ++ cycles_of par cs

-- those that are written: not where the one member shares its top's number
abbrev pub own_cycles : NodeSet → (ℕ → ℕ) → List Class → List Class → List Edge
own_cycles K par cs [] = []
own_cycles K par cs (c ∷ ds) = cond (any (shares K par cs c) c.1) [] (cycle (par c.0) c.1) ++ own_cycles K par cs ds

-- the number of cycles that are closed, those of classes with two members at least
abbrev pub closed_cycles : List Class → ℕ
closed_cycles [] = 0
closed_cycles (c ∷ cs) = length (closing 0 c.1) + closed_cycles cs

abbrev pub names_of : List Class → List ℕ
names_of [] = []
names_of (c ∷ cs) = c.0 ∷ names_of cs

-- each entry comes later than those after it
abbrev pub Falling : (ℕ → ℕ) → List ℕ → Type 0
Falling pos [] = Unit {0}
Falling pos (v ∷ vs) = ((w : ℕ) → Memᴰ w vs → pos w < pos v) × Falling pos vs

-- cs lists the classes of B with a relevant member, and Q the roots: the relevant junctions are the roots and the listed members
pub record ClassList (E : List Edge) (B : Blocks E) (K : NodeSet) (Q : List ℕ) (cs : List Class) : Type 0 where
  pub root_active : (r : ℕ) → Memᴰ r Q → K r ≡ true
  pub root_seen : (r : ℕ) → Memᴰ r Q → B.seen r ≡ true
  pub root_parentless : (r : ℕ) → Memᴰ r Q → B.child r ≡ false
  pub roots_once : Distinct Q
  pub class_name : (c : Class) → Memᴰ c cs → (B.child c.0 ≡ true) × (B.first c.0 ≡ c.0)
  pub class_member : (c : Class) (u : ℕ) → Memᴰ c cs → Memᴰ u c.1 → (B.child u ≡ true) × (B.first u ≡ c.0)
  pub class_filled : (c : Class) → Memᴰ c cs → 1 ≤ length c.1
  pub names_once : Distinct (names_of cs)
  pub members_once : Distinct (members_of cs)
  -- active junctions and tops are relevant, and an idle member is the top of a class
  pub active : (k : ℕ) → K k ≡ true → Memᴰ k (Q ++ members_of cs)
  pub class_top : (c : Class) → Memᴰ c cs → Memᴰ (B.par c.0) (Q ++ members_of cs)
  pub support : (v : ℕ) → Memᴰ v (members_of cs) → K v ≡ false → 1 ≤ classes_below B.par cs v

-- vs lists the members that share the number of their top, each before those that come earlier in the search
pub record Shared (E : List Edge) (B : Blocks E) (K : NodeSet) (cs : List Class) (vs : List ℕ) : Type 0 where
  pub share : (v : ℕ) → Memᴰ v vs → (c : Class) × Memᴰ c cs × Memᴰ v c.1 × (shares K B.par cs c v ≡ true)
  pub every : (c : Class) (v : ℕ) → Memᴰ c cs → Memᴰ v c.1 → shares K B.par cs c v ≡ true → Memᴰ v vs
  pub falls : Falling B.pos vs

-- the reduced graph, and its junctions
abbrev pub reduced_graph : {E : List Edge} → Blocks E → NodeSet → List Class → List ℕ → List Edge
reduced_graph B K cs vs = image (merged_to B vs) (own_cycles K B.par cs cs)

abbrev pub reduced_junctions : {E : List Edge} → Blocks E → NodeSet → List ℕ → List Class → List ℕ
reduced_junctions B K Q cs = Q ++ own_members K B.par cs cs

-- the number of a junction is its place in the list of them
abbrev pub number_in : List ℕ → ℕ → ℕ
number_in J v = position (eqb v) J

-- the reduced graph on the numbers from 0
abbrev pub numbered_graph : {E : List Edge} → Blocks E → NodeSet → List ℕ → List Class → List ℕ → List Edge
numbered_graph B K Q cs vs = image (number_in (reduced_junctions B K Q cs)) (reduced_graph B K cs vs)
