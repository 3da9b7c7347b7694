-- The reduced graph computed: from the blocks of a search, the list of the junctions in the order of the search, the active junctions and the relevant ones.
-- A junction is relevant if it is active or the top of a class with a relevant member. proofs/ReduceLaws shows that what is computed is a reduced graph in the sense of specs/Classes.
-- Assumes nothing: these are definitions.
use Rattle.std.specs.Prelude.{◌<◌, suc, zero, ℕ, Bool, ◌&&◌, ◌||◌, false, not, true, ◌≡◌, eqb}
use mathlib.Core.List.{List, Memᴰ, [], ◌++◌, ◌∷◌}
use Rattle.theory_graph.specs.Graph.{Edge, NodeSet}
use Rattle.theory_graph.specs.Lists.{any, filter}
use Rattle.theory_junctions.specs.Blocks.{Blocks, top_of}
use Rattle.theory_junctions.specs.Classes.{Class, count, number_in, numbered_graph, own_cycles, reduced_junctions, shares}

-- ---- the search and the relevant junctions
-- each entry comes before those after it
abbrev pub Rising : (ℕ → ℕ) → List ℕ → Type 0
Rising pos [] = Unit {0}
Rising pos (v ∷ vs) = ((w : ℕ) → Memᴰ w vs → pos v < pos w) × Rising pos vs

-- a search from the active junctions: order lists what was seen, in order; all active junctions were seen, and all roots are active
pub record Search (E : List Edge) (B : Blocks E) (K : NodeSet) (order : List ℕ) : Type 0 where
  pub rises : Rising B.pos order
  pub listed_seen : (v : ℕ) → Memᴰ v order → B.seen v ≡ true
  pub seen_listed : (v : ℕ) → B.seen v ≡ true → Memᴰ v order
  pub active_seen : (k : ℕ) → K k ≡ true → B.seen k ≡ true
  pub root_active : (v : ℕ) → B.seen v ≡ true → B.child v ≡ false → K v ≡ true

-- rel are the active junctions and the tops of classes with a member in rel
pub record Relevance (E : List Edge) (B : Blocks E) (K rel : NodeSet) : Type 0 where
  pub active : (k : ℕ) → K k ≡ true → rel k ≡ true
  pub top : (v : ℕ) → rel v ≡ true → B.child v ≡ true → rel (top_of B v) ≡ true
  pub cause : (v : ℕ) → rel v ≡ true → K v ≡ false → (u : ℕ) × (B.child u ≡ true) × (top_of B u ≡ v) × (rel u ≡ true)

-- such a set: the way up through tops from k passes v, in fewer than n steps
abbrev pub passes : {E : List Edge} → Blocks E → ℕ → ℕ → ℕ → Bool
passes B zero k v = false
passes B (suc n) k v = eqb k v || B.child k && passes B n (top_of B k) v

abbrev pub relevant_to : {E : List Edge} → Blocks E → List ℕ → NodeSet
relevant_to B S v = any (λ k. passes B (suc (B.pos k)) k v) S

-- ---- the classes
-- the relevant members of the class with the name c
abbrev pub members_in : {E : List Edge} → Blocks E → NodeSet → List ℕ → ℕ → List ℕ
members_in B rel order c = filter (λ u. B.child u && (rel u && eqb (B.first u) c)) order

abbrev pub none : List ℕ → Bool
none [] = true
none (x ∷ xs) = false

-- the names of the classes with a relevant member
abbrev pub names_in : {E : List Edge} → Blocks E → NodeSet → List ℕ → List ℕ
names_in B rel order = filter (λ c. B.child c && (eqb (B.first c) c && not (none (members_in B rel order c)))) order

abbrev pub classes_from : {E : List Edge} → Blocks E → NodeSet → List ℕ → List ℕ → List Class
classes_from B rel order [] = []
classes_from B rel order (n ∷ ns) = (n, members_in B rel order n) ∷ classes_from B rel order ns

abbrev pub classes_in : {E : List Edge} → Blocks E → NodeSet → List ℕ → List Class
classes_in B rel order = classes_from B rel order (names_in B rel order)

-- the number of classes with the top t that have a relevant member among ds, where ds is what a loop from the last junction to the first has passed
abbrev pub classes_among : {E : List Edge} → Blocks E → NodeSet → List ℕ → List ℕ → ℕ → ℕ
classes_among B rel order ds t = count (λ c. B.child c && (eqb (B.first c) c && not (none (members_in B rel ds c))) && eqb (B.par c) t) order

abbrev pub roots_in : {E : List Edge} → Blocks E → List ℕ → List ℕ
roots_in B order = filter (λ v. not (B.child v)) order

-- v shares the number of its top
abbrev pub shares_top : {E : List Edge} → Blocks E → NodeSet → NodeSet → List ℕ → NodeSet
shares_top B K rel order v = B.child v && (rel v && shares K B.par (classes_in B rel order) (B.first v, members_in B rel order (B.first v)) v)

abbrev pub backwards : List ℕ → List ℕ
backwards [] = []
backwards (x ∷ xs) = backwards xs ++ x ∷ []

-- the members that share the number of their top, the latest first
abbrev pub shared_in : {E : List Edge} → Blocks E → NodeSet → NodeSet → List ℕ → List ℕ
shared_in B K rel order = backwards (filter (shares_top B K rel order) order)

-- ---- the small graph
-- its junctions in the order of their numbers, the number of a junction, and the edges between numbers
abbrev pub small_junctions : {E : List Edge} → Blocks E → NodeSet → NodeSet → List ℕ → List ℕ
small_junctions B K rel order = reduced_junctions B K (roots_in B order) (classes_in B rel order)

abbrev pub small_number : {E : List Edge} → Blocks E → NodeSet → NodeSet → List ℕ → ℕ → ℕ
small_number B K rel order = number_in (small_junctions B K rel order)

abbrev pub small_graph : {E : List Edge} → Blocks E → NodeSet → NodeSet → List ℕ → List Edge
small_graph B K rel order = numbered_graph B K (roots_in B order) (classes_in B rel order) (shared_in B K rel order)

-- Numbers as a program gives them: the junctions of the small graph have different numbers, which ρ takes back, and a junction that shares has its top's number.
pub record Numbers (E : List Edge) (B : Blocks E) (K rel : NodeSet) (order : List ℕ) (num ρ : ℕ → ℕ) : Type 0 where
  pub own : (v : ℕ) → Memᴰ v (small_junctions B K rel order) → ρ (num v) ≡ v
  pub shared : (v : ℕ) → shares_top B K rel order v ≡ true → num v ≡ num (top_of B v)

-- the edges that are written, between junctions
abbrev pub written_edges : {E : List Edge} → Blocks E → NodeSet → NodeSet → List ℕ → List Edge
written_edges B K rel order = own_cycles K B.par (classes_in B rel order) (classes_in B rel order)
