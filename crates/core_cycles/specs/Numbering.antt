-- The numbers of the relevant nodes, in the order of the search: a node that shares the number of its top has that; any other gets the next number. With it what the
-- edge to a node in its cycle comes from.
-- Assumes nothing: these are definitions.
use Rattle.std.specs.Prelude.{◌*◌, ◌+◌, ◌-◌, ◌<◌, ◌≤◌, suc, ℕ, Bool, ◌&&◌, cond, false, not, true, List, [], ◌∷◌, ◌⊎◌, ◌≡◌, eqb, length}
use Rattle.theory_graph.specs.Graph.{Edge, NodeSet}
use Rattle.theory_graph.specs.Lists.{member, table}
use Rattle.theory_junctions.specs.Blocks.{Blocks, last_of, top_of}
use Rattle.theory_junctions.specs.Classes.{classes_below, count}
use Rattle.theory_junctions.specs.Reduce.{classes_in, members_in, shares_top}
use Rattle.core_words.specs.Changes.{OnlyFields}
use Rattle.core_words.specs.Fields.{ACTIVE, EDGE, MARK, NUMBER, ORDER, PARENT, TO, TOP, Put, half, node, update}
use Rattle.core_cycles.specs.BlocksIn.{BELOW, BlocksBy, FROM, LAST, MEMBERS}

-- ---- the counts of all nodes
pub record CountedBy (n m k seen : ℕ) (to act ord te par top mark members below : ℕ → ℕ) : Type 0 where
  pub is : BlocksBy n m k seen to act ord te par top mark
  pub members_are : (c : ℕ) → c < n → members c ≡ length (members_in is.blocks is.rel (table ord 0 seen) c)
  pub below_are : (t : ℕ) → t < n → below t ≡ classes_below is.blocks.par (classes_in is.blocks is.rel (table ord 0 seen)) t
  pub relevant : (i : ℕ) → i < seen → is.rel (ord i) ≡ not (eqb (mark (ord i) + below (ord i)) 0)

abbrev pub CountedAt : ℕ → ℕ → ℕ → ℕ → List ℕ → Type 0
CountedAt n m k seen w = CountedBy n m k seen (half n TO w) (node ACTIVE w) (node ORDER w) (node EDGE w) (node PARENT w) (node TOP w) (node MARK w) (node MEMBERS w) (node BELOW w)

-- ---- numbers
-- v has a number of its own
abbrev pub numbered : {E : List Edge} → Blocks E → NodeSet → NodeSet → List ℕ → NodeSet
numbered B K rel order v = rel v && not (shares_top B K rel order v)

-- one more than the number of the last, 0 for none
abbrev pub last_code : (ℕ → ℕ) → List ℕ → ℕ
last_code number [] = 0
last_code number (u ∷ us) = suc (number (last_of u us))

-- one more than the number that the edge to v comes from, where ps came before v; 0 where no edge leads to v
abbrev pub from_code : {E : List Edge} → Blocks E → NodeSet → NodeSet → List ℕ → (ℕ → ℕ) → List ℕ → ℕ → ℕ
from_code B K rel order number ps v = cond (B.child v && numbered B K rel order v) (suc (number (last_of (top_of B v) (members_in B rel ps (B.first v))))) 0

-- the first i nodes have their numbers, h of them in all
pub record NumbersBy (n m k seen i h : ℕ) (to act ord te par top mark members below number last from : ℕ → ℕ) : Type 0 where
  pub counted : CountedBy n m k seen to act ord te par top mark members below
  pub total : h ≡ count (numbered counted.is.blocks (member (table act 0 k)) counted.is.rel (table ord 0 seen)) (table ord 0 i)
  pub own : (j : ℕ) → j < i → numbered counted.is.blocks (member (table act 0 k)) counted.is.rel (table ord 0 seen) (ord j) ≡ true
      → number (ord j) ≡ count (numbered counted.is.blocks (member (table act 0 k)) counted.is.rel (table ord 0 seen)) (table ord 0 j)
  pub shared : (j : ℕ) → j < i → shares_top counted.is.blocks (member (table act 0 k)) counted.is.rel (table ord 0 seen) (ord j) ≡ true
      → number (ord j) ≡ number (top_of counted.is.blocks (ord j))
  pub low : (j : ℕ) → j < i → counted.is.rel (ord j) ≡ true → number (ord j) < h
  pub last_is : (c : ℕ) → counted.is.blocks.child c ≡ true → last c ≡ last_code number (members_in counted.is.blocks counted.is.rel (table ord 0 i) c)
  pub from_is : (j : ℕ) → j < i
      → from (ord j) ≡ from_code counted.is.blocks (member (table act 0 k)) counted.is.rel (table ord 0 seen) number (table ord 0 j) (ord j)

abbrev pub NumbersAt : ℕ → ℕ → ℕ → ℕ → ℕ → ℕ → List ℕ → Type 0
NumbersAt n m k seen i h w = NumbersBy n m k seen i h (half n TO w) (node ACTIVE w) (node ORDER w) (node EDGE w) (node PARENT w) (node TOP w) (node MARK w) (node MEMBERS w) (node BELOW w)
    (node NUMBER w) (node LAST w) (node FROM w)

-- ---- one node
-- the fields that numbering changes
abbrev pub number_fields : List ℕ
number_fields = NUMBER ∷ LAST ∷ FROM ∷ []

pub record NumberSet (n v x t y z : ℕ) (a b : List ℕ) : Type 0 where
  pub rest : OnlyFields number_fields n a b
  pub number : node NUMBER b ≡ update (node NUMBER a) v x
  pub last : node LAST b ≡ update (node LAST a) t y
  pub from : node FROM b ≡ update (node FROM a) v z

-- one more than the number of the last node of the class of t, of its top where there is none
abbrev pub last_by : (ℕ → ℕ) → (ℕ → ℕ) → (ℕ → ℕ) → ℕ → ℕ
last_by last number par t = cond (eqb (last t) 0) (number (par t) + 1) (last t)

abbrev pub last_at : List ℕ → ℕ → ℕ
last_at w t = last_by (node LAST w) (node NUMBER w) (node PARENT w) t

-- v shares the number of its top, by the counts
abbrev pub shares_by : (ℕ → ℕ) → (ℕ → ℕ) → (ℕ → ℕ) → (ℕ → ℕ) → ℕ → ℕ → Bool
shares_by mark below members par v t = eqb (mark v) 0 && (eqb (mark (par t)) 0 && (eqb (below v) 1 && eqb (members t) 1))

abbrev pub shares_at : List ℕ → ℕ → ℕ → Bool
shares_at w v t = shares_by (node MARK w) (node BELOW w) (node MEMBERS w) (node PARENT w) v t

-- a class whose top has a number
pub record CanReadLast (n : ℕ) (w : List ℕ) (t : ℕ) : Type 0 where
  pub few : n ≤ 65536
  pub room : 16 * n ≤ length w
  pub fit : t < n
  pub parent_fit : node PARENT w t < n
  pub last_few : last_at w t ≤ 65536

pub record CanNumberNode (n h : ℕ) (w : List ℕ) (v : ℕ) : Type 0 where
  pub few : n ≤ 65536
  pub room : 16 * n ≤ length w
  pub less : h < n
  pub fit : v < n
  pub class : ¬ (node MARK w v + node BELOW w v ≡ 0) → ¬ (node EDGE w v ≡ 0) → CanReadLast n w (node TOP w v)

-- a relevant node with a parent
abbrev pub MemberNumbered : ℕ → ℕ → ℕ → List ℕ → List ℕ → ℕ → Type 0
MemberNumbered n h v a b r = ((shares_at a v (node TOP a v) ≡ true) × NumberSet n v (last_at a (node TOP a v) - 1) (node TOP a v) (last_at a (node TOP a v)) 0 a b × (r ≡ h))
    ⊎ ((shares_at a v (node TOP a v) ≡ false) × NumberSet n v h (node TOP a v) (h + 1) (last_at a (node TOP a v)) a b × (r ≡ h + 1))

-- any node
abbrev pub NodeNumbered : ℕ → ℕ → ℕ → List ℕ → List ℕ → ℕ → Type 0
NodeNumbered n h v a b r = ((node MARK a v + node BELOW a v ≡ 0) × Put FROM v 0 a b × (r ≡ h))
    ⊎ ((¬ (node MARK a v + node BELOW a v ≡ 0) × (node EDGE a v ≡ 0) × NumberSet n v h v 0 0 a b × (r ≡ h + 1))
    ⊎ (¬ (node MARK a v + node BELOW a v ≡ 0) × ¬ (node EDGE a v ≡ 0) × MemberNumbered n h v a b r))

-- ---- all nodes
pub record CanNumber (n m k seen : ℕ) (w : List ℕ) : Type 0 where
  pub few : n ≤ 65536
  pub room : 16 * n ≤ length w
  pub counted : CountedAt n m k seen w
  pub none : (v : ℕ) → v < n → node LAST w v ≡ 0

pub record Numbering (n m k seen i h : ℕ) (a w : List ℕ) : Type 0 where
  pub rest : OnlyFields number_fields n a w
  pub numbers : NumbersAt n m k seen i h w
