-- The reply is the published notion, and the least loss of a colouring. In order: the ends of edges and `all`; parted by a set; what biconnected says of every junction;
-- the reply in the words of document 02, each of 0, 1 and 2 by a statement of its own; the reply is the least number of lost junctions in a colouring
-- with one junction inside and the other outside, cut at 2, and that number is unique; the same by the value of a colouring that may be crossed.
-- Assumes nothing.
use Prim.Native.Nat.{◌≤◌, ℕ}
use mathlib.Core.Bool.{Bool, ◌&&◌, ◌||◌, cond, false, not, true}
use mathlib.Core.List.{List, Memᴰ, [], ◌∷◌}
use mathlib.Core.Logic.{◌↔◌}
use mathlib.Core.Path.{◌∙◌, ◌≡◌, ap, ap₂, refl, subst, sym}
use lib.Dec.{eqb, leb}
use native.Mathlib.Omega.{arith}
use borrow.Author.Tests.{eqb-false, eqb-true, leb-false, leb-true, ne_eqb, not-true}
use Rattle.theory_graph.proofs.Booleans.{contradict, on_bool, or_elim}
use Rattle.theory_graph.proofs.Definitions.{joined_from, joined_to}
use Rattle.theory_graph.proofs.Lists.{mem_member, member_mem, tests_each}
use Rattle.theory_graph.proofs.Reach.{reach, reach_connected, reach_separated}
use Rattle.theory_graph.specs.Cut.{Separated}
use Rattle.theory_graph.specs.Graph.{Edge, NodeSet, joined}
use Rattle.theory_graph.specs.Lists.{all, member}
use Rattle.theory_junctions.proofs.Colours.{closed_edge, closed_uncrossed, colour_inside, colour_outside, edge_closed, inside_colour, outside_colour, uncrossed_closed}
use Rattle.theory_junctions.specs.Colouring.{LeastLoss, Loss, Parted, Uncrossed, colour, inside, junction, lost, nothing, outside, size, value}
use Rattle.theory_junctions.specs.Reply.{biconnected, ends_of, losing, reply}

-- ---- lists
all_fails : (f : ℕ → Bool) (xs : List ℕ) → all f xs ≡ false → (a : ℕ) × (f a ≡ false)
all_fails f [] h = contradict refl h
all_fails f (x ∷ xs) h = on_bool (f x) (λ t. all_fails f xs (sym (ap (λ b. b && all f xs) t) ∙ h)) (λ t. (x, t))

or-false : (a b : Bool) → (a || b) ≡ false → (a ≡ false) × (b ≡ false)
or-false true b h = contradict refl h
or-false false b h = (refl, h)

pub edge_ends : {p q : ℕ} (E : List Edge) → Memᴰ (p, q) E → Memᴰ p (ends_of E) × Memᴰ q (ends_of E)
edge_ends {p = p} {q = q} [] x' = elim x' [ ]
edge_ends (e ∷ E) (Memᴰ.head h) = (Memᴰ.head (ap (λ e. e.0) h), Memᴰ.tail (Memᴰ.head (ap (λ e. e.1) h)))
edge_ends (e ∷ E) (Memᴰ.tail m) = let (a, b) = edge_ends E m in (Memᴰ.tail (Memᴰ.tail a), Memᴰ.tail (Memᴰ.tail b))

-- ---- parted by a set
not_joined : (E : List Edge) (x y : ℕ) → joined E x y ≡ false → Separated 0 E x y
not_joined E x y j = on_bool (reach E x y) (λ r. contradict (joined_from E x y (reach_connected E x y r)) j) (reach_separated E x y)

separated_not_joined : (E : List Edge) (x y : ℕ) → Separated 0 E x y → joined E x y ≡ false
separated_not_joined E x y s = on_bool (joined E x y) (λ j. absurd (joined_to E x y j s)) (λ j. j)

separated_parted : (E : List Edge) (x y j : ℕ) → Separated 0 E x y → Parted j E x y
separated_parted E x y j (U, p, q, c) = (record { loss = nothing; side = U; uncrossed = closed_uncrossed U E c }, omega arith, inside_colour nothing U x refl p, outside_colour nothing U y refl q)

losing_parted : (E : List Edge) (x y c : ℕ) → ¬ (c ≡ x) → ¬ (c ≡ y) → Separated 0 (losing c E) x y → Parted 1 E x y
losing_parted E x y c nx ny (U, p, q, h) = (
  record { loss = junction c; side = U; uncrossed = λ a b m s t. closed_edge (λ v. not (eqb v c)) U a b E h m (ap not s) (ap not t) },
  omega arith,
  inside_colour (junction c) U x (ne_eqb x c (λ e. nx (sym e))) p,
  outside_colour (junction c) U y (ne_eqb y c (λ e. ny (sym e))) q,
)

pub parted_weaken : (E : List Edge) (x y i j : ℕ) → i ≤ j → Parted i E x y → Parted j E x y
parted_weaken E x y i j l (φ, s, p, q) = (φ, omega arith, p, q)

-- a colouring parts by its side, in the edges that its loss leaves
on_parted : {A : Type 0} (E : List Edge) (x y j : ℕ) → Parted j E x y → (Separated 0 E x y → A)
    → ((c : ℕ) → 1 ≤ j → ¬ (c ≡ x) → ¬ (c ≡ y) → Separated 0 (losing c E) x y → A) → A
on_parted {A} E x y j (φ, s, p, q) f g = go φ.loss φ.uncrossed s (colour_inside φ.loss U x p) (colour_outside φ.loss U y q)
  where
    U : NodeSet
    U = φ.side

    go : (z : Loss) → Uncrossed z U E → size z ≤ j → (lost z x ≡ false) × (U x ≡ true) → (lost z y ≡ false) × (U y ≡ false) → A
    go nothing u s (a, b) (c, d) = f (U, b, d, uncrossed_closed U E u)
    go (junction c) u s (a, b) (e, d) =
        g c (omega arith) (λ i. eqb-false x c a (sym i)) (λ i. eqb-false y c e (sym i))
        (U, b, d, edge_closed (λ v. not (eqb v c)) U E (λ p q m s t. u p q m (not-true (eqb p c) s) (not-true (eqb q c) t)))

-- ---- every junction may be tried
pub biconnected_losing : (E : List Edge) (x y : ℕ) → joined E x y ≡ true → biconnected E x y ≡ true → (c : ℕ) → ¬ (c ≡ x) → ¬ (c ≡ y) → joined (losing c E) x y ≡ true
unfolding biconnected
biconnected_losing E x y j h c nx ny =
    on_bool (member (ends_of E) c)
    (λ m. or_elim _ _ (tests_each (λ c. eqb c x || (eqb c y || joined (losing c E) x y)) c (ends_of E) h (member_mem (ends_of E) c m)) (λ e. absurd (nx (eqb-true c x e))) λ r.
    or_elim _ _ r (λ e. absurd (ny (eqb-true c y e))) (λ r. r))
    (λ m. joined_from (losing c E) x y λ (U, p, q, h). joined_to E x y j (
      U,
      p,
      q,
      uncrossed_closed U E λ a b n s t. closed_edge (λ v. not (eqb v c)) U a b E h n
          (ap not (ne_eqb a c (λ e. contradict (mem_member c (ends_of E) (subst (λ (v : ℕ). Memᴰ v (ends_of E)) e (edge_ends E n).0)) m)))
          (ap not (ne_eqb b c (λ e. contradict (mem_member c (ends_of E) (subst (λ (v : ℕ). Memᴰ v (ends_of E)) e (edge_ends E n).1)) m))),
    ))

pub not_biconnected : (E : List Edge) (x y : ℕ) → biconnected E x y ≡ false → (c : ℕ) × ¬ (c ≡ x) × ¬ (c ≡ y) × (joined (losing c E) x y ≡ false)
unfolding biconnected
not_biconnected E x y h =
    let (c, f) = all_fails (λ c. eqb c x || (eqb c y || joined (losing c E) x y)) (ends_of E) h in
    let (a, r) = or-false _ _ f in
    let (b, s) = or-false _ _ r in
    (c, eqb-false c x a, eqb-false c y b, s)

-- ---- the cases of the reply
on_reply : {A : Type 0} (E : List Edge) (x y : ℕ)
    → (joined E x y ≡ false → reply E x y ≡ 0 → A)
    → (joined E x y ≡ true → (c : ℕ) → ¬ (c ≡ x) → ¬ (c ≡ y) → joined (losing c E) x y ≡ false → reply E x y ≡ 1 → A)
    → (joined E x y ≡ true → ((c : ℕ) → ¬ (c ≡ x) → ¬ (c ≡ y) → joined (losing c E) x y ≡ true) → reply E x y ≡ 2 → A) → A
unfolding reply
on_reply E x y f g h =
    on_bool (joined E x y)
    (λ j. on_bool (biconnected E x y)
    (λ b. h j (biconnected_losing E x y j b) (ap₂ (λ s t. cond s (cond t 2 1) 0) j b))
    (λ b. let (c, nx, ny, n) = not_biconnected E x y b in g j c nx ny n (ap₂ (λ s t. cond s (cond t 2 1) 0) j b)))
    (λ j. f j (ap (λ s. cond s (cond (biconnected E x y) 2 1) 0) j))

-- ---- the reply in the words of document 02
module _ (E : List Edge) (x y : ℕ) where
  -- the loss of a third junction parts the two
  abbrev pub ThirdParts : Type 0
  ThirdParts = (c : ℕ) × (¬ (c ≡ x)) × (¬ (c ≡ y)) × (joined (losing c E) x y ≡ false)

  pub reply_zero : (reply E x y ≡ 0) ↔ (joined E x y ≡ false)
  reply_zero = (
    λ r. on_reply E x y (λ j e. j) (λ j c nx ny n e. absurd (omega arith)) (λ j n e. absurd (omega arith)),
    λ f. on_reply E x y (λ j e. e) (λ j c nx ny n e. contradict j f) (λ j n e. contradict j f),
  )

  pub reply_one : (reply E x y ≡ 1) ↔ ((joined E x y ≡ true) × ThirdParts)
  reply_one = (
    λ r. on_reply E x y (λ j e. absurd (omega arith)) (λ j c nx ny n e. (j, (c, nx, ny, n))) (λ j n e. absurd (omega arith)),
    λ (i, (b, mx, my, m)). on_reply E x y (λ j e. contradict i j) (λ j c nx ny n e. e) (λ j n e. contradict (n b mx my) m),
  )

  pub reply_two : (reply E x y ≡ 2) ↔ ((joined E x y ≡ true) × ((c : ℕ) → ¬ (c ≡ x) → ¬ (c ≡ y) → joined (losing c E) x y ≡ true))
  reply_two = (
    λ r. on_reply E x y (λ j e. absurd (omega arith)) (λ j c nx ny n e. absurd (omega arith)) (λ j n e. (j, n)),
    λ (i, m). on_reply E x y (λ j e. contradict i j) (λ j c nx ny n e. contradict (m c nx ny) n) (λ j n e. e),
  )

-- ---- the least loss of a colouring
pub reply_least : (E : List Edge) (x y : ℕ) → LeastLoss E x y (reply E x y)
reply_least E x y =
    on_reply E x y
    (λ j e. (omega arith, λ i l. (λ h. separated_parted E x y i (not_joined E x y j), λ p. omega arith)))
    (λ j c nx ny n e. (
      omega arith,
      λ i l. (
        λ h. parted_weaken E x y 1 i (omega arith) (losing_parted E x y c nx ny (not_joined (losing c E) x y n)),
        λ p. on_parted E x y i p (λ s. contradict j (separated_not_joined E x y s)) (λ c l nx ny s. omega arith),
      ),
    ))
    (λ j n e. (
      omega arith,
      λ i l. (
        λ h. absurd (omega arith),
        λ p. on_parted E x y i p (λ s. contradict j (separated_not_joined E x y s)) (λ c l nx ny s. contradict (n c nx ny) (separated_not_joined (losing c E) x y s)),
      ),
    ))

least_below : (r s : ℕ) → s ≤ 2 → ((j : ℕ) → j ≤ 1 → s ≤ j → r ≤ j) → r ≤ 2 → r ≤ s
least_below r s l f h = on_bool (leb s 1) (λ t. f s (leb-true s 1 t) (omega arith)) (λ t. omega (arith, leb-false s 1 t))

pub least_unique : (E : List Edge) (x y r s : ℕ) → LeastLoss E x y r → LeastLoss E x y s → r ≡ s
least_unique E x y r s (a, f) (b, g) =
    let p : r ≤ s = least_below r s b (λ j l h. (f j l).1 ((g j l).0 h)) a in
    let q : s ≤ r = least_below s r a (λ j l h. (g j l).1 ((f j l).0 h)) b in
    omega arith

-- ---- by values: a colouring of value at most 1 is one that no edge crosses
pub value_uncrossed : (z : Loss) (U : NodeSet) (E : List Edge) → (value z U E ≤ 1) ↔ Uncrossed z U E
value_uncrossed z U E = (
  λ h p q m a b. closed_edge (λ v. not (lost z v)) U p q E (omega arith) m (ap not a) (ap not b),
  λ u. omega (arith, size_small z, edge_closed (λ v. not (lost z v)) U E (λ p q m a b. u p q m (not-true (lost z p) a) (not-true (lost z q) b))),
)
  where
    size_small : (z : Loss) → size z ≤ 1
    size_small nothing = omega arith
    size_small (junction c) = omega arith

-- x and y get different plain colours at value j at most
abbrev pub PartedByValue : ℕ → List Edge → ℕ → ℕ → Type 0
PartedByValue j E x y = (z : Loss) × (U : NodeSet) × (value z U E ≤ j) × (colour z U x ≡ inside) × (colour z U y ≡ outside)

pub parted_value : (j : ℕ) (E : List Edge) (x y : ℕ) → j ≤ 1 → Parted j E x y ↔ PartedByValue j E x y
parted_value j E x y l = (
  λ (φ, s, p, q).
      let c = edge_closed (λ v. not (lost φ.loss v)) φ.side E (λ p q m a b. φ.uncrossed p q m (not-true (lost φ.loss p) a) (not-true (lost φ.loss q) b)) in
      (φ.loss, φ.side, omega arith, p, q),
  λ (z, U, h, p, q). (record { loss = z; side = U; uncrossed = (value_uncrossed z U E).0 (omega arith) }, omega arith, p, q),
)
