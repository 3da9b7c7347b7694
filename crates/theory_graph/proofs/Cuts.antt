-- Cut calculus (docs/theory.md 1): the number of edges that leave a set is additive, the same for the complement, submodular and posimodular; closed sets;
-- which edge crosses; cuts of moved edges and of sets that agree. Each is a fact about one edge, by all values, and then a sum.
-- Assumes nothing.
use Prim.Native.Nat.{◌*◌, ◌+◌, ◌<◌, ◌≤◌, ℕ}
use mathlib.Core.Bool.{Bool, ◌&&◌, ◌||◌, and-eq-true_iff, false, not, true}
use mathlib.Core.List.{List, Memᴰ, [], ◌++◌, ◌∷◌}
use mathlib.Core.Path.{◌∙◌, ◌≡◌, ap₂, refl, subst, sym}
use lib.Dec.{eqb, eqb→eq, leb, leb→le, ltb}
use native.Mathlib.Omega.{arith}
use borrow.Author.Tests.{ltb-false, ltb-true}
use Rattle.theory_graph.proofs.Booleans.{on_bool, taut4}
use Rattle.theory_graph.specs.Cut.{◌∖◌, ◌∩◌, ◌∪◌, crosses, cut, ∁}
use Rattle.theory_graph.specs.Graph.{Edge, NodeSet}
use Rattle.theory_graph.specs.SmallGraph.{◌∘◌, ends_in, image}

-- ---- 1. d is additive, symmetric, submodular, posimodular
pub cut_append : (U : NodeSet) (E F : List Edge) → cut U (E ++ F) ≡ cut U E + cut U F
cut_append U [] F = omega arith
cut_append U (e ∷ E) F = omega (arith, cut_append U E F)

crosses_not : (a b : Bool) → crosses (not a) (not b) ≡ crosses a b
crosses_not true true = refl
crosses_not true false = refl
crosses_not false true = refl
crosses_not false false = refl

pub cut_complement : (U : NodeSet) (E : List Edge) → cut (∁ U) E ≡ cut U E
cut_complement U [] = refl
cut_complement U (e ∷ E) = omega (arith, cut_complement U E, crosses_not (U e.0) (U e.1))

crosses_submodular : (a b c e : Bool) → crosses (a && c) (b && e) + crosses (a || c) (b || e) ≤ crosses a b + crosses c e
crosses_submodular a b c e = leb→le _ _ (taut4 (λ a b c e. leb (crosses (a && c) (b && e) + crosses (a || c) (b || e)) (crosses a b + crosses c e)) tt a b c e)

pub cut_submodular : (U W : NodeSet) (E : List Edge) → cut (U ∩ W) E + cut (U ∪ W) E ≤ cut U E + cut W E
cut_submodular U W [] = omega arith
cut_submodular U W (e ∷ E) = omega (arith, cut_submodular U W E, crosses_submodular (U e.0) (U e.1) (W e.0) (W e.1))

crosses_posimodular : (a b c e : Bool) → crosses (a && not c) (b && not e) + crosses (c && not a) (e && not b) ≤ crosses a b + crosses c e
crosses_posimodular a b c e = leb→le _ _ (taut4 (λ a b c e. leb (crosses (a && not c) (b && not e) + crosses (c && not a) (e && not b)) (crosses a b + crosses c e)) tt a b c e)

pub cut_posimodular : (U W : NodeSet) (E : List Edge) → cut (U ∖ W) E + cut (W ∖ U) E ≤ cut U E + cut W E
cut_posimodular U W [] = omega arith
cut_posimodular U W (e ∷ E) = omega (arith, cut_posimodular U W E, crosses_posimodular (U e.0) (U e.1) (W e.0) (W e.1))

-- the edges between U ∩ W and U ∖ W count twice
abbrev pub crosses_inside : Bool → Bool → Bool → Bool → ℕ
crosses_inside true true c e = crosses c e
crosses_inside true false c e = 0
crosses_inside false b c e = 0

pub crosses_split : (a b c e : Bool) → crosses (a && c) (b && e) + crosses (a && not c) (b && not e) ≡ crosses a b + 2 * crosses_inside a b c e
crosses_split a b c e = eqb→eq _ _ (taut4 (λ a b c e. eqb (crosses (a && c) (b && e) + crosses (a && not c) (b && not e)) (crosses a b + 2 * crosses_inside a b c e)) tt a b c e)

pub cut_split : (U W : NodeSet) (E : List Edge) → (n : ℕ) × (cut (U ∩ W) E + cut (U ∖ W) E ≡ cut U E + 2 * n)
cut_split U W [] = (0, refl)
cut_split U W (e ∷ E) =
    let (n, h) = cut_split U W E in
    (crosses_inside (U e.0) (U e.1) (W e.0) (W e.1) + n, omega (arith, h, crosses_split (U e.0) (U e.1) (W e.0) (W e.1)))

-- an edge that does not cross has its ends on one side
pub crosses_zero : (a b : Bool) → crosses a b ≤ 0 → a ≡ b
crosses_zero true true h = refl
crosses_zero true false h = absurd (omega arith)
crosses_zero false true h = absurd (omega arith)
crosses_zero false false h = refl

pub crosses_same : {a b : Bool} → a ≡ b → crosses a b ≡ 0
crosses_same {a = true} e = rw (← e)
crosses_same {a = false} e = rw (← e)

-- b tells whether S is taken
abbrev pub when : Bool → NodeSet → NodeSet
when b S = λ v. b && S v

-- reach E x is closed
pub closed_union : (U W : NodeSet) (E : List Edge) → cut U E ≤ 0 → cut W E ≤ 0 → cut (U ∪ W) E ≤ 0
closed_union U W E h k = omega (arith, cut_submodular U W E)

pub closed_empty : (E : List Edge) → cut (λ v. false) E ≤ 0
closed_empty [] = omega arith
closed_empty (e ∷ E) = omega (arith, closed_empty E)

pub closed_when : (b : Bool) (U : NodeSet) (E : List Edge) → cut U E ≤ 0 → cut (when b U) E ≤ 0
closed_when true U E h = h
closed_when false U E h = closed_empty E

pub cut_image : (U : NodeSet) (ρ : ℕ → ℕ) (F : List Edge) → cut U (image ρ F) ≡ cut (U ∘ ρ) F
cut_image U ρ [] = refl
cut_image U ρ (e ∷ F) = omega (arith, cut_image U ρ F)

pub cut_agree : (N U W : NodeSet) (F : List Edge) → ends_in N F ≡ true → ((v : ℕ) → N v ≡ true → U v ≡ W v) → cut U F ≡ cut W F
cut_agree N U W [] w h = refl
cut_agree N U W (e ∷ F) w h =
    let (p, w') = (and-eq-true_iff (N e.0) (N e.1 && ends_in N F)).0 w in
    let (q, r) = (and-eq-true_iff (N e.1) (ends_in N F)).0 w' in
    ap₂ ◌+◌ (ap₂ crosses (h e.0 p) (h e.1 q)) (cut_agree N U W F r h)

pub crosses_le : (a b : Bool) → crosses a b ≤ 1
crosses_le true true = omega arith
crosses_le true false = omega arith
crosses_le false true = omega arith
crosses_le false false = omega arith

pub crosses_cases : {A : Type 0} (a b : Bool) → (crosses a b ≡ 0 → A) → (crosses a b ≡ 1 → A) → A
crosses_cases true true f g = f refl
crosses_cases true false f g = g refl
crosses_cases false true f g = g refl
crosses_cases false false f g = f refl

pub crosses_swap : (a b : Bool) → crosses a b ≡ crosses b a
crosses_swap true true = refl
crosses_swap true false = refl
crosses_swap false true = refl
crosses_swap false false = refl

-- an edge between U ∖ W and W ∖ U is spared twice in the union
pub crosses_union : (a b c e : Bool) → crosses (a || c) (b || e) ≤ crosses a b + crosses c e
crosses_union a b c e = leb→le _ _ (taut4 (λ a b c e. leb (crosses (a || c) (b || e)) (crosses a b + crosses c e)) tt a b c e)

-- ---- edges that cross
pub crosses_one : {A : Type 0} (a b : Bool) → 0 < crosses a b → (a ≡ true → b ≡ false → A) → (a ≡ false → b ≡ true → A) → A
crosses_one true true h f g = absurd (omega arith)
crosses_one true false h f g = f refl refl
crosses_one false true h f g = g refl refl
crosses_one false false h f g = absurd (omega arith)

abbrev pub crossing : NodeSet → Edge → ℕ
crossing U e = crosses (U e.0) (U e.1)

pub crossing_in : (U : NodeSet) (H : List Edge) → 0 < cut U H → (e : Edge) × Memᴰ e H × (0 < crossing U e)
crossing_in U [] h = absurd (omega arith)
crossing_in U (e ∷ H) h =
    on_bool (ltb 0 (crossing U e)) (λ t. (e, Memᴰ.head refl, ltb-true 0 (crossing U e) t)) λ t.
    let (f, m, c) = crossing_in U H (omega (arith, ltb-false 0 (crossing U e) t)) in (f, Memᴰ.tail m, c)

pub in_crossing : (U : NodeSet) (e : Edge) {H : List Edge} → Memᴰ e H → 0 < crossing U e → 0 < cut U H
in_crossing U e {H = []} x5 c = elim x5 [ ]
in_crossing U e {H = f ∷ H} (Memᴰ.head p) c = let c' : 0 < crossing U f = subst (λ (g : Edge). 0 < crossing U g) p c in omega arith
in_crossing U e {H = f ∷ H} (Memᴰ.tail m) c = omega (arith, in_crossing U e m c)

-- a small cut has one edge
pub crossing_one : (U : NodeSet) (e f : Edge) {H : List Edge} → cut U H ≤ 1 → Memᴰ e H → Memᴰ f H → 0 < crossing U e → 0 < crossing U f → e ≡ f
crossing_one U e f h (Memᴰ.head p) (Memᴰ.head q) a b = p ∙ sym q
crossing_one U e f {H = g ∷ H} h (Memᴰ.head p) (Memᴰ.tail n) a b = let a' : 0 < crossing U g = subst (λ (g : Edge). 0 < crossing U g) p
    a in absurd (omega (arith, in_crossing U f n b))
crossing_one U e f {H = g ∷ H} h (Memᴰ.tail m) (Memᴰ.head q) a b = let b' : 0 < crossing U g = subst (λ (g : Edge). 0 < crossing U g) q
    b in absurd (omega (arith, in_crossing U e m a))
crossing_one U e f {H = g ∷ H} h (Memᴰ.tail m) (Memᴰ.tail n) a b = crossing_one U e f (omega arith) m n a b

pub closed_all : (F : List Edge) → cut (λ v. true) F ≤ 0
closed_all [] = omega arith
closed_all (e ∷ F) = omega (arith, closed_all F)

pub cut_ext : (U W : NodeSet) → ((v : ℕ) → U v ≡ W v) → (E : List Edge) → cut U E ≡ cut W E
cut_ext U W h [] = refl
cut_ext U W h (e ∷ E) = ap₂ ◌+◌ (ap₂ crosses (h e.0) (h e.1)) (cut_ext U W h E)
