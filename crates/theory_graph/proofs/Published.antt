-- The laws that show a reader that the definitions are the published notions:
-- joined is that a route of edges runs between the two; answer 2 is that no node set that at most one edge leaves parts them;
-- both are equivalence relations; an edge between different classes is one whose loss parts its ends, and the classes with these edges have no cycle;
-- neither the order of the edges nor the way an edge is written matters, to answers and to contractions.
-- Assumes nothing.
use Prim.Native.Nat.{◌+◌, ◌≤◌, ℕ}
use mathlib.Core.Bool.{Bool, cond, false, not, true}
use mathlib.Core.List.{List, [], ◌++◌, ◌∷◌}
use mathlib.Core.Logic.{◌↔◌}
use mathlib.Core.Path.{◌∙◌, ◌≡◌, ap, ap₂, refl, subst, sym}
use lib.ListN.{length}
use native.Mathlib.Omega.{arith}
use borrow.Author.Tests.{eqb-true, not-true}
use Rattle.theory_graph.proofs.Adjacency.{adj_closed, cut_cond_le}
use Rattle.theory_graph.proofs.Booleans.{and_elim, bool_iff, contradict, on_bool, or_elim}
use Rattle.theory_graph.proofs.CutEquivalence.{answer_cuts, contract_cuts}
use Rattle.theory_graph.proofs.CutOffs.{on_two_edge}
use Rattle.theory_graph.proofs.Cuts.{crosses_swap, cut_append, cut_ext, cut_image}
use Rattle.theory_graph.proofs.Definitions.{joined_from, joined_to, two_edge_from, two_edge_to}
use Rattle.theory_graph.proofs.Reach.{connected_reach, reach}
use Rattle.theory_graph.proofs.Separation.{insep_refl, insep_sym, insep_trans, same_side, same_two_edge, two_edge_connected}
use Rattle.theory_graph.specs.Contraction.{contract}
use Rattle.theory_graph.specs.Cut.{Connected, crosses, cut}
use Rattle.theory_graph.specs.Graph.{Edge, NodeSet, answer, joined, two_edge}
use Rattle.theory_graph.specs.Lists.{filter}
use Rattle.theory_graph.specs.Route.{Route, back, fore, next, stay, step}
use Rattle.theory_graph.specs.SmallGraph.{◌∘◌, image}

-- ---- joined is a route
more : {e : Edge} {E : List Edge} {x y : ℕ} → Route E x y → Route (e ∷ E) x y
more stay = stay
more (step a w) = step (next a) (more w)

joins : {E : List Edge} {x y z : ℕ} → Route E x y → Route E y z → Route E x z
joins stay v = v
joins (step a w) v = step a (joins w v)

reach_route : (E : List Edge) (x y : ℕ) → reach E x y ≡ true → Route E x y
reach_route [] x y r = subst (λ (v : ℕ). Route [] x v) (eqb-true x y r) stay
reach_route (e ∷ E) x y r =
    or_elim _ _ r (λ r. more (reach_route E x y r)) λ r.
    or_elim _ _ r
    (λ r. and_elim _ _ r λ a b. joins (more (reach_route E x e.0 a)) (step fore (more (reach_route E e.1 y b))))
    (λ r. and_elim _ _ r λ a b. joins (more (reach_route E x e.1 a)) (step back (more (reach_route E e.0 y b))))

route_connected : {E : List Edge} {x y : ℕ} → Route E x y → Connected E x y
route_connected {E} {x} stay = insep_refl E x
route_connected {E} {x} (step {y = y} a w) = insep_trans E (λ (U, p, q, c). contradict p (adj_closed U a (omega arith) ∙ q)) (route_connected w)

-- document 01's joined
pub joined_route : (E : List Edge) (x y : ℕ) → joined E x y ≡ true → Route E x y
joined_route E x y h = reach_route E x y (connected_reach E x y (joined_to E x y h))

pub route_joined : (E : List Edge) (x y : ℕ) → Route E x y → joined E x y ≡ true
route_joined E x y w = joined_from E x y (route_connected w)

-- ---- answer 2, by cuts
pub two_edge_cuts : (E : List Edge) (x y : ℕ) → (two_edge E x y ≡ true) ↔ ((U : NodeSet) → cut U E ≤ 1 → U x ≡ U y)
two_edge_cuts E x y = (λ t U c. same_side E x y (two_edge_to E x y t) U c, λ f. two_edge_from E x y (same_two_edge E x y f))

pub answer_two : (E : List Edge) (x y : ℕ) → (answer E x y ≡ 2) ↔ (two_edge E x y ≡ true)
unfolding answer
answer_two E x y = (
  go (joined E x y) (two_edge E x y),
  λ t. ap₂ (λ a b. cond a (cond b 2 1) 0) (joined_from E x y (two_edge_connected E (two_edge_to E x y t))) t,
)
  where
    go : (a b : Bool) → ◌≡◌ {A = ℕ} (cond a (cond b 2 1) 0) 2 → b ≡ true
    go true true h = refl
    go true false h = absurd (omega arith)
    go false b h = absurd (omega arith)

-- ---- equivalence relations
pub joined_refl : (E : List Edge) (x : ℕ) → joined E x x ≡ true
joined_refl E x = joined_from E x x (insep_refl E x)

pub joined_sym : (E : List Edge) (x y : ℕ) → joined E x y ≡ true → joined E y x ≡ true
joined_sym E x y p = joined_from E y x (insep_sym E (joined_to E x y p))

pub joined_trans : (E : List Edge) (x y z : ℕ) → joined E x y ≡ true → joined E y z ≡ true → joined E x z ≡ true
joined_trans E x y z p q = joined_from E x z (insep_trans E (joined_to E x y p) (joined_to E y z q))

pub two_edge_refl : (E : List Edge) (x : ℕ) → two_edge E x x ≡ true
two_edge_refl E x = two_edge_from E x x (insep_refl E x)

pub two_edge_sym : (E : List Edge) (x y : ℕ) → two_edge E x y ≡ true → two_edge E y x ≡ true
two_edge_sym E x y p = two_edge_from E y x (insep_sym E (two_edge_to E x y p))

pub two_edge_trans : (E : List Edge) (x y z : ℕ) → two_edge E x y ≡ true → two_edge E y z ≡ true → two_edge E x z ≡ true
two_edge_trans E x y z p q = two_edge_from E x z (insep_trans E (two_edge_to E x y p) (two_edge_to E y z q))

-- answer 2 survives added edges
pub two_edge_more : (E F : List Edge) (x y : ℕ) → two_edge E x y ≡ true → two_edge (E ++ F) x y ≡ true
two_edge_more E F x y p = two_edge_from (E ++ F) x y (λ (U, a, b, c). two_edge_to E x y p (U, a, b, omega (arith, cut_append U E F)))

-- ---- the forest of classes
-- the ends of an edge are in one class just where they stay joined without it
pub bridge : (G F : List Edge) (e : Edge) → two_edge (G ++ e ∷ F) e.0 e.1 ≡ joined (G ++ F) e.0 e.1
bridge G F e = bool_iff _ _
    (λ t. joined_from (G ++ F) e.0 e.1 λ (U, p, q, c). two_edge_to (G ++ e ∷ F) e.0 e.1 t (U, p, q, omega (arith, cut_append U G (e ∷ F), cut_append U G F, ap₂ crosses p q)))
    (λ j. two_edge_from (G ++ e ∷ F) e.0 e.1 λ (U, p, q, c). joined_to (G ++ F) e.0 e.1 j (U, p, q, omega (arith, cut_append U G (e ∷ F), cut_append U G F, ap₂ crosses p q)))

-- the edges between different classes
unfoldable pub bridges : List Edge → List Edge
bridges E = filter (λ e. not (two_edge E e.0 e.1)) E

cut_filter : (f : Edge → Bool) (U : NodeSet) (E : List Edge) → cut U (filter f E) ≤ cut U E
cut_filter f U [] = omega arith
cut_filter f U (e ∷ E) = omega (arith, cut_cond_le U (f e) e (filter f E), cut_filter f U E)

filter_holds : (f : Edge → Bool) (E G F : List Edge) (e : Edge) → filter f E ≡ G ++ e ∷ F → f e ≡ true
filter_holds f [] [] F e h = absurd (omega (arith, ap (λ l. length l) h))
filter_holds f [] (g ∷ G) F e h = absurd (omega (arith, ap (λ l. length l) h))
filter_holds f (x ∷ E) G F e h = go (f x) refl h (filter_holds f E)
  where
    go : (b : Bool) → f x ≡ b → cond b (x ∷ filter f E) (filter f E) ≡ G ++ e ∷ F → ((G F : List Edge) (e : Edge) → filter f E ≡ G ++ e ∷ F → f e ≡ true) → f e ≡ true
    go true p h ih = at_head G h
      where
        at_head : (G : List Edge) → x ∷ filter f E ≡ G ++ e ∷ F → f e ≡ true
        at_head [] h = let q : x ≡ e = cc in sym (ap f q) ∙ p
        at_head (g ∷ G) h = let q : filter f E ≡ G ++ e ∷ F = cc in ih G F e q
    go false p h ih = ih G F e h

-- Where each node stands for its class by r, no edge between classes has its ends joined by the others: the classes form a forest.
pub classes_forest : (E : List Edge) (r : ℕ → ℕ) → ((v : ℕ) → two_edge E v (r v) ≡ true)
    → (G F : List Edge) (e : Edge) → bridges E ≡ G ++ e ∷ F → joined (image r (G ++ F)) (r e.0) (r e.1) ≡ false
unfolding bridges
classes_forest E r same G F e h =
    on_two_edge E e.0 e.1
    (λ (U, p, q, c).
    let side : (v : ℕ) → U v ≡ U (r v) = λ v. same_side E v (r v) (two_edge_to E v (r v) (same v)) U c in
    let few : cut U (G ++ e ∷ F) ≤ 1 = omega (arith, ap (cut U) h, cut_filter (λ e. not (two_edge E e.0 e.1)) U E) in
    on_bool (joined (image r (G ++ F)) (r e.0) (r e.1))
    (λ j. absurd (joined_to (image r (G ++ F)) (r e.0) (r e.1) j (
      U,
      sym (side e.0) ∙ p,
      sym (side e.1) ∙ q,
      omega (arith, cut_image U r (G ++ F), cut_ext (U ∘ r) U (λ v. sym (side v)) (G ++ F), cut_append U G F, cut_append U G (e ∷ F), ap₂ crosses p q),
    ))) (λ f. f))
    (λ t. contradict (two_edge_from E e.0 e.1 t) (not-true _ (filter_holds (λ e. not (two_edge E e.0 e.1)) E G F e h)))

-- ---- order and direction of edges
-- F has the edges of E in another order, some of them turned round
pub data Rearranged : List Edge → List Edge → Type 0 where
  none : Rearranged [] []
  same : {e : Edge} {E F : List Edge} → Rearranged E F → Rearranged (e ∷ E) (e ∷ F)
  turned : {x y : ℕ} {E F : List Edge} → Rearranged E F → Rearranged ((x, y) ∷ E) ((y, x) ∷ F)
  swapped : {e f : Edge} {E : List Edge} → Rearranged (e ∷ f ∷ E) (f ∷ e ∷ E)
  after : {E F G : List Edge} → Rearranged E F → Rearranged F G → Rearranged E G

rearranged_cut : {E F : List Edge} → Rearranged E F → (U : NodeSet) → cut U E ≡ cut U F
rearranged_cut none U = refl
rearranged_cut (same {e = e} r) U = ap (λ n. crosses (U e.0) (U e.1) + n) (rearranged_cut r U)
rearranged_cut (turned {x = x} {y = y} r) U = ap₂ ◌+◌ (crosses_swap (U x) (U y)) (rearranged_cut r U)
rearranged_cut (swapped {e = e} {f = f} {E = E}) U = omega arith
rearranged_cut (after r s) U = rearranged_cut r U ∙ rearranged_cut s U

pub rearranged_answer : {E F : List Edge} → Rearranged E F → answer E ≡ answer F
rearranged_answer {E} {F} r = answer_cuts E F (rearranged_cut r)

pub rearranged_contract : {E F : List Edge} → Rearranged E F → (n : ℕ) (S : List ℕ) → contract n E S ≡ contract n F S
rearranged_contract {E} {F} r n S = contract_cuts E F (rearranged_cut r) S n
