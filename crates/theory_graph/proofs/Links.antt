-- Links in document 01's words (docs/theory.md 7, Linked): two kept classes are joined in the edges that touch no third kept class
-- just where they are joined and no third kept class lies between them.
-- Assumes nothing.
use Prim.Native.Nat.{◌+◌, ◌<◌, ◌≤◌, ℕ}
use mathlib.Core.Bool.{Bool, ◌&&◌, cond, false, not, true}
use mathlib.Core.List.{List, [], ◌∷◌}
use mathlib.Core.Logic.{◌⊎◌, inl, inr}
use mathlib.Core.Path.{◌∙◌, ◌≡◌, ap, ap₂, refl, subst, sym}
use lib.Dec.{eqb, leb}
use native.Mathlib.Omega.{arith}
use borrow.Author.Tests.{eqb-false, eqb-true, leb-false, leb-true, not-true}
use Rattle.theory_graph.proofs.Adjacency.{adj_closed, adj_induced, adj_out, crossing_edge, induced_closed, induced_le, induced_mono}
use Rattle.theory_graph.proofs.Booleans.{and_elim, contradict, on_bool}
use Rattle.theory_graph.proofs.ClassRemoval.{outside_class, part_cut_off}
use Rattle.theory_graph.proofs.CutOffs.{cut_off, cut_off_complete, on_cut_off, on_two_edge}
use Rattle.theory_graph.proofs.Cuts.{cut_complement}
use Rattle.theory_graph.proofs.Definitions.{joined_from, joined_to, kept_from, kept_to, two_edge_from, two_edge_to}
use Rattle.theory_graph.proofs.Kept.{Kept, kept_class}
use Rattle.theory_graph.proofs.Medians.{between_connected}
use Rattle.theory_graph.proofs.Reach.{reach, reach_closed, reach_connected, reach_least, reach_self}
use Rattle.theory_graph.proofs.Separation.{insep_cut, insep_refl, insep_sym, insep_trans, same_side}
use Rattle.theory_graph.proofs.SmallGraphs.{Linked, OnePerClass}
use Rattle.theory_graph.specs.Contraction.{kept, linked, third}
use Rattle.theory_graph.specs.Cut.{Connected, CutOff, TwoEdgeConnected, ◌∩◌, crosses, cut, ∁}
use Rattle.theory_graph.specs.Graph.{Edge, NodeSet, induced, joined, two_edge}

-- ---- edges on both sides of a set
two_sides : (R U : NodeSet) (E : List Edge) → cut U (induced R E) + cut U (induced (∁ R) E) ≤ cut U E
two_sides R U [] = omega arith
two_sides R U (e ∷ E) = go (R e.0) (R e.1) (two_sides R U E)
  where
    go : (a b : Bool) → cut U (induced R E) + cut U (induced (∁ R) E) ≤ cut U E
        → cut U (cond (a && b) (e ∷ induced R E) (induced R E)) + cut U (cond (not a && not b) (e ∷ induced (∁ R) E) (induced (∁ R) E)) ≤ crosses (U e.0) (U e.1) + cut U E
    go true true h = omega arith
    go true false h = omega arith
    go false true h = omega arith
    go false false h = omega arith

-- where no edge of P leaves R, the edges of P that cross U within R have both ends in R
pub inside : (P R U : NodeSet) (E : List Edge) → cut R (induced P E) ≤ 0 → cut (U ∩ R) (induced P E) ≤ cut U (induced R E)
inside P R U [] h = omega arith
inside P R U (e ∷ E) h = go (P e.0 && P e.1) (R e.0) (R e.1) refl refl h (inside P R U E)
  where
    same : (a b : Bool) → crosses (a && true) (b && true) ≡ crosses a b
    same true true = refl
    same true false = refl
    same false true = refl
    same false false = refl

    none : (a b : Bool) → crosses (a && false) (b && false) ≡ 0
    none true true = refl
    none true false = refl
    none false true = refl
    none false false = refl

    go : (p a b : Bool) → R e.0 ≡ a → R e.1 ≡ b → cut R (cond p (e ∷ induced P E) (induced P E)) ≤ 0 → (cut R (induced P E) ≤ 0 → cut (U ∩ R) (induced P E) ≤ cut U (induced R E))
        → cut (U ∩ R) (cond p (e ∷ induced P E) (induced P E)) ≤ cut U (cond (a && b) (e ∷ induced R E) (induced R E))
    go false true true s t h r = omega (arith, r h)
    go false true false s t h r = r h
    go false false b s t h r = r h
    go true true true s t h r = omega (arith, r (omega arith), same (U e.0) (U e.1), ap₂ (λ (v w : Bool). crosses (U e.0 && v) (U e.1 && w)) s t)
    go true true false s t h r = absurd (omega (arith, ap₂ crosses s t))
    go true false true s t h r = absurd (omega (arith, ap₂ crosses s t))
    go true false false s t h r = omega (arith, r (omega arith), none (U e.0) (U e.1), ap₂ (λ (v w : Bool). crosses (U e.0 && v) (U e.1 && w)) s t)

-- ---- nodes that a small cut takes off from x and y may all be avoided at once
pub avoid : (E : List Edge) (x y : ℕ) (Z : NodeSet) → Connected E x y → Z x ≡ false → Z y ≡ false → ((z : ℕ) → Z z ≡ true → CutOff E z x y) → Connected (induced (∁ Z) E) x y
avoid E x y Z xy Zx Zy s =
    let P : NodeSet = ∁ Z in
    let K = induced P E in
    let R = reach K x in
    reach_connected K x y (on_bool (R y) (λ t. t) λ Ry.
    let in_P : (v : ℕ) → R v ≡ true → P v ≡ true = λ v r. reach_least K P (induced_closed P E) x v (ap not Zx) r in
    let Q : NodeSet = ∁ R in
    let L = induced Q E in
    let Y = reach L y in
    let in_Q : (v : ℕ) → Y v ≡ true → Q v ≡ true = λ v r. reach_least L Q (induced_closed Q E) y v (ap not Ry) r in
    let Yx : Y x ≡ false = on_bool (Y x) (λ t. contradict (reach_self K x) (not-true (R x) (in_Q x t))) (λ f. f) in
    let (p, q, Yp, Yq, n) = crossing_edge Y E (insep_cut E (insep_sym E xy) Y (reach_self L y) Yx) in
    let Rp : R p ≡ false = not-true (R p) (in_Q p Yp) in
    let Rq : R q ≡ true = on_bool (R q) (λ t. t) (λ f. contradict (sym (adj_closed Y (adj_induced Q n (ap not Rp) (ap not f)) (reach_closed L y)) ∙ Yp) Yq) in
    let Zp : Z p ≡ true = on_bool (Z p) (λ t. t) (λ f. contradict (adj_closed R (adj_induced P n (ap not f) (in_P q Rq)) (reach_closed K x) ∙ Rq) Rp) in
    let (U, Up, Ux, Uy, c) = s p Zp in
    let far : 0 < cut U L = on_bool (leb (cut U L) 0)
    (λ t. contradict (reach_least L (∁ U) (omega (arith, cut_complement U L, leb-true (cut U L) 0 t)) y p (ap not Uy) Yp) (ap not Up)) (λ f. leb-false (cut U L) 0 f) in
    on_bool (U q)
    (λ Uq.
    let near : 0 < cut (U ∩ R) K = insep_cut K (insep_sym K (reach_connected K x q Rq)) (U ∩ R) (ap₂ ◌&&◌ Uq Rq) (ap (λ (b : Bool). b && R x) Ux) in
    absurd (omega (arith, inside P R U E (reach_closed K x), two_sides R U E)))
    (λ Uq. absurd (omega (arith, adj_out Q U n (ap not Rq), ap₂ crosses Up Uq))))

-- ---- the law
module _ (E : List Edge) (S : List ℕ) (h : ℕ) (ρ : ℕ → ℕ) (g : OnePerClass E S h ρ) (i j : ℕ) (li : i < h) (lj : j < h) where
  abbrev x : ℕ
  x = ρ i

  abbrev y : ℕ
  y = ρ j

  abbrev Z : NodeSet
  Z = third E S x y

  apart : (k m : ℕ) → k < h → m < h → ¬ (k ≡ m) → two_edge E (ρ k) (ρ m) ≡ false
  apart k m lk lm n = on_bool (two_edge E (ρ k) (ρ m)) (λ t. absurd (n (g.once k m lk lm (two_edge_to E (ρ k) (ρ m) t)))) (λ f. f)

  pub linked_to : linked E S (ρ i) (ρ j) ≡ true → (¬ (i ≡ j)) × Linked E h ρ i j
  unfolding linked third outside_class
  linked_to l =
      and_elim (not (two_edge E x y)) (joined (induced (∁ Z) E) x y) l λ p q.
      let jk = joined_to (induced (∁ Z) E) x y q in
      let xy : Connected E x y = λ (U, a, b, c). jk (U, a, b, omega (arith, induced_le (∁ Z) U E)) in (
        λ e. contradict (two_edge_from E x y (subst (λ (v : ℕ). TwoEdgeConnected E x (ρ v)) e (insep_refl E x))) (not-true (two_edge E x y) p),
        record {
          to = xy;
          third = λ k lk b.
              on_bool (eqb k i) (λ e. inl (eqb-true k i e)) λ ki. on_bool (eqb k j) (λ e. inr (eqb-true k j e)) λ kj.
              let z = ρ k in
              let zx = apart k i lk li (eqb-false k i ki) in
              let zy = apart k j lk lj (eqb-false k j kj) in
              absurd (b (part_cut_off E x y z (between_connected E x z y xy b) (off z x zx)
              (λ (U, a, c, e). jk (
                U,
                a,
                c,
                omega (
                  arith,
                  induced_mono (λ v. cut_off E z v v) (∁ Z) U E (λ v nv. on_two_edge E z v (λ s. cut_off_complete E z v v (s.0, s.1, s.2, s.2, s.3))
                      (λ t. contradict (hit z v (g.kept k lk) zx zy t) (not-true (Z v) nv))),
                ),
              ))));
        },
      )
    where
      off : (z v : ℕ) → two_edge E z v ≡ false → cut_off E z v v ≡ true
      off z v f = on_two_edge E z v (λ s. cut_off_complete E z v v (s.0, s.1, s.2, s.2, s.3)) (λ t. contradict (two_edge_from E z v t) f)

      stay : (z v w : ℕ) → TwoEdgeConnected E z v → two_edge E z w ≡ false → two_edge E v w ≡ false
      stay z v w t f = on_bool (two_edge E v w) (λ u. contradict (two_edge_from E z w (insep_trans E t (two_edge_to E v w u))) f) (λ f. f)

      hit : (z v : ℕ) → Kept E S z → two_edge E z x ≡ false → two_edge E z y ≡ false → TwoEdgeConnected E z v → Z v ≡ true
      hit z v k zx zy t = ap₂ ◌&&◌ (kept_from E S v (kept_class E S v z (insep_sym E t) k)) (ap₂ ◌&&◌ (ap not (stay z v x t zx)) (ap not (stay z v y t zy)))

  pub linked_from : ¬ (i ≡ j) → Linked E h ρ i j → linked E S (ρ i) (ρ j) ≡ true
  unfolding linked third
  linked_from n l =
      ap₂ ◌&&◌ (ap not (apart i j li lj n)) (joined_from (induced (∁ Z) E) x y (avoid E x y Z l.to
      (ap (λ (b : Bool). kept E S x && (not b && not (two_edge E x y))) (two_edge_from E x x (insep_refl E x)) ∙ off (kept E S x))
      (ap (λ (b : Bool). kept E S y && (not (two_edge E y x) && not b)) (two_edge_from E y y (insep_refl E y))
      ∙ ap (λ (b : Bool). kept E S y && b) (off (not (two_edge E y x))) ∙ off (kept E S y))
      λ z zz. on_cut_off E z x y (λ s. s) λ b.
      and_elim (kept E S z) (not (two_edge E z x) && not (two_edge E z y)) zz λ kz r. and_elim (not (two_edge E z x)) (not (two_edge E z y)) r λ zx zy.
      let (k, lk, t) = g.all z (kept_to E S z kz) in
      absurd (none z k t (not-true (two_edge E z x) zx) (not-true (two_edge E z y) zy) (l.third k lk (λ (U, a, c, e, f). b (U, same_side E z (ρ k) t U f ∙ a, c, e, f))))))
    where
      off : (a : Bool) → (a && false) ≡ false
      off true = refl
      off false = refl

      none : (z k : ℕ) → TwoEdgeConnected E z (ρ k) → two_edge E z x ≡ false → two_edge E z y ≡ false → (k ≡ i) ⊎ (k ≡ j) → ⊥
      none z k t zx zy (inl e) = contradict (two_edge_from E z x (subst (λ (v : ℕ). TwoEdgeConnected E z (ρ v)) e t)) zx
      none z k t zx zy (inr e) = contradict (two_edge_from E z y (subst (λ (v : ℕ). TwoEdgeConnected E z (ρ v)) e t)) zy
