-- Only the cuts matter (docs/theory.md 0): two lists of edges with the same number of edges leaving every node set have the same answers, kept classes, links,
-- small graphs and contractions. So the order of the edges in a network and the direction in which an edge is written never matter.
-- Assumes nothing.
use Prim.Native.Nat.{ℕ}
use mathlib.Core.Bool.{◌&&◌, cond, not}
use mathlib.Core.List.{List}
use mathlib.Core.Path.{◌∙◌, ◌≡◌, ap, ap₂, fun_ext, refl, sym}
use native.Mathlib.Omega.{arith}
use Rattle.theory_graph.proofs.Adjacency.{induced_split}
use Rattle.theory_graph.proofs.Booleans.{bool_iff}
use Rattle.theory_graph.proofs.Definitions.{joined_from, joined_to, kept_from, kept_to, two_edge_from, two_edge_to}
use Rattle.theory_graph.proofs.Kept.{Kept}
use Rattle.theory_graph.proofs.SmallGraphs.{Linked, SmallGraph}
use Rattle.theory_graph.specs.Contraction.{contract, kept, kept_classes, linked, third}
use Rattle.theory_graph.specs.Cut.{Between, Separated, ◌∖◌, ◌∩◌, cut}
use Rattle.theory_graph.specs.Graph.{Edge, NodeSet, answer, induced, joined, two_edge}

module _ (E E' : List Edge) (q : (U : NodeSet) → cut U E ≡ cut U E') where
  insep_cuts : (j x y : ℕ) → ¬ Separated j E x y → ¬ Separated j E' x y
  insep_cuts j x y n (U, a, b, c) = n (U, a, b, omega (arith, q U))

  between_cuts : (x z y : ℕ) → Between E x z y → Between E' x z y
  between_cuts x z y n (U, a, b, e, c) = n (U, a, b, e, omega (arith, q U))

  kept_cuts : (S : List ℕ) (z : ℕ) → Kept E S z → Kept E' S z
  kept_cuts S z k =
      record {
        a = k.a;
        b = k.b;
        c = k.c;
        in_a = k.in_a;
        in_b = k.in_b;
        in_c = k.in_c;
        to_a = insep_cuts 0 z k.a k.to_a;
        to_b = insep_cuts 0 z k.b k.to_b;
        to_c = insep_cuts 0 z k.c k.to_c;
        mid = λ U c. k.mid U (omega (arith, q U));
      }

  linked_cuts : (h : ℕ) (ρ : ℕ → ℕ) (i j : ℕ) → ((x z y : ℕ) → Between E' x z y → Between E x z y) → Linked E h ρ i j → Linked E' h ρ i j
  linked_cuts h ρ i j f l = record { to = insep_cuts 0 (ρ i) (ρ j) l.to; third = λ k lk b. l.third k lk (f _ _ _ b) }

pub small_cuts_equal : (E E' : List Edge) → ((U : NodeSet) → cut U E ≡ cut U E') → (S : List ℕ) (h : ℕ) (H : List Edge) (ρ σ : ℕ → ℕ) → SmallGraph E S h H ρ σ → SmallGraph E' S h H ρ σ
small_cuts_equal E E' q S h H ρ σ g =
    let q' : (U : NodeSet) → cut U E' ≡ cut U E = λ U. sym (q U) in
    record {
      kept = λ i l. kept_cuts E E' q S (ρ i) (g.kept i l);
      once = λ i j li lj t. g.once i j li lj (insep_cuts E' E q' 1 (ρ i) (ρ j) t);
      all = λ z k. let (i, l, t) = g.all z (kept_cuts E' E q' S z k) in (i, l, insep_cuts E E' q 1 z (ρ i) t);
      place = λ a m. let (l, t) = g.place a m in (l, insep_cuts E E' q 1 a (ρ (σ a)) t);
      order = g.order;
      ascends = g.ascends;
      edge = λ i j m. let (a, b, l) = g.edge i j m in (a, b, linked_cuts E E' q h ρ i j (between_cuts E' E q') l);
      linked = λ i j a b l. g.linked i j a b (linked_cuts E' E q' h ρ i j (between_cuts E E' q) l);
    }

-- ---- the definitions that compute
module _ (E E' : List Edge) (q : (U : NodeSet) → cut U E ≡ cut U E') where
  q' : (U : NodeSet) → cut U E' ≡ cut U E
  q' U = sym (q U)

  pub joined_cuts : joined E ≡ joined E'
  joined_cuts = fun_ext λ x. fun_ext λ y. bool_iff (joined E x y) (joined E' x y)
      (λ j. joined_from E' x y (insep_cuts E E' q 0 x y (joined_to E x y j))) (λ j. joined_from E x y (insep_cuts E' E q' 0 x y (joined_to E' x y j)))

  pub two_edge_cuts_equal : two_edge E ≡ two_edge E'
  two_edge_cuts_equal = fun_ext λ x. fun_ext λ y. bool_iff (two_edge E x y) (two_edge E' x y)
      (λ t. two_edge_from E' x y (insep_cuts E E' q 1 x y (two_edge_to E x y t))) (λ t. two_edge_from E x y (insep_cuts E' E q' 1 x y (two_edge_to E' x y t)))

  pub answer_cuts : answer E ≡ answer E'
  unfolding answer
  answer_cuts = ap₂ (λ j t x y. cond (j x y) (cond (t x y) 2 1) 0) joined_cuts two_edge_cuts_equal

  pub kept_cuts_equal : (S : List ℕ) → kept E S ≡ kept E' S
  kept_cuts_equal S = fun_ext λ z. bool_iff (kept E S z) (kept E' S z)
      (λ k. kept_from E' S z (kept_cuts E E' q S z (kept_to E S z k))) (λ k. kept_from E S z (kept_cuts E' E q' S z (kept_to E' S z k)))

  -- the edges inside a set: those of E are half of what the set's two parts lose beside the set
  pub induced_cuts : (P U : NodeSet) → cut U (induced P E) ≡ cut U (induced P E')
  induced_cuts P U = omega (arith, induced_split P U E, induced_split P U E', q P, q (P ∩ U), q (P ∖ U))

module _ (E E' : List Edge) (q : (U : NodeSet) → cut U E ≡ cut U E') (S : List ℕ) where
  pub linked_cuts_equal : linked E S ≡ linked E' S
  unfolding linked third
  linked_cuts_equal = fun_ext λ x. fun_ext λ y.
      ap₂ ◌&&◌ (ap (λ t. not (t x y)) (two_edge_cuts_equal E E' q))
      (ap (λ j. j x y) (joined_cuts (induced (P E x y) E) (induced (P E x y) E') (induced_cuts E E' q (P E x y)))
      ∙ ap (λ p. joined (induced p E') x y) (ap₂ (λ k t v. not (k v && (not (t v x) && not (t v y)))) (kept_cuts_equal E E' q S) (two_edge_cuts_equal E E' q)))
    where
      P : List Edge → ℕ → ℕ → NodeSet
      P E x y v = not (kept E S v && (not (two_edge E v x) && not (two_edge E v y)))

  pub contract_cuts : (n : ℕ) → contract n E S ≡ contract n E' S
  unfolding contract kept_classes
  contract_cuts n = rw (two_edge_cuts_equal E E' q, kept_cuts_equal E E' q S, linked_cuts_equal) refl
