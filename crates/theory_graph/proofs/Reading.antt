-- The answer of two active nodes, read off a small graph: 2 where they have one number, else 1 where they are joined, else 0.
-- With two active entries no class without an active node is kept, so the counts of nodes and edges alone give the answer.
-- Assumes nothing.
use Prim.Native.Nat.{◌<◌, ◌≤◌, ℕ}
use mathlib.Core.Bool.{Bool, cond, true}
use mathlib.Core.List.{List, Memᴰ, [], ◌∷◌}
use mathlib.Core.Logic.{◌↔◌, ◌⊎◌, inl, inr}
use mathlib.Core.Path.{◌∙◌, ◌≡◌, ap, ap₂, refl, subst, sym}
use lib.Dec.{eqb, ltb}
use native.Mathlib.Omega.{arith}
use borrow.Author.Tests.{eq-eqb, eqb-false, eqb-true, lt-ltb, ltb-false, ltb-true, ne_eqb}
use Rattle.theory_graph.proofs.Booleans.{contradict, majority, majority_same, on_bool}
use Rattle.theory_graph.proofs.CutOffs.{answer_by_cuts, cut_off, cut_off_complete, cut_off_sound, on_two_edge}
use Rattle.theory_graph.proofs.Cuts.{crosses_zero}
use Rattle.theory_graph.proofs.Kept.{Kept}
use Rattle.theory_graph.proofs.Lifting.{small_cuts}
use Rattle.theory_graph.proofs.Medians.{Median, median_swap12, median_swap23}
use Rattle.theory_graph.proofs.Reach.{connected_reach, reach, reach_connected}
use Rattle.theory_graph.proofs.Separation.{insep_cut, insep_sym, insep_trans, same_two_edge, two_edge_connected}
use Rattle.theory_graph.proofs.SmallGraphs.{SmallGraph}
use Rattle.theory_graph.proofs.Transfer.{separated_same}
use Rattle.theory_graph.specs.Cut.{Connected, Separated, TwoEdgeConnected}
use Rattle.theory_graph.specs.Graph.{Edge}
use Rattle.theory_graph.specs.SmallGraph.{no_edge, read_off}

-- ---- the answer of two active nodes, read off
pub answer_read : (E : List Edge) (S : List ℕ) (h : ℕ) (H : List Edge) (ρ σ : ℕ → ℕ) → SmallGraph E S h H ρ σ → (x y : ℕ) → Memᴰ x S → Memᴰ y S
    → answer_by_cuts E x y ≡ cond (eqb (σ x) (σ y)) 2 (cond (reach H (σ x) (σ y)) 1 0)
unfolding answer_by_cuts
answer_read E S h H ρ σ g x y mx my =
    let (lx, tx) = g.place x mx in
    let (ly, ty) = g.place y my in
    let s : (j : ℕ) → j ≤ 1 → Separated j H (σ x) (σ y) ↔ Separated j E (ρ (σ x)) (ρ (σ y)) =
    separated_same (λ v. ltb v h) ρ H E (small_cuts E S h H ρ σ g) (σ x) (σ y) (lt-ltb (σ x) h lx) (lt-ltb (σ y) h ly) in
    let back : Connected E (ρ (σ x)) (ρ (σ y)) → Connected E x y = λ j. insep_trans E (two_edge_connected E tx) (insep_trans E j (insep_sym E (two_edge_connected E ty))) in
    let forth : Connected E x y → Connected E (ρ (σ x)) (ρ (σ y)) = λ j. insep_trans E (insep_sym E (two_edge_connected E tx)) (insep_trans E j (two_edge_connected E ty)) in
    on_bool (eqb (σ x) (σ y))
    (λ e.
    let t : TwoEdgeConnected E x y = insep_trans E (subst (λ (v : ℕ). TwoEdgeConnected E x (ρ v)) (eqb-true (σ x) (σ y) e) tx) (insep_sym E ty) in
    ap₂ (λ a b. cond a (cond b 1 2) 0) (connected_reach E x y (two_edge_connected E t))
    (on_bool (cut_off E x y y) (λ u. let w = cut_off_sound E x y y u in absurd (t (w.0, w.1, w.2, w.4))) (λ f. f))
    ∙ sym (ap (λ c. cond c 2 (cond (reach H (σ x) (σ y)) 1 0)) e))
    (λ e.
    let apart : cut_off E x y y ≡ true =
    on_two_edge E x y (λ w. cut_off_complete E x y y (w.0, w.1, w.2, w.2, w.3))
    (λ t. absurd (eqb-false (σ x) (σ y) e (g.once (σ x) (σ y) lx ly (insep_trans E (insep_sym E tx) (insep_trans E t ty))))) in
    on_bool (reach H (σ x) (σ y))
    (λ r. ap₂ (λ a b. cond a (cond b 1 2) 0) (connected_reach E x y (back (λ w. reach_connected H (σ x) (σ y) r ((s 0 (omega arith)).1 w)))) apart
    ∙ sym (ap₂ (λ c a. cond c 2 (cond a 1 0)) e r))
    (λ r. ap (λ a. cond a (cond (cut_off E x y y) 1 2) 0)
    (on_bool (reach E x y) (λ u. contradict (connected_reach H (σ x) (σ y) (λ w. forth (reach_connected E x y u) ((s 0 (omega arith)).0 w))) r) (λ f. f))
    ∙ sym (ap₂ (λ c a. cond c 2 (cond a 1 0)) e r)))

-- ---- two active entries
-- the median of three nodes of which two are one is that one
median_twice : (E : List Edge) (z a b c : ℕ) → a ≡ b → Median E a b c z → TwoEdgeConnected E z a
median_twice E z a b c e m = same_two_edge E z a (λ U q. m U q ∙ ap (λ (v : ℕ). majority (U a) (U v) (U c)) (sym e) ∙ majority_same (U a) (U c))

-- no class without an active node is kept
pub two_active : (E : List Edge) (x y z : ℕ) → Kept E (x ∷ y ∷ []) z → TwoEdgeConnected E z x ⊎ TwoEdgeConnected E z y
two_active E x y z k =
    go (which k.in_a) (which k.in_b) (which k.in_c)
    (λ e. hit k.in_a (median_twice E z k.a k.b k.c e k.mid))
    (λ e. hit k.in_a (median_twice E z k.a k.c k.b e (median_swap23 E k.a k.b k.c z k.mid)))
    (λ e. hit k.in_b (median_twice E z k.b k.c k.a e (median_swap23 E k.b k.a k.c z (median_swap12 E k.a k.b k.c z k.mid))))
  where
    which : {a : ℕ} → Memᴰ a (x ∷ y ∷ []) → (a ≡ x) ⊎ (a ≡ y)
    which (Memᴰ.head p) = inl p
    which {a = a} (mathlib.Core.List.Memᴰ.tail (mathlib.Core.List.Memᴰ.tail x9)) = elim x9 [ ]
    which (Memᴰ.tail (Memᴰ.head p)) = inr p

    hit : {a : ℕ} → Memᴰ a (x ∷ y ∷ []) → TwoEdgeConnected E z a → TwoEdgeConnected E z x ⊎ TwoEdgeConnected E z y
    hit m t = of (which m) t
      where
        of : {a : ℕ} → (a ≡ x) ⊎ (a ≡ y) → TwoEdgeConnected E z a → TwoEdgeConnected E z x ⊎ TwoEdgeConnected E z y
        of (inl p) t = inl (subst (λ (v : ℕ). TwoEdgeConnected E z v) p t)
        of (inr p) t = inr (subst (λ (v : ℕ). TwoEdgeConnected E z v) p t)

    go : {a b c : ℕ} {A : Type 0} → (a ≡ x) ⊎ (a ≡ y) → (b ≡ x) ⊎ (b ≡ y) → (c ≡ x) ⊎ (c ≡ y) → (a ≡ b → A) → (a ≡ c → A) → (b ≡ c → A) → A
    go (inl p) (inl q) r f s t = f (p ∙ sym q)
    go (inl p) (inr q) (inl r) f s t = s (p ∙ sym r)
    go (inl p) (inr q) (inr r) f s t = t (q ∙ sym r)
    go (inr p) (inl q) (inl r) f s t = t (q ∙ sym r)
    go (inr p) (inl q) (inr r) f s t = s (p ∙ sym r)
    go (inr p) (inr q) r f s t = f (p ∙ sym q)

-- a small graph of two active entries
module _ (E : List Edge) (x y h : ℕ) (H : List Edge) (ρ σ : ℕ → ℕ) (g : SmallGraph E (x ∷ y ∷ []) h H ρ σ) where
  -- each node is the place of an active entry
  node : (i : ℕ) → i < h → (i ≡ σ x) ⊎ (i ≡ σ y)
  node i l = of (two_active E x y (ρ i) (g.kept i l))
    where
      at_place : (a : ℕ) → Memᴰ a (x ∷ y ∷ []) → TwoEdgeConnected E (ρ i) a → i ≡ σ a
      at_place a m t = let (p, q) = g.place a m in g.once i (σ a) l p (insep_trans E t q)

      of : TwoEdgeConnected E (ρ i) x ⊎ TwoEdgeConnected E (ρ i) y → (i ≡ σ x) ⊎ (i ≡ σ y)
      of (inl t) = inl (at_place x (Memᴰ.head refl) t)
      of (inr t) = inr (at_place y (Memᴰ.tail (Memᴰ.head refl)) t)

  one_node : σ x ≡ σ y → h ≡ 1
  one_node e =
      let (l, _) = g.place x (Memᴰ.head refl) in
      on_bool (ltb 1 h) (λ t. let k : 1 < h = ltb-true 1 h t in absurd (omega (arith, only 0 (omega arith), only 1 k))) λ f. let k : h ≤ 1 = ltb-false 1 h f in omega arith
    where
      only : (i : ℕ) → i < h → i ≡ σ x
      only i l = of (node i l)
        where
          of : (i ≡ σ x) ⊎ (i ≡ σ y) → i ≡ σ x
          of (inl p) = p
          of (inr p) = p ∙ sym e

  two_nodes : ¬ (σ x ≡ σ y) → ¬ (h ≡ 1)
  two_nodes n e = let (l, _) = g.place x (Memᴰ.head refl) in let (k, _) = g.place y (Memᴰ.tail (Memᴰ.head refl)) in n (omega arith)

  -- an edge joins the two
  edge_joins : (i j : ℕ) (K : List Edge) → ¬ (i ≡ j) → (i ≡ σ x) ⊎ (i ≡ σ y) → (j ≡ σ x) ⊎ (j ≡ σ y) → Connected ((i, j) ∷ K) (σ x) (σ y)
  edge_joins i j K n p q (U, a, b, c) = go p q (crosses_zero (U i) (U j) (omega arith))
    where
      go : (i ≡ σ x) ⊎ (i ≡ σ y) → (j ≡ σ x) ⊎ (j ≡ σ y) → U i ≡ U j → ⊥
      go (inl p) (inl q) e = n (p ∙ sym q)
      go (inl p) (inr q) e = contradict a (ap U (sym p) ∙ e ∙ ap U q ∙ b)
      go (inr p) (inl q) e = contradict a (ap U (sym q) ∙ sym e ∙ ap U p ∙ b)
      go (inr p) (inr q) e = n (p ∙ sym q)

  edges_join : ¬ (σ x ≡ σ y) → (K : List Edge) → H ≡ K → ◌≡◌ {A = ℕ} (cond (reach K (σ x) (σ y)) 1 0) (cond (no_edge K) 0 1)
  edges_join n [] e = ap (λ (b : Bool). cond b 1 0)
      (on_bool (reach [] (σ x) (σ y)) (λ t. absurd (omega (arith, insep_cut [] (reach_connected [] (σ x) (σ y) t) (eqb (σ x)) (eq-eqb (σ x) (σ x) refl) (ne_eqb (σ x) (σ y) n)))) (λ f. f))
  edges_join n (f ∷ K) e =
      let (lt, lj, _) = g.edge f.0 f.1 (subst (λ (l : List Edge). Memᴰ f l) (sym e) (Memᴰ.head refl)) in
      let ne : ¬ (f.0 ≡ f.1) = λ q. omega arith in
      ap (λ (b : Bool). cond b 1 0) (connected_reach (f ∷ K) (σ x) (σ y) (edge_joins f.0 f.1 K ne (node f.0 (omega arith)) (node f.1 lj)))

  pub read_off_lem : cond (eqb (σ x) (σ y)) 2 (cond (reach H (σ x) (σ y)) 1 0) ≡ read_off h H
  read_off_lem =
      on_bool (eqb (σ x) (σ y))
      (λ t. ap (λ (b : Bool). cond b 2 (cond (reach H (σ x) (σ y)) 1 0)) t ∙ sym (ap (λ (b : Bool). cond b 2 (cond (no_edge H) 0 1)) (eq-eqb h 1 (one_node (eqb-true (σ x) (σ y) t)))))
      λ f.
      let n = eqb-false (σ x) (σ y) f in
      ap (λ (b : Bool). cond b 2 (cond (reach H (σ x) (σ y)) 1 0)) f ∙ edges_join n H refl ∙ sym (ap (λ (b : Bool). cond b 2 (cond (no_edge H) 0 1)) (ne_eqb h 1 (two_nodes n)))
