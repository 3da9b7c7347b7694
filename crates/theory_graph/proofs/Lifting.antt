-- The other way (docs/theory.md 7, C and SC'): kept nodes that are joined are joined in the small graph, and each small cut of a small graph comes from one
-- of the graph.
-- Assumes nothing.
use Prim.Native.Nat.{◌<◌, ◌≤◌, suc, zero, ℕ}
use mathlib.Core.Bool.{Bool, ◌&&◌, ◌||◌, false, not, or-true, true}
use mathlib.Core.List.{List, Memᴰ}
use mathlib.Core.Logic.{◌⊎◌, inl, inr}
use mathlib.Core.Path.{◌∙◌, ◌≡◌, ap, ap₂, refl, subst, sym}
use lib.Dec.{eqb, ltb}
use native.Mathlib.Omega.{arith}
use borrow.Author.Tests.{eqb-false, eqb-true, ltb-false, ltb-true}
use Rattle.theory_graph.proofs.Booleans.{and_elim, contradict, on_bool, or_elim}
use Rattle.theory_graph.proofs.CutOffs.{on_cut_off, on_two_edge}
use Rattle.theory_graph.proofs.Cuts.{closed_empty, closed_union, closed_when, crosses_one, crossing_in, crossing_one}
use Rattle.theory_graph.proofs.Cuts.{cut_complement, cut_posimodular, cut_submodular, in_crossing, when}
use Rattle.theory_graph.proofs.Medians.{between_both, between_connected, between_end, between_inside, between_sym}
use Rattle.theory_graph.proofs.Reach.{connected_reach, reach, reach_closed, reach_connected, reach_self}
use Rattle.theory_graph.proofs.Separation.{insep_refl, insep_sym, insep_trans}
use Rattle.theory_graph.proofs.SmallGraphs.{Linked, SmallGraph, linked_sym, small_down}
use Rattle.theory_graph.specs.Cut.{Between, Connected, ◌∖◌, ◌∩◌, ◌∪◌, crosses, cut, ∁}
use Rattle.theory_graph.specs.Graph.{Edge, NodeSet}
use Rattle.theory_graph.specs.SmallGraph.{SameCuts}

module _ (E : List Edge) (S : List ℕ) (h : ℕ) (H : List Edge) (ρ σ : ℕ → ℕ) (g : SmallGraph E S h H ρ σ) where
  -- ---- C: between a node of X and one outside there are two linked ones, of which X has one
  -- p, of X, and q, outside, lie between i and j, and none of the first n nodes lies between them
  record Gap (X : NodeSet) (i j n : ℕ) : Type 0 where
    p : ℕ
    q : ℕ
    low_p : p < h
    low_q : q < h
    has : X p ≡ true
    not_q : X q ≡ false
    to : Connected E (ρ i) (ρ p)
    link : Connected E (ρ p) (ρ q)
    btw_p : Between E (ρ i) (ρ p) (ρ j)
    btw_q : Between E (ρ i) (ρ q) (ρ j)
    none : (k : ℕ) → k < n → Between E (ρ p) (ρ k) (ρ q) → (k ≡ p) ⊎ (k ≡ q)

  shrink : (p q z k : ℕ) → p < h → z < h → Between E (ρ p) (ρ z) (ρ q) → (Between E (ρ p) (ρ k) (ρ q) → (k ≡ p) ⊎ (k ≡ q)) → Between E (ρ z) (ρ k) (ρ q) → (k ≡ z) ⊎ (k ≡ q)
  shrink p q z k lp lz b f c = go (f (between_inside E (ρ p) (ρ q) (ρ z) (ρ q) (ρ k) c b (between_sym E _ _ _ (between_end E (ρ q) (ρ p)))))
    where
      go : (k ≡ p) ⊎ (k ≡ q) → (k ≡ z) ⊎ (k ≡ q)
      go (inl e) = inl (e ∙ sym (g.once z p lz lp (between_both E (ρ z) (ρ p) (ρ q) b (subst (λ (v : ℕ). Between E (ρ z) (ρ v) (ρ q)) e c))))
      go (inr e) = inr e

  flip : {A B : Type 0} → A ⊎ B → B ⊎ A
  flip (inl a) = inr a
  flip (inr b) = inl b

  at_suc : {A : Type 0} (k n : ℕ) → k < suc n → (k < n → A) → (k ≡ n → A) → A
  at_suc k n l f e = on_bool (eqb k n) (λ t. e (eqb-true k n t)) (λ t. let i : ¬ (k ≡ n) = eqb-false k n t in f (omega arith))

  walk : (X : NodeSet) (i j n : ℕ) → n ≤ h → i < h → j < h → X i ≡ true → X j ≡ false → Connected E (ρ i) (ρ j) → Gap X i j n
  walk X i j zero l li lj Xi Xj ij =
      record {
        p = i;
        q = j;
        low_p = li;
        low_q = lj;
        has = Xi;
        not_q = Xj;
        to = insep_refl E (ρ i);
        link = ij;
        btw_p = between_end E (ρ i) (ρ j);
        btw_q = between_sym E _ _ _ (between_end E (ρ j) (ρ i));
        none = λ k b n. absurd (omega arith);
      }
  walk X i j (suc n) l li lj Xi Xj ij =
      let w = walk X i j n (omega arith) li lj Xi Xj ij in
      let ln : n < h = omega arith in
      on_cut_off E (ρ n) (ρ w.p) (ρ w.q)
      (λ s. record {
        p = w.p;
        q = w.q;
        low_p = w.low_p;
        low_q = w.low_q;
        has = w.has;
        not_q = w.not_q;
        to = w.to;
        link = w.link;
        btw_p = w.btw_p;
        btw_q = w.btw_q;
        none = λ k b c. at_suc k n b (λ b. w.none k b c) (λ e. absurd (subst (λ (v : ℕ). Between E (ρ w.p) (ρ v) (ρ w.q)) e c s));
      })
      λ b.
      let in-n = between_inside E (ρ i) (ρ j) (ρ w.p) (ρ w.q) (ρ n) b w.btw_p w.btw_q in
      let pn = between_connected E (ρ w.p) (ρ n) (ρ w.q) w.link b in
      on_bool (X n)
      (λ Xn. record {
        p = n;
        q = w.q;
        low_p = ln;
        low_q = w.low_q;
        has = Xn;
        not_q = w.not_q;
        to = insep_trans E w.to pn;
        link = insep_trans E (insep_sym E pn) w.link;
        btw_p = in-n;
        btw_q = w.btw_q;
        none = λ k u c. at_suc k n u (λ u. shrink w.p w.q n k w.low_p ln b (w.none k u) c) inl;
      })
      (λ Xn. record {
        p = w.p;
        q = n;
        low_p = w.low_p;
        low_q = ln;
        has = w.has;
        not_q = Xn;
        to = w.to;
        link = pn;
        btw_p = w.btw_p;
        btw_q = in-n;
        none = λ k u c. at_suc k n u
            (λ u. flip (shrink w.q w.p n k w.low_q ln (between_sym E _ _ _ b) (λ c. flip (w.none k u (between_sym E _ _ _ c))) (between_sym E _ _ _ c))) inr;
      })

  -- an edge of H, in one order or the other
  abbrev In : ℕ → ℕ → Type 0
  In p q = Memᴰ (p, q) H ⊎ Memᴰ (q, p) H

  record Step (X : NodeSet) (i j : ℕ) : Type 0 where
    p : ℕ
    q : ℕ
    has : X p ≡ true
    not_q : X q ≡ false
    to : Connected E (ρ i) (ρ p)
    btw_p : Between E (ρ i) (ρ p) (ρ j)
    btw_q : Between E (ρ i) (ρ q) (ρ j)
    edge : In p q

  step : (X : NodeSet) (i j : ℕ) → i < h → j < h → X i ≡ true → X j ≡ false → Connected E (ρ i) (ρ j) → Step X i j
  step X i j li lj Xi Xj ij =
      let w = walk X i j h (omega arith) li lj Xi Xj ij in
      let l : Linked E h ρ w.p w.q = record { to = w.link; third = w.none } in
      record {
        p = w.p;
        q = w.q;
        has = w.has;
        not_q = w.not_q;
        to = w.to;
        btw_p = w.btw_p;
        btw_q = w.btw_q;
        edge =
            on_bool (ltb w.p w.q) (λ t. inl (g.linked w.p w.q (ltb-true _ _ t) w.low_q l)) λ t.
            on_bool (ltb w.q w.p) (λ s. inr (g.linked w.q w.p (ltb-true _ _ s) w.low_p (linked_sym E S h H ρ σ g w.p w.q l))) λ s.
            let e : w.p ≡ w.q = omega (arith, ltb-false w.p w.q t, ltb-false w.q w.p s) in
            contradict w.has (ap X e ∙ w.not_q);
      }

  x1_fore : {a b : Bool} → a ≡ true → b ≡ false → 0 < crosses a b
  x1_fore e f = rw (e, f) (omega arith)

  x1_back : {a b : Bool} → a ≡ false → b ≡ true → 0 < crosses a b
  x1_back e f = rw (e, f) (omega arith)

  -- it crosses X
  step_cross : (X : NodeSet) (i j : ℕ) → Step X i j → 0 < cut X H
  step_cross X i j s = go s.edge
    where
      go : In s.p s.q → 0 < cut X H
      go (inl m) = in_crossing X (s.p, s.q) m (x1_fore s.has s.not_q)
      go (inr m) = in_crossing X (s.q, s.p) m (x1_back s.not_q s.has)

  -- only one does
  step_one : (X : NodeSet) (p q r t : ℕ) → cut X H ≤ 1 → In p q → In r t → X p ≡ true → X q ≡ false → X r ≡ true → X t ≡ false → (p ≡ r) × (q ≡ t)
  step_one X p q r t c (inl m) (inl n) Xp Xq Xr Xt = let e = crossing_one X (p, q) (r, t) c m n (x1_fore Xp Xq) (x1_fore Xr Xt) in (ap (λ (e : Edge). e.0) e, ap (λ (e : Edge). e.1) e)
  step_one X p q r t c (inl m) (inr n) Xp Xq Xr Xt = let e = crossing_one X (p, q) (t, r) c m n (x1_fore Xp Xq) (x1_back Xt Xr) in contradict Xp (ap (λ (e : Edge). X e.0) e ∙ Xt)
  step_one X p q r t c (inr m) (inl n) Xp Xq Xr Xt = let e = crossing_one X (q, p) (r, t) c m n (x1_back Xq Xp) (x1_fore Xr Xt) in contradict Xr (sym (ap (λ (e : Edge). X e.0) e) ∙ Xq)
  step_one X p q r t c (inr m) (inr n) Xp Xq Xr Xt = let e = crossing_one X (q, p) (t, r) c m n (x1_back Xq Xp) (x1_back Xt Xr) in (ap (λ (e : Edge). e.1) e, ap (λ (e : Edge). e.0) e)

  -- ---- SC'
  -- the nodes joined to a node of X
  abbrev spread : NodeSet → ℕ → NodeSet
  spread X zero = λ v. false
  spread X (suc n) = when (X n) (reach E (ρ n)) ∪ spread X n

  spread_closed : (X : NodeSet) (n : ℕ) → cut (spread X n) E ≤ 0
  spread_closed X zero = closed_empty E
  spread_closed X (suc n) = closed_union (when (X n) (reach E (ρ n))) (spread X n) E (closed_when (X n) (reach E (ρ n)) E (reach_closed E (ρ n))) (spread_closed X n)

  spread_in : (X : NodeSet) (n k v : ℕ) → k < n → X k ≡ true → reach E (ρ k) v ≡ true → spread X n v ≡ true
  spread_in X zero k v l Xk r = absurd (omega arith)
  spread_in X (suc n) k v l Xk r =
      at_suc k n l (λ l. ap (λ s. X n && reach E (ρ n) v || s) (spread_in X n k v l Xk r) ∙ or-true (X n && reach E (ρ n) v))
      (λ e. ap (λ s. s || spread X n v) (ap (λ z. X z && reach E (ρ z) v) (sym e) ∙ ap₂ ◌&&◌ Xk r))

  spread_out : (X : NodeSet) (n v : ℕ) → spread X n v ≡ true → (i : ℕ) × (i < n) × (X i ≡ true) × (reach E (ρ i) v ≡ true)
  spread_out X zero v b = contradict b refl
  spread_out X (suc n) v b =
      or_elim _ _ b (λ p. and_elim _ _ p λ q r. (n, omega arith, q, r)) λ p. let (i, l, q, r) = spread_out X n v p in (i, omega arith, q, r)

  -- outside the pieces that an edge crosses
  spread_at : (X : NodeSet) (k : ℕ) → k < h → ((i : ℕ) → Step X i k → Connected E (ρ i) (ρ k) → ⊥) → spread X h (ρ k) ≡ X k
  spread_at X k lk no_step =
      on_bool (X k) (λ Xk. spread_in X h k (ρ k) lk Xk (reach_self E (ρ k)) ∙ sym Xk) λ Xk.
      on_bool (spread X h (ρ k)) (λ b.
      let (i, li, Xi, r) = spread_out X h (ρ k) b in
      let ik = reach_connected E (ρ i) (ρ k) r in
      absurd (no_step i (step X i k li lk Xi Xk ik) ik)) (λ b. b ∙ sym Xk)

  abbrev Up : NodeSet → Type 0
  Up X = (U : NodeSet) × ((k : ℕ) → ltb k h ≡ true → U (ρ k) ≡ X k) × (cut U E ≤ cut X H)

  up_one : (X : NodeSet) (p q : ℕ) → p < h → q < h → cut X H ≤ 1 → 0 < cut X H → In p q → X p ≡ true → X q ≡ false → Connected E (ρ p) (ρ q) → Up X
  up_one X p q lp lq c pos m Xp Xq pq =
      on_two_edge E (ρ p) (ρ q) (λ s.
      let (U, Up', Uq, hU) = s in
      let R = reach E (ρ p) in
      let B = spread X h in
      let C = U ∩ R ∪ (B ∖ R) in
      (C, λ k l. on U Up' Uq hU k (ltb-true k h l), omega (arith, cut_submodular (U ∩ R) (B ∖ R) E, cut_submodular U R E, cut_posimodular B R E, spread_closed X h, reach_closed E (ρ p))))
      (λ t. contradict Xp (ap X (g.once p q lp lq t) ∙ Xq))
    where
      -- the one step
      same : (i k : ℕ) → Step X i k → Between E (ρ i) (ρ p) (ρ k) × Between E (ρ i) (ρ q) (ρ k) × Connected E (ρ i) (ρ p)
      same i k s =
          let (e, f) = step_one X s.p s.q p q c s.edge m s.has s.not_q Xp Xq in
          (subst (λ (v : ℕ). Between E (ρ i) (ρ v) (ρ k)) e s.btw_p, subst (λ (v : ℕ). Between E (ρ i) (ρ v) (ρ k)) f s.btw_q, subst (λ (v : ℕ). Connected E (ρ i) (ρ v)) e s.to)

      on : (U : NodeSet) → U (ρ p) ≡ true → U (ρ q) ≡ false → cut U E ≤ 1 → (k : ℕ) → k < h → (U (ρ k) && reach E (ρ p) (ρ k) || spread X h (ρ k) && not (reach E (ρ p) (ρ k))) ≡ X k
      on U Up' Uq hU k lk =
          on_bool (reach E (ρ p) (ρ k))
          (λ r.
          let pk = reach_connected E (ρ p) (ρ k) r in
          let e : U (ρ k) ≡ X k =
          on_bool (X k)
          (λ Xk. on_bool (U (ρ k)) (λ t. t ∙ sym Xk) λ f.
          absurd ((same k q (step X k q lk lq Xk Xq (insep_trans E (insep_sym E pk) pq))).0 (U, Up', f, Uq, hU)))
          (λ Xk. on_bool (U (ρ k)) (λ t.
          absurd ((same p k (step X p k lp lk Xp Xk pk)).1 (∁ U, ap not Uq, ap not Up', ap not t, omega (arith, cut_complement U E)))) λ f. f ∙ sym Xk) in
          ap (λ s. U (ρ k) && s || spread X h (ρ k) && not s) r ∙ inside (U (ρ k)) (spread X h (ρ k)) ∙ e)
          (λ r.
          ap (λ s. U (ρ k) && s || spread X h (ρ k) && not s) r ∙ outside (U (ρ k)) (spread X h (ρ k))
          ∙ spread_at X k lk (λ i s ik. contradict (connected_reach E (ρ p) (ρ k) (insep_trans E (insep_sym E (same i k s).2) ik)) r))
        where
          inside : (a b : Bool) → (a && true || b && false) ≡ a
          inside true b = refl
          inside false true = refl
          inside false false = refl

          outside : (a b : Bool) → (a && false || b && true) ≡ b
          outside true true = refl
          outside true false = refl
          outside false true = refl
          outside false false = refl

  pub up : (X : NodeSet) → cut X H ≤ 1 → Up X
  up X c =
      on_bool (ltb 0 (cut X H)) (λ t.
      let pos = ltb-true 0 (cut X H) t in
      let (e, m, a) = crossing_in X H pos in
      let (i, j) = e in
      let (lt, lj, l) = g.edge e.0 e.1 m in
      crosses_one (X e.0) (X e.1) a
      (λ p q. up_one X e.0 e.1 (omega arith) lj c pos (inl m) p q l.to)
      (λ p q. up_one X e.1 e.0 lj (omega arith) c pos (inr m) q p (insep_sym E l.to))) λ t.
      (spread X h, λ k l. spread_at X k (ltb-true k h l) (λ i s ik. omega (arith, ltb-false 0 (cut X H) t, step_cross X i k s)), omega (arith, spread_closed X h))

  -- ---- the small cuts are the same
  pub small_cuts : SameCuts (λ v. ltb v h) ρ H E
  small_cuts = record { down = small_down E S h H ρ σ g; up = up }
