-- Kept classes by witnesses: a class without an active node is kept just where it has two branches; the nearest kept class at or above a class; and kept
-- classes with numbers, each with the nearest above, are a small forest. Over a spanning forest with tops (theory_graph/proofs/SpanningForest).
-- Assumes nothing.
use Prim.Native.Nat.{◌+◌, ◌-◌, ◌<◌, ◌≤◌, suc, zero, ℕ}
use mathlib.Core.Bool.{false, true}
use mathlib.Core.List.{List, Memᴰ, map}
use mathlib.Core.Logic.{◌⊎◌, inl, inr, ⊎_elim}
use mathlib.Core.Path.{◌∙◌, ◌≡◌, ap, refl, subst, sym}
use native.Mathlib.Omega.{arith}
use Rattle.core_branches.specs.SmallForest.{ParentPair, SmallForest}
use Rattle.theory_graph.proofs.Booleans.{on_bool}
use Rattle.theory_graph.proofs.Kept.{Kept, kept_class}
use Rattle.theory_graph.proofs.Definitions.{kept_from, kept_to, two_edge_from, two_edge_to}
use Rattle.theory_graph.proofs.Links.{linked_from, linked_to}
use Rattle.theory_graph.proofs.Renumbering.{linked_flip}
use Rattle.theory_graph.proofs.Separation.{insep_sym, insep_trans, same_side, two_edge_connected}
use Rattle.theory_graph.proofs.SmallGraphs.{Linked, OnePerClass}
use Rattle.theory_graph.proofs.SpanningForest.{ChildClass, ClassForest, KeptTop, NearestAbove, NoThird, above_linked, above_position, below_antisym}
use Rattle.theory_graph.proofs.SpanningForest.{below_class, below_position, branches_kept, kept_branches, linked_nearest, on_eq, top_unique}
use Rattle.theory_graph.specs.Cut.{Between, Connected, TwoEdgeConnected, cut}
use Rattle.theory_graph.specs.Graph.{Edge}
use Rattle.theory_graph.specs.SmallGraph.{in_order}

pub between_move : (E : List Edge) (x x' z z' y y' : ℕ) → TwoEdgeConnected E x x' → TwoEdgeConnected E z z' → TwoEdgeConnected E y y' → Between E x z y → Between E x' z' y'
between_move E x x' z z' y y' p q r n (U, a, b, c, h) = n (U, same_side E z z' q U h ∙ a, same_side E x x' p U h ∙ b, same_side E y y' r U h ∙ c, h)

module _ (E : List Edge) (S : List ℕ) (T : ClassForest E S) where
  open T use {seen, root, par, top, pos, below}

  -- live t is not 0 where an active node is at or below the class t; child t and other t are one more than two of its branches, where there are two
  pub record Witnesses (live child other : ℕ → ℕ) : Type 0 where
    pub still : (a : ℕ) → Memᴰ a S → ¬ (live (top a) ≡ 0)
    pub wit : (t : ℕ) → seen t ≡ true → ¬ (live t ≡ 0) → (a : ℕ) × Memᴰ a S × (below t a ≡ true)
    pub one : (t : ℕ) → seen t ≡ true → ¬ (child t ≡ 0) → ChildClass E S T t (child t - 1) × ¬ (live (child t - 1) ≡ 0)
    pub two : (t : ℕ) → seen t ≡ true → ¬ (other t ≡ 0) → ChildClass E S T t (other t - 1) × ¬ (live (other t - 1) ≡ 0) × ¬ (other t ≡ child t) × ¬ (child t ≡ 0)
    pub all : (t c : ℕ) → seen t ≡ true → ChildClass E S T t c → ¬ (live c ≡ 0) → ¬ (live t ≡ 0) × ((c + 1 ≡ child t) ⊎ ¬ (other t ≡ 0))

  -- what has c below it, and is not c, has the class above c below it
  below_up : (z c : ℕ) → seen z ≡ true → top z ≡ z → seen c ≡ true → root c ≡ false → ¬ (c ≡ z) → below z c ≡ below z (top (par c))
  below_up z c sz tz s r ne = T.below_parent z c s r ne ∙ below_class E S T z (par c) sz tz (T.par_seen c s r)

  module _ {live child other : ℕ → ℕ} (W : Witnesses live child other) where
    live_up : (n c x : ℕ) → pos x < n → seen x ≡ true → top x ≡ x → ¬ (live x ≡ 0) → seen c ≡ true → top c ≡ c → below c x ≡ true → ¬ (live c ≡ 0)
    live_up zero c x l s t a sc tc h = absurd (omega arith)
    live_up (suc n) c x l s t a sc tc h =
        on_eq x c (λ e. subst (λ (v : ℕ). ¬ (live v ≡ 0)) e a) λ ne.
        on_bool (root x) (λ r. absurd (ne (T.below_root c x r h))) λ r.
        let sp = T.par_seen x s r in
        let y = top (par x) in
        let sy = T.top_seen (par x) sp in
        let k : ChildClass E S T y x = record { on = s; is_top = t; no_root = r; under = refl } in
        live_up n c y (omega (arith, above_position E S T x s r)) sy (T.top_top (par x) sp) (W.all y x sy k a).0 sc tc (sym (below_up c x sc tc s r ne) ∙ h)

    pub live_active : (c a : ℕ) → seen c ≡ true → top c ≡ c → Memᴰ a S → below c a ≡ true → ¬ (live c ≡ 0)
    live_active c a sc tc m h =
        let s = T.active a m in
        live_up (suc (pos (top a))) c (top a) (omega arith) (T.top_seen a s) (T.top_top a s) (W.still a m) sc tc (sym (below_class E S T c a sc tc s) ∙ h)

    -- two branches
    pub other_kept : (c : ℕ) → seen c ≡ true → top c ≡ c → ¬ (other c ≡ 0) → Kept E S c
    other_kept c sc tc o =
        let (k, a, ne, nz) = W.two c sc o in
        let (l, b) = W.one c sc nz in
        let (x, mx, hx) = W.wit (other c - 1) k.on a in
        let (y, my, hy) = W.wit (child c - 1) l.on b in
        branches_kept E S T c sc tc (other c - 1) (child c - 1) x y k l (λ e. ne (omega arith)) mx my hx hy

    pub kept_other : (c : ℕ) → seen c ≡ true → top c ≡ c → ((a : ℕ) → Memᴰ a S → ¬ (top a ≡ c)) → Kept E S c → ¬ (other c ≡ 0)
    kept_other c sc tc no-act k z =
        let w = kept_branches E S T c sc tc k no-act in
        let p = (W.all c w.t sc w.ct (live_active w.t w.a w.ct.on w.ct.is_top w.in_a w.has_a)).1 in
        let q = (W.all c w.u sc w.cu (live_active w.u w.b w.cu.on w.cu.is_top w.in_b w.has_b)).1 in
        ⊎_elim (λ i. ⊎_elim (λ j. w.differ (omega arith)) (λ o. o z) q) (λ o. o z) p

  -- ---- the nearest kept class at or above y
  pub record Nearest (y e : ℕ) : Type 0 where
    pub main : KeptTop E S T e
    pub over : below e y ≡ true
    pub nearest : (z : ℕ) → KeptTop E S T z → below z y ≡ true → below z e ≡ true

  pub nearest_self : (y : ℕ) → KeptTop E S T y → Nearest y y
  nearest_self y m = record { main = m; over = T.below_self y; nearest = λ z mz h. h }

  nearest_position : (y e : ℕ) → seen y ≡ true → Nearest y e → pos e ≤ pos y
  nearest_position y e s k = ⊎_elim (λ i. omega (arith, ap pos i)) (λ l. omega arith) (below_position E S T (suc (pos y)) e y (omega arith) s k.over)

  module _ (c : ℕ) (s : seen c ≡ true) (t : top c ≡ c) (r : root c ≡ false) (e : ℕ) (k : Nearest (top (par c)) e) where
    before : pos e < pos c
    before = omega (arith, nearest_position (top (par c)) e (T.top_seen (par c) (T.par_seen c s r)) k, above_position E S T c s r)

    apart : ¬ (c ≡ e)
    apart i = omega (arith, ap pos i, before)

    over_c : below e c ≡ true
    over_c = below_up e c k.main.on k.main.is_top s r apart ∙ k.over

    pub nearest_passes : ¬ Kept E S c → Nearest c e
    nearest_passes n = record {
      main = k.main;
      over = over_c;
      nearest = λ z mz h. k.nearest z mz (sym (below_up z c mz.on mz.is_top s r (λ i. n (subst (λ (v : ℕ). Kept E S v) (sym i) mz.kept))) ∙ h);
    }

    pub nearest_above : NearestAbove E S T c e
    nearest_above = record {
      over = over_c;
      other = λ i. apart (sym i);
      nearest = λ z mz h ne. k.nearest z mz (sym (below_up z c mz.on mz.is_top s r (λ i. ne (sym i))) ∙ h);
    }

  pub above_unique : (c e z : ℕ) → KeptTop E S T e → KeptTop E S T z → NearestAbove E S T c e → NearestAbove E S T c z → e ≡ z
  above_unique c e z me mz p q = below_antisym E S T e z me.on mz.on (q.nearest e me p.over p.other) (p.nearest z mz q.over q.other)

  -- ---- numbers
  -- ρ i is a node of the class with number i; σ a is the number of a's class; up i is one more than the number right above, and 0 at a root's class
  pub record Numbered (h : ℕ) (ρ σ up : ℕ → ℕ) : Type 0 where
    pub on : (i : ℕ) → i < h → seen (ρ i) ≡ true
    pub kept : (i : ℕ) → i < h → Kept E S (top (ρ i))
    pub once : (i j : ℕ) → i < h → j < h → top (ρ i) ≡ top (ρ j) → i ≡ j
    pub all : (z : ℕ) → KeptTop E S T z → (i : ℕ) × (i < h) × (top (ρ i) ≡ z)
    pub place : (a : ℕ) → Memᴰ a S → (σ a < h) × (top (ρ (σ a)) ≡ top a)
    pub order : in_order 0 (map σ S) ≡ true
    pub none : (i : ℕ) → i < h → up i ≡ 0 → root (top (ρ i)) ≡ true
    pub some : (i : ℕ) → i < h → ¬ (up i ≡ 0) → (up i - 1 < h) × NearestAbove E S T (top (ρ i)) (top (ρ (up i - 1)))

  module _ (closed : cut seen E ≤ 0) {h : ℕ} {ρ σ up : ℕ → ℕ} (N : Numbered h ρ σ up) where
    to_top : (i : ℕ) → i < h → TwoEdgeConnected E (ρ i) (top (ρ i))
    to_top i l = T.top_two (ρ i) (N.on i l)

    main : (i : ℕ) → i < h → KeptTop E S T (top (ρ i))
    main i l = record { on = T.top_seen (ρ i) (N.on i l); is_top = T.top_top (ρ i) (N.on i l); kept = N.kept i l }

    -- a kept class has been seen
    kept_seen : (z : ℕ) → Kept E S z → seen z ≡ true
    kept_seen z k = on_bool (seen z) (λ t. t) (λ f. absurd (insep_sym E k.to_a (seen, T.active k.a k.in_a, f, closed)))

    all_kept : (z : ℕ) → Kept E S z → (i : ℕ) × (i < h) × TwoEdgeConnected E z (ρ i)
    all_kept z k =
        let s = kept_seen z k in
        let t = T.top_two z s in
        let m : KeptTop E S T (top z) = record { on = T.top_seen z s; is_top = T.top_top z s; kept = kept_class E S (top z) z (insep_sym E t) k } in
        let (i, l, e) = N.all (top z) m in
        (i, l, insep_trans E (subst (λ (v : ℕ). TwoEdgeConnected E z v) (sym e) t) (insep_sym E (to_top i l)))

    to_link : (i j : ℕ) → i < h → j < h → Connected E (top (ρ i)) (top (ρ j)) × NoThird E S T (top (ρ i)) (top (ρ j)) → Linked E h ρ i j
    unfolding NoThird
    to_link i j p q (c, n) = record {
      to = insep_trans E (two_edge_connected E (to_top i p)) (insep_trans E c (two_edge_connected E (insep_sym E (to_top j q))));
      third = λ k l b. ⊎_elim (λ e. inl (N.once k i l p e)) (λ e. inr (N.once k j l q e))
          (n (top (ρ k)) (main k l) (between_move E (ρ i) (top (ρ i)) (ρ k) (top (ρ k)) (ρ j) (top (ρ j)) (to_top i p) (to_top k l) (to_top j q) b));
    }

    from_link : (i j : ℕ) → i < h → j < h → Linked E h ρ i j → Connected E (top (ρ i)) (top (ρ j)) × NoThird E S T (top (ρ i)) (top (ρ j))
    unfolding NoThird
    from_link i j p q l = (
      insep_trans E (two_edge_connected E (insep_sym E (to_top i p))) (insep_trans E l.to (two_edge_connected E (to_top j q))),
      λ z mz b.
          let (k, lk, e) = N.all z mz in
          let b' : Between E (top (ρ i)) (top (ρ k)) (top (ρ j)) = subst (λ (v : ℕ). Between E (top (ρ i)) v (top (ρ j))) (sym e) b in
          ⊎_elim (λ x. inl (sym e ∙ ap (λ v. top (ρ v)) x)) (λ x. inr (sym e ∙ ap (λ v. top (ρ v)) x))
          (l.third k lk (between_move E (top (ρ i)) (ρ i) (top (ρ k)) (ρ k) (top (ρ j)) (ρ j) (insep_sym E (to_top i p)) (insep_sym E (to_top k lk)) (insep_sym E (to_top j q)) b')),
    )

    -- the number right above is the one
    up_is : (i j : ℕ) → i < h → j < h → NearestAbove E S T (top (ρ i)) (top (ρ j)) → up i ≡ j + 1
    up_is i j p q u =
        on_eq (up i) 0 (λ z. absurd (u.other (sym (T.below_root (top (ρ j)) (top (ρ i)) (N.none i p z) u.over)))) λ nz.
        let (l, w) = N.some i p nz in
        let e = N.once (up i - 1) j l q (above_unique (top (ρ i)) (top (ρ (up i - 1))) (top (ρ j)) (main (up i - 1) l) (main j q) w u) in
        omega arith

    up_at : (i j : ℕ) → i < h → up i ≡ j + 1 → NearestAbove E S T (top (ρ i)) (top (ρ j))
    up_at i j p e =
        let u = (N.some i p (λ z. omega arith)).1 in
        let x : up i - 1 ≡ j = omega arith in
        subst (λ (v : ℕ). NearestAbove E S T (top (ρ i)) (top (ρ v))) x u

    each : OnePerClass E S h ρ
    each = record {
      kept = λ i l. kept_class E S (ρ i) (top (ρ i)) (to_top i l) (N.kept i l);
      once = λ i j p q t. N.once i j p q (top_unique E S T (top (ρ i)) (top (ρ j)) (main i p).on (main j q).on (main i p).is_top (main j q).is_top
          (insep_trans E (insep_sym E (to_top i p)) (insep_trans E t (to_top j q))));
      all = all_kept;
    }

    up_linked : (i j : ℕ) → i < h → j < h → up i ≡ j + 1 → Linked E h ρ i j
    up_linked i j p q e = to_link i j p q (above_linked E S T (top (ρ i)) (top (ρ j)) (main i p) (main j q) (up_at i j p e))

    linked_up : (i j : ℕ) → i < h → j < h → ¬ (i ≡ j) → Linked E h ρ i j → ParentPair up i j
    linked_up i j p q ne l =
        let (c, n) = from_link i j p q l in
        ⊎_elim (λ u. inl (up_is i j p q u)) (λ u. inr (up_is j i q p u))
        (linked_nearest E S T (top (ρ i)) (top (ρ j)) (main i p) (main j q) (λ e. ne (N.once i j p q e)) c n)

    pub numbered_forest : SmallForest E S h ρ σ up
    numbered_forest = record {
      node = λ i l. kept_from E S (ρ i) (each.kept i l);
      once = λ i j p q t. each.once i j p q (two_edge_to E (ρ i) (ρ j) t);
      all = λ z k. let (i, l, t) = all_kept z (kept_to E S z k) in (i, l, two_edge_from E z (ρ i) t);
      place = λ a m.
          let (l, e) = N.place a m in
          let t : TwoEdgeConnected E a (top (ρ (σ a))) = subst (λ (v : ℕ). TwoEdgeConnected E a v) (sym e) (T.top_two a (T.active a m)) in
          (l, two_edge_from E a (ρ (σ a)) (insep_trans E t (insep_sym E (to_top (σ a) l))));
      order = N.order;
      up_fit = λ i l. on_eq (up i) 0 (λ z. omega arith) (λ z. omega (arith, (N.some i l z).0));
      link = λ i j p q ne e. linked_from E S h ρ each i j p q ne (⊎_elim (up_linked i j p q) (λ u. linked_flip E h ρ j i (up_linked j i q p u)) e);
      back = λ i j p q l. let (ne, k) = linked_to E S h ρ each i j p q l in linked_up i j p q ne k;
    }
