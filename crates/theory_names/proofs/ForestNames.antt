-- Names in a spanning forest with tops (theory_graph/proofs/SpanningForest). A top v that is no root hangs together with its parent's class on the name of its
-- tree edge, and together with a class further up on the smaller of that name and of what the parent's class hangs on with it.
-- The named graph has the forest's edges in any order: only their cuts matter.
-- Assumes nothing.
use Prim.Native.Nat.{◌<◌, ◌≤◌, min, suc, ℕ}
use mathlib.Core.Bool.{false, true}
use mathlib.Core.List.{List, Memᴰ}
use mathlib.Core.Logic.{◌⊎◌, ⊎_elim}
use mathlib.Core.Path.{◌∙◌, ◌≡◌, ap, sym}
use native.Mathlib.Omega.{arith}
use Rattle.theory_graph.proofs.Booleans.{on_bool}
use Rattle.theory_graph.proofs.Separation.{insep_refl, insep_trans, two_edge_connected}
use Rattle.theory_graph.proofs.SpanningForest.{ClassForest, above_position, below_class, below_connected, below_position, parent_outside}
use Rattle.theory_graph.specs.Cut.{Connected, Inseparable, Separated, TwoEdgeConnected, cut}
use Rattle.theory_graph.specs.Graph.{Edge, NodeSet}
use Rattle.theory_names.proofs.Along.{hangs_over, hangs_step}
use Rattle.theory_names.proofs.Hangs.{hangs_same}
use Rattle.theory_names.specs.Names.{Named, hangs, plain}

module _ (G : Named) (E : List Edge) (cuts : (U : NodeSet) → cut U (plain G) ≡ cut U E) (S : List ℕ) (T : ClassForest E S) where
  open T use {seen, root, par, top, pos, below}

  parted : (j x y : ℕ) → Separated j E x y → Separated j (plain G) x y
  parted j x y (U, p, q, c) = (U, p, q, omega (arith, cuts U))

  pub unparted : (j x y : ℕ) → Inseparable j E x y → Inseparable j (plain G) x y
  unparted j x y k (U, p, q, c) = k (U, p, q, omega (arith, cuts U))

  -- what comes before v is not below it
  earlier_outside : (v x : ℕ) → seen x ≡ true → pos x < pos v → below v x ≡ false
  earlier_outside v x s l = on_bool (below v x)
      (λ h. absurd (⊎_elim (λ (e : x ≡ v). omega (arith, ap pos e)) (λ (q : pos v < pos x). omega arith) (below_position E S T (suc (pos x)) v x (omega arith) s h)))
      (λ f. f)

  -- the tree edge of v is an entry with the name n
  module _ (v : ℕ) (s : seen v ≡ true) (t : top v ≡ v) (r : root v ≡ false) (n : ℕ) (m : Memᴰ ((v, par v), n) G ⊎ Memᴰ ((par v, v), n) G) where
    small : cut (below v) (plain G) ≤ 1
    small = omega (arith, cuts (below v), T.top_cut v s t)

    outside : below v (par v) ≡ false
    outside = parent_outside E S T v s r

    -- the parent's class
    pub name_parent : (z : ℕ) → TwoEdgeConnected E (par v) z → hangs G v z ≡ n
    name_parent z k =
        sym (hangs_same G v (par v) v z (insep_refl (plain G) v) (unparted 1 (par v) z k))
        ∙ hangs_over G (below v) small v (par v) n m (T.below_self v) outside

    -- a node further up
    pub name_further : (k : ℕ) → Connected E (par v) k → below v k ≡ false → Separated 1 E (par v) k → hangs G v k ≡ min n (hangs G (top (par v)) k)
    name_further k j o a =
        hangs_step G (below v) small v (par v) n m (T.below_self v) outside k (unparted 0 (par v) k j) o (parted 1 (par v) k a)
        ∙ ap (λ (l : ℕ). min n l) (hangs_same G (par v) k (top (par v)) k (unparted 1 (par v) (top (par v)) (T.top_two (par v) (T.par_seen v s r))) (insep_refl (plain G) k))

    -- the top e of a class above the parent's
    pub name_over : (e : ℕ) → seen e ≡ true → below e (top (par v)) ≡ true → ¬ (top (par v) ≡ e) → hangs G v e ≡ min n (hangs G (top (par v)) e)
    name_over e se h ne =
        let sp = T.par_seen v s r in
        let q = top (par v) in
        let sq = T.top_seen (par v) sp in
        let tq = T.top_top (par v) sp in
        let l : pos e < pos q = ⊎_elim (λ i. absurd (ne i)) (λ l. l) (below_position E S T (suc (pos q)) e q (omega arith) sq h) in
        let inside : below q (par v) ≡ true = below_class E S T q (par v) sq tq sp ∙ T.below_self q in
        name_further e
        (insep_trans E (two_edge_connected E (T.top_two (par v) sp)) (below_connected E S T (suc (pos q)) e q (omega arith) sq h))
        (earlier_outside v e se (omega (arith, above_position E S T v s r)))
        (below q, inside, earlier_outside q e se l, T.top_cut q sq tq)
