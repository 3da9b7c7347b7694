-- The reduced graph has the same colourings (document 000, Lemmas 6 and 7, mended). In order: where a ring stands in its block; the graph of cycles has the colourings
-- of the given graph at all relevant junctions: a colouring of the given graph is one of the cycles, and back each irrelevant junction takes its class's side, from the top down;
-- merging into tops; the two steps together.
-- Assumes nothing.
use Prim.Native.Nat.{◌<◌, ◌≤◌, suc, zero, ℕ}
use mathlib.Core.Bool.{Bool, ◌&&◌, cond, false, not, true}
use mathlib.Core.List.{List, Memᴰ, [], ◌∷◌}
use mathlib.Core.Logic.{◌⊎◌, inl, inr}
use mathlib.Core.Path.{◌∙◌, ◌≡◌, ap, ap₂, refl, subst, sym}
use lib.Dec.{eqb, ltb}
use native.Mathlib.Omega.{arith}
use borrow.Author.Tests.{eq-eqb, ltb-false, ltb-true, ne_eqb}
use Rattle.theory_graph.proofs.Booleans.{contradict, on_bool}
use Rattle.theory_graph.proofs.SpanningForest.{on_eq}
use Rattle.theory_graph.specs.Cut.{Connected}
use Rattle.theory_graph.specs.Graph.{Edge, NodeSet}
use Rattle.theory_graph.specs.SmallGraph.{image}
use Rattle.theory_junctions.proofs.Colours.{closed_edge, edge_image, image_edge, side_colour}
use Rattle.theory_junctions.proofs.Contraction.{Neighbour, contract_same, losing_both, onto_other, onto_there}
use Rattle.theory_junctions.proofs.Cycles.{cycle_ends, cycle_side, lost_one}
use Rattle.theory_junctions.proofs.SameColourings.{image_same, same_labels, same_refl, same_trans}
use Rattle.theory_junctions.specs.Blocks.{AllMergeable, Blocks, InBlock, Mergeable, Rings, cycle, merged_to, onto, top_of}
use Rattle.theory_junctions.specs.Colouring.{Colouring, Followed, Follows, Same, junction, lost}

abbrev head_of : List ℕ → ℕ
head_of [] = 0
head_of (x ∷ xs) = x

head_mem : {u : ℕ} (xs : List ℕ) → Memᴰ u xs → Memᴰ (head_of xs) xs
head_mem {u = u} [] m = elim m [ ]
head_mem (x ∷ xs) m = mathlib.Core.List.Memᴰ.head refl

-- ---- blocks
module _ (E : List Edge) (B : Blocks E) where
  pub top_pos : (v : ℕ) → B.child v ≡ true → B.pos (top_of B v) < B.pos v
  top_pos v c = omega (arith, B.par_pos (B.first v) (B.first_child v c), B.first_pos v c)

  abbrev Block : ℕ → ℕ → Type 0
  Block v u = InBlock B.child B.par B.first (B.first v) u

-- ---- step 1: the graph of cycles
module _ (E : List Edge) (B : Blocks E) (K : NodeSet) (H : List Edge) (R : Rings E B K H) where
  ring_block : (v u : ℕ) → B.child v ≡ true → Memᴰ u (top_of B v ∷ R.ring (B.first v)) → Block E B v u
  ring_block v u c (mathlib.Core.List.Memᴰ.head e) = inr e
  ring_block v u c (mathlib.Core.List.Memᴰ.tail m) = let (r, d, f) = R.ring_member v u c m in inl (d, f)

  top_off_ring : (v : ℕ) → B.child v ≡ true → ¬ Memᴰ (top_of B v) (R.ring (B.first v))
  top_off_ring v c m =
      let (r, d, f) = R.ring_member v (top_of B v) c m in
      omega (arith, top_pos E B (top_of B v) d, ap (λ s. B.pos (B.par s)) f)

  -- the cycle of a class that loses one junction at most
  ring_side : (φ : Colouring H) (v p q : ℕ) → B.child v ≡ true → Memᴰ p (top_of B v ∷ R.ring (B.first v)) → Memᴰ q (top_of B v ∷ R.ring (B.first v))
      → lost φ.loss p ≡ false → lost φ.loss q ≡ false → φ.side p ≡ φ.side q
  ring_side φ v p q c =
      cycle_side φ.loss φ.side (top_of B v) (R.ring (B.first v)) (λ a b m. φ.uncrossed a b (R.ring_edge v a b c m)) (R.ring_once v c) (top_off_ring v c) p q

  cycles_there : Follows R.relevant E (λ v. v) H (λ v. v)
  cycles_there φ = (
    record {
      loss = φ.loss;
      side = φ.side;
      uncrossed = λ p q m s t.
          let (v, c, n) = R.edge_ring p q m in
          let (a, b) = cycle_ends (top_of B v) p q (R.ring (B.first v)) n in
          B.whole φ v p q c (ring_block v p c a) (ring_block v q c b) s t;
    },
    λ k m. refl,
    omega arith,
  )

  module _ (φ : Colouring H) where
    -- the side of v, where v stands in fewer than n junctions from the root: its own if it is relevant, else its class's
    side_at : ℕ → ℕ → Bool
    side_at zero v = false
    side_at (suc n) v = cond (R.relevant v) (φ.side v) (cond (B.child v) (cond (lost φ.loss (top_of B v)) (φ.side (head_of (R.ring (B.first v)))) (side_at n (top_of B v))) false)

    side_enough : (n m v : ℕ) → B.pos v < n → B.pos v < m → side_at n v ≡ side_at m v
    unfolding side_at
    side_enough zero m v a b = absurd (omega arith)
    side_enough (suc n) zero v a b = absurd (omega arith)
    side_enough (suc n) (suc m) v a b =
        let X = φ.side (head_of (R.ring (B.first v))) in
        on_bool (B.child v)
        (λ c. ap (λ s. cond (R.relevant v) (φ.side v) (cond (B.child v) (cond (lost φ.loss (top_of B v)) X s) false)) (side_enough n m (top_of B v) (omega (arith, top_pos E B v c)) (omega (arith, top_pos E B v c))))
        (λ c. ap (λ s. cond (R.relevant v) (φ.side v) (cond s (cond (lost φ.loss (top_of B v)) X (side_at n (top_of B v))) false)) c
        ∙ sym (ap (λ s. cond (R.relevant v) (φ.side v) (cond s (cond (lost φ.loss (top_of B v)) X (side_at m (top_of B v))) false)) c))

    abbrev U : NodeSet
    U v = side_at (suc (B.pos v)) v

    -- the side of the class with the first member c
    abbrev class_side : ℕ → Bool
    class_side c = cond (lost φ.loss (B.par c)) (φ.side (head_of (R.ring c))) (U (B.par c))

    side_relevant : (v : ℕ) → R.relevant v ≡ true → U v ≡ φ.side v
    unfolding side_at
    side_relevant v r = ap (λ b. cond b (φ.side v) (cond (B.child v) (cond (lost φ.loss (top_of B v)) (φ.side (head_of (R.ring (B.first v)))) (side_at (B.pos v) (top_of B v))) false)) r

    side_class : (v : ℕ) → R.relevant v ≡ false → B.child v ≡ true → U v ≡ class_side (B.first v)
    unfolding side_at
    side_class v r c =
        let X = φ.side (head_of (R.ring (B.first v))) in
        ap₂ (λ a b. cond a (φ.side v) (cond b (cond (lost φ.loss (top_of B v)) X (side_at (B.pos v) (top_of B v))) false)) r c
        ∙ ap (λ s. cond (lost φ.loss (top_of B v)) X s) (side_enough (B.pos v) (suc (B.pos (top_of B v))) (top_of B v) (top_pos E B v c) (omega arith))

    side_unseen : (v : ℕ) → B.seen v ≡ false → U v ≡ false
    unfolding side_at
    side_unseen v s =
        let r : R.relevant v ≡ false = on_bool (R.relevant v) (λ t. contradict (R.relevant_seen v t) s) (λ t. t) in
        let c : B.child v ≡ false = on_bool (B.child v) (λ t. contradict (B.child_seen v t) s) (λ t. t) in
        ap₂ (λ a b. cond a (φ.side v) (cond b (cond (lost φ.loss (top_of B v)) (φ.side (head_of (R.ring (B.first v)))) (side_at (B.pos v) (top_of B v))) false)) r c

    -- each member of a class has its side
    member_side : (p : ℕ) → B.child p ≡ true → lost φ.loss p ≡ false → U p ≡ class_side (B.first p)
    member_side p c l =
        on_bool (R.relevant p)
        (λ r.
        let m = R.member_ring p c r in
        let h = head_mem (R.ring (B.first p)) m in
        side_relevant p r
        ∙ on_bool (lost φ.loss (top_of B p))
        (λ t.
        let n : lost φ.loss (head_of (R.ring (B.first p))) ≡ false = on_bool (lost φ.loss (head_of (R.ring (B.first p))))
        (λ b. absurd (top_off_ring p c (subst (λ (s : ℕ). Memᴰ s (R.ring (B.first p))) (lost_one φ.loss _ _ b t) h))) (λ b. b) in
        ring_side φ p p (head_of (R.ring (B.first p))) c (mathlib.Core.List.Memᴰ.tail m) (mathlib.Core.List.Memᴰ.tail h) l n
        ∙ sym (ap (λ b. cond b (φ.side (head_of (R.ring (B.first p)))) (U (top_of B p))) t))
        (λ t.
        ring_side φ p p (top_of B p) c (mathlib.Core.List.Memᴰ.tail m) (mathlib.Core.List.Memᴰ.head refl) l t ∙ sym (side_relevant (top_of B p) (R.relevant_top p r c))
        ∙ sym (ap (λ b. cond b (φ.side (head_of (R.ring (B.first p)))) (U (top_of B p))) t)))
        (λ r. side_class p r c)

    block_side : (v p : ℕ) → B.child v ≡ true → Block E B v p → lost φ.loss p ≡ false → U p ≡ class_side (B.first v)
    block_side v p c (inl (d, f)) l = member_side p d l ∙ ap class_side f
    block_side v p c (inr e) l =
        ap U e ∙ sym (ap (λ b. cond b (φ.side (head_of (R.ring (B.first v)))) (U (top_of B v))) (ap (lost φ.loss) (sym e) ∙ l))

    cycles_back : Followed R.relevant φ (λ v. v) E (λ v. v)
    cycles_back = (
      record { loss = φ.loss; side = U; uncrossed = λ p q m s t. on_eq p q (ap U) (λ n. go p q s t (B.edge_block p q m n)) },
      λ k m. side_colour φ.loss U k φ.loss φ.side k refl (λ l. side_relevant k m),
      omega arith,
    )
      where
        go : (p q : ℕ) → lost φ.loss p ≡ false → lost φ.loss q ≡ false
            → ((B.seen p ≡ false) × (B.seen q ≡ false)) ⊎ ((v : ℕ) × (B.child v ≡ true) × Block E B v p × Block E B v q) → U p ≡ U q
        go p q s t (inl (a, b)) = side_unseen p a ∙ sym (side_unseen q b)
        go p q s t (inr (v, c, a, b)) = block_side v p c a s ∙ sym (block_side v q c b t)

  -- the cycles have the colourings of the graph at all relevant junctions
  pub cycles_same : Same R.relevant E (λ v. v) H (λ v. v)
  cycles_same = record { there = cycles_there; back = cycles_back }

-- ---- step 2: merging into tops
pub image_twice : (f g : ℕ → ℕ) (H : List Edge) → image f (image g H) ≡ image (λ u. f (g u)) H
image_twice f g [] = refl
image_twice f g (e ∷ H) = ap (λ l. (f (g e.0), f (g e.1)) ∷ l) (image_twice f g H)

module _ (E : List Edge) (B : Blocks E) (K : NodeSet) (H : List Edge) (R : Rings E B K H) where
  abbrev μ : List ℕ → ℕ → ℕ
  μ = merged_to B

  abbrev Mergeables : List ℕ → Type 0
  Mergeables = AllMergeable E B K H R

  -- merging leads to earlier junctions
  merged_pos : (vs : List ℕ) → Mergeables vs → (u : ℕ) → B.pos (μ vs u) ≤ B.pos u
  merged_pos [] a u = omega arith
  merged_pos (v ∷ vs) a u =
      on_eq (μ vs u) v
      (λ e. omega (
        arith,
        ap B.pos (ap (onto (μ vs (top_of B v)) v) e ∙ onto_there (μ vs (top_of B v)) v),
        merged_pos vs a.2 (top_of B v),
        top_pos E B v a.0.is_child,
        ap B.pos e,
        merged_pos vs a.2 u,
      ))
      (λ n. omega (arith, ap B.pos (onto_other (μ vs (top_of B v)) v (μ vs u) n), merged_pos vs a.2 u))

  -- later junctions stay
  pub merged_later : (vs : List ℕ) (u : ℕ) → ((w : ℕ) → Memᴰ w vs → B.pos w < B.pos u) → μ vs u ≡ u
  merged_later [] u f = refl
  merged_later (v ∷ vs) u f =
      let e = merged_later vs u (λ w m. f w (mathlib.Core.List.Memᴰ.tail m)) in
      ap (onto (μ vs (top_of B v)) v) e ∙ onto_other (μ vs (top_of B v)) v u (λ i. omega (arith, f v (mathlib.Core.List.Memᴰ.head refl), ap B.pos i))

  merged_hit : (vs : List ℕ) → Mergeables vs → (v a : ℕ) → ((w : ℕ) → Memᴰ w vs → B.pos w < B.pos v) → μ vs a ≡ v → a ≡ v
  merged_hit vs h v a f e =
      on_bool (ltb (B.pos a) (B.pos v))
      (λ t. absurd (omega (arith, ltb-true (B.pos a) (B.pos v) t, merged_pos vs h a, ap B.pos e)))
      (λ t. sym (merged_later vs a (λ w m. omega (arith, f w m, ltb-false (B.pos a) (B.pos v) t))) ∙ e)

  -- idle junctions lead to idle ones, and active ones stay
  merged_idle : (vs : List ℕ) → Mergeables vs → (u : ℕ) → K u ≡ false → K (μ vs u) ≡ false
  merged_idle [] a u i = i
  merged_idle (v ∷ vs) a u i =
      on_eq (μ vs u) v
      (λ e. ap K (ap (onto (μ vs (top_of B v)) v) e ∙ onto_there (μ vs (top_of B v)) v) ∙ merged_idle vs a.2 (top_of B v) a.0.top_idle)
      (λ n. ap K (onto_other (μ vs (top_of B v)) v (μ vs u) n) ∙ merged_idle vs a.2 u i)

  pub merged_active : (vs : List ℕ) → Mergeables vs → (k : ℕ) → K k ≡ true → μ vs k ≡ k
  merged_active [] a k m = refl
  merged_active (v ∷ vs) a k m =
      let e = merged_active vs a.2 k m in
      ap (onto (μ vs (top_of B v)) v) e ∙ onto_other (μ vs (top_of B v)) v k (λ i. contradict m (ap K i ∙ a.0.idle))

  -- ---- one more junction
  module _ (v : ℕ) (vs : List ℕ) (g : Mergeable E B K H R v) (before : (w : ℕ) → Memᴰ w vs → B.pos w < B.pos v) (a : Mergeables vs) where
    abbrev t : ℕ
    t = μ vs (top_of B v)

    abbrev M : List Edge
    M = image (μ vs) H

    t_before : B.pos t < B.pos v
    t_before = omega (arith, merged_pos vs a (top_of B v), top_pos E B v g.is_child)

    stays : (u : ℕ) → B.pos v ≤ B.pos u → μ vs u ≡ u
    stays u l = merged_later vs u (λ w m. omega (arith, before w m))

    merge_edge : Memᴰ (t, v) M
    merge_edge =
        let m : Memᴰ (top_of B v, v) (cycle (top_of B v) (R.ring (B.first v))) = subst (λ (r : List ℕ). Memᴰ (top_of B v, v) (cycle (top_of B v) r)) (sym g.alone) (mathlib.Core.List.Memᴰ.head refl) in
        subst (λ (u : ℕ). Memᴰ (t, u) M) (stays v (omega arith)) (image_edge (μ vs) (top_of B v) v H (R.ring_edge v (top_of B v) v g.is_child m))

    -- b is a relevant member of the one class below v
    Below : ℕ → Type 0
    Below b = (B.child b ≡ true) × (R.relevant b ≡ true) × (top_of B b ≡ v)

    -- v's edges lead to itself, to its top or to the class below
    on_neighbour : {A : Type 0} (b : ℕ) → Memᴰ (v, b) H ⊎ Memᴰ (b, v) H → (b ≡ v → A) → (b ≡ top_of B v → A) → (Below b → A) → A
    unfolding Below
    on_neighbour {A} b m f h k = start m
      where
        within : (x : ℕ) → B.child x ≡ true → Memᴰ v (top_of B x ∷ R.ring (B.first x)) → Memᴰ b (top_of B x ∷ R.ring (B.first x)) → A
        within x c (mathlib.Core.List.Memᴰ.head e) (mathlib.Core.List.Memᴰ.head i) = f (i ∙ sym e)
        within x c (mathlib.Core.List.Memᴰ.head e) (mathlib.Core.List.Memᴰ.tail n) = let (r, d, i) = R.ring_member x b c n in k (d, r, ap B.par i ∙ sym e)
        within x c (mathlib.Core.List.Memᴰ.tail n) (mathlib.Core.List.Memᴰ.head i) = let (r, d, j) = R.ring_member x v c n in h (i ∙ ap B.par (sym j))
        within x c (mathlib.Core.List.Memᴰ.tail n) (mathlib.Core.List.Memᴰ.tail o) =
            let (r, d, j) = R.ring_member x v c n in
            only (subst (λ (l : List ℕ). Memᴰ b l) (ap R.ring (sym j) ∙ g.alone) o)
          where
            only : Memᴰ b (v ∷ []) → A
            only (Memᴰ.tail x13) = elim x13 [ ]
            only (mathlib.Core.List.Memᴰ.head e) = f e

        start : Memᴰ (v, b) H ⊎ Memᴰ (b, v) H → A
        start (inl n) = let (x, c, o) = R.edge_ring v b n in let (p, q) = cycle_ends (top_of B x) v b (R.ring (B.first x)) o in within x c p q
        start (inr n) = let (x, c, o) = R.edge_ring b v n in let (p, q) = cycle_ends (top_of B x) b v (R.ring (B.first x)) o in within x c q p

    abbrev w : ℕ
    w = head_of (R.ring g.below)

    -- the class below is in one piece without t and v
    below_held : (b : ℕ) → Below b → Connected (losing_both t v M) w b
    unfolding Below
    below_held b (c, r, e) (W, p, q, closed) =
        contradict p (sides ∙ q)
      where
        f : B.first b ≡ g.below
        f = g.one_below b c r e

        in_ring : Memᴰ b (R.ring (B.first b))
        in_ring = R.member_ring b c r

        later : (u : ℕ) → Memᴰ u (R.ring (B.first b)) → B.pos v < B.pos u
        later u m = let (s, d, i) = R.ring_member b u c m in omega (arith, top_pos E B u d, ap (λ s. B.pos (B.par s)) i, ap B.pos e)

        out : (u : ℕ) → Memᴰ u (R.ring (B.first b)) → (not (eqb u t) && not (eqb u v)) ≡ true
        out u m = ap₂ (λ a b. not a && not b) (ne_eqb u t (λ i. omega (arith, later u m, t_before, ap B.pos i))) (ne_eqb u v (λ i. omega (arith, later u m, ap B.pos i)))

        plain : (u : ℕ) → Memᴰ u (R.ring (B.first b)) → lost (junction v) u ≡ false
        plain u m = ne_eqb u v (λ i. omega (arith, later u m, ap B.pos i))

        off : (u : ℕ) → lost (junction v) u ≡ false → Memᴰ u (top_of B b ∷ R.ring (B.first b)) → Memᴰ u (R.ring (B.first b))
        off u l (mathlib.Core.List.Memᴰ.head i) = contradict (eq-eqb u v (i ∙ e)) l
        off u l (mathlib.Core.List.Memᴰ.tail m) = m

        sides : W w ≡ W b
        sides =
            let h = head_mem (R.ring (B.first b)) in_ring in
            let here : w ≡ head_of (R.ring (B.first b)) = ap (λ s. head_of (R.ring s)) (sym f) in
            ap W here
            ∙ cycle_side (junction v) W (top_of B b) (R.ring (B.first b))
            (λ p q m s o.
            let (mp, mq) = cycle_ends (top_of B b) p q (R.ring (B.first b)) m in
            let np = off p s mp in
            let nq = off q o mq in
            let k : Memᴰ (p, q) M = subst (λ (u : ℕ). Memᴰ (u, q) M) (stays p (omega (arith, later p np))) (subst (λ (u : ℕ). Memᴰ (μ vs p, u) M) (stays q (omega (arith, later q nq))) (image_edge (μ vs) p q H (R.ring_edge b p q c m))) in
            closed_edge (λ u. not (eqb u t) && not (eqb u v)) W p q M closed k (out p np) (out q nq))
            (R.ring_once b c) (top_off_ring E B K H R b c) (head_of (R.ring (B.first b))) b (mathlib.Core.List.Memᴰ.tail h) (mathlib.Core.List.Memᴰ.tail in_ring) (plain (head_of (R.ring (B.first b))) h) (plain b in_ring)

    neighbour_held : (p : ℕ) → Neighbour M t v p → Connected (losing_both t v M) w p
    unfolding Below
    neighbour_held p (nt, nv, m) = go m
      where
        found : (x : ℕ) → p ≡ μ vs x → Memᴰ (v, x) H ⊎ Memᴰ (x, v) H → Connected (losing_both t v M) w p
        found x e n =
            on_neighbour x n
            (λ i. absurd (nv (e ∙ ap (μ vs) i ∙ stays v (omega arith))))
            (λ i. absurd (nt (e ∙ ap (μ vs) i)))
            (λ o.
            let l : B.pos v < B.pos x = omega (arith, top_pos E B x o.0, ap B.pos o.2) in
            subst (λ (u : ℕ). Connected (losing_both t v M) w u) (sym (e ∙ stays x (omega arith))) (below_held x o))

        go : Memᴰ (v, p) M ⊎ Memᴰ (p, v) M → Connected (losing_both t v M) w p
        go (inl n) =
            let (x, y, o, ex, ey) = edge_image (μ vs) v p H n in
            found y ey (inl (subst (λ (u : ℕ). Memᴰ (u, y) H) (merged_hit vs a v x before (sym ex)) o))
        go (inr n) =
            let (x, y, o, ex, ey) = edge_image (μ vs) p v H n in
            found x ex (inr (subst (λ (u : ℕ). Memᴰ (x, u) H) (merged_hit vs a v y before (sym ey)) o))

    merge_one : Same K M (λ k. k) (image (μ (v ∷ vs)) H) (λ k. k)
    merge_one =
        subst (λ (J : List Edge). Same K M (λ k. k) J (λ k. k)) (image_twice (onto t v) (μ vs) H)
        (contract_same K M (λ k. k) t v (λ e. omega (arith, t_before, ap B.pos e))
        (λ k m. (λ e. contradict m (ap K e ∙ merged_idle vs a (top_of B v) g.top_idle), λ e. contradict m (ap K e ∙ g.idle))) merge_edge w neighbour_held)

  -- merging all of a list
  pub merges_same : (vs : List ℕ) → Mergeables vs → Same K H (λ k. k) (image (μ vs) H) (λ k. k)
  merges_same [] a = subst (λ (J : List Edge). Same K H (λ k. k) J (λ k. k)) (sym (image_same H)) (same_refl K H (λ k. k))
  merges_same (v ∷ vs) a = same_trans K H (λ k. k) (image (μ vs) H) (λ k. k) (image (μ (v ∷ vs)) H) (λ k. k) (merges_same vs a.2) (merge_one v vs a.0 a.1 a.2)

  -- the reduced graph has the colourings of the given graph at the active junctions
  pub reduced_same : (vs : List ℕ) → Mergeables vs → Same K E (λ k. k) (image (μ vs) H) (λ k. k)
  reduced_same vs a =
      same_trans K E (λ k. k) H (λ k. k) (image (μ vs) H) (λ k. k) (same_labels R.relevant K (λ k. k) E (λ k. k) H (λ k. k) R.active (cycles_same E B K H R)) (merges_same vs a)
