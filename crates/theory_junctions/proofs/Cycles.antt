-- A cycle that loses one junction is in one piece: a set that no edge of the cycle crosses, but for those at the lost junction, has all its other junctions on one side.
-- In order: the edges of a chain and of a cycle; a chain that loses nothing; a chain that may; the cycle.
-- Assumes nothing.
use Prim.Native.Nat.{◌≤◌, ℕ}
use mathlib.Core.Bool.{false, true}
use mathlib.Core.List.{List, Memᴰ, [], ◌∷◌}
use mathlib.Core.Logic.{◌⊎◌, inl, inr}
use mathlib.Core.Path.{◌∙◌, ◌≡◌, ap, refl, subst, sym}
use lib.ListN.{length}
use native.Mathlib.Omega.{arith}
use borrow.Author.Tests.{eqb-true}
use Rattle.theory_graph.proofs.Booleans.{contradict, on_bool}
use Rattle.theory_graph.proofs.Lists.{mem_append}
use Rattle.theory_graph.specs.Graph.{NodeSet}
use Rattle.theory_graph.specs.Lists.{Distinct}
use Rattle.theory_junctions.proofs.Colours.{edge_append}
use Rattle.theory_junctions.specs.Blocks.{chain, closing, cycle, last_of}
use Rattle.theory_junctions.specs.Colouring.{Loss, Uncrossed, junction, lost, nothing}

pub lost_one : (z : Loss) (u v : ℕ) → lost z u ≡ true → lost z v ≡ true → u ≡ v
lost_one nothing u v a b = contradict a refl
lost_one (junction c) u v a b = eqb-true u c a ∙ sym (eqb-true v c b)

-- ---- edges
last_mem : (u : ℕ) (us : List ℕ) → Memᴰ (last_of u us) (u ∷ us)
last_mem u [] = Memᴰ.head refl
last_mem u (w ∷ us) = Memᴰ.tail (last_mem w us)

chain_ends : (t p q : ℕ) (us : List ℕ) → Memᴰ (p, q) (chain t us) → Memᴰ p (t ∷ us) × Memᴰ q us
chain_ends t p q [] x' = elim x' [ ]
chain_ends t p q (u ∷ us) (Memᴰ.head e) = (Memᴰ.head (ap (λ e. e.0) e), Memᴰ.head (ap (λ e. e.1) e))
chain_ends t p q (u ∷ us) (Memᴰ.tail m) = let (a, b) = chain_ends u p q us m in (Memᴰ.tail a, Memᴰ.tail b)

closing_ends : (t p q : ℕ) (us : List ℕ) → Memᴰ (p, q) (closing t us) → Memᴰ p us × (q ≡ t)
closing_ends t p q [] x' = elim x' [ ]
closing_ends t p q (u ∷ []) x4 = elim x4 [ ]
closing_ends t p q (u ∷ (w ∷ us)) (Memᴰ.tail x9) = elim x9 [ ]
closing_ends t p q (u ∷ w ∷ us) (Memᴰ.head e) = (Memᴰ.tail (subst (λ (v : ℕ). Memᴰ v (w ∷ us)) (sym (ap (λ e. e.0) e)) (last_mem w us)), ap (λ e. e.1) e)

-- both ends of an edge of the cycle are on it
pub cycle_ends : (t p q : ℕ) (us : List ℕ) → Memᴰ (p, q) (cycle t us) → Memᴰ p (t ∷ us) × Memᴰ q (t ∷ us)
cycle_ends t p q us m = go (edge_append (chain t us) (closing t us) m)
  where
    go : Memᴰ (p, q) (chain t us) ⊎ Memᴰ (p, q) (closing t us) → Memᴰ p (t ∷ us) × Memᴰ q (t ∷ us)
    go (inl n) = let (a, b) = chain_ends t p q us n in (a, Memᴰ.tail b)
    go (inr n) = let (a, b) = closing_ends t p q us n in (Memᴰ.tail a, Memᴰ.head b)

pub closing_edge : (t : ℕ) (us : List ℕ) → 2 ≤ length us → Memᴰ (last_of t us, t) (closing t us)
closing_edge t [] l = absurd (omega arith)
closing_edge t (u ∷ []) l = absurd (omega arith)
closing_edge t (u ∷ w ∷ us) l = Memᴰ.head refl

module _ (z : Loss) (U : NodeSet) where
  -- ---- a chain that loses nothing
  chain_side : (t : ℕ) (us : List ℕ) → Uncrossed z U (chain t us) → ((w : ℕ) → Memᴰ w (t ∷ us) → lost z w ≡ false) → (w : ℕ) → Memᴰ w (t ∷ us) → U w ≡ U t
  chain_side t [] f n w (Memᴰ.head e) = ap U e
  chain_side t [] f n w (Memᴰ.tail m) = elim m [ ]
  chain_side t (u ∷ us) f n w (Memᴰ.head e) = ap U e
  chain_side t (u ∷ us) f n w (Memᴰ.tail m) =
      chain_side u us (λ p q k. f p q (Memᴰ.tail k)) (λ w k. n w (Memᴰ.tail k)) w m
      ∙ sym (f t u (Memᴰ.head refl) (n t (Memᴰ.head refl)) (n u (Memᴰ.tail (Memᴰ.head refl))))

  -- ---- a chain that may lose a junction after t: each other one is held to t or to the last
  Held : ℕ → List ℕ → ℕ → Type 0
  Held t us w = (U w ≡ U t) ⊎ ((U w ≡ U (last_of t us)) × (lost z (last_of t us) ≡ false) × (2 ≤ length us))

  after_lost : (t u : ℕ) (us : List ℕ) → Uncrossed z U (chain u us) → ¬ Memᴰ u us → lost z u ≡ true → (w : ℕ) → Memᴰ w us → Held t (u ∷ us) w
  unfolding Held
  after_lost t u [] f d l w m = elim m [ ]
  after_lost t u (x ∷ us) f d l w m =
      let n : (w : ℕ) → Memᴰ w (x ∷ us) → lost z w ≡ false = λ w m. on_bool (lost z w) (λ b. absurd (d (subst (λ (v : ℕ). Memᴰ v (x ∷ us)) (lost_one z w u b l) m))) (λ b. b) in
      let s = chain_side x us (λ p q k. f p q (Memᴰ.tail k)) n in
      inr (s w m ∙ sym (s (last_of x us) (last_mem x us)), n (last_of x us) (last_mem x us), omega arith)

  chain_held : (t : ℕ) (us : List ℕ) → Uncrossed z U (chain t us) → Distinct us → lost z t ≡ false → (w : ℕ) → Memᴰ w us → lost z w ≡ false → Held t us w
  unfolding Held
  chain_held t [] f d lt w m lw = elim m [ ]
  chain_held t (u ∷ us) f d lt w m lw =
      on_bool (lost z u)
      (λ b. go b m)
      (λ b. let e : U t ≡ U u = f t u (Memᴰ.head refl) lt b in on e m (λ n. chain_held u us (λ p q k. f p q (Memᴰ.tail k)) d.1 b w n lw))
    where
      go : lost z u ≡ true → Memᴰ w (u ∷ us) → Held t (u ∷ us) w
      go b (Memᴰ.head e) = contradict (ap (lost z) e ∙ b) lw
      go b (Memᴰ.tail n) = after_lost t u us (λ p q k. f p q (Memᴰ.tail k)) d.0 b w n

      on : U t ≡ U u → Memᴰ w (u ∷ us) → (Memᴰ w us → Held u us w) → Held t (u ∷ us) w
      on e (Memᴰ.head i) h = inl (ap U i ∙ sym e)
      on e (Memᴰ.tail n) h = more (h n)
        where
          more : Held u us w → Held t (u ∷ us) w
          more (inl i) = inl (i ∙ sym e)
          more (inr (i, l, k)) = inr (i, l, omega arith)

  -- ---- the cycle
  module _ (t : ℕ) (us : List ℕ) (f : Uncrossed z U (cycle t us)) (d : Distinct us) (nt : ¬ Memᴰ t us) where
    on_chain : Uncrossed z U (chain t us)
    on_chain p q m = f p q (mem_append (chain t us) (closing t us) (inl m))

    to_top : lost z t ≡ false → (w : ℕ) → Memᴰ w us → lost z w ≡ false → U w ≡ U t
    unfolding Held
    to_top lt w m lw = go (chain_held t us on_chain d lt w m lw)
      where
        go : Held t us w → U w ≡ U t
        go (inl e) = e
        go (inr (e, l, k)) = e ∙ f (last_of t us) t (mem_append (chain t us) (closing t us) (inr (closing_edge t us k))) l lt

    topless : lost z t ≡ true → (v w : ℕ) → Memᴰ v us → Memᴰ w us → U v ≡ U w
    topless lt v w = go us on_chain nt
      where
        go : (us : List ℕ) → Uncrossed z U (chain t us) → ¬ Memᴰ t us → Memᴰ v us → Memᴰ w us → U v ≡ U w
        go [] f nt m k = elim m [ ]
        go (x ∷ us) f nt m k =
            let n : (w : ℕ) → Memᴰ w (x ∷ us) → lost z w ≡ false = λ w m. on_bool (lost z w) (λ b. absurd (nt (subst (λ (v : ℕ). Memᴰ v (x ∷ us)) (lost_one z w t b lt) m))) (λ b. b) in
            let s = chain_side x us (λ p q k. f p q (Memᴰ.tail k)) n in
            s v m ∙ sym (s w k)

    -- a cycle that loses one junction at most has the others on one side
    pub cycle_side : (v w : ℕ) → Memᴰ v (t ∷ us) → Memᴰ w (t ∷ us) → lost z v ≡ false → lost z w ≡ false → U v ≡ U w
    cycle_side v w m k lv lw = on_bool (lost z t) (λ b. gone b m k) (λ b. kept b v m lv ∙ sym (kept b w k lw))
      where
        gone : lost z t ≡ true → Memᴰ v (t ∷ us) → Memᴰ w (t ∷ us) → U v ≡ U w
        gone b (Memᴰ.head e) k = contradict (ap (lost z) e ∙ b) lv
        gone b (Memᴰ.tail m) (Memᴰ.head e) = contradict (ap (lost z) e ∙ b) lw
        gone b (Memᴰ.tail m) (Memᴰ.tail k) = topless b v w m k

        kept : lost z t ≡ false → (v : ℕ) → Memᴰ v (t ∷ us) → lost z v ≡ false → U v ≡ U t
        kept b v (Memᴰ.head e) l = ap U e
        kept b v (Memᴰ.tail m) l = to_top b v m l
