-- The contract lemma, which mends document 000's Lemma 7: where t and v are joined by an edge, both idle, and the other neighbours of v are joined to one another without t and v,
-- merging v into t leaves the colourings at the labels. A lost t or v becomes the lost t; back, where t is lost v takes its other neighbours' side.
-- In order: merging as a function; the lemma with one junction to which the other neighbours are joined; the lemma by pairs of neighbours.
-- Assumes nothing.
use Prim.Native.Nat.{◌≤◌, ℕ}
use mathlib.Core.Bool.{Bool, ◌&&◌, cond, false, not, true}
use mathlib.Core.List.{List, Memᴰ, [], ◌∷◌}
use mathlib.Core.Logic.{◌⊎◌, inl, inr}
use mathlib.Core.Path.{◌∙◌, ◌≡◌, ap, ap₂, refl, subst, sym}
use lib.Dec.{eqb}
use native.Mathlib.Omega.{arith}
use borrow.Author.Tests.{eq-eqb, eqb-false, eqb-true, ne_eqb, not-true}
use Rattle.theory_graph.proofs.Booleans.{and_elim, contradict, on_bool}
use Rattle.theory_graph.proofs.Separation.{separated_sym}
use Rattle.theory_graph.proofs.SpanningForest.{on_eq}
use Rattle.theory_graph.specs.Cut.{Connected, cut}
use Rattle.theory_graph.specs.Graph.{Edge, NodeSet, induced}
use Rattle.theory_graph.specs.SmallGraph.{image}
use Rattle.theory_junctions.proofs.Colours.{edge_closed, edge_image, image_edge, side_colour}
use Rattle.theory_junctions.proofs.Cycles.{lost_one}
use Rattle.theory_junctions.specs.Blocks.{onto}
use Rattle.theory_junctions.specs.Colouring.{Colouring, Followed, Follows, Loss, Same, junction, lost, nothing, size}

-- connected junctions lie on one side of each closed set
pub connected_side : (E : List Edge) (x y : ℕ) → Connected E x y → (U : NodeSet) → cut U E ≤ 0 → U x ≡ U y
connected_side E x y n U c =
    on_bool (U x)
    (λ p. on_bool (U y) (λ q. p ∙ sym q) λ q. absurd (n (U, p, q, c)))
    (λ p. on_bool (U y) (λ q. absurd (n (separated_sym E (U, q, p, c)))) λ q. p ∙ sym q)

-- ---- merging as a function
pub onto_there : (t v : ℕ) → onto t v v ≡ t
onto_there t v = ap (λ b. cond b t v) (eq-eqb v v refl)

pub onto_other : (t v u : ℕ) → ¬ (u ≡ v) → onto t v u ≡ u
onto_other t v u n = ap (λ b. cond b t u) (ne_eqb u v n)

-- a loss follows the merging
moved : ℕ → ℕ → Loss → Loss
moved t v nothing = nothing
moved t v (junction c) = junction (onto t v c)

moved_size : (t v : ℕ) (z : Loss) → size (moved t v z) ≤ size z
unfolding moved
moved_size t v nothing = omega arith
moved_size t v (junction c) = omega arith

moved_back : (t v : ℕ) (z : Loss) (u : ℕ) → lost (moved t v z) (onto t v u) ≡ false → lost z u ≡ false
unfolding moved
moved_back t v nothing u h = refl
moved_back t v (junction c) u h = ne_eqb u c (λ e. eqb-false (onto t v u) (onto t v c) h (ap (onto t v) e))

moved_idle : (t v : ℕ) (z : Loss) (u : ℕ) → ¬ (u ≡ t) → ¬ (u ≡ v) → lost (moved t v z) u ≡ lost z u
unfolding moved
moved_idle t v nothing u a b = refl
moved_idle t v (junction c) u a b =
    on_eq c v
    (λ e. ne_eqb u (onto t v c) (λ i. a (i ∙ ap (onto t v) e ∙ onto_there t v)) ∙ sym (ne_eqb u c (λ i. b (i ∙ e))))
    (λ n. ap (eqb u) (onto_other t v c n))

-- ---- the lemma
-- p is another neighbour of v
abbrev pub Neighbour : List Edge → ℕ → ℕ → ℕ → Type 0
Neighbour E t v p = (¬ (p ≡ t)) × (¬ (p ≡ v)) × (Memᴰ (v, p) E ⊎ Memᴰ (p, v) E)

-- the edges that touch neither t nor v
abbrev pub losing_both : ℕ → ℕ → List Edge → List Edge
losing_both t v E = induced (λ u. not (eqb u t) && not (eqb u v)) E

module _ (K : NodeSet) (E : List Edge) (g : ℕ → ℕ) (t v : ℕ) (ne : ¬ (t ≡ v)) (idle : (k : ℕ) → K k ≡ true → (¬ (g k ≡ t)) × (¬ (g k ≡ v))) (edge : Memᴰ (t, v) E)
    (w : ℕ) (held : (p : ℕ) → Neighbour E t v p → Connected (losing_both t v E) w p) where
  abbrev M : List Edge
  M = image (onto t v) E

  merge_there : Follows K E g M g
  merge_there φ = (
    record {
      loss = moved t v φ.loss;
      side = φ.side;
      uncrossed = λ p q m s r.
          let (a, b, n, ea, eb) = edge_image (onto t v) p q E m in
          let la = ap (lost (moved t v φ.loss)) (sym ea) ∙ s in
          let lb = ap (lost (moved t v φ.loss)) (sym eb) ∙ r in
          ap φ.side ea ∙ side a la ∙ φ.uncrossed a b n (moved_back t v φ.loss a la) (moved_back t v φ.loss b lb) ∙ sym (side b lb) ∙ ap φ.side (sym eb);
    },
    λ k m. let (a, b) = idle k m in side_colour (moved t v φ.loss) φ.side (g k) φ.loss φ.side (g k) (moved_idle t v φ.loss (g k) a b) (λ l. refl),
    moved_size t v φ.loss,
  )
    where
      side : (u : ℕ) → lost (moved t v φ.loss) (onto t v u) ≡ false → φ.side (onto t v u) ≡ φ.side u
      side u l =
          on_eq u v
          (λ e.
          let o : onto t v u ≡ t = ap (onto t v) e ∙ onto_there t v in
          let lv : lost φ.loss v ≡ false = ap (lost φ.loss) (sym e) ∙ moved_back t v φ.loss u l in
          let lt : lost φ.loss t ≡ false = moved_back t v φ.loss t (ap (lost (moved t v φ.loss)) (onto_other t v t ne ∙ sym o) ∙ l) in
          ap φ.side o ∙ φ.uncrossed t v edge lt lv ∙ ap φ.side (sym e))
          (λ n. ap φ.side (onto_other t v u n))

  kept : (p q : ℕ) → Memᴰ (p, q) E → ¬ (p ≡ v) → ¬ (q ≡ v) → Memᴰ (p, q) M
  kept p q m a b = subst (λ (s : ℕ). Memᴰ (s, q) M) (onto_other t v p a) (subst (λ (s : ℕ). Memᴰ (onto t v p, s) M) (onto_other t v q b) (image_edge (onto t v) p q E m))

  -- t is not lost
  back_kept : (φ : Colouring M) → lost φ.loss t ≡ false → Followed K φ g E g
  back_kept φ lt = (
    record {
      loss = φ.loss;
      side = λ u. φ.side (onto t v u);
      uncrossed = λ p q m s r. φ.uncrossed (onto t v p) (onto t v q) (image_edge (onto t v) p q E m) (still p s) (still q r);
    },
    λ k m. let (a, b) = idle k m in side_colour φ.loss (λ u. φ.side (onto t v u)) (g k) φ.loss φ.side (g k) refl (λ l. ap φ.side (onto_other t v (g k) b)),
    omega arith,
  )
    where
      still : (u : ℕ) → lost φ.loss u ≡ false → lost φ.loss (onto t v u) ≡ false
      still u l = on_eq u v (λ e. ap (lost φ.loss) (ap (onto t v) e ∙ onto_there t v) ∙ lt) (λ n. ap (lost φ.loss) (onto_other t v u n) ∙ l)

  -- t is lost: v takes the side of its other neighbours
  back_lost : (φ : Colouring M) → lost φ.loss t ≡ true → Followed K φ g E g
  back_lost φ lt = (
    record { loss = φ.loss; side = U; uncrossed = λ p q m s r. on_eq p v (λ e. on_eq q v (λ i. ap U (e ∙ sym i)) (λ n. at_v p q s r e n (inl m))) (λ n. on_eq q v (λ i. sym (at_v q p r s i n (inr m))) (λ o. off p n ∙ φ.uncrossed p q (kept p q m n o) s r ∙ sym (off q o))) },
    λ k m. let (a, b) = idle k m in side_colour φ.loss U (g k) φ.loss φ.side (g k) refl (λ l. off (g k) b),
    omega arith,
  )
    where
      U : NodeSet
      U u = φ.side (onto w v u)

      off : (u : ℕ) → ¬ (u ≡ v) → U u ≡ φ.side u
      off u n = ap φ.side (onto_other w v u n)

      not_t : (u : ℕ) → lost φ.loss u ≡ false → ¬ (u ≡ t)
      not_t u l e = contradict (ap (lost φ.loss) e ∙ lt) l

      plain : (u : ℕ) → ¬ (u ≡ t) → lost φ.loss u ≡ false
      plain u n = on_bool (lost φ.loss u) (λ b. absurd (n (lost_one φ.loss u t b lt))) (λ b. b)

      closed : cut φ.side (losing_both t v E) ≤ 0
      closed = edge_closed (λ u. not (eqb u t) && not (eqb u v)) φ.side E λ p q m a b.
          and_elim (not (eqb p t)) (not (eqb p v)) a λ pt pv. and_elim (not (eqb q t)) (not (eqb q v)) b λ qt qv.
          φ.uncrossed p q (kept p q m (eqb-false p v (not-true _ pv)) (eqb-false q v (not-true _ qv))) (plain p (eqb-false p t (not-true _ pt))) (plain q (eqb-false q t (not-true _ qt)))

      at_v : (p q : ℕ) → lost φ.loss p ≡ false → lost φ.loss q ≡ false → p ≡ v → ¬ (q ≡ v) → Memᴰ (p, q) E ⊎ Memᴰ (q, p) E → U p ≡ U q
      at_v p q s r e n m =
          let near : Memᴰ (v, q) E ⊎ Memᴰ (q, v) E = subst (λ (u : ℕ). Memᴰ (u, q) E ⊎ Memᴰ (q, u) E) e m in
          ap U e ∙ ap φ.side (onto_there w v) ∙ connected_side (losing_both t v E) w q (held q (not_t q r, n, near)) φ.side closed ∙ sym (off q n)

  pub contract_same : Same K E g M g
  contract_same = record { there = merge_there; back = λ φ. on_bool (lost φ.loss t) (back_lost φ) (back_kept φ) }

-- ---- the lemma by pairs of neighbours
-- neither t nor v
abbrev off : ℕ → ℕ → ℕ → Bool
off t v p = not (eqb p t) && not (eqb p v)

-- another neighbour of v, where there is one
abbrev neighbour_of : List Edge → ℕ → ℕ → ℕ
neighbour_of [] t v = 0
neighbour_of (e ∷ E) t v = cond (eqb e.0 v && off t v e.1) e.1 (cond (eqb e.1 v && off t v e.0) e.0 (neighbour_of E t v))

-- p is the other end of an edge at v
abbrev Beside : List Edge → ℕ → ℕ → ℕ → Type 0
Beside E t v p = (off t v p ≡ true) × (Memᴰ (v, p) E ⊎ Memᴰ (p, v) E)

neighbour_found : (E : List Edge) (t v p : ℕ) → Beside E t v p → Beside E t v (neighbour_of E t v)
neighbour_found [] t v p (o, inl m) = absurd (elim m [ ])
neighbour_found [] t v p (o, inr m) = absurd (elim m [ ])
neighbour_found (e ∷ E) t v p (o, m) =
    on_bool first
    (λ a. subst (Beside (e ∷ E) t v) (sym (ap (λ b. cond b e.1 (cond second e.0 (neighbour_of E t v))) a)) (and_elim (eqb e.0 v) (off t v e.1) a λ i j. (j, inl (mathlib.Core.List.Memᴰ.head (ap (λ s. (s, e.1)) (sym (eqb-true e.0 v i)))))))
    λ a. on_bool second
    (λ b. subst (Beside (e ∷ E) t v) (sym (ap₂ (λ x y. cond x e.1 (cond y e.0 (neighbour_of E t v))) a b)) (and_elim (eqb e.1 v) (off t v e.0) b λ i j. (j, inr (mathlib.Core.List.Memᴰ.head (ap (λ s. (e.0, s)) (sym (eqb-true e.1 v i)))))))
    λ b. subst (Beside (e ∷ E) t v) (sym (ap₂ (λ x y. cond x e.1 (cond y e.0 (neighbour_of E t v))) a b)) (later (neighbour_found E t v p (o, before a b m)))
  where
    first : Bool
    first = eqb e.0 v && off t v e.1

    second : Bool
    second = eqb e.1 v && off t v e.0

    before : first ≡ false → second ≡ false → Memᴰ (v, p) (e ∷ E) ⊎ Memᴰ (p, v) (e ∷ E) → Memᴰ (v, p) E ⊎ Memᴰ (p, v) E
    before a b (inl (mathlib.Core.List.Memᴰ.head i)) = contradict (ap₂ ◌&&◌ (eq-eqb e.0 v (sym (ap (λ e. e.0) i))) (ap (off t v) (sym (ap (λ e. e.1) i)) ∙ o)) a
    before a b (inl (mathlib.Core.List.Memᴰ.tail k)) = inl k
    before a b (inr (mathlib.Core.List.Memᴰ.head i)) = contradict (ap₂ ◌&&◌ (eq-eqb e.1 v (sym (ap (λ e. e.1) i))) (ap (off t v) (sym (ap (λ e. e.0) i)) ∙ o)) b
    before a b (inr (mathlib.Core.List.Memᴰ.tail k)) = inr k

    later : {w : ℕ} → Beside E t v w → Beside (e ∷ E) t v w
    later (o, inl k) = (o, inl (mathlib.Core.List.Memᴰ.tail k))
    later (o, inr k) = (o, inr (mathlib.Core.List.Memᴰ.tail k))

-- t and v are joined by an edge and idle, and the other neighbours of v are pairwise joined without t and v: v may be merged into t
pub contract_pairwise : (K : NodeSet) (E : List Edge) (g : ℕ → ℕ) (t v : ℕ) → ¬ (t ≡ v) → ((k : ℕ) → K k ≡ true → (¬ (g k ≡ t)) × (¬ (g k ≡ v))) → Memᴰ (t, v) E
    → ((p q : ℕ) → Neighbour E t v p → Neighbour E t v q → Connected (losing_both t v E) p q) → Same K E g (image (onto t v) E) g
contract_pairwise K E g t v ne idle edge held =
    contract_same K E g t v ne idle edge (neighbour_of E t v) λ p n. held (neighbour_of E t v) p (from (neighbour_found E t v p (beside p n))) n
  where
    beside : (p : ℕ) → Neighbour E t v p → Beside E t v p
    beside p (a, b, m) = (ap₂ (λ x y. not x && not y) (ne_eqb p t a) (ne_eqb p v b), m)

    from : Beside E t v (neighbour_of E t v) → Neighbour E t v (neighbour_of E t v)
    from (o, m) = and_elim (not (eqb (neighbour_of E t v) t)) (not (eqb (neighbour_of E t v) v)) o λ a b. (eqb-false (neighbour_of E t v) t (not-true _ a), eqb-false (neighbour_of E t v) v (not-true _ b), m)
