-- Colours and losses: what a colour says of a loss and a side, and the other way round; which junctions a loss leaves; the entries of lists of edges;
-- a set is uncrossed just where no edge that the loss leaves crosses it.
-- Assumes nothing.
use Prim.Native.Nat.{◌≤◌, ℕ}
use mathlib.Core.Bool.{Bool, ◌&&◌, cond, false, true}
use mathlib.Core.List.{List, Memᴰ, [], ◌++◌, ◌∷◌}
use mathlib.Core.Logic.{◌⊎◌, inl, inr}
use mathlib.Core.Path.{◌∙◌, ◌≡◌, ap, ap₂, refl, sym}
use native.Mathlib.Omega.{arith}
use Rattle.theory_graph.proofs.Booleans.{contradict}
use Rattle.theory_graph.proofs.Cuts.{crosses_same, crosses_zero}
use Rattle.theory_graph.specs.Cut.{cut}
use Rattle.theory_graph.specs.Graph.{Edge, NodeSet, induced}
use Rattle.theory_graph.specs.SmallGraph.{image}
use Rattle.theory_junctions.specs.Colouring.{Colour, Loss, Uncrossed, colour, gone, inside, lost, nothing, outside}

-- ---- colours
-- the colour of a junction, from whether it is lost and its side
abbrev paint : Bool → Bool → Colour
paint a b = cond a gone (cond b inside outside)

-- three colours are different
plain : Colour → Bool
plain inside = true
plain outside = true
plain gone = false

within : Colour → Bool
within inside = true
within outside = false
within gone = false

unpaint_inside : (a b : Bool) → paint a b ≡ inside → (a ≡ false) × (b ≡ true)
unfolding plain within
unpaint_inside true b e = contradict refl (ap plain (sym e))
unpaint_inside false true e = (refl, refl)
unpaint_inside false false e = contradict refl (ap within (sym e))

unpaint_outside : (a b : Bool) → paint a b ≡ outside → (a ≡ false) × (b ≡ false)
unfolding plain within
unpaint_outside true b e = contradict refl (ap plain (sym e))
unpaint_outside false true e = contradict refl (ap within e)
unpaint_outside false false e = (refl, refl)

unpaint : (a b c e : Bool) → paint a b ≡ paint c e → a ≡ false → (c ≡ false) × (b ≡ e)
unpaint true b c e h f = contradict refl f
unpaint false true c e h f = let (p, q) = unpaint_inside c e (sym h) in (p, sym q)
unpaint false false c e h f = let (p, q) = unpaint_outside c e (sym h) in (p, sym q)

repaint : (a b c e : Bool) → a ≡ c → (a ≡ false → b ≡ e) → paint a b ≡ paint c e
repaint true b true e h f = refl
repaint true b false e h f = contradict refl h
repaint false b true e h f = contradict refl (sym h)
repaint false b false e h f = ap (paint false) (f refl)

module _ (z : Loss) (U : NodeSet) (v : ℕ) where
  pub colour_inside : colour z U v ≡ inside → (lost z v ≡ false) × (U v ≡ true)
  colour_inside = unpaint_inside (lost z v) (U v)

  pub colour_outside : colour z U v ≡ outside → (lost z v ≡ false) × (U v ≡ false)
  colour_outside = unpaint_outside (lost z v) (U v)

  pub inside_colour : lost z v ≡ false → U v ≡ true → colour z U v ≡ inside
  inside_colour p q = ap₂ paint p q

  pub outside_colour : lost z v ≡ false → U v ≡ false → colour z U v ≡ outside
  outside_colour p q = ap₂ paint p q

-- equal colours: a junction that is not lost has an equal side
pub colour_side : (z : Loss) (U : NodeSet) (v : ℕ) (y : Loss) (W : NodeSet) (w : ℕ) → colour z U v ≡ colour y W w → lost z v ≡ false → (lost y w ≡ false) × (U v ≡ W w)
colour_side z U v y W w = unpaint (lost z v) (U v) (lost y w) (W w)

pub side_colour : (z : Loss) (U : NodeSet) (v : ℕ) (y : Loss) (W : NodeSet) (w : ℕ) → lost z v ≡ lost y w → (lost z v ≡ false → U v ≡ W w) → colour z U v ≡ colour y W w
side_colour z U v y W w = repaint (lost z v) (U v) (lost y w) (W w)

-- ---- entries of lists of edges
pub edge_append : {e : Edge} (E F : List Edge) → Memᴰ e (E ++ F) → Memᴰ e E ⊎ Memᴰ e F
edge_append [] F m = inr m
edge_append (f ∷ E) F (Memᴰ.head p) = inl (Memᴰ.head p)
edge_append {e} (f ∷ E) F (Memᴰ.tail m) = go (edge_append E F m)
  where
    go : Memᴰ e E ⊎ Memᴰ e F → Memᴰ e (f ∷ E) ⊎ Memᴰ e F
    go (inl n) = inl (Memᴰ.tail n)
    go (inr n) = inr n

pub edge_image : (g : ℕ → ℕ) (p q : ℕ) (F : List Edge) → Memᴰ (p, q) (image g F) → (a b : ℕ) × Memᴰ (a, b) F × (p ≡ g a) × (q ≡ g b)
edge_image g p q [] x' = elim x' [ ]
edge_image g p q (f ∷ F) (Memᴰ.head e) = (f.0, f.1, Memᴰ.head refl, ap (λ e. e.0) e, ap (λ e. e.1) e)
edge_image g p q (f ∷ F) (Memᴰ.tail m) = let (a, b, n, s, t) = edge_image g p q F m in (a, b, Memᴰ.tail n, s, t)

pub image_edge : (g : ℕ → ℕ) (a b : ℕ) (F : List Edge) → Memᴰ (a, b) F → Memᴰ (g a, g b) (image g F)
image_edge g a b [] x' = elim x' [ ]
image_edge g a b (f ∷ F) (Memᴰ.head e) = Memᴰ.head (ap₂ (λ s t. (s, t)) (ap (λ e. g e.0) e) (ap (λ e. g e.1) e))
image_edge g a b (f ∷ F) (Memᴰ.tail m) = Memᴰ.tail (image_edge g a b F m)

-- ---- closed sets of the edges inside P
pub closed_edge : (P U : NodeSet) (p q : ℕ) (E : List Edge) → cut U (induced P E) ≤ 0 → Memᴰ (p, q) E → P p ≡ true → P q ≡ true → U p ≡ U q
closed_edge P U p q [] c x4 a b = elim x4 [ ]
closed_edge P U p q (e ∷ E) c (Memᴰ.head h) a b =
    let f : p ≡ e.0 = ap (λ e. e.0) h in
    let g : q ≡ e.1 = ap (λ e. e.1) h in
    ap U f ∙ go (P e.0) (P e.1) (ap P (sym f) ∙ a) (ap P (sym g) ∙ b) c ∙ ap U (sym g)
  where
    go : (s t : Bool) → s ≡ true → t ≡ true → cut U (cond (s && t) (e ∷ induced P E) (induced P E)) ≤ 0 → U e.0 ≡ U e.1
    go true true h k c = crosses_zero _ _ (omega arith)
    go true false h k c = contradict k refl
    go false t h k c = contradict h refl
closed_edge P U p q (e ∷ E) c (Memᴰ.tail m) a b = closed_edge P U p q E (go (P e.0 && P e.1) c) m a b
  where
    go : (s : Bool) → cut U (cond s (e ∷ induced P E) (induced P E)) ≤ 0 → cut U (induced P E) ≤ 0
    go true c = omega arith
    go false c = c

pub edge_closed : (P U : NodeSet) (E : List Edge) → ((p q : ℕ) → Memᴰ (p, q) E → P p ≡ true → P q ≡ true → U p ≡ U q) → cut U (induced P E) ≤ 0
edge_closed P U [] f = omega arith
edge_closed P U (e ∷ E) f = go (P e.0) (P e.1) (f e.0 e.1 (Memᴰ.head refl)) (edge_closed P U E (λ p q m. f p q (Memᴰ.tail m)))
  where
    go : (s t : Bool) → (s ≡ true → t ≡ true → U e.0 ≡ U e.1) → cut U (induced P E) ≤ 0 → cut U (cond (s && t) (e ∷ induced P E) (induced P E)) ≤ 0
    go true true h c = omega (arith, crosses_same (h refl refl))
    go true false h c = c
    go false t h c = c

-- the same for all edges
pub closed_uncrossed : (U : NodeSet) (E : List Edge) → cut U E ≤ 0 → Uncrossed nothing U E
closed_uncrossed U [] c p q x4 a b = elim x4 [ ]
closed_uncrossed U (e ∷ E) c p q (Memᴰ.head h) a b = ap (λ f. U f.0) h ∙ crosses_zero _ _ (omega arith) ∙ ap (λ f. U f.1) (sym h)
closed_uncrossed U (e ∷ E) c p q (Memᴰ.tail m) a b = closed_uncrossed U E (omega arith) p q m a b

pub uncrossed_closed : (U : NodeSet) (E : List Edge) → Uncrossed nothing U E → cut U E ≤ 0
uncrossed_closed U [] f = omega arith
uncrossed_closed U (e ∷ E) f = omega (arith, crosses_same (f e.0 e.1 (Memᴰ.head refl) refl refl), uncrossed_closed U E (λ p q m. f p q (Memᴰ.tail m)))
