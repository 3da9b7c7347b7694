-- Graphs with the same colourings at their labels: the relation Same is reflexive, symmetric and transitive, holds for fewer labels, and survives edges that are added
-- between labels to both graphs. So the replies at labels are the same, whatever edges are added: document 01's demand 3 for the loss of a junction.
-- Then what never matters to a colouring: loops, parallel edges, the way an edge is written, the numbers of the junctions.
-- Assumes nothing.
use Prim.Native.Nat.{◌≤◌, ℕ}
use mathlib.Core.Bool.{◌&&◌, false, not, true}
use mathlib.Core.List.{List, Memᴰ, [], ◌++◌, ◌∷◌}
use mathlib.Core.Logic.{◌⊎◌, inl, inr}
use mathlib.Core.Path.{◌∙◌, ◌≡◌, ap, refl, subst, sym}
use lib.Dec.{eqb}
use native.Mathlib.Omega.{arith}
use borrow.Author.Tests.{eq-eqb, eqb-true}
use Rattle.theory_graph.proofs.Booleans.{and_elim, bool_iff, contradict}
use Rattle.theory_graph.proofs.Lists.{mem_append}
use Rattle.theory_graph.proofs.SpanningForest.{on_eq}
use Rattle.theory_graph.specs.Graph.{Edge, NodeSet}
use Rattle.theory_graph.specs.SmallGraph.{ends_in, image}
use Rattle.theory_junctions.proofs.Colours.{colour_inside, colour_outside, colour_side, edge_append, edge_image, image_edge, inside_colour, outside_colour, side_colour}
use Rattle.theory_junctions.proofs.Replies.{least_unique, reply_least}
use Rattle.theory_junctions.specs.Colouring.{Colouring, Follows, Loss, Parted, Same, colour_of, junction, lost, nothing, size}
use Rattle.theory_junctions.specs.Reply.{reply}

pub image_same : (F : List Edge) → image (λ k. k) F ≡ F
image_same [] = refl
image_same (e ∷ F) = ap (λ l. e ∷ l) (image_same F)

-- ---- an order and its two halves
follows_refl : (K : NodeSet) (G : List Edge) (g : ℕ → ℕ) → Follows K G g G g
follows_refl K G g φ = (φ, λ k m. refl, omega arith)

follows_trans : (K : NodeSet) (G : List Edge) (g : ℕ → ℕ) (H : List Edge) (h : ℕ → ℕ) (J : List Edge) (j : ℕ → ℕ) → Follows K G g H h → Follows K H h J j → Follows K G g J j
follows_trans K G g H h J j f e φ =
    let (ψ, a, l) = f φ in
    let (χ, b, m) = e ψ in
    (χ, λ k i. b k i ∙ a k i, omega arith)

pub same_refl : (K : NodeSet) (G : List Edge) (g : ℕ → ℕ) → Same K G g G g
same_refl K G g = record { there = follows_refl K G g; back = follows_refl K G g }

pub same_sym : (K : NodeSet) (G : List Edge) (g : ℕ → ℕ) (H : List Edge) (h : ℕ → ℕ) → Same K G g H h → Same K H h G g
same_sym K G g H h s = record { there = s.back; back = s.there }

pub same_trans : (K : NodeSet) (G : List Edge) (g : ℕ → ℕ) (H : List Edge) (h : ℕ → ℕ) (J : List Edge) (j : ℕ → ℕ) → Same K G g H h → Same K H h J j → Same K G g J j
same_trans K G g H h J j s t = record { there = follows_trans K G g H h J j s.there t.there; back = follows_trans K J j H h G g t.back s.back }

-- fewer labels, and labels of labels
pub same_labels : (K L : NodeSet) (f : ℕ → ℕ) (G : List Edge) (g : ℕ → ℕ) (H : List Edge) (h : ℕ → ℕ) → ((k : ℕ) → L k ≡ true → K (f k) ≡ true) → Same K G g H h → Same L G (λ k. g (f k)) H (λ k. h (f k))
same_labels K L f G g H h i s =
    record {
      there = λ φ. let (ψ, a, l) = s.there φ in (ψ, λ k m. a (f k) (i k m), l);
      back = λ φ. let (ψ, a, l) = s.back φ in (ψ, λ k m. a (f k) (i k m), l);
    }

-- ---- edges added between labels
pub ends_in_edge : (N : NodeSet) (a b : ℕ) (F : List Edge) → ends_in N F ≡ true → Memᴰ (a, b) F → (N a ≡ true) × (N b ≡ true)
ends_in_edge N a b [] w x'' = elim x'' [ ]
ends_in_edge N a b (e ∷ F) w (Memᴰ.head h) = and_elim (N e.0) (N e.1 && ends_in N F) w λ p r. and_elim (N e.1) (ends_in N F) r λ q t. (ap (λ e. N e.0) h ∙ p, ap (λ e. N e.1) h ∙ q)
ends_in_edge N a b (e ∷ F) w (Memᴰ.tail m) = and_elim (N e.0) (N e.1 && ends_in N F) w λ p r. and_elim (N e.1) (ends_in N F) r λ q t. ends_in_edge N a b F t m

follows_add : (K : NodeSet) (G : List Edge) (g : ℕ → ℕ) (H : List Edge) (h : ℕ → ℕ) (F : List Edge) → ends_in K F ≡ true → Follows K G g H h → Follows K (G ++ image g F) g (H ++ image h F) h
follows_add K G g H h F w f φ =
    let (ψ, a, l) = f (record { loss = φ.loss; side = φ.side; uncrossed = λ p q m. φ.uncrossed p q (mem_append G (image g F) (inl m)) }) in
    (record { loss = ψ.loss; side = ψ.side; uncrossed = λ p q m s t. go ψ a p q s t (edge_append H (image h F) m) }, a, l)
  where
    go : (ψ : Colouring H) → ((k : ℕ) → K k ≡ true → colour_of ψ (h k) ≡ colour_of φ (g k)) → (p q : ℕ) → lost ψ.loss p ≡ false → lost ψ.loss q ≡ false
        → Memᴰ (p, q) H ⊎ Memᴰ (p, q) (image h F) → ψ.side p ≡ ψ.side q
    go ψ a p q s t (inl m) = ψ.uncrossed p q m s t
    go ψ a p q s t (inr m) =
        let (i, j, n, ei, ej) = edge_image h p q F m in
        let (ki, kj) = ends_in_edge K i j F w n in
        let (li, si) = colour_side ψ.loss ψ.side (h i) φ.loss φ.side (g i) (a i ki) (ap (lost ψ.loss) (sym ei) ∙ s) in
        let (lj, sj) = colour_side ψ.loss ψ.side (h j) φ.loss φ.side (g j) (a j kj) (ap (lost ψ.loss) (sym ej) ∙ t) in
        ap ψ.side ei ∙ si ∙ φ.uncrossed (g i) (g j) (mem_append G (image g F) (inr (image_edge g i j F n))) li lj ∙ sym sj ∙ ap ψ.side (sym ej)

pub same_add : (K : NodeSet) (G : List Edge) (g : ℕ → ℕ) (H : List Edge) (h : ℕ → ℕ) (F : List Edge) → ends_in K F ≡ true → Same K G g H h → Same K (G ++ image g F) g (H ++ image h F) h
same_add K G g H h F w s = record { there = follows_add K G g H h F w s.there; back = follows_add K H h G g F w s.back }

-- one step of the replay: edges between labels are added to both, then the smaller graph is replaced by one that is the same at fewer labels
pub same_step : (K L : NodeSet) (G : List Edge) (g : ℕ → ℕ) (H : List Edge) (h : ℕ → ℕ) (F J : List Edge) (j : ℕ → ℕ) → Same K G g H h → ends_in K F ≡ true → ((k : ℕ) → L k ≡ true → K k ≡ true)
    → Same L (H ++ image h F) h J j → Same L (G ++ image g F) g J j
same_step K L G g H h F J j s w i t = same_trans L (G ++ image g F) g (H ++ image h F) h J j (same_labels K L (λ k. k) (G ++ image g F) g (H ++ image h F) h i (same_add K G g H h F w s)) t

-- ---- the replies at labels
parted_follows : (K : NodeSet) (G : List Edge) (g : ℕ → ℕ) (H : List Edge) (h : ℕ → ℕ) → Follows K G g H h → (x y i : ℕ) → K x ≡ true → K y ≡ true → Parted i G (g x) (g y) → Parted i H (h x) (h y)
parted_follows K G g H h f x y i kx ky (φ, s, p, q) = let (ψ, a, l) = f φ in (ψ, omega arith, a x kx ∙ p, a y ky ∙ q)

pub reply_same : (K : NodeSet) (G : List Edge) (g : ℕ → ℕ) (H : List Edge) (h : ℕ → ℕ) → Same K G g H h → (x y : ℕ) → K x ≡ true → K y ≡ true → reply G (g x) (g y) ≡ reply H (h x) (h y)
reply_same K G g H h s x y kx ky =
    let (r, f) = reply_least G (g x) (g y) in
    least_unique H (h x) (h y) (reply G (g x) (g y)) (reply H (h x) (h y))
    (r, λ i l. (λ b. parted_follows K G g H h s.there x y i kx ky ((f i l).0 b), λ p. (f i l).1 (parted_follows K H h G g s.back x y i kx ky p)))
    (reply_least H (h x) (h y))

-- demand 3 for the loss of a junction: whatever edges are added between labels
pub reply_added : (K : NodeSet) (G : List Edge) (g : ℕ → ℕ) (H : List Edge) (h : ℕ → ℕ) → Same K G g H h → (F : List Edge) → ends_in K F ≡ true
    → (x y : ℕ) → K x ≡ true → K y ≡ true → reply (G ++ image g F) (g x) (g y) ≡ reply (H ++ image h F) (h x) (h y)
reply_added K G g H h s F w x y = reply_same K (G ++ image g F) g (H ++ image h F) h (same_add K G g H h F w s) x y

-- the reply is symmetric
parted_sym : (E : List Edge) (x y i : ℕ) → Parted i E x y → Parted i E y x
parted_sym E x y i (φ, s, p, q) =
    let (a, b) = colour_inside φ.loss φ.side x p in
    let (c, e) = colour_outside φ.loss φ.side y q in (
      record { loss = φ.loss; side = λ v. not (φ.side v); uncrossed = λ p q m s t. ap not (φ.uncrossed p q m s t) },
      s,
      inside_colour φ.loss (λ v. not (φ.side v)) y c (ap not e),
      outside_colour φ.loss (λ v. not (φ.side v)) x a (ap not b),
    )

pub reply_sym : (E : List Edge) (x y : ℕ) → reply E x y ≡ reply E y x
reply_sym E x y =
    let (r, f) = reply_least E x y in
    least_unique E y x (reply E x y) (reply E y x) (r, λ i l. (λ b. parted_sym E x y i ((f i l).0 b), λ p. (f i l).1 (parted_sym E y x i p))) (reply_least E y x)

-- ---- loops, parallel edges and the way an edge is written
-- each edge of G that is no loop stands in H, one way or the other
abbrev pub Covers : List Edge → List Edge → Type 0
Covers H G = (p q : ℕ) → Memᴰ (p, q) G → ¬ (p ≡ q) → Memᴰ (p, q) H ⊎ Memᴰ (q, p) H

follows_covers : (K : NodeSet) (g : ℕ → ℕ) (H G : List Edge) → Covers H G → Follows K H g G g
follows_covers K g H G c φ = (record { loss = φ.loss; side = φ.side; uncrossed = λ p q m s t. on_eq p q (ap φ.side) (λ n. go p q s t (c p q m n)) }, λ k m. refl, omega arith)
  where
    go : (p q : ℕ) → lost φ.loss p ≡ false → lost φ.loss q ≡ false → Memᴰ (p, q) H ⊎ Memᴰ (q, p) H → φ.side p ≡ φ.side q
    go p q s t (inl m) = φ.uncrossed p q m s t
    go p q s t (inr m) = sym (φ.uncrossed q p m t s)

pub same_edges : (K : NodeSet) (g : ℕ → ℕ) (G H : List Edge) → Covers H G → Covers G H → Same K G g H g
same_edges K g G H a b = record { there = follows_covers K g G H b; back = follows_covers K g H G a }

-- ---- the numbers of the junctions
-- f takes the junctions of N to different ones, and ρ takes these back: a loss there is a loss here
pull : (N : NodeSet) (f ρ : ℕ → ℕ) → ((u : ℕ) → N u ≡ true → ρ (f u) ≡ u) → (z : Loss) → (y : Loss) × ((u : ℕ) → N u ≡ true → lost y u ≡ lost z (f u)) × (size y ≤ size z)
pull N f ρ i nothing = (nothing, λ u m. refl, omega arith)
pull N f ρ i (junction c) =
    on_eq (f (ρ c)) c
    (λ e. (junction (ρ c), λ u m. bool_iff (eqb u (ρ c)) (eqb (f u) c) (λ t. eq-eqb (f u) c (ap f (eqb-true u (ρ c) t) ∙ e)) (λ t. eq-eqb u (ρ c) (sym (i u m) ∙ ap ρ (eqb-true (f u) c t))), omega arith))
    (λ n. (nothing, λ u m. bool_iff false (eqb (f u) c) (λ t. contradict t refl) (λ t. let e = eqb-true (f u) c t in absurd (n (sym (ap (λ v. f (ρ v)) e) ∙ ap f (i u m) ∙ e))), omega arith))

-- H's colours are read off G along f, which takes the junctions of H, all in N, to different ones of G, and edges to edges
follows_along : (K N : NodeSet) (f ρ : ℕ → ℕ) (G : List Edge) (g : ℕ → ℕ) (H : List Edge) (h : ℕ → ℕ) → ((u : ℕ) → N u ≡ true → ρ (f u) ≡ u)
    → ((p q : ℕ) → Memᴰ (p, q) H → (N p ≡ true) × (N q ≡ true) × Memᴰ (f p, f q) G) → ((k : ℕ) → K k ≡ true → (N (h k) ≡ true) × (f (h k) ≡ g k)) → Follows K G g H h
follows_along K N f ρ G g H h i e w φ =
    let (y, same, l) = pull N f ρ i φ.loss in (
      record {
        loss = y;
        side = λ u. φ.side (f u);
        uncrossed = λ p q m s t. let (np, nq, n) = e p q m in φ.uncrossed (f p) (f q) n (sym (same p np) ∙ s) (sym (same q nq) ∙ t);
      },
      λ k m.
          let (n, j) = w k m in
          side_colour y (λ u. φ.side (f u)) (h k) φ.loss φ.side (g k) (same (h k) n ∙ ap (lost φ.loss) j) (λ p. ap φ.side j),
      l,
    )

-- the junctions of N renumbered by ν, and back by ρ
pub same_renumbered : (K N : NodeSet) (ν ρ : ℕ → ℕ) (H : List Edge) (h : ℕ → ℕ) → ((v : ℕ) → N v ≡ true → ρ (ν v) ≡ v) → ends_in N H ≡ true → ((k : ℕ) → K k ≡ true → N (h k) ≡ true)
    → Same K H h (image ν H) (λ k. ν (h k))
same_renumbered K N ν ρ H h i w l =
    record {
      there = follows_along K M ρ ν H h (image ν H) (λ k. ν (h k)) (λ u m. and_elim (N (ρ u)) (eqb (ν (ρ u)) u) m λ a b. eqb-true (ν (ρ u)) u b)
          (λ p q m.
          let (a, b, n, ea, eb) = edge_image ν p q H m in
          let (na, nb) = ends_in_edge N a b H w n in
          (at_M a p ea na, at_M b q eb nb, subst (λ (u : ℕ). Memᴰ (u, ρ q) H) (sym (ap ρ ea ∙ i a na)) (subst (λ (u : ℕ). Memᴰ (a, u) H) (sym (ap ρ eb ∙ i b nb)) n)))
          (λ k m. (at_M (h k) (ν (h k)) refl (l k m), i (h k) (l k m)));
      back = follows_along K N ν ρ (image ν H) (λ k. ν (h k)) H h i (λ p q m. let (np, nq) = ends_in_edge N p q H w m in (np, nq, image_edge ν p q H m)) (λ k m. (l k m, refl));
    }
  where
    M : NodeSet
    M u = N (ρ u) && eqb (ν (ρ u)) u

    at_M : (a u : ℕ) → u ≡ ν a → N a ≡ true → M u ≡ true
    at_M a u e n =
        let r : ρ u ≡ a = ap ρ e ∙ i a n in
        let s : N (ρ u) ≡ true = ap N r ∙ n in
        let t : eqb (ν (ρ u)) u ≡ true = eq-eqb (ν (ρ u)) u (ap ν r ∙ sym e) in
        ap (λ b. b && eqb (ν (ρ u)) u) s ∙ t
