-- The reply read off a graph of at most three junctions. In order: the third junction; the reply of equal and of adjacent junctions; the reply where any edge means that the two are joined.
-- Assumes nothing.
use Prim.Native.Nat.{◌+◌, ◌≤◌, suc, ℕ}
use mathlib.Core.Bool.{Bool, ◌&&◌, ◌||◌, cond, false, not, true}
use mathlib.Core.List.{List, Memᴰ, [], ◌∷◌}
use mathlib.Core.Logic.{◌⊎◌, inl, inr}
use mathlib.Core.Path.{◌∙◌, ◌≡◌, ap, ap₂, refl, subst, sym}
use lib.Dec.{eqb}
use lib.ListN.{length}
use native.Mathlib.Omega.{arith}
use borrow.Author.Tests.{eq-eqb, eqb-false, eqb-true, ne_eqb, not-true}
use Rattle.theory_graph.proofs.Booleans.{and_elim, contradict, on_bool, or_elim}
use Rattle.theory_graph.proofs.Definitions.{joined_from, joined_to}
use Rattle.theory_graph.proofs.DistinctLists.{others, others_fewer}
use Rattle.theory_graph.proofs.Lists.{filter_in, in_filter}
use Rattle.theory_graph.proofs.Published.{joined_refl}
use Rattle.theory_graph.proofs.SpanningForest.{on_eq}
use Rattle.theory_graph.specs.Cut.{cut}
use Rattle.theory_graph.specs.Graph.{Edge, NodeSet, joined}
use Rattle.theory_graph.specs.SmallGraph.{no_edge}
use Rattle.theory_junctions.proofs.Colours.{closed_edge, closed_uncrossed, edge_closed}
use Rattle.theory_junctions.proofs.Replies.{ThirdParts, reply_one, reply_two, reply_zero}
use Rattle.theory_junctions.specs.Reply.{adjacent, losing, read_reply, reply}

-- beside two of at most three junctions there is one at most
third : (x y : ℕ) (J : List ℕ) → length J ≤ 3 → Memᴰ x J → Memᴰ y J → ¬ (x ≡ y) → (c : ℕ) × (¬ (c ≡ x)) × (¬ (c ≡ y)) × ((u : ℕ) → Memᴰ u J → ¬ (u ≡ x) → ¬ (u ≡ y) → u ≡ c)
unfolding others
third x y J l mx my ne = go (others y (others x J)) refl
  where
    few : length (others y (others x J)) ≤ 1
    few = omega (arith, others_fewer x J mx, others_fewer y (others x J) (in_filter (λ u. not (eqb u x)) y J my (ap not (ne_eqb y x (λ e. ne (sym e))))))

    inside : (u : ℕ) → Memᴰ u J → ¬ (u ≡ x) → ¬ (u ≡ y) → Memᴰ u (others y (others x J))
    inside u m nx ny = in_filter (λ u. not (eqb u y)) u (others x J) (in_filter (λ u. not (eqb u x)) u J m (ap not (ne_eqb u x nx))) (ap not (ne_eqb u y ny))

    go : (r : List ℕ) → others y (others x J) ≡ r → (c : ℕ) × (¬ (c ≡ x)) × (¬ (c ≡ y)) × ((u : ℕ) → Memᴰ u J → ¬ (u ≡ x) → ¬ (u ≡ y) → u ≡ c)
    go [] e = (suc (x + y), λ i. omega arith, λ i. omega arith, λ u m nx ny. absurd (none (subst (λ (l : List ℕ). Memᴰ u l) e (inside u m nx ny))))
      where
        none : {u : ℕ} → ¬ Memᴰ u []
        none m = elim m [ ]
    go (c ∷ []) e =
        let (k, ny) = filter_in (λ u. not (eqb u y)) c (others x J) (subst (λ (l : List ℕ). Memᴰ c l) (sym e) (Memᴰ.head refl)) in
        let (j, nx) = filter_in (λ u. not (eqb u x)) c J k in
        (c, eqb-false c x (not-true _ nx), eqb-false c y (not-true _ ny), λ u m ux uy. only (subst (λ (l : List ℕ). Memᴰ u l) e (inside u m ux uy)))
      where
        only : {u : ℕ} → Memᴰ u (c ∷ []) → u ≡ c
        only (Memᴰ.head p) = p
        only (Memᴰ.tail m) = absurd (elim m [ ])
    go (c ∷ b ∷ r) e = absurd (omega (arith, few, ap (λ l. length l) e))

-- ---- equal and adjacent junctions
pub reply_equal : (E : List Edge) (x : ℕ) → reply E x x ≡ 2
reply_equal E x = (reply_two E x x).1 (joined_refl E x, λ c a b. joined_refl (losing c E) x)

pub read_equal : (H : List Edge) (x : ℕ) → read_reply H x x ≡ 2
read_equal H x = ap (λ t. cond (t || adjacent H x x) 2 (cond (no_edge H) 0 1)) (eq-eqb x x refl)

adjacent_edge : (E : List Edge) (x y : ℕ) → adjacent E x y ≡ true → Memᴰ (x, y) E ⊎ Memᴰ (y, x) E
adjacent_edge [] x y h = contradict h refl
adjacent_edge (e ∷ E) x y h =
    or_elim _ _ h
    (λ h. or_elim _ _ h
    (λ h. and_elim _ _ h λ a b. inl (Memᴰ.head (ap₂ (λ s t. (s, t)) (sym (eqb-true e.0 x a)) (sym (eqb-true e.1 y b)))))
    (λ h. and_elim _ _ h λ a b. inr (Memᴰ.head (ap₂ (λ s t. (s, t)) (sym (eqb-true e.0 y a)) (sym (eqb-true e.1 x b))))))
    (λ h. more (adjacent_edge E x y h))
  where
    more : Memᴰ (x, y) E ⊎ Memᴰ (y, x) E → Memᴰ (x, y) (e ∷ E) ⊎ Memᴰ (y, x) (e ∷ E)
    more (inl m) = inl (Memᴰ.tail m)
    more (inr m) = inr (Memᴰ.tail m)

edge_adjacent : (E : List Edge) (p q x y : ℕ) → Memᴰ (p, q) E → (eqb p x && eqb q y || eqb p y && eqb q x) ≡ true → adjacent E x y ≡ true
edge_adjacent [] p q x y x4 h = elim x4 [ ]
edge_adjacent (e ∷ E) p q x y (Memᴰ.head i) h = ap (λ b. b || adjacent E x y) (ap (λ e. eqb e.0 x && eqb e.1 y || eqb e.0 y && eqb e.1 x) (sym i) ∙ h)
edge_adjacent (e ∷ E) p q x y (Memᴰ.tail m) h = go (eqb e.0 x && eqb e.1 y || eqb e.0 y && eqb e.1 x) (edge_adjacent E p q x y m h)
  where
    go : (b : Bool) → adjacent E x y ≡ true → (b || adjacent E x y) ≡ true
    go true h = refl
    go false h = h

pub reply_adjacent : (E : List Edge) (x y : ℕ) → adjacent E x y ≡ true → reply E x y ≡ 2
reply_adjacent E x y h =
    (reply_two E x y).1 (
      joined_from E x y (λ (U, p, q, c). contradict p (side U (λ a b m. closed_uncrossed U E c a b m refl refl) (adjacent_edge E x y h) ∙ q)),
      λ c nx ny. joined_from (losing c E) x y (λ (U, p, q, k). contradict p (kept U c nx ny k (adjacent_edge E x y h) ∙ q)),
    )
  where
    side : (U : NodeSet) → ((a b : ℕ) → Memᴰ (a, b) E → U a ≡ U b) → Memᴰ (x, y) E ⊎ Memᴰ (y, x) E → U x ≡ U y
    side U f (inl m) = f x y m
    side U f (inr m) = sym (f y x m)

    kept : (U : NodeSet) (c : ℕ) → ¬ (c ≡ x) → ¬ (c ≡ y) → cut U (losing c E) ≤ 0 → Memᴰ (x, y) E ⊎ Memᴰ (y, x) E → U x ≡ U y
    kept U c nx ny k (inl m) = closed_edge (λ v. not (eqb v c)) U x y E k m (ap not (ne_eqb x c (λ e. nx (sym e)))) (ap not (ne_eqb y c (λ e. ny (sym e))))
    kept U c nx ny k (inr m) = sym (closed_edge (λ v. not (eqb v c)) U y x E k m (ap not (ne_eqb y c (λ e. ny (sym e)))) (ap not (ne_eqb x c (λ e. nx (sym e)))))

-- ---- at most three junctions
module _ (H : List Edge) (J : List ℕ) (x y : ℕ) (few : length J ≤ 3) (mx : Memᴰ x J) (my : Memᴰ y J)
    (ends : (p q : ℕ) → Memᴰ (p, q) H → Memᴰ p J × Memᴰ q J) where
  -- neither equal nor adjacent: the third junction parts them
  apart : ¬ (x ≡ y) → adjacent H x y ≡ false → ThirdParts H x y
  apart ne off =
      let (c, nx, ny, only) = third x y J few mx my ne in
      (c, nx, ny, on_bool (joined (losing c H) x y) (λ j. absurd (joined_to (losing c H) x y j (eqb x, eq-eqb x x refl, ne_eqb x y ne, closed c nx ny only))) (λ j. j))
    where
      -- an edge that does not touch c has both ends at x or both at y
      same : (c p q : ℕ) → ((u : ℕ) → Memᴰ u J → ¬ (u ≡ x) → ¬ (u ≡ y) → u ≡ c) → Memᴰ (p, q) H → ¬ (p ≡ c) → ¬ (q ≡ c) → eqb x p ≡ eqb x q
      same c p q only m np nq =
          let (jp, jq) = ends p q m in
          on_eq p x
          (λ px. on_eq q x (λ qx. ap (eqb x) (px ∙ sym qx)) λ nx. on_eq q y
          (λ qy. contradict (edge_adjacent H p q x y m (ap₂ (λ a b. a && b || eqb p y && eqb q x) (eq-eqb p x px) (eq-eqb q y qy))) off)
          (λ ny. absurd (nq (only q jq nx ny))))
          λ mx. on_eq p y
          (λ py. on_eq q x
          (λ qx. contradict (edge_adjacent H p q x y m (ap₂ (λ a b. a && eqb q y || b && eqb q x) (ne_eqb p x mx) (eq-eqb p y py) ∙ eq-eqb q x qx)) off)
          (λ nx. ne_eqb x p (λ e. mx (sym e)) ∙ sym (ne_eqb x q (λ e. nx (sym e)))))
          (λ my. absurd (np (only p jp mx my)))

      closed : (c : ℕ) → ¬ (c ≡ x) → ¬ (c ≡ y) → ((u : ℕ) → Memᴰ u J → ¬ (u ≡ x) → ¬ (u ≡ y) → u ≡ c) → cut (eqb x) (losing c H) ≤ 0
      closed c nx ny only = edge_closed (λ v. not (eqb v c)) (eqb x) H λ p q m s t. same c p q only m (eqb-false p c (not-true _ s)) (eqb-false q c (not-true _ t))

  pub read_reply_lem : (no_edge H ≡ false → joined H x y ≡ true) → reply H x y ≡ read_reply H x y
  read_reply_lem any =
      on_eq x y
      (λ e. ap (λ s. reply H s y) e ∙ reply_equal H y ∙ sym (ap (λ b. cond (b || adjacent H x y) 2 (cond (no_edge H) 0 1)) (eq-eqb x y e)))
      λ ne. on_bool (adjacent H x y)
      (λ a. reply_adjacent H x y a ∙ sym (ap₂ (λ s t. cond (s || t) 2 (cond (no_edge H) 0 1)) (ne_eqb x y ne) a))
      λ a. let off : (eqb x y || adjacent H x y) ≡ false = ap₂ ◌||◌ (ne_eqb x y ne) a in
      on_bool (no_edge H)
      (λ n. (reply_zero H x y).1 (empty H n ne) ∙ sym (ap₂ (λ s t. cond s 2 (cond t 0 1)) off n))
      (λ n. (reply_one H x y).1 (any n, apart ne a) ∙ sym (ap₂ (λ s t. cond s 2 (cond t 0 1)) off n))
    where
      empty : (H : List Edge) → no_edge H ≡ true → ¬ (x ≡ y) → joined H x y ≡ false
      empty [] n ne = on_bool (joined [] x y) (λ j. absurd (joined_to [] x y j (eqb x, eq-eqb x x refl, ne_eqb x y ne, omega arith))) (λ j. j)
      empty (e ∷ H) n ne = contradict n refl
