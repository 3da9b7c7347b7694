-- What a small graph determines: its bound, the number of its nodes, the numbers of active nodes, and, given the nodes' classes, its edges.
-- Assumes nothing.
use Prim.Native.Nat.{◌+◌, ◌<◌, ◌≤◌, suc, zero, ℕ}
use mathlib.Core.Bool.{Bool, ◌&&◌, not, true}
use mathlib.Core.List.{List, Memᴰ, [], ◌∷◌, map}
use mathlib.Core.Logic.{◌⊎◌, inl, inr}
use mathlib.Core.Path.{◌∙◌, ◌≡◌, ap, ap₂, refl, subst, sym}
use lib.Dec.{eqb, ltb}
use lib.ListN.{length}
use native.Mathlib.Omega.{arith}
use borrow.Author.Tests.{eq-eqb, eqb-false, eqb-true, ltb-true}
use Rattle.theory_graph.proofs.Booleans.{and_elim, contradict, on_bool, or_elim}
use Rattle.theory_graph.proofs.Bound.{Apart, apart_filter, kept_bound, limit, limit_is}
use Rattle.theory_graph.proofs.CutOffs.{cut_off, cut_off_complete, cut_off_sound, on_two_edge}
use Rattle.theory_graph.proofs.Kept.{Kept}
use Rattle.theory_graph.proofs.Lists.{All, filter_all, filter_in, filter_length, firsts_cover, table_all, table_in, table_length, table_mem}
use Rattle.theory_graph.proofs.Separation.{insep_sym, insep_trans, same_side, two_edge_connected}
use Rattle.theory_graph.proofs.SmallGraphs.{SmallGraph, less_all_in}
use Rattle.theory_graph.specs.Cut.{Between, Separated, TwoEdgeConnected}
use Rattle.theory_graph.specs.Graph.{Edge}
use Rattle.theory_graph.specs.Lists.{filter, firsts, table}
use Rattle.theory_graph.specs.SmallGraph.{Ascends, EdgeLess, different, in_order, most_nodes}

pub kept_sub : (E : List Edge) (S T : List ℕ) (z : ℕ) → ((a : ℕ) → Memᴰ a S → Memᴰ a T) → Kept E S z → Kept E T z
kept_sub E S T z f k =
    record { a = k.a; b = k.b; c = k.c; in_a = f _ k.in_a; in_b = f _ k.in_b; in_c = f _ k.in_c; to_a = k.to_a; to_b = k.to_b; to_c = k.to_c; mid = k.mid }

table_apart : (E : List Edge) (ρ : ℕ → ℕ) (i n : ℕ) → ((j k : ℕ) → j < i + n → k < i + n → TwoEdgeConnected E (ρ j) (ρ k) → j ≡ k) → Apart E (table ρ i n)
table_apart E ρ i zero f = tt
table_apart E ρ i (suc n) f = (
  table_all (Separated 1 E (ρ i)) ρ (suc i) n (λ j a b. on_two_edge E (ρ i) (ρ j) (λ s. s) (λ t. absurd (omega (arith, f i j (omega arith) (omega arith) t)))),
  table_apart E ρ (suc i) n (λ j k a b. f j k (omega arith) (omega arith)),
)

-- ---- the bound
pub small_bound : (E : List Edge) (S : List ℕ) (h : ℕ) (H : List Edge) (ρ σ : ℕ → ℕ) → SmallGraph E S h H ρ σ → h ≤ most_nodes (different S)
small_bound E S h H ρ σ g =
    let T = firsts eqb S in
    let in_T : (a : ℕ) → Memᴰ a S → Memᴰ a T =
    λ a m. let (c, n, e) = firsts_cover eqb (λ x. eq-eqb x x refl) (λ x y z p q. eq-eqb x z (eqb-true x y p ∙ eqb-true y z q)) a S m in subst (λ (v : ℕ). Memᴰ v T) (eqb-true c a e) n in
    let b : length (table ρ 0 h) ≤ limit (length T) =
    kept_bound E T (table ρ 0 h) (table_apart E ρ 0 h (λ j k a b. g.once j k (omega arith) (omega arith)))
    (table_all (Kept E T) ρ 0 h (λ j a b. kept_sub E S T (ρ j) in_T (g.kept j (omega arith)))) in
    subst (λ (k : ℕ). h ≤ k) (limit_is (length T)) (omega (arith, table_length ρ 0 h))

-- ---- a list of nodes in different classes, each in the class of one of M
pigeons : (E : List Edge) (L M : List ℕ) → Apart E L → ((x : ℕ) → Memᴰ x L → (y : ℕ) × Memᴰ y M × TwoEdgeConnected E x y) → length L ≤ length M
pigeons E [] [] a f = omega arith
pigeons E (x ∷ L) [] a f = let (y, m, t) = f x (Memᴰ.head refl) in absurd (elim m [ ])
pigeons E L (y ∷ M) a f =
    let p : ℕ → Bool = λ x. cut_off E x y y in
    let q : ℕ → Bool = λ x. not (cut_off E x y y) in
    omega (arith, filter_length p L, few (filter q L) (apart_filter E q L a) (filter_all q L), pigeons E (filter p L) M (apart_filter E p L a) (rest p (λ x h. h)))
  where
    few : (K : List ℕ) → Apart E K → All (λ x. not (cut_off E x y y) ≡ true) K → length K ≤ 1
    few [] a b = omega arith
    few (x ∷ []) a b = omega arith
    few (x ∷ z ∷ K) a b = absurd (insep_trans E (two x b.0) (insep_sym E (two z b.1.0)) a.0.0)
      where
        two : (x : ℕ) → not (cut_off E x y y) ≡ true → TwoEdgeConnected E x y
        two x h (U, s, t, c) = contradict h (ap not (cut_off_complete E x y y (U, s, t, t, c)))

    rest : (p : ℕ → Bool) → ((x : ℕ) → p x ≡ true → cut_off E x y y ≡ true) → (x : ℕ) → Memᴰ x (filter p L) → (z : ℕ) × Memᴰ z M × TwoEdgeConnected E x z
    rest p e x m = let (n, h) = filter_in p x L m in let (z, k, t) = f x n in go z k t (e x h)
      where
        go : {x : ℕ} (z : ℕ) → Memᴰ z (y ∷ M) → TwoEdgeConnected E x z → cut_off E x y y ≡ true → (z : ℕ) × Memᴰ z M × TwoEdgeConnected E x z
        go {x} z (Memᴰ.head r) t h = let s = cut_off_sound E x y y h in absurd (subst (λ (v : ℕ). TwoEdgeConnected E x v) r t (s.0, s.1, s.2, s.4))
        go z (Memᴰ.tail k) t h = (z, k, t)

order_out : {A : Type 0} (n x : ℕ) (xs : List ℕ) → in_order n (x ∷ xs) ≡ true → (x < n → in_order n xs ≡ true → A) → (x ≡ n → in_order (suc n) xs ≡ true → A) → A
order_out n x xs h f k =
    or_elim (ltb x n && in_order n xs) (eqb x n && in_order (suc n) xs) h
    (λ p. and_elim (ltb x n) (in_order n xs) p λ a b. f (ltb-true x n a) b) (λ p. and_elim (eqb x n) (in_order (suc n) xs) p λ a b. k (eqb-true x n a) b)

module _ (E : List Edge) (S : List ℕ) (h : ℕ) (H : List Edge) (ρ σ : ℕ → ℕ) (g : SmallGraph E S h H ρ σ) (h' : ℕ) (H' : List Edge) (ρ' σ' : ℕ → ℕ) (g' : SmallGraph E S h' H' ρ' σ') where
  nodes_le : h ≤ h'
  nodes_le =
      let l : length (table ρ 0 h) ≤ length (table ρ' 0 h') =
      pigeons E (table ρ 0 h) (table ρ' 0 h') (table_apart E ρ 0 h (λ j k a b. g.once j k (omega arith) (omega arith)))
      (λ x m. let (k, l, e) = table_mem ρ 0 h x m in let (i, li, t) = g'.all (ρ k) (g.kept k (omega arith)) in
      (ρ' i, table_in ρ' 0 h' i (omega arith) (omega arith), subst (λ (v : ℕ). TwoEdgeConnected E v (ρ' i)) (sym e) t)) in
      omega (arith, table_length ρ 0 h, table_length ρ' 0 h')

  -- active nodes that have one number in one have one in the other
  same_class : (a b : ℕ) → Memᴰ a S → Memᴰ b S → σ a ≡ σ b → σ' a ≡ σ' b
  same_class a b ma mb e =
      let (la, ta) = g.place a ma in
      let (lb, tb) = g.place b mb in
      let (ka, ua) = g'.place a ma in
      let (kb, ub) = g'.place b mb in
      let ab : TwoEdgeConnected E a b = insep_trans E (subst (λ (v : ℕ). TwoEdgeConnected E a (ρ v)) e ta) (insep_sym E tb) in
      g'.once (σ' a) (σ' b) ka kb (insep_trans E (insep_sym E ua) (insep_trans E ab ub))

module _ (E : List Edge) (S : List ℕ) (h : ℕ) (H : List Edge) (ρ σ : ℕ → ℕ) (g : SmallGraph E S h H ρ σ) (h' : ℕ) (H' : List Edge) (ρ' σ' : ℕ → ℕ) (g' : SmallGraph E S h' H' ρ' σ') where
  pub nodes_same : h ≡ h'
  nodes_same = omega (arith, nodes_le E S h H ρ σ g h' H' ρ' σ' g', nodes_le E S h' H' ρ' σ' g' h H ρ σ g)

  orders : (T : List ℕ) (n : ℕ) → ((a : ℕ) → Memᴰ a T → Memᴰ a S) → in_order n (map σ T) ≡ true → in_order n (map σ' T) ≡ true
      → ((b : ℕ) → Memᴰ b S → (σ b < n) ⊎ (σ' b < n) → σ b ≡ σ' b) → map σ T ≡ map σ' T
  orders [] n sub p q f = refl
  orders (x ∷ T) n sub p q f =
      let mx = sub x (Memᴰ.head refl) in
      let tail : (a : ℕ) → Memᴰ a T → Memᴰ a S = λ a m. sub a (Memᴰ.tail m) in
      order_out n (σ x) (map σ T) p
      (λ l p. let e = f x mx (inl l) in
      order_out n (σ' x) (map σ' T) q (λ k q. ap₂ ◌∷◌ e (orders T n tail p q f)) (λ k q. absurd (omega arith)))
      (λ l p. order_out n (σ' x) (map σ' T) q (λ k q. absurd (omega (arith, f x mx (inr k))))
      (λ k q. ap₂ ◌∷◌ (l ∙ sym k) (orders T (suc n) tail p q (λ b mb w. more x mx l k b mb (f b mb) w))))
    where
      more : (x : ℕ) → Memᴰ x S → σ x ≡ n → σ' x ≡ n → (b : ℕ) → Memᴰ b S → ((σ b < n) ⊎ (σ' b < n) → σ b ≡ σ' b) → (σ b < suc n) ⊎ (σ' b < suc n) → σ b ≡ σ' b
      more x mx l k b mb f (inl w) =
          on_bool (eqb (σ b) n) (λ t. let e = eqb-true (σ b) n t in e ∙ sym k ∙ sym (same_class E S h H ρ σ g h' H' ρ' σ' g' b x mb mx (e ∙ sym l))) λ t.
          let e : ¬ (σ b ≡ n) = eqb-false (σ b) n t in f (inl (omega arith))
      more x mx l k b mb f (inr w) =
          on_bool (eqb (σ' b) n) (λ t. let e = eqb-true (σ' b) n t in same_class E S h' H' ρ' σ' g' h H ρ σ g b x mb mx (e ∙ sym k) ∙ l ∙ sym e) λ t.
          let e : ¬ (σ' b ≡ n) = eqb-false (σ' b) n t in f (inr (omega arith))

  pub places_same : map σ S ≡ map σ' S
  places_same = orders S 0 (λ a m. m) g.order g'.order (λ b m w. absurd (none w))
    where
      none : {a b : ℕ} → (a < 0) ⊎ (b < 0) → ⊥
      none (inl p) = omega arith
      none (inr p) = omega arith

-- ---- lists with the same edges, ascending, are one
less_not : (e f : Edge) → EdgeLess e f → EdgeLess f e → ⊥
less_not e f (inl p) (inl q) = omega arith
less_not e f (inl p) (inr q) = omega arith
less_not e f (inr p) (inl q) = omega arith
less_not e f (inr p) (inr q) = omega arith

less_self : (e f : Edge) → e ≡ f → EdgeLess e f → ⊥
less_self e f r (inl p) = omega (arith, ap (λ (e : Edge). e.0) r)
less_self e f r (inr p) = omega (arith, ap (λ (e : Edge). e.1) r)

pub ascends_same : (G H : List Edge) → Ascends G → Ascends H → ((e : Edge) → Memᴰ e G → Memᴰ e H) → ((e : Edge) → Memᴰ e H → Memᴰ e G) → G ≡ H
ascends_same [] [] a b f k = refl
ascends_same [] (e ∷ H) a b f k = let m = k e (Memᴰ.head refl) in absurd (elim m [ ])
ascends_same (e ∷ G) [] a b f k = let m = f e (Memᴰ.head refl) in absurd (elim m [ ])
ascends_same (x ∷ G) (y ∷ H) a b f k =
    let e : x ≡ y = first (f x (Memᴰ.head refl)) (k y (Memᴰ.head refl)) in
    ap₂ ◌∷◌ e (ascends_same G H a.1 b.1 (λ z m. later z y (f z (Memᴰ.tail m)) (λ p. less_self x z (e ∙ sym p) (less_all_in x z a.0 m)))
    (λ z m. later z x (k z (Memᴰ.tail m)) (λ p. less_self y z (sym e ∙ sym p) (less_all_in y z b.0 m))))
  where
    first : Memᴰ x (y ∷ H) → Memᴰ y (x ∷ G) → x ≡ y
    first (Memᴰ.head p) n = p
    first (Memᴰ.tail m) (Memᴰ.head q) = sym q
    first (Memᴰ.tail m) (Memᴰ.tail n) = absurd (less_not x y (less_all_in x y a.0 n) (less_all_in y x b.0 m))

    later : (z w : Edge) {K : List Edge} → Memᴰ z (w ∷ K) → ¬ (z ≡ w) → Memᴰ z K
    later z w (Memᴰ.head p) n = absurd (n p)
    later z w (Memᴰ.tail m) n = m

-- the edges follow from the nodes' classes
pub edges_same : (E : List Edge) (S : List ℕ) (h : ℕ) (H H' : List Edge) (ρ ρ' σ σ' : ℕ → ℕ) → SmallGraph E S h H ρ σ → SmallGraph E S h H' ρ' σ'
    → ((i : ℕ) → i < h → TwoEdgeConnected E (ρ i) (ρ' i)) → H ≡ H'
edges_same E S h H H' ρ ρ' σ σ' g g' t = ascends_same H H' g.ascends g'.ascends (λ e m. there H H' ρ ρ' σ σ' g g' t e m)
    (λ e m. there H' H ρ' ρ σ' σ g' g (λ i l. insep_sym E (t i l)) e m)
  where
    btw_all : (x z y u v w : ℕ) → TwoEdgeConnected E x u → TwoEdgeConnected E z v → TwoEdgeConnected E y w → Between E u v w → Between E x z y
    btw_all x z y u v w p q r b (U, s, m, n, c) = b (U, sym (same_side E z v q U c) ∙ s, sym (same_side E x u p U c) ∙ m, sym (same_side E y w r U c) ∙ n, c)

    there : (H H' : List Edge) (ρ ρ' σ σ' : ℕ → ℕ) → SmallGraph E S h H ρ σ → SmallGraph E S h H' ρ' σ' → ((i : ℕ) → i < h → TwoEdgeConnected E (ρ i) (ρ' i))
        → (e : Edge) → Memᴰ e H → Memᴰ e H'
    there H H' ρ ρ' σ σ' g g' t e m =
        let (a, b, l) = g.edge e.0 e.1 m in
        let a' : e.0 < h = omega arith in
        g'.linked e.0 e.1 a b (record {
          to = insep_trans E (insep_sym E (two_edge_connected E (t e.0 a'))) (insep_trans E l.to (two_edge_connected E (t e.1 b)));
          third = λ k lk w. l.third k lk (btw_all _ _ _ _ _ _ (t e.0 a') (t k lk) (t e.1 b) w);
        })
