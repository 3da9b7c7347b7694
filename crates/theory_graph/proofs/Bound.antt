-- The bound (docs/theory.md 6): k different active nodes keep at most 2k - 2 classes, k where k is below 2.
-- By induction on the active nodes: a new one adds its own class and at most one class that branches.
-- Assumes nothing.
use Prim.Native.Nat.{◌*◌, ◌+◌, ◌-◌, ◌≤◌, suc, zero, ℕ}
use mathlib.Core.Bool.{Bool, ◌&&◌, ◌||◌, cond, false, not, true}
use mathlib.Core.List.Memᴰ
use mathlib.Core.List.{List, Memᴰ, [], ◌∷◌}
use mathlib.Core.Logic.{◌⊎◌, inl, inr}
use mathlib.Core.Path.{◌∙◌, ◌≡◌, ap, ap₂, refl, subst, sym}
use lib.ListN.{length}
use native.Mathlib.Omega.{arith}
use borrow.Author.Tests.{le-ltb}
use Rattle.theory_graph.proofs.Booleans.{and_elim, contradict, majority, on_bool}
use Rattle.theory_graph.proofs.CutOffs.{cut_off, cut_off_complete, cut_off_sound}
use Rattle.theory_graph.proofs.Cuts.{cut_complement}
use Rattle.theory_graph.proofs.Kept.{Kept, kept_active, kept_class}
use Rattle.theory_graph.proofs.Lists.{All, all_and, all_filter, all_map, any_find, any_in, filter_all, filter_length}
use Rattle.theory_graph.proofs.Medians.{Median, between_median, median_between, median_same, median_swap12, median_swap23}
use Rattle.theory_graph.proofs.Reach.{connected_reach, reach, reach_connected}
use Rattle.theory_graph.proofs.Separation.{cuts_uncrossed, insep_sym, insep_trans}
use Rattle.theory_graph.specs.Cut.{Between, Connected, Separated, TwoEdgeConnected, cut, ∁}
use Rattle.theory_graph.specs.Graph.{Edge, NodeSet}
use Rattle.theory_graph.specs.Lists.{any, filter}
use Rattle.theory_graph.specs.SmallGraph.{most_nodes}

-- pairwise in different classes
abbrev pub Apart : List Edge → List ℕ → Type 0
Apart E [] = Unit {0}
Apart E (x ∷ xs) = All (Separated 1 E x) xs × Apart E xs

pub apart_filter : (E : List Edge) (f : ℕ → Bool) (xs : List ℕ) → Apart E xs → Apart E (filter f xs)
apart_filter E f [] a = tt
apart_filter E f (x ∷ xs) a = go (f x) (apart_filter E f xs a.1)
  where
    go : (b : Bool) → Apart E (filter f xs) → Apart E (cond b (x ∷ filter f xs) (filter f xs))
    go true r = (all_filter (Separated 1 E x) f xs a.0, r)
    go false r = r

-- ---- kept, decided
unfoldable pub three_between : List Edge → ℕ → ℕ → ℕ → ℕ → Bool
three_between E z a b c = (reach E z a && (reach E z b && reach E z c)) && (not (cut_off E z a b) && (not (cut_off E z b c) && not (cut_off E z a c)))

unfoldable pub kept_by_cuts : List Edge → List ℕ → ℕ → Bool
kept_by_cuts E S z = any (λ a. any (λ b. any (three_between E z a b) S) S) S

no_side : (E : List Edge) (z x y : ℕ) → not (cut_off E z x y) ≡ true → Between E x z y
no_side E z x y h s = contradict h (ap not (cut_off_complete E z x y s))

no_side_is : (E : List Edge) (z x y : ℕ) → Between E x z y → not (cut_off E z x y) ≡ true
no_side_is E z x y n = on_bool (cut_off E z x y) (λ t. absurd (n (cut_off_sound E z x y t))) (λ f. ap not f)

pub kept_by_cuts_sound : (E : List Edge) (S : List ℕ) (z : ℕ) → kept_by_cuts E S z ≡ true → Kept E S z
unfolding kept_by_cuts three_between
kept_by_cuts_sound E S z h =
    let (a, ia, p) = any_find _ S h in
    let (b, ib, q) = any_find _ S p in
    let (c, ic, r) = any_find _ S q in
    and_elim _ _ r λ j s. and_elim _ _ j λ ja j. and_elim _ _ j λ jb jc. and_elim _ _ s λ ab s. and_elim _ _ s λ bc ac.
    record {
      a = a;
      b = b;
      c = c;
      in_a = ia;
      in_b = ib;
      in_c = ic;
      to_a = reach_connected E z a ja;
      to_b = reach_connected E z b jb;
      to_c = reach_connected E z c jc;
      mid = between_median E a b c z (no_side E z a b ab) (no_side E z b c bc) (no_side E z a c ac);
    }

pub kept_by_cuts_complete : (E : List Edge) (S : List ℕ) (z : ℕ) → Kept E S z → kept_by_cuts E S z ≡ true
unfolding kept_by_cuts three_between
kept_by_cuts_complete E S z k =
    let bc : Median E k.b k.c k.a z = median_swap23 E k.b k.a k.c z (median_swap12 E k.a k.b k.c z k.mid) in
    any_in _ k.in_a (any_in _ k.in_b (any_in _ k.in_c
    (ap₂ ◌&&◌ (ap₂ ◌&&◌ (connected_reach E z k.a k.to_a) (ap₂ ◌&&◌ (connected_reach E z k.b k.to_b) (connected_reach E z k.c k.to_c)))
    (ap₂ ◌&&◌ (no_side_is E z k.a k.b (median_between E _ _ k.c z k.mid))
    (ap₂ ◌&&◌ (no_side_is E z k.b k.c (median_between E _ _ k.a z bc)) (no_side_is E z k.a k.c (median_between E _ _ k.b z (median_swap23 E _ _ _ z k.mid))))))))

-- ---- one more active node
module _ (E : List Edge) (s : ℕ) (S : List ℕ) where
  -- u is the median of s and two old ones, and was not kept
  record Branch (u : ℕ) : Type 0 where
    a : ℕ
    b : ℕ
    in_a : Memᴰ a S
    in_b : Memᴰ b S
    to_s : Connected E u s
    to_a : Connected E u a
    to_b : Connected E u b
    mid : Median E s a b u
    new : ¬ Kept E S u

  -- W has s, u and a, and not v: then v is the median of a and its own two
  beside : (W : NodeSet) (u v a : ℕ) → Memᴰ a S → Connected E u a → Connected E u s → W a ≡ true → (q : Branch v) → cut W E ≤ 1 → W s ≡ true → W v ≡ false → ⊥
  beside W u v a ia ua us Wa q h Ws Wv =
      let o = outs (W s) (W q.a) (W q.b) Ws (sym (q.mid W h) ∙ Wv) in
      let va : Connected E v a = insep_trans E q.to_s (insep_trans E (insep_sym E us) ua) in
      q.new (record {
        a = a;
        b = q.a;
        c = q.b;
        in_a = ia;
        in_b = q.in_a;
        in_c = q.in_b;
        to_a = va;
        to_b = q.to_a;
        to_c = q.to_b;
        mid = between_median E a q.a q.b v
            (third q.a q.b q.to_a q.to_b va q.mid o.0 o.1)
            (median_between E q.a q.b s v (median_swap23 E _ _ _ v (median_swap12 E _ _ _ v q.mid)))
            (third q.b q.a q.to_b q.to_a va (median_swap23 E _ _ _ v q.mid) o.1 o.0);
      })
    where
      outs : (x y z : Bool) → x ≡ true → majority x y z ≡ false → (y ≡ false) × (z ≡ false)
      outs true true z e f = contradict refl f
      outs true false true e f = contradict refl f
      outs true false false e f = (refl, refl)
      outs false y z e f = contradict e refl

      ins : (x y z : Bool) → y ≡ false → majority x y z ≡ true → (x ≡ true) × (z ≡ true)
      ins true true z e f = contradict refl e
      ins true false true e f = (refl, refl)
      ins true false false e f = contradict f refl
      ins false true z e f = contradict refl e
      ins false false z e f = contradict f refl

      third : (b c : ℕ) → Connected E v b → Connected E v c → Connected E v a → Median E s b c v → W b ≡ false → W c ≡ false → Between E a v b
      third b c vb vc va m Wb Wc (R, Rv, Ra, Rb, hR) =
          let i = ins (R s) (R b) (R c) Rb (sym (m R hR) ∙ Rv) in
          let to : (x : ℕ) → Connected E v x → Connected E x b = λ x j. insep_trans E (insep_sym E j) vb in
          cuts_uncrossed E W R s c a b h hR (to s q.to_s) (to c vc) (to a va) Ws i.0 Wc i.1 Wa Ra Wb Rb

  one_way : (W : NodeSet) (u v : ℕ) → Branch u → Branch v → cut W E ≤ 1 → W s ≡ true → W u ≡ true → W v ≡ false → ⊥
  one_way W u v p q h Ws Wu Wv =
      on_bool (W p.a) (λ t. beside W u v p.a p.in_a p.to_a p.to_s t q h Ws Wv) λ f.
      on_bool (W p.b) (λ t. beside W u v p.b p.in_b p.to_b p.to_s t q h Ws Wv) λ g.
      contradict (sym (p.mid W h) ∙ Wu) (low (W s) f g)
    where
      low : {y z : Bool} (x : Bool) → y ≡ false → z ≡ false → majority x y z ≡ false
      low true e f = ap₂ (λ y z. (y || z) || y && z) e f
      low false e f = ap₂ ◌&&◌ e f

  branch_one : (u v : ℕ) → Branch u → Branch v → Separated 1 E u v → ⊥
  branch_one u v p q (W, Wu, Wv, h) =
      on_bool (W s) (λ t. one_way W u v p q h t Wu Wv) (λ f. one_way (∁ W) v u q p (omega (arith, cut_complement W E)) (ap not f) (ap not Wv) (ap not Wu))

  abbrev Role : ℕ → Type 0
  Role u = TwoEdgeConnected E u s ⊎ Branch u

  role : (u : ℕ) → Kept E (s ∷ S) u → ¬ Kept E S u → Role u
  role u k n = go k.a k.b k.c k.in_a k.in_b k.in_c k.to_a k.to_b k.to_c k.mid
    where
      make : (x a b : ℕ) → x ≡ s → Memᴰ a S → Memᴰ b S → Connected E u x → Connected E u a → Connected E u b → Median E x a b u → Role u
      make x a b e ia ib jx ja jb m =
          inr (record { a = a; b = b; in_a = ia; in_b = ib; to_s = subst (λ (v : ℕ). Connected E u v) e jx; to_a = ja; to_b = jb; mid = subst (λ (v : ℕ). Median E v a b u) e m; new = n })

      pair : (x y b : ℕ) → x ≡ s → y ≡ s → Median E x y b u → Role u
      pair x y b e f m = inl (median_same E s b u (subst (λ (v : ℕ). Median E s v b u) f (subst (λ (v : ℕ). Median E v y b u) e m)))

      go : (a b c : ℕ) → Memᴰ a (s ∷ S) → Memᴰ b (s ∷ S) → Memᴰ c (s ∷ S) → Connected E u a → Connected E u b → Connected E u c → Median E a b c u → Role u
      go a b c (Memᴰ.head p) (Memᴰ.head q) ic ja jb jc m = pair a b c p q m
      go a b c (Memᴰ.head p) (Memᴰ.tail y) (Memᴰ.head r) ja jb jc m = pair a c b p r (median_swap23 E a b c u m)
      go a b c (Memᴰ.head p) (Memᴰ.tail y) (Memᴰ.tail z) ja jb jc m = make a b c p y z ja jb jc m
      go a b c (Memᴰ.tail x) (Memᴰ.head q) (Memᴰ.head r) ja jb jc m = pair b c a q r (median_swap23 E b a c u (median_swap12 E a b c u m))
      go a b c (Memᴰ.tail x) (Memᴰ.head q) (Memᴰ.tail z) ja jb jc m = make b a c q x z jb ja jc (median_swap12 E a b c u m)
      go a b c (Memᴰ.tail x) (Memᴰ.tail y) (Memᴰ.head r) ja jb jc m = make c a b r x y jc ja jb (median_swap12 E a c b u (median_swap23 E a b c u m))
      go a b c (Memᴰ.tail x) (Memᴰ.tail y) (Memᴰ.tail z) ja jb jc m =
          absurd (n (record { a = a; b = b; c = c; in_a = x; in_b = y; in_c = z; to_a = ja; to_b = jb; to_c = jc; mid = m }))

  both_s : (u v : ℕ) → TwoEdgeConnected E u s → TwoEdgeConnected E v s → Separated 1 E u v → ⊥
  both_s u v p q = insep_trans E p (insep_sym E q)

  pigeon : (x y z : ℕ) → Role x → Role y → Role z → Separated 1 E x y → Separated 1 E x z → Separated 1 E y z → ⊥
  pigeon x y z (inl p) (inl q) r xy xz yz = both_s x y p q xy
  pigeon x y z (inl p) (inr q) (inl r) xy xz yz = both_s x z p r xz
  pigeon x y z (inl p) (inr q) (inr r) xy xz yz = branch_one y z q r yz
  pigeon x y z (inr p) (inl q) (inl r) xy xz yz = both_s y z q r yz
  pigeon x y z (inr p) (inl q) (inr r) xy xz yz = branch_one x z p r xz
  pigeon x y z (inr p) (inr q) r xy xz yz = branch_one x y p q xy

  most_two : (B : List ℕ) → Apart E B → All Role B → length B ≤ 2
  most_two [] a r = omega arith
  most_two (x ∷ []) a r = omega arith
  most_two (x ∷ y ∷ []) a r = omega arith
  most_two (x ∷ y ∷ z ∷ B) a r = absurd (pigeon x y z r.0 r.1.0 r.1.1.0 a.0.0 a.0.1.0 a.1.0.0)

  -- a single old one has no branch
  most_one : ((a b : ℕ) → Memᴰ a S → Memᴰ b S → a ≡ b) → (B : List ℕ) → Apart E B → All Role B → length B ≤ 1
  most_one e [] a r = omega arith
  most_one e (x ∷ []) a r = omega arith
  most_one e (x ∷ y ∷ B) a r = absurd (both_s x y (at_s x r.0) (at_s y r.1.0) a.0.0)
    where
      at_s : (u : ℕ) → Role u → TwoEdgeConnected E u s
      at_s u (inl p) = p
      at_s u (inr q) =
          absurd (q.new (kept_class E S u q.a
          (median_same E q.a s u (subst (λ (v : ℕ). Median E q.a v s u) (sym (e q.a q.b q.in_a q.in_b))
          (median_swap23 E _ _ _ u (median_swap12 E _ _ _ u q.mid)))) (kept_active E S q.a q.in_a)))

-- the bound by clauses: each new active node from the third on adds two
abbrev pub limit : ℕ → ℕ
limit zero = 0
limit (suc zero) = 1
limit (suc (suc n)) = n + n + 2

limit_step : (S : List ℕ) (n a b : ℕ) → n ≡ a + b → a ≤ limit (length S) → b ≤ 2 → (((x y : ℕ) → Memᴰ x S → Memᴰ y S → x ≡ y) → b ≤ 1) → n ≤ limit (suc (length S))
limit_step [] n a b e h k l = omega (arith, l (λ x y i j. absurd (Memᴰ.not-nil i)))
limit_step (t ∷ []) n a b e h k l = omega (arith, l (λ x y i j. Memᴰ.eq_of_singleton i ∙ sym (Memᴰ.eq_of_singleton j)))
limit_step (t ∷ u ∷ S) n a b e h k l = omega arith

pub kept_bound : (E : List Edge) (S L : List ℕ) → Apart E L → All (Kept E S) L → length L ≤ limit (length S)
kept_bound E [] [] a k = omega arith
kept_bound E [] (x ∷ L) a k = absurd (Memᴰ.not-nil k.0.in_a)
kept_bound E (s ∷ S) L a k =
    let f = kept_by_cuts E S in
    let g : ℕ → Bool = λ x. not (f x) in
    let r : All (Role E s S) (filter g L) =
    all_map (filter g L) (λ u p. role E s S u p.0 (λ q. contradict p.1 (ap not (kept_by_cuts_complete E S u q))))
    (all_and (Kept E (s ∷ S)) (λ u. g u ≡ true) (filter g L) (all_filter (Kept E (s ∷ S)) g L k) (filter_all g L)) in
    limit_step S (length L) (length (filter f L)) (length (filter g L)) (filter_length f L)
    (kept_bound E S (filter f L) (apart_filter E f L a) (all_map (filter f L) (kept_by_cuts_sound E S) (filter_all f L)))
    (most_two E s S (filter g L) (apart_filter E g L a) r) (λ e. most_one E s S e (filter g L) (apart_filter E g L a) r)

pub limit_is : (k : ℕ) → limit k ≡ most_nodes k
limit_is zero = refl
limit_is (suc zero) = refl
limit_is (suc (suc k)) = omega arith ∙ sym (ap (λ (b : Bool). cond b (suc (suc k)) (2 * suc (suc k) - 2)) (le-ltb (suc (suc k)) 2 (omega arith)))
