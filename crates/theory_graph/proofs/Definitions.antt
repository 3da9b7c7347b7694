-- The definitions that compute say what the cuts say: joined is Connected, two_edge is TwoEdgeConnected, without is the graph outside a class,
-- kept is Kept, answer is the answer by cuts. Each bridge is proved once, in both directions, and the theory goes on with the cuts.
-- Assumes nothing.
use Prim.Native.Nat.{◌+◌, ◌<◌, ◌≤◌, ℕ}
use mathlib.Core.Bool.{Bool, ◌&&◌, ◌||◌, cond, false, not, or-true, true}
use mathlib.Core.List.{List, Memᴰ, [], ◌∷◌, map}
use mathlib.Core.Path.{◌∙◌, ◌≡◌, ap, ap₂, refl, subst, sym}
use lib.Dec.{eqb, leb}
use lib.ListN.{length}
use native.Mathlib.Omega.{arith}
use borrow.Author.Tests.{eq-eqb, eqb-true, le-leb, leb-true}
use Rattle.theory_graph.proofs.Booleans.{and_elim, contradict, on_bool, or_elim}
use Rattle.theory_graph.proofs.ClassRemoval.{outside_class, part_connected, part_cut_off}
use Rattle.theory_graph.proofs.CutOffs.{answer_by_cuts, cut_off, cut_off_complete, cut_off_sound, on_two_edge}
use Rattle.theory_graph.proofs.Cuts.{crosses_le, crosses_same, crosses_zero}
use Rattle.theory_graph.proofs.Kept.{Kept, kept_active, kept_class}
use Rattle.theory_graph.proofs.Lists.{any_find, any_in, filter_in, firsts_cover, firsts_in, firsts_pairwise, in_filter, take_three, three_in}
use Rattle.theory_graph.proofs.Medians.{Median, between_median, median_between, median_swap12, median_swap23}
use Rattle.theory_graph.proofs.Reach.{connected_reach, reach, reach_connected}
use Rattle.theory_graph.proofs.Separation.{insep_cut, insep_refl, insep_sym, insep_trans, two_edge_connected}
use Rattle.theory_graph.specs.Contraction.{kept, parts, without}
use Rattle.theory_graph.specs.Cut.{Between, Connected, Separated, TwoEdgeConnected, crosses, cut}
use Rattle.theory_graph.specs.Graph.{Edge, NodeSet, answer, induced, joined, removals, rep, two_edge}
use Rattle.theory_graph.specs.Lists.{all, any, filter, firsts}

-- x and its representative are joined
rep_side : (E : List Edge) (U : NodeSet) → cut U E ≤ 0 → (x : ℕ) → U (rep E x) ≡ U x
unfolding rep
rep_side [] U h x = refl
rep_side (e ∷ E) U h x = go (eqb (rep E x) (rep E e.1)) refl (λ y. rep_side E U (omega arith) y)
  where
    go : (b : Bool) → eqb (rep E x) (rep E e.1) ≡ b → ((y : ℕ) → U (rep E y) ≡ U y) → U (cond b (rep E e.0) (rep E x)) ≡ U x
    go true p f = f e.0 ∙ crosses_zero (U e.0) (U e.1) (omega arith) ∙ sym (f e.1) ∙ ap U (sym (eqb-true _ _ p)) ∙ f x
    go false p f = f x

merge_left : (a b : ℕ) → cond (eqb a b) a a ≡ a
merge_left a b = go (eqb a b)
  where
    go : (c : Bool) → cond c a a ≡ a
    go true = refl
    go false = refl

merge_right : (a b : ℕ) → cond (eqb b b) a b ≡ a
merge_right a b = ap (λ c. cond c a b) (eq-eqb b b refl)

-- what is said of a representative is closed
rep_closed : (E : List Edge) (f : ℕ → Bool) → cut (λ v. f (rep E v)) E ≤ 0
unfolding rep
rep_closed [] f = omega arith
rep_closed (e ∷ E) f =
    omega (
      arith,
      crosses_same (ap f (merge_left (rep E e.0) (rep E e.1) ∙ sym (merge_right (rep E e.0) (rep E e.1)))),
      rep_closed E (λ v. f (cond (eqb v (rep E e.1)) (rep E e.0) v)),
    )

pub joined_to : (E : List Edge) (x y : ℕ) → joined E x y ≡ true → Connected E x y
unfolding joined
joined_to E x y h (U, p, q, c) = contradict p (sym (rep_side E U c x) ∙ ap U (eqb-true _ _ h) ∙ rep_side E U c y ∙ q)

pub joined_from : (E : List Edge) (x y : ℕ) → Connected E x y → joined E x y ≡ true
unfolding joined
joined_from E x y j = on_bool (eqb (rep E x) (rep E y)) (λ t. t) (λ f. absurd (j (λ v. eqb (rep E x) (rep E v), eq-eqb (rep E x) (rep E x) refl, f, rep_closed E (eqb (rep E x)))))

all_map_cons : (f : List Edge → Bool) (e : Edge) (ls : List (List Edge)) → all f (map (λ l. e ∷ l) ls) ≡ all (λ l. f (e ∷ l)) ls
all_map_cons f e [] = refl
all_map_cons f e (l ∷ ls) = ap (λ b. f (e ∷ l) && b) (all_map_cons f e ls)

rem_to : (t : List Edge → Bool) (E : List Edge) (U : NodeSet) → all t (removals E) ≡ true → cut U E ≤ 1 → 0 < cut U E → (F : List Edge) × (t F ≡ true) × (cut U F ≤ 0)
unfolding removals
rem_to t [] U h c p = absurd (omega arith)
rem_to t (e ∷ E) U h c p =
    and_elim _ _ h λ a b.
    on_bool (leb 1 (crosses (U e.0) (U e.1))) (λ q. (E, a, omega (arith, leb-true 1 (crosses (U e.0) (U e.1)) q))) λ q.
    let z : crosses (U e.0) (U e.1) ≡ 0 = zero_of (U e.0) (U e.1) q in
    let (F, s, k) = rem_to (λ l. t (e ∷ l)) E U (sym (all_map_cons t e (removals E)) ∙ b) (omega arith) (omega arith) in
    (e ∷ F, s, omega arith)
  where
    zero_of : (a b : Bool) → leb 1 (crosses a b) ≡ false → crosses a b ≡ 0
    zero_of true true h = refl
    zero_of true false h = contradict refl h
    zero_of false true h = contradict refl h
    zero_of false false h = refl

rem_from : (t : List Edge → Bool) (E : List Edge) → ((F : List Edge) → ((U : NodeSet) → cut U E ≤ cut U F + 1) → t F ≡ true) → all t (removals E) ≡ true
unfolding removals
rem_from t [] k = refl
rem_from t (e ∷ E) k =
    ap₂ ◌&&◌ (k E (λ U. omega (arith, crosses_le (U e.0) (U e.1)))) (all_map_cons t e (removals E) ∙ rem_from (λ l. t (e ∷ l)) E (λ F q. k (e ∷ F) (λ U. omega (arith, q U))))

pub two_edge_to : (E : List Edge) (x y : ℕ) → two_edge E x y ≡ true → TwoEdgeConnected E x y
unfolding two_edge
two_edge_to E x y h (U, p, q, c) =
    and_elim _ _ h λ a b.
    let pos = insep_cut E (joined_to E x y a) U p q in
    let (F, t, z) = rem_to (λ l. joined l x y) E U b c pos in
    joined_to F x y t (U, p, q, z)

pub two_edge_from : (E : List Edge) (x y : ℕ) → TwoEdgeConnected E x y → two_edge E x y ≡ true
unfolding two_edge
two_edge_from E x y t =
    ap₂ ◌&&◌ (joined_from E x y (two_edge_connected E t)) (rem_from (λ l. joined l x y) E λ F q. joined_from F x y (λ (U, a, b, c). t (U, a, b, omega (arith, q U))))

pub two_edge_not : (E : List Edge) (x y : ℕ) → Separated 1 E x y → two_edge E x y ≡ false
two_edge_not E x y s = on_bool (two_edge E x y) (λ t. absurd (two_edge_to E x y t s)) (λ f. f)

only_ext : (P Q : NodeSet) (E : List Edge) → ((v : ℕ) → P v ≡ Q v) → induced P E ≡ induced Q E
only_ext P Q [] h = refl
only_ext P Q (e ∷ E) h = ap₂ (λ b l. cond b (e ∷ l) l) (ap₂ ◌&&◌ (h e.0) (h e.1)) (only_ext P Q E h)

pub without_is : (E : List Edge) (z : ℕ) → without E z ≡ outside_class E z
unfolding without outside_class
without_is E z = only_ext (λ v. not (two_edge E z v)) (λ v. cut_off E z v v) E same
  where
    same : (v : ℕ) → not (two_edge E z v) ≡ cut_off E z v v
    same v = on_two_edge E z v
        (λ s. ap not (two_edge_not E z v s) ∙ sym (cut_off_complete E z v v (s.0, s.1, s.2, s.2, s.3)))
        (λ t. ap not (two_edge_from E z v t) ∙ sym (on_bool (cut_off E z v v) (λ s. let w = cut_off_sound E z v v s in absurd (t (w.0, w.1, w.2, w.4))) (λ f. f)))

-- ---- kept, by medians
module _ (E : List Edge) (S : List ℕ) (z : ℕ) where
  abbrev R : ℕ → ℕ → Bool
  R = joined (without E z)

  abbrev f : ℕ → Bool
  f a = joined E z a && not (two_edge E z a)

  pub R_to : (x y : ℕ) → R x y ≡ true → Connected (outside_class E z) x y
  R_to x y h = subst (λ (l : List Edge). Connected l x y) (without_is E z) (joined_to (without E z) x y h)

  pub R_from : (x y : ℕ) → Connected (outside_class E z) x y → R x y ≡ true
  R_from x y j = joined_from (without E z) x y (subst (λ (l : List Edge). Connected l x y) (sym (without_is E z)) j)

  pub kept_to : kept E S z ≡ true → Kept E S z
  unfolding kept parts
  kept_to h =
      or_elim _ _ h (λ p. let (a, m, t) = any_find (two_edge E z) S p in kept_class E S z a (two_edge_to E z a t) (kept_active E S a m)) λ p.
      let (a, b, c, ma, mb, mc, ab, bc, ac) = take_three R (firsts R (filter f S)) (firsts_pairwise R (filter f S)) (leb-true 3 (length (firsts R (filter f S))) p) in
      let (ia, ta) = act a ma in
      let (ib, tb) = act b mb in
      let (ic, tc) = act c mc in
      record {
        a = a;
        b = b;
        c = c;
        in_a = ia;
        in_b = ib;
        in_c = ic;
        to_a = ta;
        to_b = tb;
        to_c = tc;
        mid = between_median E a b c z (far a b ta tb ab) (far b c tb tc bc) (far a c ta tc ac);
      }
    where
      act : (a : ℕ) → Memᴰ a (firsts R (filter f S)) → Memᴰ a S × Connected E z a
      act a m = let (i, t) = filter_in f a S (firsts_in R a (filter f S) m) in (i, and_elim (joined E z a) (not (two_edge E z a)) t λ p q. joined_to E z a p)

      far : (a b : ℕ) → Connected E z a → Connected E z b → not (R a b) ≡ true → Between E a z b
      far a b za zb n s = contradict n (ap not (R_from a b (part_connected E a b z (insep_sym E za) (insep_sym E zb) s)))

  pub kept_from : Kept E S z → kept E S z ≡ true
  unfolding kept parts
  kept_from k =
      on_two_edge E z k.a (λ sa. on_two_edge E z k.b (λ sb. on_two_edge E z k.c (λ sc.
      let (a, ma, ra) = repr k.a k.in_a k.to_a sa in
      let (b, mb, rb) = repr k.b k.in_b k.to_b sb in
      let (c, mc, rc) = repr k.c k.in_c k.to_c sc in
      let bc : Median E k.b k.c k.a z = median_swap23 E k.b k.a k.c z (median_swap12 E k.a k.b k.c z k.mid) in
      let l : 3 ≤ length (firsts R (filter f S)) =
      three_in ma mb mc
      (differ k.a k.b a b k.to_a sa ra rb (median_between E _ _ k.c z k.mid))
      (differ k.b k.c b c k.to_b sb rb rc (median_between E _ _ k.a z bc))
      (differ k.a k.c a c k.to_a sa ra rc (median_between E _ _ k.b z (median_swap23 E _ _ _ z k.mid))) in
      ap (λ b. any (two_edge E z) S || b) (le-leb 3 (length (firsts R (filter f S))) l) ∙ or-true (any (two_edge E z) S))
      (hit k.c k.in_c)) (hit k.b k.in_b)) (hit k.a k.in_a)
    where
      hit : (a : ℕ) → Memᴰ a S → TwoEdgeConnected E z a → (any (two_edge E z) S || leb 3 (length (firsts R (filter f S)))) ≡ true
      hit a m t = ap (λ b. b || leb 3 (length (firsts R (filter f S)))) (any_in (two_edge E z) m (two_edge_from E z a t))

      repr : (a : ℕ) → Memᴰ a S → Connected E z a → Separated 1 E z a → (c : ℕ) × Memᴰ c (firsts R (filter f S)) × (R c a ≡ true)
      repr a m j s =
          firsts_cover R (λ x. R_from x x (insep_refl (outside_class E z) x)) (λ x y w p q. R_from x w (insep_trans (outside_class E z) (R_to x y p) (R_to y w q)))
          a (filter f S) (in_filter f a S m (ap₂ ◌&&◌ (joined_from E z a j) (ap not (two_edge_not E z a s))))

      differ : (a b c e : ℕ) → Connected E z a → Separated 1 E z a → R c a ≡ true → R e b ≡ true → Between E a z b → ¬ (c ≡ e)
      differ a b c e za sa p q n r =
          n (part_cut_off E a b z (insep_sym E za) (cut_off_complete E z a a (sa.0, sa.1, sa.2, sa.2, sa.3))
          (insep_trans (outside_class E z) (insep_sym (outside_class E z) (R_to c a p)) (R_to c b (subst (λ (v : ℕ). R v b ≡ true) (sym r) q))))

pub answer_is : (E : List Edge) (x y : ℕ) → answer E x y ≡ answer_by_cuts E x y
unfolding answer answer_by_cuts
answer_is E x y = ap₂ (λ a b. cond a b 0) j (on_two_edge E x y
    (λ s. ap (λ b. cond b 2 1) (two_edge_not E x y s) ∙ sym (ap (λ b. cond b 1 2) (cut_off_complete E x y y (s.0, s.1, s.2, s.2, s.3))))
    (λ t. ap (λ b. cond b 2 1) (two_edge_from E x y t)
    ∙ sym (ap (λ b. cond b 1 2) (on_bool (cut_off E x y y) (λ h. let s = cut_off_sound E x y y h in absurd (t (s.0, s.1, s.2, s.4))) (λ f. f)))))
  where
    j : joined E x y ≡ reach E x y
    j = on_bool (reach E x y) (λ r. joined_from E x y (reach_connected E x y r) ∙ sym r) λ r. on_bool (joined E x y)
        (λ q. contradict (connected_reach E x y (joined_to E x y q)) r) (λ f. f ∙ sym r)
