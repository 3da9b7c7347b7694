-- Laws of the parts of loading: the different entries of a list that grows by one entry, marks cleared, a node entered as active, and an edge stored.
-- Assumes nothing.
use Prim.Native.Nat.{◌%◌, ◌*◌, ◌+◌, ◌-◌, ◌/◌, ◌<◌, ◌≤◌, suc, zero, ℕ}
use mathlib.Core.Bool.{Bool, ◌||◌, cond, false, not, or-true, true}
use mathlib.Core.List.{List, Memᴰ, [], ◌++◌, ◌∷◌, append-nil}
use mathlib.Core.Path.{◌∙◌, ◌≡◌, ap, ap₂, refl, subst, sym}
use lib.Dec.{eqb}
use lib.ListN.{get_or, length}
use native.Mathlib.Omega.{arith}
use borrow.Author.Tests.{eq-eqb, eqb-false, eqb-true, ne_eqb}
use Rattle.theory_graph.proofs.ActiveLists.{in_firsts}
use Rattle.theory_graph.proofs.Booleans.{contradict, on_bool}
use Rattle.theory_graph.proofs.Lists.{All, Pairwise, all_filter, filter_all, filter_append, filter_length, firsts_in, firsts_pairwise}
use Rattle.theory_graph.proofs.Lists.{Nth, mem_member, member_mem, pairwise_filter, table_all, table_in, table_length, table_mem, table_nth}
use Rattle.theory_graph.proofs.Pieces.{equal_nodes, group, group_nth}
use Rattle.theory_graph.proofs.TableLaws.{table_equal, table_more}
use Rattle.theory_graph.specs.Lists.{filter, firsts, member, table}
use Rattle.core_loading.specs.Loading.{Entered, Entering, Past, PutEdge, Unmarked}
use Rattle.core_words.proofs.FieldLaws.{update_at, update_other, update_same}
use Rattle.core_words.specs.Clearing.{Cleared}
use Rattle.core_words.specs.Fields.{ACTIVE, MARK, NAME, TO, Put, PutHalf, half, node, update}

-- ---- the different entries of a list
-- one more entry that is not there yet, and one that is
firsts_new : (xs : List ℕ) (v : ℕ) → member xs v ≡ false → firsts eqb (xs ++ (v ∷ [])) ≡ firsts eqb xs ++ (v ∷ [])
firsts_new [] v m = refl
firsts_new (x ∷ xs) v m =
    let p : ℕ → Bool = λ y. not (eqb x y) in
    let a : eqb v x ≡ false = on_bool (eqb v x) (λ e. contradict (ap (λ b. b || member xs v) e) m) (λ e. e) in
    let b : member xs v ≡ false = on_bool (member xs v) (λ e. contradict (ap (λ b. eqb v x || b) e ∙ or-true (eqb v x)) m) (λ e. e) in
    let q : eqb x v ≡ false = ne_eqb x v (λ e. eqb-false v x a (sym e)) in
    let one : filter p (v ∷ []) ≡ v ∷ [] = ap (λ (b : Bool). cond (not b) (v ∷ []) []) q in
    ap (λ (l : List ℕ). x ∷ l) (ap (filter p) (firsts_new xs v b) ∙ filter_append p (firsts eqb xs) (v ∷ []) ∙ ap (λ (l : List ℕ). filter p (firsts eqb xs) ++ l) one)

firsts_again : (xs : List ℕ) (v : ℕ) → member xs v ≡ true → firsts eqb (xs ++ (v ∷ [])) ≡ firsts eqb xs
firsts_again [] v m = contradict m refl
firsts_again (x ∷ xs) v m =
    let p : ℕ → Bool = λ y. not (eqb x y) in
    ap (λ (l : List ℕ). x ∷ l)
    (on_bool (member xs v) (λ b. ap (filter p) (firsts_again xs v b))
    (λ b.
    let a : eqb v x ≡ true = on_bool (eqb v x) (λ e. e) (λ e. contradict m (ap₂ ◌||◌ e b)) in
    let q : eqb x v ≡ true = eq-eqb x v (sym (eqb-true v x a)) in
    let none : filter p (v ∷ []) ≡ [] = ap (λ (b : Bool). cond (not b) (v ∷ []) []) q in
    ap (filter p) (firsts_new xs v b) ∙ filter_append p (firsts eqb xs) (v ∷ []) ∙ ap (λ (l : List ℕ). filter p (firsts eqb xs) ++ l) none ∙ append-nil (filter p (firsts eqb xs))))

-- different numbers below n are at most n
distinct_most : (n : ℕ) (xs : List ℕ) → Pairwise eqb xs → All (λ x. x < n) xs → length xs ≤ n
distinct_most zero [] p a = omega arith
distinct_most zero (x ∷ xs) p a = absurd (omega (arith, a.0))
distinct_most (suc n) xs p a =
    let f : ℕ → Bool = λ x. eqb x n in
    omega (
      arith,
      filter_length f xs,
      few (filter f xs) (pairwise_filter eqb f xs p) (filter_all f xs),
      distinct_most n (filter (λ x. not (f x)) xs) (pairwise_filter eqb (λ x. not (f x)) xs p)
          (less (filter (λ x. not (f x)) xs) (all_filter (λ x. x < suc n) (λ x. not (f x)) xs a) (filter_all (λ x. not (f x)) xs)),
    )
  where
    few : (l : List ℕ) → Pairwise eqb l → All (λ x. eqb x n ≡ true) l → length l ≤ 1
    few [] p a = omega arith
    few (x ∷ []) p a = omega arith
    few (x ∷ y ∷ l) p a = contradict p.0.0 (ap not (eq-eqb x y (eqb-true x n a.0 ∙ sym (eqb-true y n a.1.0))))

    less : (l : List ℕ) → All (λ x. x < suc n) l → All (λ x. not (eqb x n) ≡ true) l → All (λ x. x < n) l
    less [] a b = tt
    less (x ∷ l) a b = (on_bool (eqb x n) (λ e. contradict b.0 (ap not e)) (λ e. let d : ¬ (x ≡ n) = eqb-false x n e in omega (arith, a.0)), less l a.1 b.1)

-- ---- entering
pub entered_none : {n : ℕ} (mark act : ℕ → ℕ) → ((v : ℕ) → v < n → mark v ≡ 0) → Entered n [] 0 mark act
entered_none mark act z = record {
  active = refl;
  below = λ i l. absurd (omega arith);
  marked = λ i l. absurd (omega arith);
  marks = λ v l p. absurd (omega (arith, z v l));
}

pub entered_most : {n d : ℕ} {S : List ℕ} {mark act : ℕ → ℕ} → Entered n S d mark act → d ≤ n
entered_most {n} {d} {S} {mark} {act} g = omega (
  arith,
  distinct_most n (table act 0 d)
      (subst (Pairwise eqb) (sym g.active) (firsts_pairwise eqb S)) (table_all (λ x. x < n) act 0 d (λ i a b. g.below i (omega arith))),
  table_length act 0 d,
)

module _ {n d v : ℕ} {S : List ℕ} {mark act : ℕ → ℕ} (g : Entered n S d mark act) where
  -- a node is marked just where it is an entry
  mark_member : v < n → 0 < mark v → member S v ≡ true
  mark_member l p =
      let (i, k, e) = g.marks v l p in
      mem_member v S (firsts_in eqb v S (subst (λ (l : List ℕ). Memᴰ v l) g.active
      (subst (λ (u : ℕ). Memᴰ u (table act 0 d)) e (table_in act 0 d i (omega arith) (omega arith)))))

  member_mark : Memᴰ v S → (i : ℕ) × (i < d) × (v ≡ act i)
  member_mark m =
      let (i, k, e) = table_mem act 0 d v (subst (λ (l : List ℕ). Memᴰ v l) (sym g.active) (in_firsts S v m)) in
      (i, omega arith, e)

  -- an entry's mark is one more than its number by first appearance
  pub entered_place : Memᴰ v S → (0 < mark v) × (mark v ≤ n) × (mark v - 1 ≡ group eqb S v)
  entered_place m =
      let (i, l, e) = member_mark m in
      let z : mark v ≡ i + 1 = ap mark e ∙ g.marked i l in
      let at : Nth (act i) 0 (firsts eqb S) i = subst (λ (xs : List ℕ). Nth (act i) 0 xs i) g.active (table_nth act 0 d i (omega arith) (omega arith)) in
      let q : group eqb S v ≡ i = group_nth equal_nodes S (act i) v i at m (eq-eqb (act i) v (sym e)) in
      (omega arith, omega (arith, entered_most g), omega arith)

  mark_none : mark v ≡ 0 → member S v ≡ false
  mark_none z = on_bool (member S v)
      (λ e. let (i, k, q) = member_mark (member_mem S v e) in absurd (omega (arith, g.marked i k, ap mark q)))
      (λ e. e)

  pub entered_again : v < n → 0 < mark v → Entered n (S ++ (v ∷ [])) d mark act
  entered_again l p = record {
    active = g.active ∙ sym (firsts_again S v (mark_member l p));
    below = g.below;
    marked = g.marked;
    marks = g.marks;
  }

  module _ (l : v < n) (z : mark v ≡ 0) where
    active_new : table (update act d v) 0 (d + 1) ≡ firsts eqb (S ++ (v ∷ []))
    active_new =
        table_more (update act d v) d
        ∙ ap₂ (λ (l : List ℕ) (x : ℕ). l ++ (x ∷ [])) (table_equal (update act d v) act 0 d (λ j a b. update_other act d v j (λ e. omega arith))) (update_same act d v)
        ∙ ap (λ (l : List ℕ). l ++ (v ∷ [])) g.active ∙ sym (firsts_new S v (mark_none z))

    below_new : (i : ℕ) → i < d + 1 → update act d v i < n
    below_new = update_at (λ j y. j < d + 1 → y < n) act d v (λ _. l) (λ j ne k. g.below j (omega arith))

    pub entered_room : d < n
    entered_room = omega (
      arith,
      distinct_most n (table (update act d v) 0 (d + 1))
          (subst (Pairwise eqb) (sym active_new) (firsts_pairwise eqb (S ++ (v ∷ [])))) (table_all (λ x. x < n) (update act d v) 0 (d + 1) (λ i a b. below_new i (omega arith))),
      table_length (update act d v) 0 (d + 1),
    )

    not_entered : (i : ℕ) → i < d → ¬ (act i ≡ v)
    not_entered i k e = omega (arith, g.marked i k, ap mark e)

    pub entered_new : Entered n (S ++ (v ∷ [])) (d + 1) (update mark v (d + 1)) (update act d v)
    entered_new = record {
      active = active_new;
      below = below_new;
      marked = λ i k. on_bool (eqb i d)
          (λ q. let e = eqb-true i d q in rw (e, update_same act d v, update_same mark v (d + 1)) refl)
          (λ q. let ne : ¬ (i ≡ d) = eqb-false i d q in
          ap (update mark v (d + 1)) (update_other act d v i ne) ∙ update_other mark v (d + 1) (act i) (not_entered i (omega arith)) ∙ g.marked i (omega arith));
      marks = update_at (λ u y. u < n → 0 < y → (i : ℕ) × (i < d + 1) × (update act d v i ≡ u)) mark v (d + 1)
          (λ _ _. (d, omega arith, update_same act d v))
          (λ u ne a b. let (i, k, e) = g.marks u a b in (i, omega arith, update_other act d v i (λ q. omega arith) ∙ e));
    }

-- the half-edges, read as one run of words, stay
halves_past : (n : ℕ) (a b : List ℕ) → ((j : ℕ) → half n j b ≡ half n j a) → Past (16 * n) a b
unfolding half
halves_past n a b f i l =
    let e : 16 * n + 3 * 0 + (i - 16 * n) ≡ i = omega arith in
    ap (λ j. get_or b j 0) (sym e) ∙ ap (λ (h : ℕ → ℕ). h 0) (f (i - 16 * n)) ∙ ap (λ j. get_or a j 0) e

-- the marks cleared
pub cleared_past : {n : ℕ} {a b : List ℕ} → Cleared (MARK ∷ []) n n a b → Past (16 * n) a b
cleared_past {n} {a} {b} z = halves_past n a b z.rest.halves

pub cleared_unmarked : {n : ℕ} {a b : List ℕ} → Cleared (MARK ∷ []) n n a b → Unmarked n b
cleared_unmarked z v l = z.zero MARK (omega arith) refl v l

-- a node that has its mark already
pub entering_again : {n d v : ℕ} {a : List ℕ} → v < n → 0 < node MARK a v → Entering n d v a a d
entering_again l p = record { same = refl; past = λ i k. refl; else = λ j i m a. refl; more = λ S g. entered_again g l p }

pub entering_room : {n d v : ℕ} (a : List ℕ) → v < n → node MARK a v ≡ 0 → (S : List ℕ) × Entered n S d (node MARK a) (node ACTIVE a) → d < n
entering_room a l z (S, g) = entered_room g l z

pub entering_new : {n d v : ℕ} {a b c : List ℕ} → v < n → node MARK a v ≡ 0 → d < n → Put ACTIVE d v a b → Put MARK v (d + 1) b c → Entering n d v a c (d + 1)
entering_new {n} {d} {v} {a} {b} {c} l z k p q = record {
  same = q.same ∙ p.same;
  past = halves_past n a c (λ j. q.halves n l j ∙ p.halves n k j);
  else = λ j i m f. q.else j i m ∙ p.else j i f;
  more = λ S g.
      let mark : node MARK c ≡ update (node MARK a) v (d + 1) = q.here ∙ ap (λ (f : ℕ → ℕ). update f v (d + 1)) (p.else MARK (omega arith) (λ e. omega arith)) in
      let act : node ACTIVE c ≡ update (node ACTIVE a) d v = q.else ACTIVE (omega arith) (λ e. omega arith) ∙ p.here in
      rw (mark, act) (entered_new g l z);
}

-- ---- edges
-- each word behind the nodes is a field of a half-edge
pub halves_kept : (n m : ℕ) (a b : List ℕ) → ((k h : ℕ) → k < 3 → 2 * m ≤ h → half n k b h ≡ half n k a h) → Past (16 * n + 6 * m) a b
unfolding half
halves_kept n m a b f i l =
    let e : 16 * n + 3 * ((i - 16 * n) / 3) + (i - 16 * n) % 3 ≡ i = omega arith in
    ap (λ j. get_or b j 0) (sym e) ∙ f ((i - 16 * n) % 3) ((i - 16 * n) / 3) (omega arith) (omega arith) ∙ ap (λ j. get_or a j 0) e

pub put_edge_lem : (n j a b c : ℕ) {w w₁ w₂ w₃ : List ℕ} → PutHalf n TO (2 * j) a w w₁ → PutHalf n TO (2 * j + 1) b w₁ w₂ → PutHalf n NAME (2 * j) c w₂ w₃ → PutEdge n j a b c w w₃
put_edge_lem n j a b c {w} {w₁} {w₂} {w₃} p q r =
    record {
      same = r.same ∙ q.same ∙ p.same;
      past = λ i l. halves_kept n (j + 1) w w₃ other i (omega arith);
      first = ap (λ f. f (2 * j)) (tos ∙ q.here) ∙ update_other (half n TO w₁) (2 * j + 1) b (2 * j) (λ e. omega arith)
          ∙ ap (λ f. f (2 * j)) p.here ∙ update_same (half n TO w) (2 * j) a;
      second = ap (λ f. f (2 * j + 1)) (tos ∙ q.here) ∙ update_same (half n TO w₁) (2 * j + 1) b;
      name = ap (λ f. f (2 * j)) r.here ∙ update_same (half n NAME w₂) (2 * j) c;
      else = λ h l. far h (λ e. omega arith) (λ e. omega arith);
      else_name = λ h l. far_name h (λ e. omega arith);
      nodes = λ i l v u. r.nodes i l v u ∙ q.nodes i l v u ∙ p.nodes i l v u;
    }
  where
    tos : half n TO w₃ ≡ half n TO w₂
    tos = r.else TO (omega arith) (λ e. omega arith)

    far : (h : ℕ) → ¬ (h ≡ 2 * j) → ¬ (h ≡ 2 * j + 1) → half n TO w₃ h ≡ half n TO w h
    far h k l = ap (λ f. f h) (tos ∙ q.here) ∙ update_other (half n TO w₁) (2 * j + 1) b h l ∙ ap (λ f. f h) p.here ∙ update_other (half n TO w) (2 * j) a h k

    far_name : (h : ℕ) → ¬ (h ≡ 2 * j) → half n NAME w₃ h ≡ half n NAME w h
    far_name h k = ap (λ f. f h) r.here ∙ update_other (half n NAME w₂) (2 * j) c h k
        ∙ ap (λ f. f h) (q.else NAME (omega arith) (λ e. omega arith) ∙ p.else NAME (omega arith) (λ e. omega arith))

    other : (k h : ℕ) → k < 3 → 2 * (j + 1) ≤ h → half n k w₃ h ≡ half n k w h
    other k h i l =
        on_bool (eqb k TO) (λ e. let z = eqb-true k TO e in rw z (far h (λ s. omega arith) (λ s. omega arith))) λ e.
        on_bool (eqb k NAME) (λ d. let z = eqb-true k NAME d in rw z (far_name h (λ s. omega arith))) λ d.
        ap (λ (f : ℕ → ℕ). f h) (r.else k i (eqb-false k NAME d) ∙ q.else k i (eqb-false k TO e) ∙ p.else k i (eqb-false k TO e))
