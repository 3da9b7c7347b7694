-- Active lists: the numbers of a list in order of first appearance, one entry at a time; and a list with repeats has the small graphs of the list of its
-- different entries, in order of first appearance.
-- Assumes nothing.
use Prim.Native.Nat.{◌<◌, ◌≤◌, suc, ℕ}
use mathlib.Core.Bool.{Bool, ◌&&◌, false, not, or-true, true}
use mathlib.Core.List.{List, Memᴰ, [], ◌∷◌, map}
use mathlib.Core.Path.{◌∙◌, ◌≡◌, ap, ap₂, refl, subst}
use lib.Dec.{eqb, ltb}
use native.Mathlib.Omega.{arith}
use borrow.Author.Tests.{eq-eqb, eqb-true, lt-ltb, ltb-true}
use Rattle.theory_graph.proofs.Booleans.{and_elim, contradict, on_bool, or_elim}
use Rattle.theory_graph.proofs.Lists.{filter_true, firsts_cover, firsts_in}
use Rattle.theory_graph.proofs.SmallGraphs.{SmallGraph}
use Rattle.theory_graph.proofs.Uniqueness.{kept_sub}
use Rattle.theory_graph.specs.Graph.{Edge}
use Rattle.theory_graph.specs.Lists.{filter, firsts}
use Rattle.theory_graph.specs.SmallGraph.{Canonical, in_order}

pub order_old : (x b : ℕ) (xs : List ℕ) → x < b → in_order b xs ≡ true → in_order b (x ∷ xs) ≡ true
order_old x b xs l h = rw (lt-ltb x b l, h) refl

pub order_new : (x b : ℕ) (xs : List ℕ) → x ≡ b → in_order (suc b) xs ≡ true → in_order b (x ∷ xs) ≡ true
order_new x b xs e h = rw (eq-eqb x b e, h) (or-true (ltb x b && in_order b xs))

pub filter_twice : (p q : ℕ → Bool) (xs : List ℕ) → filter p (filter q xs) ≡ filter (λ x. p x && q x) xs
filter_twice p q [] = refl
filter_twice p q (x ∷ xs) = on_bool (q x)
    (λ e. on_bool (p x) (λ f. rw (e, f) (ap (λ l. x ∷ l) (filter_twice p q xs))) (λ f. rw (e, f) (filter_twice p q xs)))
    (λ e. on_bool (p x) (λ f. rw (e, f) (filter_twice p q xs)) (λ f. rw (e, f) (filter_twice p q xs)))

-- what p leaves out has come before
order_filter : (σ : ℕ → ℕ) (K : List ℕ) (p : ℕ → Bool) (b : ℕ) → in_order b (map σ (filter p (firsts eqb K))) ≡ true → ((x : ℕ) → p x ≡ false → σ x < b) → in_order b (map σ K) ≡ true
order_filter σ [] p b h low = refl
order_filter σ (y ∷ K) p b h low =
    let q : ℕ → Bool = λ z. p z && not (eqb y z) in
    let out : (c : ℕ) → b ≤ c → σ y < c → (x : ℕ) → q x ≡ false → σ x < c = λ c l m x f.
    on_bool (p x)
    (λ e. on_bool (eqb y x) (λ i. subst (λ (v : ℕ). σ v < c) (eqb-true y x i) m) (λ i. contradict (ap₂ (λ s t. s && not t) e i) f))
    (λ e. omega (arith, low x e)) in
    on_bool (p y)
    (λ e.
    let g : in_order b (σ y ∷ map σ (filter q (firsts eqb K))) ≡ true = rw (e, filter_twice p (λ z. not (eqb y z)) (firsts eqb K)) at h in
    or_elim _ _ g
    (λ a. and_elim _ _ a λ l r. let m = ltb-true (σ y) b l in order_old (σ y) b (map σ K) m (order_filter σ K q b r (out b (omega arith) m)))
    (λ a. and_elim _ _ a λ l r. let m = eqb-true (σ y) b l in order_new (σ y) b (map σ K) m (order_filter σ K q (suc b) r (out (suc b) (omega arith) (omega arith)))))
    (λ e.
    let g : in_order b (map σ (filter q (firsts eqb K))) ≡ true = rw (e, filter_twice p (λ z. not (eqb y z)) (firsts eqb K)) at h in
    order_old (σ y) b (map σ K) (low y e) (order_filter σ K q b g (out b (omega arith) (low y e))))

pub in_firsts : (K : List ℕ) (a : ℕ) → Memᴰ a K → Memᴰ a (firsts eqb K)
in_firsts K a m =
    let (c, n, e) = firsts_cover eqb (λ x. eq-eqb x x refl) (λ x y z p q. eq-eqb x z (eqb-true x y p ∙ eqb-true y z q)) a K m in
    subst (λ (v : ℕ). Memᴰ v (firsts eqb K)) (eqb-true c a e) n

module _ {E : List Edge} {h : ℕ} {ρ σ : ℕ → ℕ} (K : List ℕ) where
  pub small_repeats : {H : List Edge} → SmallGraph E (firsts eqb K) h H ρ σ → SmallGraph E K h H ρ σ
  small_repeats g = record {
    kept = λ i l. kept_sub E (firsts eqb K) K (ρ i) (λ a m. firsts_in eqb a K m) (g.kept i l);
    once = g.once;
    all = λ z k. g.all z (kept_sub E K (firsts eqb K) z (in_firsts K) k);
    place = λ a m. g.place a (in_firsts K a m);
    order = order_filter σ K (λ x. true) 0 (ap (λ l. in_order 0 (map σ l)) (filter_true (firsts eqb K)) ∙ g.order) (λ x e. contradict refl e);
    ascends = g.ascends;
    edge = g.edge;
    linked = g.linked;
  }

  pub canonical_repeats : Canonical E (firsts eqb K) h ρ σ → Canonical E K h ρ σ
  canonical_repeats c = record {
    least = λ i z l d. c.least i z l (λ a m. d a (firsts_in eqb a K m));
    rises = λ i j l b d e. c.rises i j l b (λ a m. d a (firsts_in eqb a K m)) (λ a m. e a (firsts_in eqb a K m));
  }
