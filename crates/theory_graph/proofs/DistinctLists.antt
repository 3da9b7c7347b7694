-- Lists without repetition: entries of appended lists; parts and joins of lists without repetition; taking one entry out; such a list inside another is no longer than it,
-- nor longer than the number of different entries of the other.
-- Assumes nothing.
use Prim.Native.Nat.{◌+◌, ◌≤◌, suc, ℕ}
use mathlib.Core.Bool.{Bool, cond, false, not, true}
use mathlib.Core.List.{List, Memᴰ, [], ◌++◌, ◌∷◌}
use mathlib.Core.Logic.{◌⊎◌, inl, inr}
use mathlib.Core.Path.{◌∙◌, ◌≡◌, ap, refl, subst, sym}
use lib.Dec.{eqb}
use lib.ListN.{length}
use native.Mathlib.Omega.{arith}
use borrow.Author.Tests.{eq-eqb, eqb-false, eqb-true, ne_eqb, not-true}
use Rattle.theory_graph.proofs.ActiveLists.{in_firsts}
use Rattle.theory_graph.proofs.Booleans.{on_bool}
use Rattle.theory_graph.proofs.Lists.{filter_in, mem_append}
use Rattle.theory_graph.specs.Lists.{Distinct, filter, firsts}
use Rattle.theory_graph.specs.SmallGraph.{different}

-- ---- entries
pub split_mem : {u : ℕ} (xs ys : List ℕ) → Memᴰ u (xs ++ ys) → Memᴰ u xs ⊎ Memᴰ u ys
split_mem [] ys m = inr m
split_mem (x ∷ xs) ys (Memᴰ.head p) = inl (Memᴰ.head p)
split_mem {u} (x ∷ xs) ys (Memᴰ.tail m) = go (split_mem xs ys m)
  where
    go : Memᴰ u xs ⊎ Memᴰ u ys → Memᴰ u (x ∷ xs) ⊎ Memᴰ u ys
    go (inl n) = inl (Memᴰ.tail n)
    go (inr n) = inr n

pub distinct_left : (xs ys : List ℕ) → Distinct (xs ++ ys) → Distinct xs
distinct_left [] ys d = tt
distinct_left (x ∷ xs) ys d = (λ m. d.0 (mem_append xs ys (inl m)), distinct_left xs ys d.1)

pub distinct_right : (xs ys : List ℕ) → Distinct (xs ++ ys) → Distinct ys
distinct_right [] ys d = d
distinct_right (x ∷ xs) ys d = distinct_right xs ys d.1

-- ---- taking one entry out of a list
unfoldable pub others : ℕ → List ℕ → List ℕ
others x J = filter (λ u. not (eqb u x)) J

pub others_fewer : (x : ℕ) (J : List ℕ) → Memᴰ x J → length (others x J) + 1 ≤ length J
unfolding others
others_fewer x [] x'' = elim x'' [ ]
others_fewer x (y ∷ J) (Memᴰ.head p) =
    let e : others x (y ∷ J) ≡ others x J = ap (λ b. cond (not b) (y ∷ filter (λ u. not (eqb u x)) J) (filter (λ u. not (eqb u x)) J)) (eq-eqb y x (sym p)) in
    omega (arith, ap (λ l. length l) e, others_less J)
  where
    others_less : (J : List ℕ) → length (others x J) ≤ length J
    others_less [] = omega arith
    others_less (y ∷ J) = go (not (eqb y x)) (others_less J)
      where
        go : (b : Bool) → length (others x J) ≤ length J → length (cond b (y ∷ others x J) (others x J)) ≤ suc (length J)
        go true h = omega arith
        go false h = omega arith
others_fewer x (y ∷ J) (Memᴰ.tail m) = go (not (eqb y x)) (others_fewer x J m)
  where
    go : (b : Bool) → length (others x J) + 1 ≤ length J → length (cond b (y ∷ others x J) (others x J)) + 1 ≤ suc (length J)
    go true h = omega arith
    go false h = omega arith

-- ---- lists without repetition
pub distinct_join : (xs ys : List ℕ) → Distinct xs → Distinct ys → ((u : ℕ) → Memᴰ u xs → Memᴰ u ys → ⊥) → Distinct (xs ++ ys)
distinct_join [] ys a b f = b
distinct_join (x ∷ xs) ys a b f = (λ m. go (split_mem xs ys m), distinct_join xs ys a.1 b (λ u m n. f u (Memᴰ.tail m) n))
  where
    go : Memᴰ x xs ⊎ Memᴰ x ys → ⊥
    go (inl m) = a.0 m
    go (inr m) = f x (Memᴰ.head refl) m

pub distinct_filter : (f : ℕ → Bool) (xs : List ℕ) → Distinct xs → Distinct (filter f xs)
distinct_filter f [] d = tt
distinct_filter f (x ∷ xs) d = go (f x) (distinct_filter f xs d.1)
  where
    go : (b : Bool) → Distinct (filter f xs) → Distinct (cond b (x ∷ filter f xs) (filter f xs))
    go true h = (λ m. d.0 (filter_in f x xs m).0, h)
    go false h = h

others_all : (t : ℕ) (xs : List ℕ) → ¬ Memᴰ t xs → length (others t xs) ≡ length xs
unfolding others
others_all t [] n = refl
others_all t (x ∷ xs) n =
    ap (λ b. length (cond (not b) (x ∷ others t xs) (others t xs))) (ne_eqb x t (λ e. n (Memᴰ.head (sym e)))) ∙ ap suc (others_all t xs (λ m. n (Memᴰ.tail m)))

others_one : (t : ℕ) (xs : List ℕ) → Distinct xs → length xs ≤ length (others t xs) + 1
unfolding others
others_one t [] d = omega arith
others_one t (x ∷ xs) d =
    on_bool (eqb x t)
    (λ e. omega (arith, ap (λ b. length (cond (not b) (x ∷ others t xs) (others t xs))) e, others_all t xs (λ m. d.0 (subst (λ (s : ℕ). Memᴰ s xs) (sym (eqb-true x t e)) m))))
    (λ e. omega (arith, ap (λ b. length (cond (not b) (x ∷ others t xs) (others t xs))) e, others_one t xs d.1))

pub distinct_fewer : (T l : List ℕ) → Distinct l → ((u : ℕ) → Memᴰ u l → Memᴰ u T) → length l ≤ length T
unfolding others
distinct_fewer [] [] d f = omega arith
distinct_fewer [] (x ∷ l) d f = absurd (elim (f x (Memᴰ.head refl)) [ ])
distinct_fewer (t ∷ T) l d f =
    omega (arith, others_one t l d, distinct_fewer T (others t l) (distinct_filter (λ u. not (eqb u t)) l d) (λ u m. let (n, e) = filter_in (λ u. not (eqb u t)) u l m in go (eqb-false u t (not-true _ e)) (f u n)))
  where
    go : {u : ℕ} → ¬ (u ≡ t) → Memᴰ u (t ∷ T) → Memᴰ u T
    go n (Memᴰ.head p) = absurd (n p)
    go n (Memᴰ.tail m) = m

-- an entry is among the different ones
pub distinct_different : (S l : List ℕ) → Distinct l → ((u : ℕ) → Memᴰ u l → Memᴰ u S) → length l ≤ different S
distinct_different S l d f = distinct_fewer (firsts eqb S) l d (λ u m. in_firsts S u (f u m))
