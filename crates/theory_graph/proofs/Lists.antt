-- Laws of lists of numbers, by what they are about: any, all, All, filter; firsts, the first of each group; Nth and entry, an index counted from a start;
-- member and map; range, position and Ordered lists; table, the values of a function.
-- Not here: laws of lists of edges, which stand in Numbering and Uniqueness; of lists without repetition, in DistinctLists.
-- Assumes nothing.
use Prim.Native.Nat.{◌+◌, ◌<◌, ◌≤◌, suc, zero, ℕ}
use mathlib.Core.Bool.{Bool, ◌&&◌, ◌||◌, cond, false, not, or-true, true}
use mathlib.Core.List.{List, Memᴰ, [], ◌++◌, ◌∷◌, map}
use mathlib.Core.Logic.{◌⊎◌, inl, inr}
use mathlib.Core.Path.{◌∙◌, ◌≡◌, ap, ap₂, refl, subst, sym}
use lib.Dec.{eqb}
use lib.ListN.{length}
use native.Mathlib.Omega.{arith}
use borrow.Author.Tests.{eq-eqb, eqb-false, eqb-true}
use Rattle.theory_graph.proofs.Booleans.{and_elim, contradict, on_bool, or_elim}
use Rattle.theory_graph.specs.Lists.{all, any, filter, firsts, member, position, range, table}

pub any_find : (f : ℕ → Bool) (xs : List ℕ) → any f xs ≡ true → (a : ℕ) × Memᴰ a xs × (f a ≡ true)
any_find f [] h = contradict h refl
any_find f (x ∷ xs) h = or_elim _ _ h (λ p. (x, Memᴰ.head refl, p)) λ p. let (a, m, q) = any_find f xs p in (a, Memᴰ.tail m, q)

pub any_in : (f : ℕ → Bool) {a : ℕ} {xs : List ℕ} → Memᴰ a xs → f a ≡ true → any f xs ≡ true
any_in f {a = a} {xs = []} x5 q = elim x5 [ ]
any_in f {xs = x ∷ xs} (Memᴰ.head p) q = ap (λ b. b || any f xs) (ap f (sym p) ∙ q)
any_in f {xs = x ∷ xs} (Memᴰ.tail m) q = ap (λ b. f x || b) (any_in f m q) ∙ or-true (f x)

-- every entry passes a test just where each one does
pub tests_each : {A : Type 0} (f : A → Bool) (a : A) (l : List A) → all f l ≡ true → Memᴰ a l → f a ≡ true
tests_each {A = A} f a [] h x'' = elim x'' [ ]
tests_each f a (x ∷ l) h (Memᴰ.head p) = and_elim (f x) (all f l) h λ q r. ap f p ∙ q
tests_each f a (x ∷ l) h (Memᴰ.tail m) = and_elim (f x) (all f l) h λ q r. tests_each f a l r m

pub each_tests : {A : Type 0} (f : A → Bool) (l : List A) → ((a : A) → Memᴰ a l → f a ≡ true) → all f l ≡ true
each_tests f [] h = refl
each_tests f (x ∷ l) h = ap₂ ◌&&◌ (h x (Memᴰ.head refl)) (each_tests f l (λ a m. h a (Memᴰ.tail m)))

abbrev pub All : (ℕ → Type 0) → List ℕ → Type 0
All P [] = Unit {0}
All P (x ∷ xs) = P x × All P xs

pub all_map : {P Q : ℕ → Type 0} (xs : List ℕ) → ((x : ℕ) → P x → Q x) → All P xs → All Q xs
all_map [] h a = tt
all_map (x ∷ xs) h a = (h x a.0, all_map xs h a.1)

pub all_and : (P Q : ℕ → Type 0) (xs : List ℕ) → All P xs → All Q xs → All (λ x. P x × Q x) xs
all_and P Q [] a b = tt
all_and P Q (x ∷ xs) a b = ((a.0, b.0), all_and P Q xs a.1 b.1)

pub all_filter : (P : ℕ → Type 0) (f : ℕ → Bool) (xs : List ℕ) → All P xs → All P (filter f xs)
all_filter P f [] a = tt
all_filter P f (x ∷ xs) a = go (f x) (all_filter P f xs a.1)
  where
    go : (b : Bool) → All P (filter f xs) → All P (cond b (x ∷ filter f xs) (filter f xs))
    go true r = (a.0, r)
    go false r = r

pub filter_all : (f : ℕ → Bool) (xs : List ℕ) → All (λ x. f x ≡ true) (filter f xs)
filter_all f [] = tt
filter_all f (x ∷ xs) = go (f x) refl (filter_all f xs)
  where
    go : (b : Bool) → f x ≡ b → All (λ x. f x ≡ true) (filter f xs) → All (λ x. f x ≡ true) (cond b (x ∷ filter f xs) (filter f xs))
    go true e a = (e, a)
    go false e a = a

pub filter_length : (f : ℕ → Bool) (xs : List ℕ) → length xs ≡ length (filter f xs) + length (filter (λ x. not (f x)) xs)
filter_length f [] = refl
filter_length f (x ∷ xs) = go (f x) (filter_length f xs)
  where
    go : (b : Bool) → length xs ≡ length (filter f xs) + length (filter (λ x. not (f x)) xs)
        → suc (length xs) ≡ length (cond b (x ∷ filter f xs) (filter f xs)) + length (cond (not b) (x ∷ filter (λ x. not (f x)) xs) (filter (λ x. not (f x)) xs))
    go true h = omega arith
    go false h = omega arith

-- ---- lists
pub member_mem : (S : List ℕ) (a : ℕ) → member S a ≡ true → Memᴰ a S
member_mem [] a h = contradict h refl
member_mem (x ∷ S) a h = or_elim _ _ h (λ p. Memᴰ.head (eqb-true a x p)) (λ p. Memᴰ.tail (member_mem S a p))

pub mem_map : (f : ℕ → ℕ) {a : ℕ} {S : List ℕ} → Memᴰ a S → Memᴰ (f a) (map f S)
mem_map f {a = a} {S = []} x'' = elim x'' [ ]
mem_map f {S = x ∷ S} (Memᴰ.head p) = Memᴰ.head (ap f p)
mem_map f {S = x ∷ S} (Memᴰ.tail m) = Memᴰ.tail (mem_map f m)

pub map_mem : (f : ℕ → ℕ) (y : ℕ) (S : List ℕ) → Memᴰ y (map f S) → (a : ℕ) × Memᴰ a S × (y ≡ f a)
map_mem f y [] x' = elim x' [ ]
map_mem f y (x ∷ S) (Memᴰ.head p) = (x, Memᴰ.head refl, p)
map_mem f y (x ∷ S) (Memᴰ.tail m) = let (a, n, e) = map_mem f y S m in (a, Memᴰ.tail n, e)

pub map_twice : (f k : ℕ → ℕ) (S : List ℕ) → map f (map k S) ≡ map (λ a. f (k a)) S
map_twice f k [] = refl
map_twice f k (x ∷ S) = ap (λ l. f (k x) ∷ l) (map_twice f k S)

pub map_equal : (f k : ℕ → ℕ) (S : List ℕ) → ((a : ℕ) → Memᴰ a S → f a ≡ k a) → map f S ≡ map k S
map_equal f k [] e = refl
map_equal f k (x ∷ S) e = ap₂ ◌∷◌ (e x (Memᴰ.head refl)) (map_equal f k S (λ a m. e a (Memᴰ.tail m)))

-- ---- lists
pub filter_in : {A : Type 0} (f : A → Bool) (a : A) (xs : List A) → Memᴰ a (filter f xs) → Memᴰ a xs × (f a ≡ true)
filter_in f a [] m = absurd (elim m [ ])
filter_in f a (x ∷ xs) m = go (f x) refl m (filter_in f a xs)
  where
    go : (b : Bool) → f x ≡ b → Memᴰ a (cond b (x ∷ filter f xs) (filter f xs)) → (Memᴰ a (filter f xs) → Memᴰ a xs × (f a ≡ true)) → Memᴰ a (x ∷ xs) × (f a ≡ true)
    go true e (Memᴰ.head p) ih = (Memᴰ.head p, ap f p ∙ e)
    go true e (Memᴰ.tail m) ih = let (n, q) = ih m in (Memᴰ.tail n, q)
    go false e m ih = let (n, q) = ih m in (Memᴰ.tail n, q)

pub in_filter : {A : Type 0} (f : A → Bool) (a : A) (xs : List A) → Memᴰ a xs → f a ≡ true → Memᴰ a (filter f xs)
in_filter {A = A} f a [] x'' q = elim x'' [ ]
in_filter f a (x ∷ xs) (Memᴰ.head p) q = subst (λ (b : Bool). Memᴰ a (cond b (x ∷ filter f xs) (filter f xs))) (sym (ap f (sym p) ∙ q)) (Memᴰ.head p)
in_filter f a (x ∷ xs) (Memᴰ.tail m) q = go (f x) (in_filter f a xs m q)
  where
    go : (b : Bool) → Memᴰ a (filter f xs) → Memᴰ a (cond b (x ∷ filter f xs) (filter f xs))
    go true n = Memᴰ.tail n
    go false n = n

pub filter_append : (p : ℕ → Bool) (xs ys : List ℕ) → filter p (xs ++ ys) ≡ filter p xs ++ filter p ys
filter_append p [] ys = refl
filter_append p (x ∷ xs) ys = go (p x) (filter_append p xs ys)
  where
    go : (b : Bool) → filter p (xs ++ ys) ≡ filter p xs ++ filter p ys → cond b (x ∷ filter p (xs ++ ys)) (filter p (xs ++ ys)) ≡ cond b (x ∷ filter p xs) (filter p xs) ++ filter p ys
    go true e = ap (λ (l : List ℕ). x ∷ l) e
    go false e = e

-- a longer list has the same first entries, and others behind them
pub firsts_append : (R : ℕ → ℕ → Bool) (xs ys : List ℕ) → (us : List ℕ) × (firsts R (xs ++ ys) ≡ firsts R xs ++ us)
firsts_append R [] ys = (firsts R ys, refl)
firsts_append R (x ∷ xs) ys =
    let p : ℕ → Bool = λ y. not (R x y) in
    let (us, e) = firsts_append R xs ys in
    (filter p us, ap (λ (l : List ℕ). x ∷ l) (ap (filter p) e ∙ filter_append p (firsts R xs) us))

pub firsts_in : (R : ℕ → ℕ → Bool) (a : ℕ) (xs : List ℕ) → Memᴰ a (firsts R xs) → Memᴰ a xs
firsts_in R a [] x' = elim x' [ ]
firsts_in R a (x ∷ xs) (Memᴰ.head p) = Memᴰ.head p
firsts_in R a (x ∷ xs) (Memᴰ.tail m) = Memᴰ.tail (firsts_in R a xs (filter_in (λ y. not (R x y)) a (firsts R xs) m).0)

pub firsts_cover : (R : ℕ → ℕ → Bool) → ((x : ℕ) → R x x ≡ true) → ((x y z : ℕ) → R x y ≡ true → R y z ≡ true → R x z ≡ true)
    → (a : ℕ) (xs : List ℕ) → Memᴰ a xs → (c : ℕ) × Memᴰ c (firsts R xs) × (R c a ≡ true)
firsts_cover R r t a [] x' = elim x' [ ]
firsts_cover R r t a (x ∷ xs) (Memᴰ.head p) = (x, Memᴰ.head refl, subst (λ (v : ℕ). R x v ≡ true) (sym p) (r x))
firsts_cover R r t a (x ∷ xs) (Memᴰ.tail m) =
    let (c, n, q) = firsts_cover R r t a xs m in
    on_bool (R x c) (λ e. (x, Memᴰ.head refl, t x c a e q)) λ e. (c, Memᴰ.tail (in_filter (λ y. not (R x y)) c (firsts R xs) n (ap not e)), q)

abbrev pub Pairwise : (ℕ → ℕ → Bool) → List ℕ → Type 0
Pairwise R [] = Unit {0}
Pairwise R (x ∷ xs) = All (λ y. not (R x y) ≡ true) xs × Pairwise R xs

pub pairwise_filter : (R : ℕ → ℕ → Bool) (f : ℕ → Bool) (xs : List ℕ) → Pairwise R xs → Pairwise R (filter f xs)
pairwise_filter R f [] p = tt
pairwise_filter R f (x ∷ xs) p = go (f x) (pairwise_filter R f xs p.1)
  where
    go : (b : Bool) → Pairwise R (filter f xs) → Pairwise R (cond b (x ∷ filter f xs) (filter f xs))
    go true r = (all_filter (λ y. not (R x y) ≡ true) f xs p.0, r)
    go false r = r

pub firsts_pairwise : (R : ℕ → ℕ → Bool) (xs : List ℕ) → Pairwise R (firsts R xs)
firsts_pairwise R [] = tt
firsts_pairwise R (x ∷ xs) = (filter_all (λ y. not (R x y)) (firsts R xs), pairwise_filter R (λ y. not (R x y)) (firsts R xs) (firsts_pairwise R xs))

abbrev Three : (ℕ → ℕ → Bool) → List ℕ → Type 0
Three R l = (a b c : ℕ) × Memᴰ a l × Memᴰ b l × Memᴰ c l × (not (R a b) ≡ true) × (not (R b c) ≡ true) × (not (R a c) ≡ true)

pub take_three : (R : ℕ → ℕ → Bool) (l : List ℕ) → Pairwise R l → 3 ≤ length l → Three R l
take_three R [] p h = absurd (omega arith)
take_three R (a ∷ []) p h = absurd (omega arith)
take_three R (a ∷ b ∷ []) p h = absurd (omega arith)
take_three R (a ∷ b ∷ c ∷ l) p h = (
  a,
  b,
  c,
  Memᴰ.head refl,
  Memᴰ.tail (Memᴰ.head refl),
  Memᴰ.tail (Memᴰ.tail (Memᴰ.head refl)),
  p.0.0,
  p.1.0.0,
  p.0.1.0,
)

pub one_in : {x : ℕ} {l : List ℕ} → Memᴰ x l → 1 ≤ length l
one_in (Memᴰ.head p) = omega arith
one_in (Memᴰ.tail m) = omega arith

two_in : {x y : ℕ} {l : List ℕ} → Memᴰ x l → Memᴰ y l → ¬ (x ≡ y) → 2 ≤ length l
two_in (Memᴰ.head p) (Memᴰ.head q) n = absurd (n (p ∙ sym q))
two_in (Memᴰ.head p) (Memᴰ.tail k) n = omega (arith, one_in k)
two_in (Memᴰ.tail m) (Memᴰ.head q) n = omega (arith, one_in m)
two_in (Memᴰ.tail m) (Memᴰ.tail k) n = omega (arith, one_in m)

pub three_in : {x y z : ℕ} {l : List ℕ} → Memᴰ x l → Memᴰ y l → Memᴰ z l → ¬ (x ≡ y) → ¬ (y ≡ z) → ¬ (x ≡ z) → 3 ≤ length l
three_in (Memᴰ.head p) (Memᴰ.head q) s n r o = absurd (n (p ∙ sym q))
three_in (Memᴰ.head p) (Memᴰ.tail k) (Memᴰ.head s) n r o = absurd (o (p ∙ sym s))
three_in (Memᴰ.head p) (Memᴰ.tail k) (Memᴰ.tail s) n r o = omega (arith, two_in k s r)
three_in (Memᴰ.tail m) (Memᴰ.head q) (Memᴰ.head s) n r o = absurd (r (q ∙ sym s))
three_in (Memᴰ.tail m) (Memᴰ.head q) (Memᴰ.tail s) n r o = omega (arith, two_in m s o)
three_in (Memᴰ.tail m) (Memᴰ.tail k) s n r o = omega (arith, two_in m k n)

-- ---- r has the number k in xs, whose first has the number i
pub data Nth (r : ℕ) : ℕ → List ℕ → ℕ → Type 0 where
  here : {i : ℕ} {xs : List ℕ} → Nth r i (r ∷ xs) i
  there : {i k x : ℕ} {xs : List ℕ} → Nth r (suc i) xs k → Nth r i (x ∷ xs) k

pub nth_low : {r i k : ℕ} {xs : List ℕ} → Nth r i xs k → (i ≤ k) × (k < i + length xs)
nth_low here = (omega arith, omega arith)
nth_low (there n) = let (a, b) = nth_low n in (omega arith, omega arith)

pub nth_in : {r i k : ℕ} {xs : List ℕ} → Nth r i xs k → Memᴰ r xs
nth_in here = Memᴰ.head refl
nth_in (there n) = Memᴰ.tail (nth_in n)

pub in_nth : (r i : ℕ) (xs : List ℕ) → Memᴰ r xs → (k : ℕ) × Nth r i xs k
in_nth r i [] x' = elim x' [ ]
in_nth r i (x ∷ xs) (Memᴰ.head p) = (i, subst (λ (v : ℕ). Nth r i (v ∷ xs) i) p here)
in_nth r i (x ∷ xs) (Memᴰ.tail m) = let (k, n) = in_nth r (suc i) xs m in (k, there n)

-- getD from i on
abbrev pub entry : ℕ → List ℕ → ℕ → ℕ
entry i [] k = 0
entry i (x ∷ xs) k = cond (eqb k i) x (entry (suc i) xs k)

pub nth_entry : {r i k : ℕ} {xs : List ℕ} → Nth r i xs k → entry i xs k ≡ r
nth_entry {r} {i} (here {xs = xs}) = ap (λ b. cond b r (entry (suc i) xs i)) (eq-eqb i i refl)
nth_entry {i} {k} (there {x = x} {xs = xs} n) =
    on_bool (eqb k i) (λ t. absurd (omega (arith, eqb-true k i t, (nth_low n).0))) (λ f. ap (λ b. cond b x (entry (suc i) xs k)) f ∙ nth_entry n)

pub entry_nth : (i k : ℕ) (xs : List ℕ) → i ≤ k → k < i + length xs → Nth (entry i xs k) i xs k
entry_nth i k [] a b = absurd (omega arith)
entry_nth i k (x ∷ xs) a b = go (eqb k i) refl (λ c. entry_nth (suc i) k xs c (omega arith))
  where
    go : (t : Bool) → eqb k i ≡ t → (suc i ≤ k → Nth (entry (suc i) xs k) (suc i) xs k) → Nth (cond t x (entry (suc i) xs k)) i (x ∷ xs) k
    go true e f = subst (λ (v : ℕ). Nth x i (x ∷ xs) v) (sym (eqb-true k i e)) here
    go false e f = let n : ¬ (k ≡ i) = eqb-false k i e in there (f (omega arith))

pub pairwise_nth : (R : ℕ → ℕ → Bool) {r s i j k : ℕ} {xs : List ℕ} → Pairwise R xs → Nth r i xs j → Nth s i xs k → j < k → R r s ≡ true → ⊥
pairwise_nth R p here here l t = omega arith
pairwise_nth R {r} {s} p (here {xs = xs}) (there n) l t = contradict (of (λ y. not (R r y)) xs p.0 (nth_in n)) (ap not t)
  where
    of : (P : ℕ → Bool) {s : ℕ} (xs : List ℕ) → All (λ y. P y ≡ true) xs → Memᴰ s xs → P s ≡ true
    of P [] a x24 = elim x24 [ ]
    of P (x ∷ xs) a (Memᴰ.head q) = ap P q ∙ a.0
    of P (x ∷ xs) a (Memᴰ.tail m) = of P xs a.1 m
pairwise_nth R p (there m) here l t = let (a, b) = nth_low m in omega arith
pairwise_nth R p (there m) (there n) l t = pairwise_nth R p.1 m n l t

-- ---- edges
pub mem_append : {A : Type 0} {a : A} (xs ys : List A) → Memᴰ a xs ⊎ Memᴰ a ys → Memᴰ a (xs ++ ys)
mem_append (x ∷ xs) ys (inl (Memᴰ.head p)) = Memᴰ.head p
mem_append (x ∷ xs) ys (inl (Memᴰ.tail m)) = Memᴰ.tail (mem_append xs ys (inl m))
mem_append {A = A} {a = a} [] ys (inl x'') = elim x'' [ ]
mem_append [] ys (inr m) = m
mem_append (x ∷ xs) ys (inr m) = Memᴰ.tail (mem_append xs ys (inr m))

-- ---- the numbers of the active nodes come in order
pub filter_both : (f k h : ℕ → Bool) → ((c : ℕ) → (f c && k c) ≡ h c) → (l : List ℕ) → filter f (filter k l) ≡ filter h l
filter_both f k h e [] = refl
filter_both f k h e (x ∷ l) = go (k x) refl (filter_both f k h e l)
  where
    off : (a : Bool) → (a && false) ≡ false
    off true = refl
    off false = refl

    on : (a : Bool) → (a && true) ≡ a
    on true = refl
    on false = refl

    go : (b : Bool) → k x ≡ b → filter f (filter k l) ≡ filter h l → filter f (cond b (x ∷ filter k l) (filter k l)) ≡ cond (h x) (x ∷ filter h l) (filter h l)
    go true p i = ap₂ (λ b m. cond b (x ∷ m) m) (sym (on (f x)) ∙ ap (λ b. f x && b) (sym p) ∙ e x) i
    go false p i = i ∙ ap (λ b. cond b (x ∷ filter h l) (filter h l)) (sym (sym (e x) ∙ ap (λ b. f x && b) p ∙ off (f x)))

pub filter_true : (l : List ℕ) → filter (λ x. true) l ≡ l
filter_true [] = refl
filter_true (x ∷ l) = ap (λ m. x ∷ m) (filter_true l)

pub range_length : (i n : ℕ) → length (range i n) ≡ n
range_length i zero = refl
range_length i (suc n) = ap suc (range_length (suc i) n)

pub range_mem : (z i n : ℕ) → i ≤ z → z < i + n → Memᴰ z (range i n)
range_mem z i zero a b = absurd (omega arith)
range_mem z i (suc n) a b = on_bool (eqb z i) (λ t. Memᴰ.head (eqb-true z i t)) λ t. let e : ¬ (z ≡ i) = eqb-false z i t in Memᴰ.tail
    (range_mem z (suc i) n (omega arith) (omega arith))

pub position_nth : (f : ℕ → Bool) (i c : ℕ) (xs : List ℕ) → Memᴰ c xs → f c ≡ true → (s : ℕ) × Nth s i xs (i + position f xs) × (f s ≡ true)
position_nth f i c [] m p = elim m [ ]
position_nth f i c (x ∷ xs) m p = go (f x) refl m (λ n. position_nth f (suc i) c xs n p)
  where
    go : (b : Bool) → f x ≡ b → Memᴰ c (x ∷ xs) → (Memᴰ c xs → (s : ℕ) × Nth s (suc i) xs (suc i + position f xs) × (f s ≡ true)) → (s : ℕ)
        × Nth s i (x ∷ xs) (i + cond b 0 (suc (position f xs))) × (f s ≡ true)
    go true e m k = let z : i ≡ i + 0 = omega arith in (x, subst (λ (v : ℕ). Nth x i (x ∷ xs) v) z here, e)
    go false e (Memᴰ.head q) k = contradict (ap f (sym q) ∙ p) e
    go false e (Memᴰ.tail m) k =
        let (s, n, h) = k m in
        let z : suc i + position f xs ≡ i + suc (position f xs) = omega arith in
        (s, there (subst (λ (v : ℕ). Nth s (suc i) xs v) z n), h)

-- what stands behind an entry that passes does not matter
pub position_append : (f : ℕ → Bool) (c : ℕ) (xs ys : List ℕ) → Memᴰ c xs → f c ≡ true → position f (xs ++ ys) ≡ position f xs
position_append f c [] ys m p = elim m [ ]
position_append f c (x ∷ xs) ys m p = go (f x) refl m (λ n. position_append f c xs ys n p)
  where
    go : (b : Bool) → f x ≡ b → Memᴰ c (x ∷ xs) → (Memᴰ c xs → position f (xs ++ ys) ≡ position f xs)
        → cond b 0 (suc (position f (xs ++ ys))) ≡ cond b 0 (suc (position f xs))
    go true e m k = refl
    go false e (Memᴰ.head q) k = contradict (ap f (sym q) ∙ p) e
    go false e (Memᴰ.tail m) k = ap suc (k m)

-- ---- the nodes as a list
pub table_length : {A : Type 0} (ρ : ℕ → A) (i n : ℕ) → length (table ρ i n) ≡ n
table_length ρ i zero = refl
table_length ρ i (suc n) = ap suc (table_length ρ (suc i) n)

pub table_all : (P : ℕ → Type 0) (ρ : ℕ → ℕ) (i n : ℕ) → ((j : ℕ) → i ≤ j → j < i + n → P (ρ j)) → All P (table ρ i n)
table_all P ρ i zero f = tt
table_all P ρ i (suc n) f = (f i (omega arith) (omega arith), table_all P ρ (suc i) n (λ j a b. f j (omega arith) (omega arith)))

pub table_in : {A : Type 0} (ρ : ℕ → A) (i n k : ℕ) → i ≤ k → k < i + n → Memᴰ (ρ k) (table ρ i n)
table_in ρ i zero k a b = absurd (omega arith)
table_in ρ i (suc n) k a b = on_bool (eqb k i) (λ t. Memᴰ.head (ap ρ (eqb-true k i t))) λ t. let e : ¬ (k ≡ i) = eqb-false k i t in Memᴰ.tail
    (table_in ρ (suc i) n k (omega arith) (omega arith))

pub table_nth : (ρ : ℕ → ℕ) (i n k : ℕ) → i ≤ k → k < i + n → Nth (ρ k) i (table ρ i n) k
table_nth ρ i zero k a b = absurd (omega arith)
table_nth ρ i (suc n) k a b = on_bool (eqb k i)
    (λ t. subst (λ (v : ℕ). Nth (ρ v) i (table ρ i (suc n)) v) (sym (eqb-true k i t)) here)
    (λ t. let e : ¬ (k ≡ i) = eqb-false k i t in there (table_nth ρ (suc i) n k (omega arith) (omega arith)))

pub table_mem : {A : Type 0} (ρ : ℕ → A) (i n : ℕ) (x : A) → Memᴰ x (table ρ i n) → (k : ℕ) × (k < i + n) × (x ≡ ρ k)
table_mem ρ i zero x m = absurd (elim m [ ])
table_mem ρ i (suc n) x (Memᴰ.head p) = (i, omega arith, p)
table_mem ρ i (suc n) x (Memᴰ.tail m) = let (k, l, p) = table_mem ρ (suc i) n x m in (k, omega arith, p)

-- ---- lists in order
abbrev pub Ordered : (ℕ → ℕ → Type 0) → List ℕ → Type 0
Ordered P [] = Unit {0}
Ordered P (x ∷ xs) = All (P x) xs × Ordered P xs

pub ordered_filter : (P : ℕ → ℕ → Type 0) (f : ℕ → Bool) (xs : List ℕ) → Ordered P xs → Ordered P (filter f xs)
ordered_filter P f [] o = tt
ordered_filter P f (x ∷ xs) o = go (f x) (ordered_filter P f xs o.1)
  where
    go : (b : Bool) → Ordered P (filter f xs) → Ordered P (cond b (x ∷ filter f xs) (filter f xs))
    go true r = (all_filter (P x) f xs o.0, r)
    go false r = r

all_firsts : (P : ℕ → Type 0) (R : ℕ → ℕ → Bool) (xs : List ℕ) → All P xs → All P (firsts R xs)
all_firsts P R [] a = tt
all_firsts P R (x ∷ xs) a = (a.0, all_filter P (λ y. not (R x y)) (firsts R xs) (all_firsts P R xs a.1))

pub ordered_firsts : (P : ℕ → ℕ → Type 0) (R : ℕ → ℕ → Bool) (xs : List ℕ) → Ordered P xs → Ordered P (firsts R xs)
ordered_firsts P R [] o = tt
ordered_firsts P R (x ∷ xs) o = (
  all_filter (P x) (λ y. not (R x y)) (firsts R xs) (all_firsts (P x) R xs o.0),
  ordered_filter P (λ y. not (R x y)) (firsts R xs) (ordered_firsts P R xs o.1),
)

all_at : (P : ℕ → Type 0) (a : ℕ) (xs : List ℕ) → All P xs → Memᴰ a xs → P a
all_at P a [] o x'' = elim x'' [ ]
all_at P a (x ∷ xs) o (Memᴰ.head p) = subst P (sym p) o.0
all_at P a (x ∷ xs) o (Memᴰ.tail m) = all_at P a xs o.1 m

pub all_give : (P : ℕ → Type 0) (xs : List ℕ) → ((a : ℕ) → Memᴰ a xs → P a) → All P xs
all_give P [] f = tt
all_give P (x ∷ xs) f = (f x (Memᴰ.head refl), all_give P xs (λ a m. f a (Memᴰ.tail m)))

-- the first of a's group stands before a
pub firsts_before : (P : ℕ → ℕ → Type 0) (R : ℕ → ℕ → Bool) → ((x : ℕ) → R x x ≡ true) → ((x y z : ℕ) → R x y ≡ true → R y z ≡ true → R x z ≡ true)
    → (a : ℕ) (xs : List ℕ) → Ordered P xs → Memᴰ a xs → (c : ℕ) × Memᴰ c (firsts R xs) × (R c a ≡ true) × ((c ≡ a) ⊎ P c a)
firsts_before P R r t a [] o x'' = elim x'' [ ]
firsts_before P R r t a (x ∷ xs) o (Memᴰ.head p) = (x, Memᴰ.head refl, subst (λ (v : ℕ). R x v ≡ true) (sym p) (r x), inl (sym p))
firsts_before P R r t a (x ∷ xs) o (Memᴰ.tail m) =
    let (c, n, q, b) = firsts_before P R r t a xs o.1 m in
    on_bool (R x c) (λ e. (x, Memᴰ.head refl, t x c a e q, inr (all_at (P x) a xs o.0 m))) λ e. (c, Memᴰ.tail (in_filter (λ y. not (R x y)) c (firsts R xs) n (ap not e)), q, b)

pub ordered_nth : (P : ℕ → ℕ → Type 0) {r s i j k : ℕ} {xs : List ℕ} → Ordered P xs → Nth r i xs j → Nth s i xs k → j < k → P r s
ordered_nth P o Nth.here Nth.here l = absurd (omega arith)
ordered_nth P {r} {s} o (Nth.here {xs = xs}) (Nth.there n) l = all_at (P r) s xs o.0 (nth_in n)
ordered_nth P o (Nth.there m) Nth.here l = let (a, b) = nth_low m in absurd (omega arith)
ordered_nth P o (Nth.there m) (Nth.there n) l = ordered_nth P o.1 m n l

range_low : (z i n : ℕ) → Memᴰ z (range i n) → i ≤ z
range_low z i zero m = absurd (elim m [ ])
range_low z i (suc n) (Memᴰ.head p) = omega arith
range_low z i (suc n) (Memᴰ.tail m) = omega (arith, range_low z (suc i) n m)

pub range_ordered : (i n : ℕ) → Ordered (λ x y. x < y) (range i n)
range_ordered i zero = tt
range_ordered i (suc n) = (all_give (λ y. i < y) (range (suc i) n) (λ a m. range_low a (suc i) n m), range_ordered (suc i) n)

pub ordered_map : (P Q : ℕ → ℕ → Type 0) (xs : List ℕ) → ((x y : ℕ) → P x y → Q x y) → Ordered P xs → Ordered Q xs
ordered_map P Q [] f o = tt
ordered_map P Q (x ∷ xs) f o = (all_give (Q x) xs (λ a m. f x a (all_at (P x) a xs o.0 m)), ordered_map P Q xs f o.1)

pub map_same : (σ σ' : ℕ → ℕ) (S : List ℕ) → map σ S ≡ map σ' S → (a : ℕ) → Memᴰ a S → σ a ≡ σ' a
map_same σ σ' [] e a x'' = elim x'' [ ]
map_same σ σ' (x ∷ S) e a (Memᴰ.head p) = ap σ p ∙ hd ∙ ap σ' (sym p)
  where
    hd : σ x ≡ σ' x
    hd = cc
map_same σ σ' (x ∷ S) e a (Memᴰ.tail m) = map_same σ σ' S tl a m
  where
    tl : map σ S ≡ map σ' S
    tl = cc

pub mem_member : (a : ℕ) (S : List ℕ) → Memᴰ a S → member S a ≡ true
mem_member a [] x' = elim x' [ ]
mem_member a (x ∷ S) (Memᴰ.head p) = ap (λ b. b || member S a) (eq-eqb a x p)
mem_member a (x ∷ S) (Memᴰ.tail m) = ap (λ b. eqb a x || b) (mem_member a S m) ∙ or-true (eqb a x)
