-- Laws of lists as the values of a function: table (its length, entries, members, one more entry), take and pairs as tables, and over, a table whose first
-- entries are written.
-- Assumes nothing.
use Prim.Native.Nat.{◌+◌, ◌-◌, ◌<◌, ◌≤◌, suc, zero, ℕ}
use mathlib.Core.List.{List, [], ◌++◌, ◌∷◌, map}
use mathlib.Core.Path.{◌∙◌, ◌≡◌, ap, ap₂, refl, sym}
use lib.ListN.{get_or-append, drop, get_or, length, length-append, length-drop, replicate, set, take}
use lib.Seq.{ext_get_or, get_or-append-add, get_or-drop, sets}
use native.Mathlib.Nat.{add-zero}
use native.Mathlib.Numerals.{add-one}
use native.Mathlib.Omega.{arith}
use Rattle.theory_graph.proofs.Lists.{table_length}
use Rattle.theory_graph.specs.Lists.{over, pairs, table}

-- ---- table
module _ {A : Type 0} where
  pub table_equal : (f g : ℕ → A) (i k : ℕ) → ((j : ℕ) → i ≤ j → j < i + k → f j ≡ g j) → table f i k ≡ table g i k
  table_equal f g i zero e = refl
  table_equal f g i (suc k) e = ap₂ ◌∷◌ (e i (omega arith) (omega arith)) (table_equal f g (suc i) k (λ j a b. e j (omega arith) (omega arith)))

  table_shift : (f : ℕ → A) (i k : ℕ) → table f (suc i) k ≡ table (λ j. f (suc j)) i k
  table_shift f i zero = refl
  table_shift f i (suc k) = ap (λ l. f (suc i) ∷ l) (table_shift f (suc i) k)

  table_suc : (f : ℕ → A) (i k : ℕ) → table f i (suc k) ≡ table f i k ++ (f (i + k) ∷ [])
  table_suc f i zero = let e : i ≡ i + 0 = omega arith in ap (λ j. f j ∷ []) e
  table_suc f i (suc k) = let e : suc i + k ≡ i + suc k = omega arith in ap (λ l. f i ∷ l) (table_suc f (suc i) k ∙ ap (λ j. table f (suc i) k ++ (f j ∷ [])) e)

  pub table_more : (f : ℕ → A) (k : ℕ) → table f 0 (k + 1) ≡ table f 0 k ++ (f k ∷ [])
  table_more f k = let e : 0 + k ≡ k = omega arith in ap (table f 0) (add-one k) ∙ table_suc f 0 k ∙ ap (λ j. table f 0 k ++ (f j ∷ [])) e

pub table_append : (f : ℕ → ℕ) (i m n : ℕ) → table f i (m + n) ≡ table f i m ++ table f (i + m) n
table_append f i zero n = let a : 0 + n ≡ n = omega arith in let b : i + 0 ≡ i = omega arith in rw (a, b) refl
table_append f i (suc m) n =
    let a : suc m + n ≡ suc (m + n) = omega arith in
    let b : i + suc m ≡ suc i + m = omega arith in
    rw (a, b) (ap (λ l. f i ∷ l) (table_append f (suc i) m n))

table_entry : {A : Type 0} (f : ℕ → A) (i k j : ℕ) (d : A) → j < k → get_or (table f i k) j d ≡ f (i + j)
table_entry f i zero j d l = absurd (omega arith)
table_entry f i (suc k) zero d l = let e : i ≡ i + 0 = omega arith in ap f e
table_entry f i (suc k) (suc j) d l = let e : suc i + j ≡ i + suc j = omega arith in table_entry f (suc i) k j d (omega arith) ∙ ap f e

pub table_at : {A : Type 0} (f : ℕ → A) (k j : ℕ) (d : A) → j < k → get_or (table f 0 k) j d ≡ f j
table_at f k j d l = let e : 0 + j ≡ j = omega arith in table_entry f 0 k j d l ∙ ap f e

pub table_get_or : (f : ℕ → ℕ) (k j : ℕ) → j < k → get_or (table f 0 k) j 0 ≡ f j
table_get_or f k j l = table_at f k j 0 l

pub table_map : {A B : Type 0} (g : A → B) (f : ℕ → A) (i k : ℕ) → map g (table f i k) ≡ table (λ j. g (f j)) i k
table_map g f i zero = refl
table_map g f i (suc k) = ap (λ l. g (f i) ∷ l) (table_map g f (suc i) k)

-- ---- the first entries of a list, and parallel lists, as tables
pub take_table : (k : ℕ) (xs : List ℕ) → k ≤ length xs → take k xs ≡ table (λ i. get_or xs i 0) 0 k
take_table zero xs l = refl
take_table (suc k) [] l = absurd (omega arith)
take_table (suc k) (x ∷ xs) l = ap (λ t. x ∷ t) (take_table k xs (omega arith) ∙ sym (table_shift (λ i. get_or (x ∷ xs) i 0) 0 k))

pub pairs_tables : {A B : Type 0} (f : ℕ → A) (g : ℕ → B) (i k : ℕ) → pairs (table f i k) (table g i k) ≡ table (λ j. (f j, g j)) i k
pairs_tables f g i zero = refl
pairs_tables f g i (suc k) = ap (λ l. (f i, g i) ∷ l) (pairs_tables f g (suc i) k)

pub pairs_table : (m : ℕ) (xs ys : List ℕ) → m ≤ length xs → m ≤ length ys → pairs (take m xs) (take m ys) ≡ table (λ e. (get_or xs e 0, get_or ys e 0)) 0 m
pairs_table m xs ys a b = ap₂ pairs (take_table m xs a) (take_table m ys b) ∙ pairs_tables (λ i. get_or xs i 0) (λ i. get_or ys i 0) 0 m

-- and three, the third beside the pairs of the first two
pub triples_table : (m : ℕ) (xs ys zs : List ℕ) → m ≤ length xs → m ≤ length ys → m ≤ length zs
    → pairs (pairs (take m xs) (take m ys)) (take m zs) ≡ table (λ e. ((get_or xs e 0, get_or ys e 0), get_or zs e 0)) 0 m
triples_table m xs ys zs a b c = ap₂ pairs (pairs_table m xs ys a b) (take_table m zs c) ∙ pairs_tables (λ e. (get_or xs e 0, get_or ys e 0)) (λ i. get_or zs i 0) 0 m

-- ---- two parallel lists
pub pairs_length : {A B : Type 0} (x : List A) (y : List B) (n : ℕ) → n ≤ length x → n ≤ length y → n ≤ length (pairs x y)
pairs_length [] y n a b = a
pairs_length (x ∷ xs) [] n a b = b
pairs_length (x ∷ xs) (y ∷ ys) zero a b = omega arith
pairs_length (x ∷ xs) (y ∷ ys) (suc n) a b = omega (arith, pairs_length xs ys n (omega arith) (omega arith))

pub pairs_first : {A B : Type 0} (xs : List A) (ys : List B) → length xs ≡ length ys → map (λ (e : A × B). e.0) (pairs xs ys) ≡ xs
pairs_first [] ys e = refl
pairs_first (x ∷ xs) [] e = absurd (omega arith)
pairs_first (x ∷ xs) (y ∷ ys) e = ap (λ l. x ∷ l) (pairs_first xs ys (omega arith))

pub pairs_at : (x y : List ℕ) (i : ℕ) → i < length x → i < length y → get_or (pairs x y) i (0, 0) ≡ (get_or x i 0, get_or y i 0)
pairs_at [] y i a b = absurd (omega arith)
pairs_at (x ∷ xs) [] i a b = absurd (omega arith)
pairs_at (x ∷ xs) (y ∷ ys) zero a b = refl
pairs_at (x ∷ xs) (y ∷ ys) (suc i) a b = pairs_at xs ys i (omega arith) (omega arith)

-- ---- texts written one after the other
pub sets_append : (xs l : List ℕ) (i : ℕ) (ys : List ℕ) → sets l i (xs ++ ys) ≡ sets (sets l i xs) (i + length xs) ys
sets_append [] l i ys = rw add-zero refl
sets_append (x ∷ xs) l i ys = sets_append xs (set l i x) (suc i) ys ∙ ap (λ (k : ℕ). sets (sets (set l i x) (suc i) xs) k ys) (omega arith)

-- ---- over
pub over_length : (xs t : List ℕ) → length xs ≤ length t → length (over xs t) ≡ length t
over_length xs t l = omega (arith, length-append xs (drop (length xs) t), length-drop (length xs) t)

pub over_front : (xs t : List ℕ) (i : ℕ) → i < length xs → get_or (over xs t) i 0 ≡ get_or xs i 0
over_front xs t i l = get_or-append xs (drop (length xs) t) 0 i l

pub over_past : (xs t : List ℕ) (i : ℕ) → length xs ≤ i → get_or (over xs t) i 0 ≡ get_or t i 0
over_past xs t i l =
    let e : length xs + (i - length xs) ≡ i = omega arith in
    ap (λ j. get_or (over xs t) j 0) (sym e) ∙ get_or-append-add xs (drop (length xs) t) (i - length xs) 0 ∙ get_or-drop (length xs) t (i - length xs) 0 ∙ ap (λ j. get_or t j 0) e

-- tables that agree past what is written are one afterwards
pub over_equal : (xs t u : List ℕ) → length t ≡ length u → ((i : ℕ) → length xs ≤ i → get_or t i 0 ≡ get_or u i 0) → over xs t ≡ over xs u
over_equal xs t u e f = ap (λ l. xs ++ l) (ext_get_or 0 (drop (length xs) t) (drop (length xs) u) (omega (arith, length-drop (length xs) t, length-drop (length xs) u))
    (λ i l. get_or-drop (length xs) t i 0 ∙ f (length xs + i) (omega arith) ∙ sym (get_or-drop (length xs) u i 0)))

over_suc : (f : ℕ → ℕ) (j k : ℕ) (t : List ℕ) → k < length t → set (over (table f j k) t) k (f (j + k)) ≡ over (table f j (suc k)) t
over_suc f j k [] l = absurd (omega arith)
over_suc f j zero (x ∷ t) l = let e : j + 0 ≡ j = omega arith in ap (λ i. f i ∷ t) e
over_suc f j (suc k) (x ∷ t) l = let e : j + suc k ≡ suc j + k = omega arith in ap (λ (u : List ℕ). f j ∷ u)
    (ap (λ i. set (over (table f (suc j) k) t) k (f i)) e ∙ over_suc f (suc j) k t (omega arith))

-- one more entry is written
pub over_more : (f : ℕ → ℕ) (k : ℕ) (t : List ℕ) → k < length t → set (over (table f 0 k) t) k (f k) ≡ over (table f 0 (k + 1)) t
over_more f k t l =
    let e : k ≡ 0 + k = omega arith in
    ap (λ i. set (over (table f 0 k) t) k (f i)) e ∙ over_suc f 0 k t l ∙ ap (λ i. over (table f 0 i) t) (sym (add-one k))

-- in a loop: b is t with the first k entries written
module _ (f : ℕ → ℕ) (k : ℕ) (t : List ℕ) {b : List ℕ} (e : b ≡ over (table f 0 k) t) where
  pub written_length : k ≤ length t → length b ≡ length t
  written_length l = ap length e ∙ over_length (table f 0 k) t (omega (arith, table_length f 0 k))

  pub written_more : {x : ℕ} → k < length t → x ≡ f k → set b k x ≡ over (table f 0 (k + 1)) t
  written_more l q = ap₂ (λ (u : List ℕ) (y : ℕ). set u k y) e q ∙ over_more f k t l

  pub written_all : (m : ℕ) → k ≡ m → b ≡ over (table f 0 m) t
  written_all m q = e ∙ ap (λ i. over (table f 0 i) t) q

pub zeros_table : (k i : ℕ) → table {A = ℕ} (λ _. 0) i k ≡ replicate k 0
zeros_table zero i = refl
zeros_table (suc k) i = ap (λ (l : List ℕ). 0 ∷ l) (zeros_table k (suc i))
