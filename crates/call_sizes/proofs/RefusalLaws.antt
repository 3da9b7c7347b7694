-- Laws of refusals: where a list of faults refuses nothing no test holds, and the other way round; and what the first number that passes a test says of
-- those before it. Then those of the code's refusals: checks that follow one another by `?`, and what a search answers.
-- Assumes nothing.
use Prim.Native.Nat.{◌+◌, ◌-◌, ◌<◌, ◌≤◌, suc, zero, ℕ}
use mathlib.Core.Bool.{Bool, cond, false, not, true, ◌||◌}
use mathlib.Core.List.{List, [], ◌++◌, ◌∷◌}
use mathlib.Core.Logic.{◌↔◌}
use mathlib.Core.Path.{◌∙◌, ◌≡◌, ap, refl, sym}
use lib.Dec.{eqb, ltb}
use lib.ListN.{get_or, length, take}
use lib.Seq.{length-take-le}
use native.Mathlib.Numerals.{add-one}
use native.Mathlib.Omega.{arith}
use borrow.Author.Tests.{eqb-false, eqb-true, le-ltb, lt-leb, ltb-false, ne_eqb}
use Rattle.std.specs.Prelude.{IsErrAnd, None, Option, Result, Some, nat_lt, position}
use Rattle.std.specs.List.{list_any, prefix_len}
use Rattle.std.proofs.lemmas.List.{get_or-take}
use Rattle.std.proofs.lemmas.Result.{err_from_is_err_and}
use Rattle.theory_graph.proofs.Booleans.{on_bool}
use Rattle.call_sizes.specs.Numbers.{number_of, numbers_of, place_of, refused_by}
use Rattle.call_sizes.specs.Refusal.{Refusal, Row, bad_ends, below_rows, first_fault, first_of, long_rows, row, seek, short_rows}
use Rattle.call_sizes.specs.Sizes.{size_faults}
use Rattle.call_sizes.specs.declared.Refusal as declared
use Rattle.call_sizes.specs.declared.Refusal.TheVariants.{ClosesClosed, End, Entry, InputLength, LongTable, NamesNothing, OpensOpen, ProgramLimit, Share, ShortTable, Size, Start}

-- ---- faults
-- no test holds
abbrev pub Silent : List Row → Type 0
Silent [] = Unit {0}
Silent (r ∷ rs) = (r.test ≡ false) × Silent rs

-- a row that holds has a number that is not 0
abbrev pub Numbered : List Row → Type 0
Numbered [] = Unit {0}
Numbered (r ∷ rs) = (r.test ≡ true → 0 < r.code) × Numbered rs

pub fault_silent : (rs : List Row) → Numbered rs → (first_fault rs).0 ≡ 0 → Silent rs
fault_silent [] n h = tt
fault_silent (r ∷ rs) n h = go r.test refl h (fault_silent rs n.1)
  where
    go : (b : Bool) → r.test ≡ b → (cond b (r.code, r.place) (first_fault rs)).0 ≡ 0 → ((first_fault rs).0 ≡ 0 → Silent rs) → (r.test ≡ false) × Silent rs
    go true e h f = absurd (omega (arith, n.0 e))
    go false e h f = (e, f h)

pub silent_fault : (rs : List Row) → Silent rs → first_fault rs ≡ (0, 0)
silent_fault [] s = refl
silent_fault (r ∷ rs) s = ap (λ (b : Bool). cond b (r.code, r.place) (first_fault rs)) s.0 ∙ silent_fault rs s.1

pub silent_left : (rs bs : List Row) → Silent (rs ++ bs) → Silent rs
silent_left [] bs s = tt
silent_left (r ∷ rs) bs s = (s.0, silent_left rs bs s.1)

pub silent_right : (rs bs : List Row) → Silent (rs ++ bs) → Silent bs
silent_right [] bs s = s
silent_right (r ∷ rs) bs s = silent_right rs bs s.1

pub silent_append : (rs bs : List Row) → Silent rs → Silent bs → Silent (rs ++ bs)
silent_append [] bs s t = t
silent_append (r ∷ rs) bs s t = (s.0, silent_append rs bs s.1 t)

pub numbered_append : (rs bs : List Row) → Numbered rs → Numbered bs → Numbered (rs ++ bs)
numbered_append [] bs s t = t
numbered_append (r ∷ rs) bs s t = (s.0, numbered_append rs bs s.1 t)

-- ---- lengths
-- no first number is below its second: of lengths and least lengths, each table is as long as it must be
abbrev pub Long : List (ℕ × ℕ) → Type 0
Long [] = Unit {0}
Long (t ∷ ts) = (t.1 ≤ t.0) × Long ts

pub below_numbered : (c : ℕ) → 0 < c → (ts : List (ℕ × ℕ)) → Numbered (below_rows c ts)
below_numbered c p [] = tt
below_numbered c p (t ∷ ts) = (λ h. p, below_numbered c p ts)

pub below_long : (c : ℕ) (ts : List (ℕ × ℕ)) → Silent (below_rows c ts) ↔ Long ts
below_long c [] = (λ s. s, λ s. s)
below_long c (t ∷ ts) = let (to, from) = below_long c ts in (λ s. (ltb-false t.0 t.1 s.0, to s.1), λ l. (le-ltb t.0 t.1 l.0, from l.1))

-- of refusal 2
pub short_numbered : (ts : List (ℕ × ℕ)) → Numbered (short_rows ts)
short_numbered = below_numbered 2 (omega arith)

-- what is left of it where it does not refuse
pub accepted_long : (ts : List (ℕ × ℕ)) → (first_fault (short_rows ts)).0 ≡ 0 → Long ts
accepted_long ts z = (below_long 2 ts).0 (fault_silent (short_rows ts) (short_numbered ts) z)

-- of refusal 12
pub long_numbered : (ts : List (ℕ × ℕ)) → Numbered (long_rows ts)
long_numbered = below_numbered 12 (omega arith)

-- the rows refuse where a first number is below its second
pub below_any : (c : ℕ) (ts : List (ℕ × ℕ)) → first_fault (below_rows c ts) ≡ cond (list_any (λ (t : ℕ × ℕ). ltb t.0 t.1) ts) (c, 0) (0, 0)
below_any c [] = refl
below_any c (t ∷ ts) = go (ltb t.0 t.1) (below_any c ts)
  where
    go : (b : Bool) → first_fault (below_rows c ts) ≡ cond (list_any (λ (t : ℕ × ℕ). ltb t.0 t.1) ts) (c, 0) (0, 0)
        → cond b (c, 0) (first_fault (below_rows c ts)) ≡ cond (b || list_any (λ (t : ℕ × ℕ). ltb t.0 t.1) ts) (c, 0) (0, 0)
    go true h = refl
    go false h = h

-- what the check of pairs replies where a first number is below its second, and where none is
module _ (r : declared.Refusal) (ts : List (ℕ × ℕ)) where
  abbrev some_below : Bool
  some_below = list_any (λ p. nat_lt p.0 p.1) ts

  pub pairs_refused : some_below ≡ true
      → (numbers_of r ≡ cond some_below (numbers_of r) (0, 0)) × (place_of r ≡ 0 → numbers_of r ≡ first_fault (below_rows (number_of r) ts))
  pairs_refused t = (rw t refl, λ e. rw (below_any (number_of r) ts, t, e) refl)

  pub pairs_accepted : some_below ≡ false
      → (◌≡◌ {A = Refusal} (0, 0) (cond some_below (numbers_of r) (0, 0))) × (place_of r ≡ 0 → (0, 0) ≡ first_fault (below_rows (number_of r) ts))
  pairs_accepted f = (rw f refl, λ e. rw (below_any (number_of r) ts, f) refl)

-- ---- the first fault of two lists of rows
pub fault_left : (rs bs : List Row) → ¬ ((first_fault rs).0 ≡ 0) → first_fault (rs ++ bs) ≡ first_fault rs
fault_left [] bs n = absurd (n refl)
fault_left (r ∷ rs) bs n = go r.test n (fault_left rs bs)
  where
    go : (b : Bool) → ¬ ((cond b (r.code, r.place) (first_fault rs)).0 ≡ 0) → (¬ ((first_fault rs).0 ≡ 0) → first_fault (rs ++ bs) ≡ first_fault rs)
        → cond b (r.code, r.place) (first_fault (rs ++ bs)) ≡ cond b (r.code, r.place) (first_fault rs)
    go true n ih = refl
    go false n ih = ih n

pub skip_silent : (rs bs : List Row) → Silent rs → first_fault (rs ++ bs) ≡ first_fault bs
skip_silent [] bs s = refl
skip_silent (r ∷ rs) bs s = ap (λ (b : Bool). cond b (r.code, r.place) (first_fault (rs ++ bs))) s.0 ∙ skip_silent rs bs s.1

pub fault_right : (rs bs : List Row) → Numbered rs → (first_fault rs).0 ≡ 0 → first_fault (rs ++ bs) ≡ first_fault bs
fault_right rs bs n z = skip_silent rs bs (fault_silent rs n z)

pub sizes_numbered : (n m t k : ℕ) → Numbered (size_faults n m t k)
sizes_numbered n m t k = (λ h. omega arith, (λ h. omega arith, (λ h. omega arith, (λ h. omega arith, tt))))

-- ---- checks one behind the other, as `?` chains them
-- a refusal's number is not 0
pub number_positive : (r : declared.Refusal) → 0 < number_of r
number_positive Size = omega arith
number_positive ShortTable = omega arith
number_positive Share = omega arith
number_positive (End s) = omega arith
number_positive (NamesNothing i) = omega arith
number_positive (OpensOpen i) = omega arith
number_positive (ClosesClosed i) = omega arith
number_positive (Entry i) = omega arith
number_positive InputLength = omega arith
number_positive ProgramLimit = omega arith
number_positive (Start s) = omega arith
number_positive LongTable = omega arith

pub number_refuses : (r : declared.Refusal) → eqb (number_of r) 0 ≡ false
number_refuses r = ne_eqb (number_of r) 0 (λ z. omega (arith, number_positive r))

-- where the first check refuses, so does the whole list, by the same
pub first_refuses : (rs bs : List Row) (r : declared.Refusal) → numbers_of r ≡ first_fault rs → numbers_of r ≡ first_fault (rs ++ bs)
first_refuses rs bs r e = e ∙ sym (fault_left rs bs (λ z. let f = ap (λ (f : Refusal). f.0) e in omega (arith, number_positive r)))

-- where it does not, the rest decides
pub rest_decides : (rs bs : List Row) {f : Refusal} → Numbered rs → (0, 0) ≡ first_fault rs → f ≡ first_fault bs → f ≡ first_fault (rs ++ bs)
rest_decides rs bs n z e = e ∙ sym (fault_right rs bs n (ap (λ (f : Refusal). f.0) (sym z)))

-- what `?` hands on is the refusal that it was handed
pub passed_on : {T : Type 0} (r : Result T declared.Refusal) (e : declared.Refusal) → IsErrAnd r (λ d. d ≡ e) → refused_by r ≡ numbers_of e
passed_on r e h = let p = err_from_is_err_and r h in rw (p.1, p.2) refl

-- ---- the first that passes
-- what is found passes
pub seek_found : (f : ℕ → Bool) (i k : ℕ) → seek f i k < i + k → f (seek f i k) ≡ true
seek_found f i zero l = absurd (omega arith)
seek_found f i (suc k) l = go (f i) refl l (λ h. seek_found f (i + 1) k h)
  where
    go : (b : Bool) → f i ≡ b → cond b i (seek f (i + 1) k) < i + suc k → (seek f (i + 1) k < i + 1 + k → f (seek f (i + 1) k) ≡ true) → f (cond b i (seek f (i + 1) k)) ≡ true
    go true e l h = e
    go false e l h = h (omega arith)

-- none before it does
pub seek_before : (f : ℕ → Bool) (i k j : ℕ) → i ≤ j → j < seek f i k → f j ≡ false
seek_before f i zero j a b = absurd (omega arith)
seek_before f i (suc k) j a b = go (f i) refl b (seek_before f (i + 1) k j)
  where
    go : (t : Bool) → f i ≡ t → j < cond t i (seek f (i + 1) k) → (i + 1 ≤ j → j < seek f (i + 1) k → f j ≡ false) → f j ≡ false
    go true e l h = absurd (omega arith)
    go false e l h = on_bool (eqb j i) (λ q. ap f (eqb-true j i q) ∙ e) λ q. let n : ¬ (j ≡ i) = eqb-false j i q in h (omega arith) l

-- where none is found none passes
pub seek_none : (f : ℕ → Bool) (k j : ℕ) → ltb (seek f 0 k) k ≡ false → j < k → f j ≡ false
seek_none f k j h l = seek_before f 0 k j (omega arith) (omega (arith, ltb-false (seek f 0 k) k h))

-- the number that a code finds: i where i passes and none before it does
pub seek_at : (f : ℕ → Bool) (i k j : ℕ) → i ≤ j → j < i + k → f j ≡ true → ((u : ℕ) → i ≤ u → u < j → f u ≡ false) → seek f i k ≡ j
seek_at f i zero j a b t n = absurd (omega arith)
seek_at f i (suc k) j a b t n = on_bool (eqb i j)
    (λ q. let e = eqb-true i j q in ap (λ (c : Bool). cond c i (seek f (i + 1) k)) (ap f e ∙ t) ∙ e)
    (λ q.
    let ne : ¬ (i ≡ j) = eqb-false i j q in
    ap (λ (c : Bool). cond c i (seek f (i + 1) k)) (n i (omega arith) (omega arith)) ∙ seek_at f (i + 1) k j (omega arith) (omega arith) t (λ u p l. n u (omega arith) l))

-- and the end where none passes
pub seek_end : (f : ℕ → Bool) (i k : ℕ) → ((u : ℕ) → i ≤ u → u < i + k → f u ≡ false) → seek f i k ≡ i + k
seek_end f i zero n = omega arith
seek_end f i (suc k) n = ap (λ (c : Bool). cond c i (seek f (i + 1) k)) (n i (omega arith) (omega arith)) ∙ seek_end f (i + 1) k (λ u p l. n u (omega arith) (omega arith)) ∙ omega arith

-- ---- the loops' searches
module _ (p : ℕ → Bool) (s m : ℕ) where
  pub seek_more : s < m → p s ≡ false → seek p s (m - s) ≡ seek p (s + 1) (m - (s + 1))
  seek_more l q = let e : m - s ≡ suc (m - (s + 1)) = omega arith in rw (e, q) refl

  pub seek_here : s < m → p s ≡ true → seek p s (m - s) ≡ s
  seek_here l q = let e : m - s ≡ suc (m - (s + 1)) = omega arith in rw (e, q) refl

  pub seek_past : m ≤ s → seek p s (m - s) ≡ s
  seek_past l = let e : m - s ≡ 0 = omega arith in rw e refl

-- the first entry that passes, by its index
seek_suc : (f : ℕ → Bool) (i k : ℕ) → seek f (i + 1) k ≡ suc (seek (λ j. f (suc j)) i k)
seek_suc f i zero = add-one i
seek_suc f i (suc k) = rw (seek_suc f (i + 1) k, add-one i) (on_cond (f (suc i)) (suc i) i (seek (λ j. f (suc j)) (suc i) k) refl)
  where
    on_cond : (b : Bool) (c d e : ℕ) → c ≡ suc d → cond b c (suc e) ≡ suc (cond b d e)
    on_cond true c d e h = h
    on_cond false c d e h = refl

pub seek_prefix : (p : ℕ → Bool) (xs : List ℕ) → seek (λ s. p (get_or xs s 0)) 0 (length xs) ≡ prefix_len (λ x. not (p x)) xs
seek_prefix p [] = refl
seek_prefix p (x ∷ xs) = rw (seek_suc (λ s. p (get_or (x ∷ xs) s 0)) 0 (length xs), seek_prefix p xs) (go (p x) (prefix_len (λ x. not (p x)) xs))
  where
    go : (b : Bool) (c : ℕ) → cond b 0 (suc c) ≡ cond (not b) (1 + c) 0
    go true c = refl
    go false c = omega arith

pub position_first : (p : ℕ → Bool) (xs : List ℕ) → position p xs ≡ first_of (λ s. p (get_or xs s 0)) (length xs)
position_first p xs = rw (← seek_prefix p xs) refl

-- the first of k entries
seek_same : (f g : ℕ → Bool) (i k : ℕ) → ((j : ℕ) → j < i + k → f j ≡ g j) → seek f i k ≡ seek g i k
seek_same f g i zero h = refl
seek_same f g i (suc k) h = rw (h i (omega arith), seek_same f g (i + 1) k (λ j l. h j (omega arith))) refl

pub position_take : (p : ℕ → Bool) (xs : List ℕ) (k : ℕ) → k ≤ length xs → position p (take k xs) ≡ first_of (λ s. p (get_or xs s 0)) k
position_take p xs k l =
    position_first p (take k xs) ∙ rw (length-take-le k xs l, seek_same (λ s. p (get_or (take k xs) s 0)) (λ s. p (get_or xs s 0)) 0 k (λ j m. ap p (get_or-take k xs j 0 (omega arith)))) refl

-- what a check refuses by, from what its search answers
module _ (f : ℕ → Bool) (m c : ℕ) where
  pub found_row : (s : ℕ) → Some s ≡ first_of f m → (c, s) ≡ first_fault (row (ltb (seek f 0 m) m) c (seek f 0 m) ∷ [])
  found_row s e = go (ltb (seek f 0 m) m) (seek f 0 m) e
    where
      go : (b : Bool) (i : ℕ) → Some s ≡ cond b (Some i) None → ◌≡◌ {A = Refusal} (c, s) (cond b (c, i) (0, 0))
      go true i e = let by : Option ℕ → Refusal = λ o. (c, elim o [ Some v ↦ v | None ↦ s ]) in ap by e
      go false i e = cc

  pub none_row : None ≡ first_of f m → (0, 0) ≡ first_fault (row (ltb (seek f 0 m) m) c (seek f 0 m) ∷ [])
  none_row e = go (ltb (seek f 0 m) m) (seek f 0 m) e
    where
      go : (b : Bool) (i : ℕ) → None ≡ cond b (Some i) None → ◌≡◌ {A = Refusal} (0, 0) (cond b (c, i) (0, 0))
      go true i e = cc
      go false i e = refl

module _ (n : ℕ) (from to : List ℕ) (s : ℕ) where
  pub good_ends : get_or from s 0 < n → get_or to s 0 < n → bad_ends n from to s ≡ false
  good_ends k l = rw (lt-leb n (get_or from s 0) k, lt-leb n (get_or to s 0) l) refl
