-- Laws of words that are written in order, of a front that stays, and of parts of lists.
-- In order: tables of values; runs of stores; fronts and backs of a list of words; fields written from behind the front; a map that
-- moves nothing; a table written over the front of another.
-- Assumes nothing.
use Prim.Native.Nat.{◌*◌, ◌+◌, ◌-◌, ◌<◌, ◌≤◌, suc, zero, ℕ}
use mathlib.Core.List.{List, Memᴰ, [], ◌++◌, ◌∷◌, append_assoc, map}
use mathlib.Core.Path.{◌∙◌, ◌≡◌, ap, ap₂, refl, sym}
use lib.ListN.{drop, drop_of_length-le, get_or, length, length-drop, length-replicate, length-take, replicate, set, take}
use lib.Seq.{drop_at, drop-cons, drop-set-lt, get_or-drop, get_or-set_other, get_or-take, length-sets, length-take-le, paste, sets, sets-eq, take-add, take_all, take_at, take-set-le, take-take}
use native.Mathlib.Omega.{arith}
use borrow.Rule.Slice.PartMut.{put_mid}
use Rattle.theory_graph.proofs.Lists.{table_length}
use Rattle.std.specs.List.{copy_within}
use Rattle.theory_graph.proofs.TableLaws.{sets_append, table_append, table_equal}
use Rattle.theory_graph.specs.Lists.{over, range, table}
use Rattle.core_words.specs.Fields.{MAPPED, node}

-- the table of a window is that of its parts
sets_two : (f : ℕ → ℕ) (l : List ℕ) (i n c : ℕ) → c ≤ n → sets l i (table f i n) ≡ sets (sets l i (table f i c)) (i + c) (table f (i + c) (n - c))
sets_two f l i n c h =
    let e : n ≡ c + (n - c) = omega arith in
    ap (λ k. sets l i (table f i k)) e ∙ ap (sets l i) (table_append f i c (n - c)) ∙ sets_append (table f i c) l i (table f (i + c) (n - c))
    ∙ ap (λ k. sets (sets l i (table f i c)) (i + k) (table f (i + c) (n - c))) (table_length f i c)

-- words that are lent on, all from k on
pub lent_take : (k j : ℕ) (z : List ℕ) → k + j ≤ length z → take j (take (length z - k) (drop k z)) ≡ take j (drop k z)
lent_take k j z l = take-take j (length z - k) (drop k z) (omega arith)

-- so where the first c of n entries are written, and then the others
pub sets_parts : (f : ℕ → ℕ) (i n c : ℕ) → c ≤ n → (before : List ℕ) {mid after : List ℕ} → mid ≡ sets before i (table f i c) → after ≡ sets mid (i + c) (table f (i + c) (n - c))
    → after ≡ sets before i (table f i n)
sets_parts f i n c h before a b = b ∙ ap (λ m. sets m (i + c) (table f (i + c) (n - c))) a ∙ sym (sets_two f before i n c h)

pub fill_more : (f : ℕ → ℕ) (l : List ℕ) (q i x : ℕ) → x ≡ f i → set (sets l q (table f 0 i)) (q + i) x ≡ sets l q (table f 0 (i + 1))
fill_more f l q i x e =
    let z : 0 + i ≡ i = omega arith in
    ap₂ (λ k y. set (sets l q (table f 0 i)) (q + k) y) (sym (table_length f 0 i)) e
    ∙ sym (ap (sets l q) (table_append f 0 i 1) ∙ sets_append (table f 0 i) l q (table f (0 + i) 1) ∙ ap (λ k. set (sets l q (table f 0 i)) (q + length (table f 0 i)) (f k)) z)

pub get_or_sets_after : (vs l : List ℕ) (q j : ℕ) → q + length vs ≤ j → get_or (sets l q vs) j 0 ≡ get_or l j 0
get_or_sets_after [] l q j h = refl
get_or_sets_after (v ∷ vs) l q j h = get_or_sets_after vs (set l q v) (suc q) j (omega arith) ∙ get_or-set_other l q j v 0 (λ e. omega arith)

pub get_d_sets_before : (vs l : List ℕ) (q j : ℕ) → j < q → get_or (sets l q vs) j 0 ≡ get_or l j 0
get_d_sets_before [] l q j h = refl
get_d_sets_before (v ∷ vs) l q j h = get_d_sets_before vs (set l q v) (suc q) j (omega arith) ∙ get_or-set_other l q j v 0 (λ e. omega arith)

pub take_sets : (vs l : List ℕ) (q k : ℕ) → k ≤ q → take k (sets l q vs) ≡ take k l
take_sets [] l q k h = refl
take_sets (v ∷ vs) l q k h = take_sets vs (set l q v) (suc q) k (omega arith) ∙ take-set-le k l q v h

pub drop_sets : (vs l : List ℕ) (q k : ℕ) → q + length vs ≤ k → drop k (sets l q vs) ≡ drop k l
drop_sets [] l q k h = refl
drop_sets (v ∷ vs) l q k h = drop_sets vs (set l q v) (suc q) k (omega arith) ∙ drop-set-lt k l q v (omega arith)

-- what was written
pub mid_sets : (vs l : List ℕ) (q : ℕ) → q + length vs ≤ length l → take (length vs) (drop q (sets l q vs)) ≡ vs
mid_sets vs l q h =
    ap (λ k. take (length vs) (drop q k)) (sets-eq vs l q h ∙ append_assoc (take q l) vs (drop (q + length vs) l))
    ∙ ap (take (length vs)) (drop_at (take q l) (vs ++ drop (q + length vs) l) q (length-take-le q l (omega arith)))
    ∙ take_at vs (drop (q + length vs) l) (length vs) refl

-- what lies between is as it was
pub mid_drop : (i k : ℕ) (l : List ℕ) → i ≤ length l → take k (drop i l) ≡ drop i (take (i + k) l)
mid_drop i k l h = sym (ap (drop i) (take-add i k l) ∙ drop_at (take i l) (take k (drop i l)) i (length-take-le i l h))

pub mid_before : (vs l : List ℕ) (q i k : ℕ) → i + k ≤ q → i ≤ length l → take k (drop i (sets l q vs)) ≡ take k (drop i l)
mid_before vs l q i k h b = mid_drop i k (sets l q vs) (rw length-sets b) ∙ ap (drop i) (take_sets vs l q (i + k) h) ∙ sym (mid_drop i k l b)

-- a field read behind the front, when words of the front were written
pub field_after : (k s i q : ℕ) (vs l : List ℕ) → q + length vs ≤ s → get_or (sets l q vs) (s + 16 * i + k) 0 ≡ node k (drop s l) i
unfolding node
field_after k s i q vs l h =
    let e : s + (16 * i + k) ≡ s + 16 * i + k = omega arith in
    get_or_sets_after vs l q (s + 16 * i + k) (omega arith) ∙ sym (get_or-drop s l (16 * i + k) 0 ∙ ap (λ j. get_or l j 0) e)

pub fill_length : (l : List ℕ) {w : List ℕ} (q : ℕ) (vs : List ℕ) → w ≡ sets l q vs → length w ≡ length l
fill_length l q vs e = ap length e ∙ length-sets l q vs

-- every `step`-th word from `from` on, read behind those that are written
pub every_step : (l w : List ℕ) (from step q i : ℕ) → w ≡ sets l q (table (λ j. get_or l (from + step * j) 0) 0 i) → q + i ≤ from
    → set w (q + i) (get_or w (from + step * i) 0) ≡ sets l q (table (λ j. get_or l (from + step * j) 0) 0 (i + 1))
every_step l w from step q i e h =
    let f : ℕ → ℕ = λ j. get_or l (from + step * j) 0 in
    let x : get_or w (from + step * i) 0 ≡ f i =
    ap (λ (u : List ℕ). get_or u (from + step * i) 0) e ∙ get_or_sets_after (table f 0 i) l q (from + step * i) (omega (arith, table_length f 0 i)) in
    ap (λ (u : List ℕ). set u (q + i) (get_or w (from + step * i) 0)) e ∙ fill_more f l q i (get_or w (from + step * i) 0) x

-- every sixteenth word behind s is a field of a node
pub field_table : (k s m q : ℕ) (l : List ℕ) {w : List ℕ} → w ≡ sets l q (table (λ i. get_or l (s + k + 16 * i) 0) 0 m) → w ≡ sets l q (table (node k (drop s l)) 0 m)
unfolding node
field_table k s m q l e =
    e ∙ ap (sets l q) (table_equal _ _ 0 m (λ i a b.
    let x : s + k + 16 * i ≡ s + (16 * i + k) = omega arith in
    ap (λ (j : ℕ). get_or l j 0) x ∙ sym (get_or-drop s l (16 * i + k) 0)))

-- ---- numbers of listed nodes
pub map_table : (g : ℕ → ℕ) (w : List ℕ) (range count : ℕ) → range + count ≤ length w → map g (take count (drop range w)) ≡ table (λ j. g (get_or w (range + j) 0)) 0 count
map_table g w range count h = let z : range ≡ range + 0 = omega arith in ap (λ j. map g (take count (drop j w))) z ∙ go count 0 (omega arith)
  where
    go : (count i : ℕ) → range + i + count ≤ length w → map g (take count (drop (range + i) w)) ≡ table (λ j. g (get_or w (range + j) 0)) i count
    go zero i h = refl
    go (suc k) i h =
        let z : suc (range + i) ≡ range + suc i = omega arith in
        ap (λ l. map g (take (suc k) l)) (drop-cons w (range + i) 0 (omega arith))
        ∙ ap (λ l. g (get_or w (range + i) 0) ∷ l) (ap (λ j. map g (take k (drop j w))) z ∙ go k (suc i) (omega arith))

-- from l to w the numbers of the nodes at the words from `range` on, the first i of them, are written at q
pub record Mapped (l : List ℕ) (s q range i : ℕ) (w : List ℕ) : Type 0 where
  pub written : w ≡ sets l q (table (λ j. node MAPPED (drop s l) (get_or l (range + j) 0)) 0 i)

module _ {l w : List ℕ} {s q range i : ℕ} (m : Mapped l s q range i w) where
  abbrev number : ℕ → ℕ
  number j = node MAPPED (drop s l) (get_or l (range + j) 0)

  pub mapped_length : length w ≡ length l
  mapped_length = fill_length l q (table number 0 i) m.written

  -- the next node still stands where it stood
  mapped_next : range + i < q → get_or w (range + i) 0 ≡ get_or l (range + i) 0
  mapped_next b = ap (λ v. get_or v (range + i) 0) m.written ∙ get_d_sets_before (table number 0 i) l q (range + i) b

  pub mapped_low : (n : ℕ) → range + i < q → get_or l (range + i) 0 < n → get_or w (range + i) 0 < n
  mapped_low n b h = omega (arith, mapped_next b)

  pub mapped_more : q + i ≤ s → range + i < q → Mapped l s q range (i + 1) (set w (q + i) (get_or w (s + 16 * get_or w (range + i) 0 + MAPPED) 0))
  mapped_more h b = record {
    written = ap₂ (λ v j. set v (q + i) (get_or v (s + 16 * j + MAPPED) 0)) m.written (mapped_next b)
        ∙ fill_more number l q i _ (field_after MAPPED s (get_or l (range + i) 0) q (table number 0 i) l (omega (arith, table_length number 0 i)));
  }

pub take_less : (k s : ℕ) (w z : List ℕ) → k ≤ s → take s z ≡ take s w → take k z ≡ take k w
take_less k s w z l e = sym (take-take k s z l) ∙ ap (take k) e ∙ take-take k s w l

pub mid_less : (i k s : ℕ) (w z : List ℕ) → i + k ≤ s → i ≤ length z → i ≤ length w → take s z ≡ take s w → take k (drop i z) ≡ take k (drop i w)
mid_less i k s w z l a b e = mid_drop i k z a ∙ ap (drop i) (take_less (i + k) s w z l e) ∙ sym (mid_drop i k w b)

pub take_whole : (s : ℕ) (w : List ℕ) → take (length w - s) (drop s w) ≡ drop s w
take_whole s w = take_all (length w - s) (drop s w) (rw length-drop (omega arith))

pub drop_back : (s : ℕ) (w z : List ℕ) → s ≤ length w → drop s (put_mid s (length w - s) w z) ≡ z
drop_back s w z l =
    drop_at (take s w) (z ++ drop (length w - s) (drop s w)) s (length-take-le s w l)
    ∙ ap (λ k. z ++ k) (drop_of_length-le (drop s w) {i = length w - s} (rw length-drop (omega arith))) ∙ append-nil z
  where
    append-nil : (z : List ℕ) → z ++ [] ≡ z
    append-nil [] = refl
    append-nil (x ∷ z) = ap (λ l. x ∷ l) (append-nil z)

pub mid_take : (i k j : ℕ) (l : List ℕ) → i + k ≤ j → j ≤ length l → take k (drop i (take j l)) ≡ take k (drop i l)
mid_take i k j l h b = mid_drop i k (take j l) (rw length-take (omega arith)) ∙ ap (drop i) (take-take (i + k) j l h) ∙ sym (mid_drop i k l (omega arith))

pub low_map : (b : ℕ) (σ : ℕ → ℕ) (A : List ℕ) (i : ℕ) → ((a : ℕ) → Memᴰ a A → σ a < b) → i < length A → get_or (map σ A) i 0 < b
low_map b σ [] i f l = absurd (omega arith)
low_map b σ (a ∷ A) zero f l = f a (Memᴰ.head refl)
low_map b σ (a ∷ A) (suc i) f l = low_map b σ A i (λ x m. f x (Memᴰ.tail m)) (omega arith)

pub front_get : (s j : ℕ) (w z : List ℕ) → take s z ≡ take s w → j < s → get_or z j 0 ≡ get_or w j 0
front_get s j w z e l = sym (get_or-take s z j 0 l) ∙ ap (λ k. get_or k j 0) e ∙ get_or-take s w j 0 l

-- ---- words copied
pub copied_words : (from count q : ℕ) (w : List ℕ) → from + count ≤ length w → q + count ≤ length w → copy_within w from (from + count) q ≡ sets w q (take count (drop from w))
copied_words from count q w h b =
    let vs = take count (drop from w) in
    let l : length vs ≡ count = rw (length-take, length-drop) (omega arith) in
    let e : from + count - from ≡ count = omega arith in
    ap (paste w q (drop from w)) e ∙ ap (λ (k : ℕ). take q w ++ vs ++ drop (q + k) w) (sym l) ∙ sym (sets-eq vs w q (omega arith))

-- ---- nodes at which junctions stand themselves
pub map_self : (S : List ℕ) → map (λ a. a) S ≡ S
map_self [] = refl
map_self (a ∷ S) = ap (λ l. a ∷ l) (map_self S)

-- ---- a table written over the front of another
sets_over : (vs l : List ℕ) → length vs ≤ length l → sets l 0 vs ≡ over vs l
sets_over vs l h = let z : 0 + length vs ≡ length vs = omega arith in sets-eq vs l 0 (omega arith) ∙ ap (λ (k : ℕ). vs ++ drop k l) z

table_range : (f : ℕ → ℕ) (i k : ℕ) → table f i k ≡ map f (range i k)
table_range f i zero = refl
table_range f i (suc k) = ap (λ (l : List ℕ). f i ∷ l) (table_range f (suc i) k)

over_prefix : (vs zs w : List ℕ) → length zs ≡ length vs → over vs (zs ++ drop (length vs) w) ≡ over vs w
over_prefix vs zs w e = ap (λ (l : List ℕ). vs ++ l) (drop_at zs (drop (length vs) w) (length vs) e)

-- a table with an entry for each of k events written over its first entries
pub table_over : (f : ℕ → ℕ) (k : ℕ) (before : List ℕ) → length (map f (range 0 k)) ≤ length before → sets before 0 (table f 0 k) ≡ over (map f (range 0 k)) before
table_over f k before h = ap (sets before 0) (table_range f 0 k) ∙ sets_over (map f (range 0 k)) before h

-- the first `need` words written and then cleared are cleared
pub cleared : (need : ℕ) (work zs after : List ℕ) → need ≤ length work → length zs ≡ length (take need work) → after ≡ over (replicate need 0) (zs ++ drop need work)
    → after ≡ over (replicate need 0) work
cleared need work zs after h l e =
    let r : length (replicate {A = ℕ} need 0) ≡ need = length-replicate need 0 in
    e ∙ ap (λ (k : ℕ). over (replicate need 0) (zs ++ drop k work)) (sym r) ∙ over_prefix (replicate need 0) zs work (l ∙ length-take-le need work h ∙ sym r)
