-- Laws of kinds. In order: a kind is none or not; the theorem of document 02, No. 6; the tests on a kind.
-- Assumes nothing.
use Prim.Native.Nat.{◌<◌, ◌≤◌, ℕ}
use mathlib.Core.Bool.{Bool, ◌||◌, cond, false, not, true}
use mathlib.Core.List.Memᴰ
use mathlib.Core.List.{List, [], ◌∷◌}
use mathlib.Core.Logic.{◌⊎◌, inl, inr, ⊎_elim}
use mathlib.Core.Path.{◌∙◌, ◌≡◌, ap, refl, subst, sym}
use lib.Dec.{eqb, ltb}
use lib.ListN.{length}
use native.Mathlib.Omega.{arith}
use borrow.Author.Tests.{eqb-true, le-ltb, ltb-true, ne_eqb}
use Rattle.theory_graph.proofs.Booleans.{contradict, on_bool}
use Rattle.theory_graph.specs.Lists.{filter}
use Rattle.call_kinds.specs.Kinds.{Gives, KindByTable, TableRow, event_table, holds, is_closing, is_opening, is_query, junctions, kind_of, number, table_row}
use Rattle.call_kinds.specs.declared.Kind.{Kind}
use Rattle.call_kinds.specs.declared.Kind.TheVariants.{Closes, None, Opens, Query}

-- ---- none or not
pub query_some : ¬ (Query ≡ None)
query_some e = cc

pub opens_some : ¬ (Opens ≡ None)
opens_some e = cc

pub closes_some : ¬ (Closes ≡ None)
closes_some e = cc

none_or : (k : Kind) → (k ≡ None) ⊎ (¬ (k ≡ None))
none_or Query = inr query_some
none_or Opens = inr opens_some
none_or Closes = inr closes_some
none_or None = inl refl

-- ---- the table
-- the kind by what the three rows hold
abbrev kind_with : Bool → Bool → Bool → Kind
kind_with a b c = cond a Query (cond b Opens (cond c Closes None))

module _ (n x : ℕ) where
  pub kind_with_lem : {a b c : Bool} → ltb x n ≡ a → eqb x 65535 ≡ b → eqb x 65534 ≡ c → kind_of n x ≡ kind_with a b c
  unfolding kind_of
  kind_with_lem p q r = rw (p, q, r) refl

  -- a kind that the first column gives is that of one of the three rows
  row_given : {j : Kind} → Gives n x j
      → ((ltb x n ≡ true) × (Query ≡ j)) ⊎ (((eqb x 65535 ≡ true) × (Opens ≡ j)) ⊎ ((eqb x 65534 ≡ true) × (Closes ≡ j)))
  row_given (r, Memᴰ.head p, h, k) = inl (ap (holds n x) (sym p) ∙ h, ap (λ (r : TableRow). r.kind) (sym p) ∙ k)
  row_given (r, Memᴰ.tail (Memᴰ.head p), h, k) = inr (inl (ap (holds n x) (sym p) ∙ h, ap (λ (r : TableRow). r.kind) (sym p) ∙ k))
  row_given {j = j} (r, Memᴰ.tail (Memᴰ.tail (Memᴰ.tail x16)), h, k) = elim x16 [ ]
  row_given (r, Memᴰ.tail (Memᴰ.tail (Memᴰ.head p)), h, k) = inr (inr (ap (holds n x) (sym p) ∙ h, ap (λ (r : TableRow). r.kind) (sym p) ∙ k))

  given_some : {j : Kind} → Gives n x j → ¬ (j ≡ None)
  given_some g e = ⊎_elim (λ w. query_some (w.1 ∙ e)) (⊎_elim (λ w. opens_some (w.1 ∙ e)) (λ w. closes_some (w.1 ∙ e))) (row_given g)

  -- the kind of X is that of a row that holds it
  kind_given : ¬ (kind_of n x ≡ None) → Gives n x (kind_of n x)
  kind_given s = on_bool (ltb x n)
      (λ a. (table_row junctions Query, Memᴰ.head refl, a, sym (kind_with_lem a refl refl)))
      (λ a. on_bool (eqb x 65535)
      (λ b. (table_row (number 65535) Opens, Memᴰ.tail (Memᴰ.head refl), b, sym (kind_with_lem a b refl)))
      (λ b. on_bool (eqb x 65534)
      (λ c. (table_row (number 65534) Closes, Memᴰ.tail (Memᴰ.tail (Memᴰ.head refl)), c, sym (kind_with_lem a b c)))
      (λ c. absurd (s (kind_with_lem a b c)))))

  -- with at most 4,096 junctions no number is of two rows
  module _ (few : n ≤ 4096) where
    above : 65534 ≤ x → ltb x n ≡ false
    above l = le-ltb x n (omega arith)

    given_kind : {j : Kind} → Gives n x j → kind_of n x ≡ j
    given_kind g = ⊎_elim
        (λ w. kind_with_lem w.0 refl refl ∙ w.1)
        (⊎_elim
        (λ w. let e = eqb-true x 65535 w.0 in kind_with_lem (above (omega arith)) w.0 refl ∙ w.1)
        (λ w. let e = eqb-true x 65534 w.0 in kind_with_lem (above (omega arith)) (ne_eqb x 65535 (λ z. omega arith)) w.0 ∙ w.1))
        (row_given g)

    one_row : length (filter (holds n x) event_table) ≤ 1
    one_row = go (ltb x n) (eqb x 65535) (eqb x 65534) (ltb-true x n) (eqb-true x 65535) (eqb-true x 65534)
      where
        held : Bool → TableRow → List TableRow → List TableRow
        held b r rs = cond b (r ∷ rs) rs

        go : (a b c : Bool) → (a ≡ true → x < n) → (b ≡ true → x ≡ 65535) → (c ≡ true → x ≡ 65534)
            → length (held a (table_row junctions Query) (held b (table_row (number 65535) Opens) (held c (table_row (number 65534) Closes) []))) ≤ 1
        go true true c p q r = absurd (omega (arith, p refl, q refl))
        go true false true p q r = absurd (omega (arith, p refl, r refl))
        go true false false p q r = omega arith
        go false true true p q r = absurd (omega (arith, q refl, r refl))
        go false true false p q r = omega arith
        go false false true p q r = omega arith
        go false false false p q r = omega arith

    -- document 02, No. 6: for all numbers, the 65,536 that X may be among them, and each N up to 4,096
    pub kind_by_table : KindByTable n x (kind_of n x)
    kind_by_table = record {
      given = λ j s. (λ e. subst (Gives n x) e (kind_given (λ z. s (sym e ∙ z))), given_kind);
      none = (λ e j g. given_some g (sym (given_kind g) ∙ e), λ h. ⊎_elim (λ e. e) (λ s. absurd (h (kind_of n x) (kind_given s))) (none_or (kind_of n x)));
      one = one_row;
    }

-- so what kind_of returns, where it is the kind by cases, is the kind by the table
pub kind_told : (n x : ℕ) {r : Kind} → r ≡ kind_of n x → (r ≡ kind_of n x) × (n ≤ 4096 → KindByTable n x r)
kind_told n x e = (e, λ few. subst (KindByTable n x) (sym e) (kind_by_table n x few))

-- a query has a junction as its X
pub query_junction : (n x : ℕ) → kind_of n x ≡ Query → x < n
unfolding is_query
query_junction n x e = on_bool (ltb x n) (ltb-true x n) (λ a. other (eqb x 65535) (eqb x 65534) (ap is_query (sym (kind_with_lem n x a refl refl) ∙ e)))
  where
    other : (b c : Bool) → is_query (kind_with false b c) ≡ true → x < n
    other true c h = contradict h refl
    other false true h = contradict h refl
    other false false h = contradict h refl

-- ---- the tests on a kind
-- a kind that is not none is that of a query, or else of an event that opens or closes
pub some_changes : (k : Kind) → ¬ (k ≡ None) → (is_opening k || is_closing k) ≡ not (is_query k)
unfolding is_query is_opening is_closing
some_changes Query h = refl
some_changes Opens h = refl
some_changes Closes h = refl
some_changes None h = absurd (h refl)

-- whatever the kind, no two of the tests hold
pub query_keeps : (k : Kind) → is_query k ≡ true → (is_opening k || is_closing k) ≡ false
unfolding is_query is_opening is_closing
query_keeps Query h = refl
query_keeps Opens h = contradict h refl
query_keeps Closes h = contradict h refl
query_keeps None h = refl

pub change_asks_not : (k : Kind) → (is_opening k || is_closing k) ≡ true → is_query k ≡ false
unfolding is_query is_opening is_closing
change_asks_not Query h = contradict h refl
change_asks_not Opens h = refl
change_asks_not Closes h = refl
change_asks_not None h = refl

pub closing_alone : (k : Kind) → is_closing k ≡ true → (is_query k ≡ false) × (is_opening k ≡ false)
unfolding is_query is_opening is_closing
closing_alone Query h = contradict h refl
closing_alone Opens h = contradict h refl
closing_alone Closes h = (refl, refl)
closing_alone None h = contradict h refl
