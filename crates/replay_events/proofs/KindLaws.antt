-- What the kind of an event does to a count, and the queries counted.
-- Assumes nothing.
use Prim.Native.Nat.{◌+◌, ◌-◌, ◌≤◌, suc, zero, ℕ}
use mathlib.Core.Bool.{Bool, cond}
use mathlib.Core.List.{List}
use mathlib.Core.Path.{◌∙◌, ◌≡◌, ap, refl, sym}
use lib.ListN.{get_or, length, take}
use native.Mathlib.Numerals.{add-one}
use native.Mathlib.Omega.{arith}
use Rattle.std.proofs.lemmas.List.Sums.{length-filter, sum_by_more}
use Rattle.std.specs.List.{count_by, filter}
use Rattle.call_kinds.specs.Kinds.{is_closing, is_opening, is_query, kind_of}
use Rattle.call_kinds.specs.declared.Kind.{Kind}
use Rattle.call_kinds.specs.declared.Kind.TheVariants.{Closes, None, Opens, Query}
use Rattle.replay_events.specs.Kinds.{queries_by}
use Rattle.replay_events.specs.Tagging.{count_after}

pub count_kind : (k : Kind) (c : ℕ) → count_after k c ≡ cond (is_opening k) (c + 1) (cond (is_closing k) (c - 1) c)
unfolding count_after is_opening is_closing
count_kind Query c = refl
count_kind Opens c = refl
count_kind Closes c = refl
count_kind None c = refl

-- ---- the queries
-- those among the first t events are as many as are kept of them
queries_counted : (n : ℕ) (x : List ℕ) (t : ℕ) → t ≤ length x → count_by (λ v. is_query (kind_of n v)) (take t x) ≡ queries_by n x t
unfolding queries_by
queries_counted n x zero l = refl
queries_counted n x (suc t) l =
    let p : ℕ → Bool = λ v. is_query (kind_of n v) in
    ap (λ (i : ℕ). count_by p (take i x)) (sym (add-one t)) ∙ sum_by_more (λ v. cond (p v) 1 0) x t 0 (omega arith)
    ∙ ap (λ (k : ℕ). k + cond (p (get_or x t 0)) 1 0) (queries_counted n x t (omega arith))

pub queries_kept : (n : ℕ) (x : List ℕ) (t : ℕ) → t ≤ length x → length (filter (λ v. is_query (kind_of n v)) (take t x)) ≡ queries_by n x t
queries_kept n x t l = length-filter (λ v. is_query (kind_of n v)) (take t x) ∙ queries_counted n x t l
