-- The kinds of the events in a table X, and the queries counted.
-- Assumes nothing: these are definitions.
use Rattle.std.specs.Prelude.{◌+◌, suc, zero, ℕ, cond, List, get_or}
use Rattle.call_kinds.specs.Kinds.{is_query, kind_of}
use Rattle.call_kinds.specs.declared.Kind.{Kind}

-- the kind of event i
abbrev pub kind_at : ℕ → List ℕ → ℕ → Kind
kind_at n x i = kind_of n (get_or x i 0)

-- how many of the first t events are queries
unfoldable pub queries_by : ℕ → List ℕ → ℕ → ℕ
queries_by n x zero = 0
queries_by n x (suc t) = queries_by n x t + cond (is_query (kind_at n x t)) 1 0
