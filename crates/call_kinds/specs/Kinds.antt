-- Document 01's table of events ("Network and list"), and the kind of an event by it (document 02, No. 6).
-- In order: the table; what its first column gives; the kind; what No. 6 claims of it; what is read off a kind.
-- Assumes nothing: these are definitions.
use Rattle.std.specs.Prelude.{◌≤◌, ℕ, Bool, cond, false, true, ◌↔◌, ◌≡◌, eqb, ltb, length}
use mathlib.Core.List.{List, Memᴰ, [], ◌∷◌}
use Rattle.theory_graph.specs.Lists.{filter}
use Rattle.call_kinds.specs.declared.Kind.{Kind}
use Rattle.call_kinds.specs.declared.Kind.TheVariants.{Closes, None, Opens, Query}

-- ---- the table
-- what the first column of a row holds: "0 to N - 1", or one number
pub data Column : Type 0 where
  junctions : Column
  number : ℕ → Column

pub record TableRow : Type 0 where
  pub x : Column
  pub kind : Kind

abbrev pub table_row : Column → Kind → TableRow
table_row x k = record { x = x; kind = k }

-- document 01's rows, in its order
abbrev pub event_table : List TableRow
event_table =
    -- 0 to N - 1, junction: query of X and Y
    table_row junctions Query
    -- 65,535, segment: it opens
    ∷ table_row (number 65535) Opens
    -- 65,534, segment: it closes
    ∷ table_row (number 65534) Closes
    ∷ []

-- ---- what the first column gives
-- a column holds the number X, where there are N junctions
abbrev pub column_holds : ℕ → ℕ → Column → Bool
column_holds n x junctions = ltb x n
column_holds n x (number k) = eqb x k

abbrev pub holds : ℕ → ℕ → TableRow → Bool
holds n x r = column_holds n x r.x

-- the first column gives X the kind k: some row of the table that has this kind holds X there, wherever in the table it stands
abbrev pub Gives : ℕ → ℕ → Kind → Type 0
Gives n x k = (r : TableRow) × Memᴰ r event_table × (holds n x r ≡ true) × (r.kind ≡ k)

-- ---- the kind
-- by cases in the order of the rows; none where no row holds X
abbrev pub kind_by : List TableRow → ℕ → ℕ → Kind
kind_by [] n x = None
kind_by (r ∷ rs) n x = cond (holds n x r) r.kind (kind_by rs n x)

unfoldable pub kind_of : ℕ → ℕ → Kind
kind_of n x = kind_by event_table n x

-- ---- what document 02, No. 6, claims of it: k is the kind of X, where there are N junctions
pub record KindByTable (n x : ℕ) (k : Kind) : Type 0 where
  -- "the kind is the one that the table's first column gives"
  pub given : (j : Kind) → ¬ (j ≡ None) → (k ≡ j ↔ Gives n x j)
  -- "and none exactly where it gives no kind"
  pub none : k ≡ None ↔ ((j : Kind) → ¬ Gives n x j)
  -- at most one row gives one
  pub one : length (filter (holds n x) event_table) ≤ 1

-- ---- what is read off a kind
unfoldable pub is_query : Kind → Bool
is_query k = elim k [ Query ↦ true | Opens ↦ false | Closes ↦ false | None ↦ false ]

unfoldable pub is_opening : Kind → Bool
is_opening k = elim k [ Query ↦ false | Opens ↦ true | Closes ↦ false | None ↦ false ]

unfoldable pub is_closing : Kind → Bool
is_closing k = elim k [ Query ↦ false | Opens ↦ false | Closes ↦ true | None ↦ false ]

-- the number of a kind for other languages: its place in the table, and 3 for none
unfoldable pub kind_number : Kind → ℕ
kind_number k = elim k [ Query ↦ 0 | Opens ↦ 1 | Closes ↦ 2 | None ↦ 3 ]
