-- What a window of one event is answered by.
-- Assumes nothing: these are definitions.
use Rattle.std.specs.Prelude.{ℕ, cond, eqb}

-- its byte: by the event's tag, and for a query by the nodes and the edges of the small graph
abbrev pub byte_by : ℕ → ℕ → ℕ → ℕ
byte_by tag nodes edges = cond (eqb tag 0) (cond (eqb nodes 1) 2 (cond (eqb edges 0) 0 1)) 3

-- its name: that of the small graph's one edge where the byte is 1, else 65,535
abbrev pub name_by : ℕ → ℕ → ℕ
name_by byte name = cond (eqb byte 1) name 65535
