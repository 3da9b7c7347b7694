-- The words have room for the fields of n nodes, as many as a graph may have.
-- Assumes nothing: these are definitions.
use Rattle.std.specs.Prelude.{ℕ, List, ◌*◌, ◌≤◌, length}

abbrev pub NodeRoom : ℕ → List ℕ → Type 0
NodeRoom n w = (n ≤ 65536) × (16 * n ≤ length w)
