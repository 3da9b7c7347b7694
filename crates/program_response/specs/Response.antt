-- What the response leaves in the work table that it is lent. Assumes nothing: these are definitions.
use Rattle.std.specs.Prelude.{false, true, List, eqb, ℕ}
use Rattle.theory_timeline.specs.Program.{input_fault, input_lent, share_of, words16}
use Rattle.theory_timeline.specs.Replay.{replay}

-- the work table after the bytes read: as it was where the input itself is refused, else as the replay leaves it
unfoldable pub work_after : List ℕ → List ℕ → List ℕ
work_after work bytes =
    elim (eqb (input_fault bytes).0 0) [
      | true ↦ (replay (input_lent work bytes) (share_of (words16 bytes))).work
      | false ↦ work
    ]
