-- What the sibling writes of the events of a window: their bytes.
-- Assumes nothing: these are definitions, and laws that they have.
use Rattle.std.specs.Prelude.{◌+◌, ◌-◌, ◌≤◌, ℕ, List, ◌≡◌}
use Rattle.std.proofs.Common.{arith}
use Rattle.std.proofs.lemmas.List.Edits.{sets}
use Rattle.theory_graph.specs.Lists.{table}
use Rattle.theory_timeline.specs.DemandThree.{Allowed}
use Rattle.theory_timeline.specs.Windows.{Timeline, first_part}
use Rattle.theory_junction_timeline.specs.JunctionReplay.{junction_byte}
use Rattle.replay_step.proofs.ShareLaws.{shares}
use Rattle.replay_step.proofs.WordLaws.{sets_parts}
use Rattle.replay_step.specs.declared.Window.{Window}

-- the bytes of n events from `at` on are written
abbrev pub JunctionReplied : Timeline → ℕ → ℕ → List ℕ → List ℕ → Type 0
JunctionReplied g at n before after = after ≡ sets before at (table (junction_byte g) at n)

-- those of a window are those of its two parts
pub junction_replied_both : (g : Timeline) (p : ℕ) → Allowed p → (w : Window) → 2 ≤ w.events → (c : ℕ) → c ≡ first_part p w.events
    → (before mid after : List ℕ) → JunctionReplied g w.at c before mid → JunctionReplied g (w.at + c) (w.events - c) mid after
    → JunctionReplied g w.at w.events before after
junction_replied_both g p s w two c e before mid after u x =
    let h = shares p w.events two s in
    sets_parts (junction_byte g) w.at w.events c (omega (arith, e, h.less)) before u x
