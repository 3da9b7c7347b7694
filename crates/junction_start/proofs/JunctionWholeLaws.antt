-- The whole list of the sibling: the area that is made of its network is a reduced graph. It is the law of every reduction (replay_start, WholeLaws), here its own.
-- Assumes nothing.
use Prim.Native.Nat.{◌*◌, ◌+◌, ℕ}
use mathlib.Core.List.{List}
use mathlib.Core.Path.{◌≡◌}
use lib.ListN.{length}
use Rattle.core_reduce.specs.declared.Counts.{Counts}
use Rattle.replay_start.proofs.WholeLaws as WholeLaws
use Rattle.replay_start.proofs.WholeLaws.{above}
use Rattle.replay_start.specs.Whole.{WholeLoaded}
use Rattle.replay_step.specs.Reduction.{window_of}
use Rattle.replay_step.specs.declared.Graph.{Graph}
use Rattle.junction_start.specs.JunctionWhole.{JunctionWholeMade, JunctionWholeReady}
use Rattle.junction_step.proofs.JunctionStepLaws.{reduces}
use Rattle.junction_step.specs.JunctionArea.{JunctionAreaMade}

pub whole_made : {n t : ℕ} {a b : List ℕ} {counts area : ℕ} {v : List ℕ} → JunctionWholeReady n t a b counts area v → {z : List ℕ} {l : Graph}
    → WholeLoaded n (above t area (area + 29 * t)) a b counts v z l → length z ≡ length v → {y : List ℕ} {r : Counts} → JunctionAreaMade (above t area (area + 29 * t)) l z y r
    → JunctionWholeMade n t a b counts area v y (window_of (above t area (area + 29 * t)) r)
whole_made q wl lz am = WholeLaws.whole_made reduces q wl lz am
