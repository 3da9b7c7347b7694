-- The graphs that are made step by step down the windows, for the sibling: each window has one.
-- In order: a step to a part; every window; the windows of the list.
-- Assumes nothing.
use Prim.Native.Nat.{ℕ}
use mathlib.Core.List.{Memᴰ, ◌++◌, map}
use Rattle.theory_graph.specs.SmallGraph.{image}
use Rattle.theory_names.specs.Names.{plain}
use Rattle.theory_junctions.proofs.Existence.{reduced_graph_lem}
use Rattle.theory_timeline.proofs.Networks.{left_part, right_part}
use Rattle.theory_timeline.proofs.WindowLaws.{Win, left, right, whole, windows_win}
use Rattle.theory_timeline.specs.DemandThree.{Allowed}
use Rattle.theory_timeline.specs.Steps.{Part, added}
use Rattle.theory_timeline.specs.Windows.{Timeline, Window, active, network, size, windows}
use Rattle.theory_junction_timeline.specs.JunctionSteps.{HasMade, down, top}

-- the graph above with the added roads has a reduced graph, as every graph has
step : (g : Timeline) (w c : Window) → Part w c → HasMade g w → HasMade g c
step g w c h (n, H, σ, m) = let (n', H', σ', r) = reduced_graph_lem (H ++ image σ (plain (added g w c))) (map σ (active g c)) in (n', H', λ a. σ' (σ a), down m h r)

window_made : (g : Timeline) (p : ℕ) → Allowed p → {at n : ℕ} → Win p (size g) at n → HasMade g (at, n)
window_made g p a (whole h) = let (n, H, σ, r) = reduced_graph_lem (plain (network g (0, size g))) (active g (0, size g)) in (n, H, σ, top r)
window_made g p a (left {at = at} {n = n} W h) = step g (at, n) _ (left_part p (at, n) a h) (window_made g p a W)
window_made g p a (right {at = at} {n = n} W h) = step g (at, n) _ (right_part p (at, n) a h) (window_made g p a W)

pub junctions_made : (g : Timeline) (p : ℕ) → Allowed p → (w : Window) → Memᴰ w (windows p (size g)) → HasMade g w
junctions_made g p a w m = window_made g p a (windows_win p (size g) a w m)
