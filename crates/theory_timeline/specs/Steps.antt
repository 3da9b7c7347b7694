-- Steps down the windows: the graph of a part is made out of the graph that was made for the window above it.
-- Assumes nothing: these are definitions.
use Rattle.std.specs.Prelude.{◌+◌, ◌<◌, ◌≤◌, ℕ, ◌&&◌, not, true, ◌++◌, map, ◌≡◌, ltb, length}
use Rattle.theory_graph.specs.SmallGraph.{ends_in}
use Rattle.theory_names.specs.Names.{Named}
use Rattle.theory_names.specs.NamedSmallGraph.{IsNamedSmallGraph, image_named}
use Rattle.theory_timeline.specs.Events.{named_roads}
use Rattle.theory_timeline.specs.Replay.{event_fault}
use Rattle.theory_timeline.specs.Windows.{Timeline, Window, active, during, edges_of, event, network, open_before, roads_before, size}

-- a list without a fault
pub record Sound (g : Timeline) : Type 0 where
  pub few : g.junctions ≤ 4096
  pub segments_few : length g.segments ≤ 8192
  pub ends : ends_in (λ v. ltb v g.junctions) g.segments ≡ true
  pub events : (i : ℕ) → i < size g → event_fault g.junctions (length g.segments) (open_before g i) (event g i) ≡ 0

-- c lies in w
pub record Part (w c : Window) : Type 0 where
  pub after : w.0 ≤ c.0
  pub before : c.0 + c.1 ≤ w.0 + w.1

-- the roads that w names a segment of, c does not, and that are open before c: one edge each, with its name
unfoldable pub added : Timeline → Window → Window → Named
added g w c = edges_of g (λ r. roads_before g c.0 r && (named_roads g.junctions g.segments (during g w) r && not (named_roads g.junctions g.segments (during g c) r)))

-- A graph of n nodes with the named edges H, in which junction a stands at σ a, is made for a window:
-- for the whole list out of its network, for a part out of the graph above it and the added roads.
pub data Made (g : Timeline) : Window → ℕ → Named → (ℕ → ℕ) → Type 0 where
  top : {n : ℕ} {H : Named} {σ : ℕ → ℕ} (ρ : ℕ → ℕ) → IsNamedSmallGraph (network g (0, size g)) (active g (0, size g)) n H ρ σ → Made g (0, size g) n H σ
  down : {w : Window} {n : ℕ} {H : Named} {σ : ℕ → ℕ} {c : Window} {n' : ℕ} {H' : Named} {σ' : ℕ → ℕ} → Made g w n H σ → Part w c
      → (ρ' : ℕ → ℕ) → IsNamedSmallGraph (H ++ image_named σ (added g w c)) (map σ (active g c)) n' H' ρ' σ' → Made g c n' H' (λ a. σ' (σ a))
