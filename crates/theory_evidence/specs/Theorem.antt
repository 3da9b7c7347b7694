-- The agreement on evidence, as one theorem (`EvidenceTheorem`): what the checker accepts is the right answer; for each right answer evidence exists that it
-- accepts; and it accepts just the evidence that is enough, no more and no less. The right answer is document 01's over the open roads: `answer` of the graph
-- with one edge for each, as the replay's byte at a query.
-- Assumes nothing: these are definitions.
use Rattle.std.specs.Prelude.{◌<◌, ◌≤◌, ℕ, true, ◌↔◌, ◌≡◌, get_or, length}
use Rattle.theory_graph.specs.Graph.{answer}
use Rattle.theory_timeline.specs.Replay.{byte}
use Rattle.theory_timeline.specs.Windows.{Timeline, asks_at, at_start, event, open_before}
use Rattle.theory_evidence.specs.Call.{check_evidence, set_length}
use Rattle.theory_evidence.specs.Evidence.{Evidence, is_enough}
use Rattle.theory_evidence.specs.Network.{Network, ends_at, open_edges, segments}

-- nothing of the network, its open set and the two junctions is refused
pub record Valid (w : Network) (x y : ℕ) : Type 0 where
  pub few_junctions : w.n ≤ 4096
  pub few_segments : w.m ≤ 8192
  pub a_long : w.m ≤ length w.a
  pub b_long : w.m ≤ length w.b
  pub opened_long : w.m ≤ length w.opened
  pub ends_below : (s : ℕ) → s < w.m → ((ends_at w s).0 < w.n) × ((ends_at w s).1 < w.n)
  pub opened_bits : (s : ℕ) → s < w.m → get_or w.opened s 0 ≤ 1
  pub x_below : x < w.n
  pub y_below : y < w.n

-- evidence of the sizes that document 02 gives: a byte for each junction, and at most N segments a route
pub record Sized (w : Network) (e : Evidence) : Type 0 where
  pub set : length e.set ≡ w.n
  pub first : length e.first ≤ w.n
  pub second : length e.second ≤ w.n

-- the evidence is accepted
abbrev pub IsAccepted : Network → ℕ → ℕ → Evidence → Type 0
IsAccepted w x y e = (check_evidence w x y e).accepted ≡ true

-- some evidence for the claim c is accepted
abbrev pub HasEvidence : Network → ℕ → ℕ → ℕ → Type 0
HasEvidence w x y c = (e : Evidence) × (e.claim ≡ c) × IsAccepted w x y e

-- the network and its open set are those of the list before event i
pub record Shows (w : Network) (g : Timeline) (i : ℕ) : Type 0 where
  pub same_segments : segments w ≡ g.segments
  pub same_open : (s : ℕ) → s < w.m → at_start w.opened s ≡ open_before g i s

pub record EvidenceTheorem : Type 0 where
  -- what is accepted is the right answer
  pub sound : (w : Network) (x y : ℕ) (e : Evidence) → IsAccepted w x y e → answer (open_edges w) x y ≡ e.claim
  -- for each right answer evidence exists that is accepted, within the sizes
  pub complete : (w : Network) (x y : ℕ) → Valid w x y
      → (e : Evidence) × (e.claim ≡ answer (open_edges w) x y) × Sized w e × IsAccepted w x y e
  -- accepted is just what is enough for its claim, where nothing is wrong with the network, the junctions and the set's length
  pub exactly : (w : Network) (x y : ℕ) (e : Evidence)
      → IsAccepted w x y e ↔ (Valid w x y × (set_length w.n e.claim ≤ length e.set) × (is_enough w x y e ≡ true))
  -- so the claims for which some evidence is accepted are just the right answer
  pub claims : (w : Network) (x y c : ℕ) → Valid w x y → HasEvidence w x y c ↔ (answer (open_edges w) x y ≡ c)
  -- and no two different claims are ever both accepted
  pub single : (w : Network) (x y : ℕ) (e f : Evidence) → IsAccepted w x y e → IsAccepted w x y f → e.claim ≡ f.claim
  -- at a query of a list, what is accepted over the segments open before it is the replay's byte
  pub replayed : (g : Timeline) (i : ℕ) (w : Network) (e : Evidence) → asks_at g i ≡ true → Shows w g i
      → IsAccepted w (event g i).0 (event g i).1 e → byte g i ≡ e.claim
