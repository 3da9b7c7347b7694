-- What a reduced graph must be, so that it may stand for a larger one wherever only replies at its active junctions are asked for, whatever is added between
-- them. Document 000's section 3.2 makes such graphs of blocks and cycles (specs/Reduce).
-- Assumes nothing: these are definitions.
use Rattle.std.specs.Prelude.{◌*◌, ◌-◌, ◌<◌, ◌≤◌, ℕ, cond, true, ◌≡◌, ltb, length}
use mathlib.Core.List.{List, Memᴰ}
use Rattle.theory_graph.specs.Graph.{Edge}
use Rattle.theory_graph.specs.Lists.{member}
use Rattle.theory_graph.specs.SmallGraph.{different, ends_in}
use Rattle.theory_junctions.specs.Colouring.{Same}
use Rattle.theory_junctions.specs.Reply.{read_reply, reply}

-- the bounds on nodes and edges for k different active junctions: 3k - 3 nodes and 4k - 6 edges, or k nodes and no edge where k is below 2
abbrev pub most_junctions : ℕ → ℕ
most_junctions k = cond (ltb k 2) k (3 * k - 3)

abbrev pub most_edges : ℕ → ℕ
most_edges k = cond (ltb k 2) 0 (4 * k - 6)

-- The graph H on the nodes 0 to h - 1, in which junction a stands at σ a, is a reduced graph of the edges E and the active list S: it has the colourings of E at
-- the active junctions, it is small, and where no more than two are active their reply is read off.
pub record IsReducedGraph (E : List Edge) (S : List ℕ) (h : ℕ) (H : List Edge) (σ : ℕ → ℕ) : Type 0 where
  pub same : Same (member S) E (λ k. k) H σ
  pub place : (a : ℕ) → Memᴰ a S → σ a < h
  pub inside : ends_in (λ v. ltb v h) H ≡ true
  pub nodes : h ≤ most_junctions (different S)
  pub edges : length H ≤ most_edges (different S)
  pub read : different S ≤ 2 → (x y : ℕ) → Memᴰ x S → Memᴰ y S → reply E x y ≡ read_reply H (σ x) (σ y)

-- the edges E have a reduced graph at the active list S
abbrev pub HasReducedGraph : List Edge → List ℕ → Type 0
HasReducedGraph E S = (h : ℕ) × (H : List Edge) × (σ : ℕ → ℕ) × IsReducedGraph E S h H σ
