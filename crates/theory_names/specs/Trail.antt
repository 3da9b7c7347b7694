-- Routes that take no entry twice, for the law that a spliced edge takes the smallest name along it (proofs/Trails).
-- Assumes nothing: these are definitions.
use Rattle.std.specs.Prelude.{ℕ, not, List, [], ◌∷◌, map}
use Rattle.theory_graph.specs.Graph.{two_edge}
use Rattle.theory_graph.specs.Lists.{filter}
use Rattle.theory_names.specs.Names.{Entry, Named, plain}

-- K is G without one entry e
pub data Without (e : Entry) : Named → Named → Type 0 where
  here : {G : Named} → Without e (e ∷ G) G
  later : {f : Entry} {G K : Named} → Without e G K → Without e (f ∷ G) (f ∷ K)

-- A route from x to y along entries of G, each taken either way, and none twice: a step takes its entry out of the list. The last list has the entries in the order in which they are taken.
pub data Trail : Named → ℕ → ℕ → Named → Type 0 where
  stay : {G : Named} {x : ℕ} → Trail G x x []
  fore : {G K T : Named} {x y z n : ℕ} → Without ((x, y), n) G K → Trail K y z T → Trail G x z (((x, y), n) ∷ T)
  back : {G K T : Named} {x y z n : ℕ} → Without ((y, x), n) G K → Trail K y z T → Trail G x z (((y, x), n) ∷ T)

-- the names of the entries of T that join different classes of G
abbrev pub bridge_names : Named → Named → List ℕ
bridge_names G T = map (λ (e : Entry). e.1) (filter (λ (e : Entry). not (two_edge (plain G) e.0.0 e.0.1)) T)
