-- What the checks of a contraction are handed, in the words of the call's own definition.
-- Assumes nothing: these are definitions.
use Rattle.std.specs.Prelude.{ℕ, List}
use Rattle.theory_contraction.specs.Contraction.{Lent, lent}
use Rattle.contraction_checks.specs.declared.Graph.{Graph}

-- a call that is lent this graph, and these tables to write
abbrev pub lent_graph : Graph → List ℕ → List ℕ → List ℕ → List ℕ → List ℕ → List ℕ → Lent
lent_graph g map out_from out_to out_names pieces work =
    lent g.n g.m g.k g.from.now g.to.now g.names.now g.active.now map out_from out_to out_names pieces work
