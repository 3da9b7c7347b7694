-- The reply of the call in document 01's numbers.
-- Assumes nothing: these are definitions.
use Rattle.std.specs.Prelude.{ℕ, false, true, Err, List, Ok, Result}
use Rattle.call_sizes.specs.Numbers.{number_of, place_of}
use Rattle.call_sizes.specs.declared.Refusal.{Refusal}
use Rattle.core_reduce.specs.declared.Counts.{Counts}
use Rattle.theory_contraction.specs.Contraction.{Outcome}

-- what each case of the reply says, with the tables as they are then: a contraction is returned as 0 at place 0 with its nodes and edges, a refusal with
-- its number and place
abbrev pub outcome : Result Counts Refusal → List ℕ → List ℕ → List ℕ → List ℕ → List ℕ → List ℕ → Outcome
outcome (Ok counts) map out_from out_to out_names pieces work =
    record {
      accepted = true;
      code = 0;
      place = 0;
      nodes = counts.nodes;
      edges = counts.edges;
      map = map;
      out_from = out_from;
      out_to = out_to;
      out_names = out_names;
      pieces = pieces;
      work = work;
    }
outcome (Err refusal) map out_from out_to out_names pieces work =
    record {
      accepted = false;
      code = number_of refusal;
      place = place_of refusal;
      nodes = 0;
      edges = 0;
      map = map;
      out_from = out_from;
      out_to = out_to;
      out_names = out_names;
      pieces = pieces;
      work = work;
    }
