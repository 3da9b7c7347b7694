-- The sibling as it is called: what each case of its reply says in the documents' numbers. What it is lent is a replay's Lent with no name table.
-- Assumes nothing: these are definitions.
use Rattle.std.specs.Prelude.{ℕ, false, true, Err, List, [], Ok, Result}
use Rattle.call_sizes.specs.Numbers.{number_of, place_of}
use Rattle.call_sizes.specs.declared.Refusal.{Refusal}
use Rattle.theory_timeline.specs.Call.{lent}
use Rattle.theory_timeline.specs.Replay.{Lent}
use Rattle.theory_junction_timeline.specs.JunctionReplay.{JunctionOutcome}
use Rattle.theory_junction_timeline.specs.declared.JunctionTotals.{JunctionTotals}

-- the sizes and tables of a call
abbrev pub junction_lent : ℕ → ℕ → ℕ → List ℕ → List ℕ → List ℕ → List ℕ → List ℕ → List ℕ → List ℕ → Lent
junction_lent n m t a b start x y answers work = lent n m t a b start x y answers [] work

-- what a reply says, with the two tables that may be written as they are afterwards
abbrev pub junction_outcome : Result JunctionTotals Refusal → List ℕ → List ℕ → JunctionOutcome
junction_outcome (Ok r) answers work = record {
  accepted = true;
  code = 0;
  place = 0;
  queries = r.queries;
  opened = r.«open»;
  answers = answers;
  work = work;
}
junction_outcome (Err r) answers work = record {
  accepted = false;
  code = number_of r;
  place = place_of r;
  queries = 0;
  opened = 0;
  answers = answers;
  work = work;
}
