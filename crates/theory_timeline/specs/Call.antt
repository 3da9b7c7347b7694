-- The replay as it is called: what it is lent, what each case of its reply says in document 01's numbers.
-- Assumes nothing: these are definitions.
use Rattle.std.specs.Prelude.{ℕ, false, true, Err, List, Ok, Result}
use Rattle.call_sizes.specs.Numbers.{number_of, place_of}
use Rattle.call_sizes.specs.declared.Refusal.{Refusal}
use Rattle.theory_timeline.specs.Replay.{Lent, Outcome}
use Rattle.theory_timeline.specs.declared.EventList.{EventList}
use Rattle.theory_timeline.specs.declared.Totals.{Totals}

-- the sizes and tables of a call
abbrev pub lent : ℕ → ℕ → ℕ → List ℕ → List ℕ → List ℕ → List ℕ → List ℕ → List ℕ → List ℕ → List ℕ → Lent
lent n m t a b start x y answers names work =
    record { n = n; m = m; t = t; a = a; b = b; start = start; x = x; y = y; answers = answers; names = names; work = work }

-- the same, of those that are only read together
abbrev pub lent_of : EventList → List ℕ → List ℕ → List ℕ → Lent
lent_of l = lent l.n l.m l.t l.a.now l.b.now l.start.now l.x.now l.y.now

-- what a reply says, with the three tables that may be written as they are afterwards
abbrev pub outcome : Result Totals Refusal → List ℕ → List ℕ → List ℕ → Outcome
outcome (Ok r) answers names work = record {
  accepted = true;
  code = 0;
  place = 0;
  queries = r.queries;
  opened = r.«open»;
  kept = r.kept;
  answers = answers;
  names = names;
  work = work;
}
outcome (Err r) answers names work = record {
  accepted = false;
  code = number_of r;
  place = place_of r;
  queries = 0;
  opened = 0;
  kept = 0;
  answers = answers;
  names = names;
  work = work;
}
