-- The structs of the exported calls in the words of the product's own definitions. In order: what a returned struct says as an outcome, where the call
-- is accepted if the code is 0 (those of the small calls stand in call_replies/specs/Replies); that a returned struct says what a call's reply says; what a struct
-- of tables lends; and the outcome with the tables as a call leaves them.
-- Assumes nothing: these are definitions.
use Rattle.std.specs.Prelude.{◌≡◌, List, Result, ℕ, eqb}
use Rattle.std.specs.Borrow.{Bor, MutBor}
use Rattle.theory_contraction.specs.Contraction as contraction
use Rattle.call_contract.specs.Reply as contracting
use Rattle.call_sizes.specs.declared.Refusal.{Refusal}
use Rattle.call_contract.specs.declared.Counts.{Counts}
use Rattle.theory_timeline.specs.declared.Totals.{Totals}
use Rattle.theory_junction_timeline.specs.declared.JunctionTotals.{JunctionTotals}
use Rattle.theory_timeline.specs.Replay as timeline
use Rattle.theory_timeline.specs.Call as replaying
use Rattle.theory_junction_timeline.specs.JunctionReplay as junctions
use Rattle.theory_junction_timeline.specs.JunctionCall as replaying-junctions
use Rattle.call_exports.specs.declared.LumContractLent.{LumContractLent}
use Rattle.call_exports.specs.declared.LumContractReply.{LumContractReply}
use Rattle.call_exports.specs.declared.LumReplayLent.{LumReplayLent}
use Rattle.call_exports.specs.declared.LumReplayReply.{LumReplayReply}
use Rattle.call_exports.specs.declared.LumReplayJunctionsLent.{LumReplayJunctionsLent}
use Rattle.call_exports.specs.declared.LumReplayJunctionsReply.{LumReplayJunctionsReply}

-- with the tables that may be written as they are afterwards
abbrev pub contracted_of : LumContractReply → List ℕ → List ℕ → List ℕ → List ℕ → List ℕ → List ℕ → contraction.Outcome
contracted_of r map out_from out_to out_names pieces work =
    record {
      accepted = eqb r.code 0;
      code = r.code;
      place = r.place;
      nodes = r.nodes;
      edges = r.edges;
      map = map;
      out_from = out_from;
      out_to = out_to;
      out_names = out_names;
      pieces = pieces;
      work = work;
    }

abbrev pub replayed_of : LumReplayReply → List ℕ → List ℕ → List ℕ → timeline.Outcome
replayed_of r answers names work =
    record {
      accepted = eqb r.code 0;
      code = r.code;
      place = r.place;
      queries = r.queries;
      opened = r.«open»;
      kept = r.kept;
      answers = answers;
      names = names;
      work = work;
    }

abbrev pub replayed_junctions_of : LumReplayJunctionsReply → List ℕ → List ℕ → junctions.JunctionOutcome
replayed_junctions_of r answers work =
    record {
      accepted = eqb r.code 0;
      code = r.code;
      place = r.place;
      queries = r.queries;
      opened = r.«open»;
      answers = answers;
      work = work;
    }

-- ---- the struct says what the reply does, whatever the tables hold afterwards
abbrev pub SaysContracted : Result Counts Refusal → LumContractReply → Type 0
SaysContracted reply r =
    (map out_from out_to out_names pieces work : List ℕ)
    → contracted_of r map out_from out_to out_names pieces work ≡ contracting.outcome reply map out_from out_to out_names pieces work

abbrev pub SaysReplayed : Result Totals Refusal → LumReplayReply → Type 0
SaysReplayed reply r = (answers names work : List ℕ) → replayed_of r answers names work ≡ replaying.outcome reply answers names work

abbrev pub SaysReplayedJunctions : Result JunctionTotals Refusal → LumReplayJunctionsReply → Type 0
SaysReplayedJunctions reply r = (answers work : List ℕ) → replayed_junctions_of r answers work ≡ replaying-junctions.junction_outcome reply answers work

-- ---- what a struct lends
abbrev pub contract_lent : LumContractLent → contraction.Lent
contract_lent l =
    contraction.lent l.n l.m l.k l.from.now l.to.now l.names.now l.active.now
    l.map.now l.out_from.now l.out_to.now l.out_names.now l.pieces.now l.work.now

abbrev pub replay_lent : LumReplayLent → timeline.Lent
replay_lent l =
    replaying.lent l.n l.m l.t l.a.now l.b.now l.start.now l.x.now l.y.now l.answers.now l.names.now l.work.now

abbrev pub replay_junctions_lent : LumReplayJunctionsLent → timeline.Lent
replay_junctions_lent l =
    replaying-junctions.junction_lent l.n l.m l.t l.a.now l.b.now l.start.now l.x.now l.y.now l.answers.now l.work.now

-- ---- the fields of a struct after the call, in their order, of which those count that may be written
-- a table that is read, and one that may be written
abbrev Table : Type 0
Table = Bor (List ℕ)

abbrev Written : Type 0
Written = MutBor (List ℕ)

abbrev pub ContractFields : Type 0
ContractFields = ℕ × (ℕ × (ℕ × (Table × (Table × (Table × (Table × (Written × (Written × (Written × (Written × (Written × (Written × Unit {0}))))))))))))

abbrev pub contract_left : LumContractReply → ContractFields → contraction.Outcome
contract_left r (n, (m, (k, (from, (to, (names, (active, (map, (out_from, (out_to, (out_names, (pieces, (work, end))))))))))))) =
    contracted_of r map.now out_from.now out_to.now out_names.now pieces.now work.now

abbrev pub ReplayFields : Type 0
ReplayFields = ℕ × (ℕ × (ℕ × (ℕ × (Table × (Table × (Table × (Table × (Table × (Written × (Written × (Written × Unit {0})))))))))))

abbrev pub replay_left : LumReplayReply → ReplayFields → timeline.Outcome
replay_left r (n, (m, (t, (p, (a, (b, (start, (x, (y, (answers, (names, (work, end)))))))))))) = replayed_of r answers.now names.now work.now

abbrev pub ReplayJunctionsFields : Type 0
ReplayJunctionsFields = ℕ × (ℕ × (ℕ × (ℕ × (Table × (Table × (Table × (Table × (Table × (Written × (Written × Unit {0}))))))))))

abbrev pub replay_junctions_left : LumReplayJunctionsReply → ReplayJunctionsFields → junctions.JunctionOutcome
replay_junctions_left r (n, (m, (t, (p, (a, (b, (start, (x, (y, (answers, (work, end))))))))))) = replayed_junctions_of r answers.now work.now
