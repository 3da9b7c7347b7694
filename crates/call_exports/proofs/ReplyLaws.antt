-- What a struct says that was written from a refusal is what the refusal says: of the contraction, of the replay, then of the replay by the loss of a junction.
-- Those of the small calls stand in call_replies/proofs/ReplyLaws. Last, for the reader, that a replay is accepted just where the number is 0.
-- Assumes nothing.
use Rattle.std.proofs.Common.{◌≡◌, ℕ, eqb, refl, sym}
use Rattle.std.specs.Prelude.{Err}
use Rattle.call_sizes.proofs.RefusalLaws.{number_refuses}
use Rattle.call_sizes.specs.Numbers.{number_of, place_of}
use Rattle.call_sizes.specs.declared.Refusal.{Refusal}
use Rattle.theory_graph.proofs.Booleans.{on_bool}
use Rattle.theory_timeline.specs.Replay as timeline
use Rattle.call_exports.specs.Exports.{SaysContracted, SaysReplayed, SaysReplayedJunctions}

pub contract_refused : (r : Refusal) → SaysContracted (Err r) record { code = number_of r; place = place_of r; nodes = 0; edges = 0 }
contract_refused r map out_from out_to out_names pieces work = rw (number_refuses r) refl

pub replay_refused : (r : Refusal) → SaysReplayed (Err r) record { code = number_of r; place = place_of r; queries = 0; «open» = 0; kept = 0 }
replay_refused r answers names work = rw (number_refuses r) refl

pub junctions_refused : (r : Refusal) → SaysReplayedJunctions (Err r) record { code = number_of r; place = place_of r; queries = 0; «open» = 0 }
junctions_refused r answers work = rw (number_refuses r) refl

replay_told : (l : timeline.Lent) (p : ℕ) → (timeline.replay l p).accepted ≡ eqb (timeline.replay l p).code 0
unfolding timeline.replay timeline.done timeline.refused
replay_told l p = on_bool (eqb (timeline.fault l p).0 0) (λ h. rw (timeline.replay, h) refl) (λ h. rw (timeline.replay, h) (sym h))
