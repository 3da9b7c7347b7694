-- The struct says what the refusal says. Rattle would find this by itself; it stands here so that a wrong struct is refused as such.
-- Assumes nothing.
use Rattle.call_exports.proofs.ReplyLaws.{replay_refused}
use Rattle.call_exports.proofs.LumReplayReplyFromResultTotalsRefusal.from.Goals as goal

pub returns-in-Err : goal.returns-in-Err
returns-in-Err c = rw (c.in-Err.is, c.code.ensures, c.place.ensures) (replay_refused c.in-Err.refusal)
