-- The struct says what the refusal says. Rattle would find this by itself; it stands here so that a wrong struct is refused as such.
-- Assumes nothing.
use Rattle.call_replies.proofs.ReplyLaws.{sizes_refused}
use Rattle.call_replies.proofs.LumSizesReplyFromResultSizesRefusal.from.Goals as goal

pub returns-in-Err : goal.returns-in-Err
returns-in-Err c = rw (c.in-Err.is, c.code.ensures, c.place.ensures) (sizes_refused c.in-Err.refusal)
