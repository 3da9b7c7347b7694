-- The byte, and then the table with it.
use Rattle.junction_windows.proofs.JunctionDescentLaws.{one_done}
use Rattle.junction_windows.proofs.JunctionRepliesReplies.one.Goals as goal

pub returns-clause-replied : goal.returns-clause-replied
returns-clause-replied c = one_done c.requires.0.0 c.requires.1 c.args.self.now.answers.now c.byte_of-byte.result c.byte_of-byte.ensures c.put_byte.ensures
