-- The byte and the name, and then the tables with them.
use mathlib.Core.Path.{◌∙◌, sym}
use Rattle.replay_windows.proofs.DescentLaws.{name_need, one_done}
use Rattle.replay_windows.proofs.roads.RoadRepliesReplies.one.Goals as goal

pub name_of-name-requires : goal.name_of-name-requires
name_of-name-requires c = λ e. name_need c.requires.0.0 c.requires.1 (sym c.byte_of-byte.ensures ∙ e)

pub returns-clause-replied : goal.returns-clause-replied
returns-clause-replied c =
    one_done c.requires.0.0 c.requires.1 c.byte_of-byte.result c.name_of-name.result c.byte_of-byte.ensures c.name_of-name.ensures
    c.put_byte.ensures c.put_name.ensures
