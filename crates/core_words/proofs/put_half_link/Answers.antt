-- The word put is that of what is to be named. Rattle would find this by itself; it stands here so that a wrong word is refused as such.
-- Assumes nothing.
use Rattle.core_words.proofs.put_half_link.Goals as goal

pub returns : goal.returns
returns c = rw c.word_of.ensures at c.put_half.ensures
