-- `put` meets its contract.
use borrow.Author.Rules.{rules}
use Rattle.core_words.proofs.FieldLaws.{set_put}
use Rattle.core_words.proofs.put.Goals as goal

pub returns : goal.returns
returns c = set_put _ _ _ _ (search rules) (search rules)
