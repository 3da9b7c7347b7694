-- `put_half` meets its contract.
use borrow.Author.Rules.{rules}
use Rattle.core_words.proofs.FieldLaws.{set_half}
use Rattle.core_words.proofs.put_half.Goals as goal

pub returns : goal.returns
returns c = set_half _ _ _ _ _ (search rules) (search rules)
