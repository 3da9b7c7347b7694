-- The position of the first entry above 1 is what the search of the definition finds.
-- Assumes nothing.
use Rattle.std.proofs.Common.{length, sym, ◌∙◌}
use Rattle.call_sizes.proofs.RefusalLaws.{found_row, none_row, position_first}
use Rattle.call_sizes.specs.Refusal.{bad_start}
use Rattle.call_sizes.proofs.check_start.Goals as goal

pub returns-in-Some : goal.returns-in-Some
returns-in-Some c =
    let s = c.args.start.now in
    found_row (bad_start s) (length s) 11 _ (sym c.in-Some.is ∙ c.first_bad_start.ensures ∙ position_first _ s)

pub returns-in-None : goal.returns-in-None
returns-in-None c =
    let s = c.args.start.now in
    none_row (bad_start s) (length s) 11 (sym c.in-None.is ∙ c.first_bad_start.ensures ∙ position_first _ s)
