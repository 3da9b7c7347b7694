-- The position of the first entry of k that is no node is what the search of the definition finds.
-- Assumes nothing.
use Rattle.std.proofs.Common.{nat_le, sym, ◌∙◌}
use Rattle.call_sizes.proofs.RefusalLaws.{found_row, none_row, position_take}
use Rattle.theory_contraction.specs.Contraction.{bad_entry}
use Rattle.contraction_checks.proofs.check_entries.Goals as goal

pub returns-in-Some : goal.returns-in-Some
returns-in-Some c =
    let a = c.args in
    found_row (bad_entry a.n a.active.now) a.k 8 _ (sym c.in-Some.is ∙ c.first_bad_entry.ensures ∙ position_take (nat_le a.n) a.active.now a.k c.requires)

pub returns-in-None : goal.returns-in-None
returns-in-None c =
    let a = c.args in
    none_row (bad_entry a.n a.active.now) a.k 8 (sym c.in-None.is ∙ c.first_bad_entry.ensures ∙ position_take (nat_le a.n) a.active.now a.k c.requires)
