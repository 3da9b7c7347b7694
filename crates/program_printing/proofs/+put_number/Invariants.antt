-- `put_number` meets its contract, by the number that falls: the digits in front of the last one are those of a tenth of it.
use Rattle.program_printing.proofs.+put_number.Given as goal

abbrev pub decreases-put_number : goal.decreases-put_number
decreases-put_number l = l.n
