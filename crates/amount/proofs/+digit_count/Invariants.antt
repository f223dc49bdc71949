-- The measure of `amount::digit_count`. Assumes nothing.
use Rattle.amount.proofs.+digit_count.Given as goal

abbrev pub decreases-digit_count : goal.decreases-digit_count
decreases-digit_count l = l.n
