-- `append_decimal` calls itself on a tenth of the number, which is the measure.
use Rattle.console.proofs.decimal.+append_decimal.Given as goal

abbrev pub decreases-append_decimal : goal.decreases-append_decimal
decreases-append_decimal l = l.n
