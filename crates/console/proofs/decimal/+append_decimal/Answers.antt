-- `append_decimal` meets its contract: it appends the digits of a tenth, and the last.
use mathlib.Core.Path.{sym}
use Rattle.console.proofs.Appending as laws
use Rattle.console.proofs.Printing.{one-digit, more-digits}
use Rattle.console.proofs.decimal.+append_decimal.Goals as goal

pub returns-then-n-lt10 : goal.returns-then-n-lt10
returns-then-n-lt10 t c = laws.text c.push.ensures (sym (one-digit c.args.n c.if-n-lt10.true))

pub returns : goal.returns
returns t c = laws.text (laws.◌⨟◌ c.append_decimal-next.ensures c.push-2.ensures) (sym (more-digits c.args.n c.if-n-lt10.false))
