-- `append_number` meets its contract: the digits, and the byte behind them.
use Rattle.console.specs.Decimal.{number_then}
use Rattle.console.proofs.Appending as laws
use Rattle.console.proofs.decimal.append_number.Goals as goal

pub returns : goal.returns
unfolding number_then
returns c = laws.◌⨟◌ c.append_decimal-next.ensures c.push.ensures
