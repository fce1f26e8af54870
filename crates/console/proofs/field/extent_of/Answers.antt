-- `extent_of` meets its contract: there is a tab, or none.
use Rattle.console.proofs.InLine.{tab}
use Rattle.console.proofs.field.extent_of.Goals as goal

pub returns-clause-value : goal.returns-clause-value
returns-clause-value c = tab c.args.rest.now c.find.result c.find.ensures.some c.find.ensures.none c.unwrap_or.ensures
