-- `part` meets its contract: there is no field, or the text of one.
use Rattle.console.proofs.field.Fields.part.Goals as goal

pub returns-in_err-text : goal.returns-in_err-text
returns-in_err-text c = rw c.from_residual.ensures c.in_err-text.ensures

pub returns : goal.returns
returns c = (c.in_ok-text.text, (c.in_ok-text.ensures, c.part_of.ensures))
