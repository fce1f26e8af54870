-- `address` meets its contract: by the text of the field.
use Rattle.std.proofs.Common.{refl}
use Rattle.console.specs.Field.{Address}
use Rattle.console.proofs.InLine.{reads_not, reads-as}
use Rattle.console.proofs.field.Fields.address.Goals as goal

pub returns-in_err-part : goal.returns-in_err-part
returns-in_err-part c = rw c.from_residual.ensures (reads_not _ _ Address refl c.in_err-part.ensures)

pub returns : goal.returns
returns c = let t = c.in_ok-part.ensures in reads-as _ _ Address refl t.1.0 t.1.1 _ c.address_of.ensures
