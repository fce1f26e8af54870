-- `u16` meets its contract: by the text of the field.
use Rattle.std.proofs.Common.{refl}
use Rattle.console.specs.Field.{U16}
use Rattle.console.proofs.InLine.{reads_not, reads-as}
use Rattle.console.proofs.field.Fields.u16.Goals as goal

pub returns-in_err-part : goal.returns-in_err-part
returns-in_err-part c = rw c.from_residual.ensures (reads_not _ _ U16 refl c.in_err-part.ensures)

pub returns : goal.returns
returns c = let t = c.in_ok-part.ensures in reads-as _ _ U16 refl t.1.0 t.1.1 _ c.parse.ensures
