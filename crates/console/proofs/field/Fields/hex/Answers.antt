-- `hex` meets its contract: by the text of the field.
use Rattle.std.proofs.Common.{refl, ◌∙◌, ap, ◌&&◌, ◌/◌, leb, length}
use Rattle.console.specs.Field.{Hex}
use Rattle.console.proofs.InLine.{reads_not, reads-as, hex-text}
use Rattle.console.proofs.field.Fields.hex.Goals as goal

pub returns-in_err-digits : goal.returns-in_err-digits
returns-in_err-digits c = rw c.from_residual.ensures (reads_not _ _ (Hex c.args.max) refl c.in_err-digits.ensures)

pub returns : goal.returns
returns c = reads-as _ _ (Hex c.args.max) refl c.in_ok-digits.ensures c.part_of-text.ensures _
    (c.then_some.ensures ∙ hex-text _ _ c.args.max c.in_ok-digits.ensures c.part_of-text.ensures _ (ap (λ b. b && leb (length c.part_of-text.result.now / 2) c.args.max) c.is_hexadecimal.ensures))
