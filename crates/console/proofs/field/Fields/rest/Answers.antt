-- `rest` meets its contract: there is no field, or one that reaches to the line's end.
use Rattle.std.proofs.Common.{refl, ◌∙◌, arith}
use Rattle.console.proofs.InLine.{reads_none, reads-rest}
use Rattle.console.proofs.Parts.{tail}
use Rattle.console.proofs.field.Fields.rest.Goals as goal

pub returns-in_err-rest : goal.returns-in_err-rest
returns-in_err-rest c =
    let s = c.args.self.now in
    rw c.from_residual.ensures (reads_none s s _ (omega (arith, c.in_err-rest.ensures.lookup)) refl refl)

pub returns : goal.returns
returns c =
    let s = c.args.self.now in
    let h = c.in_ok-rest.ensures.lookup in
    reads-rest s _ h.0.0 (h.0.2 ∙ tail s.line.now s.at) refl refl
