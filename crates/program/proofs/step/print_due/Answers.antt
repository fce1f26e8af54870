-- `print_due` meets its contract: a record, or behind the last what a call wrote besides.
use Rattle.std.proofs.Common.{◌∙◌, ap}
use Rattle.dialogue.specs.Outbox.{record_at}
use Rattle.dialogue.specs.Printing.{record_line}
use Rattle.program.proofs.PrintsDue.{prints-record, prints-last}
use Rattle.program.specs.Program.{stain}
use Rattle.program.proofs.step.print_due.Goals as goal

pub returns-then-due : goal.returns-then-due
returns-then-due c =
    λ printing room.
    let p = c.in-Some.due in
    prints-last c.args.s c.args.outbox.now c.in-Some.is c.if-due.true (c.say_stain.ensures ∙ ap (stain p.records) c.front-lent.ensures)

pub returns : goal.returns
returns c =
    λ printing room.
    let p = c.in-Some.due in
    prints-record c.args.s c.args.outbox.now c.in-Some.is c.if-due.false (c.say_record.ensures ∙ ap (λ o. record_line (record_at p.next o)) c.front-lent.ensures)
