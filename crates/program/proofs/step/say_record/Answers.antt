-- `say_record` meets its contract: a piece has room for the line of any record.
use Rattle.std.proofs.Common.{◌∙◌, ap}
use Rattle.dialogue.specs.Printing.{record_line}
use Rattle.program.proofs.PrintsDue.{written-whole, record-fits}
use Rattle.program.proofs.step.say_record.Goals as goal

pub returns : goal.returns
returns c =
    written-whole c.append_record.ensures.0 (record-fits c.args.due.next c.args.lent.now c.record_at.ensures c.append_record.ensures.1 c.requires)
    ∙ ap record_line c.record_at.ensures
