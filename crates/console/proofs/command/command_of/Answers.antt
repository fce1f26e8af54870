-- `command_of` meets its contract: there is no such word, a field cannot be read, or there is a field too many.
use Rattle.std.proofs.Common.{sym, ◌∙◌, ltb, length}
use Rattle.console.proofs.Filling.{no_word, worded}
use Rattle.console.proofs.InLine.{chosen}
use Rattle.console.proofs.command.command_of.Goals as goal

pub returns-in_err-word : goal.returns-in_err-word
returns-in_err-word c = c.from_residual.ensures ∙ sym (no_word c.args.words.now c.args.line.now c.extent_of-n.ensures.value c.in_err-word.ensures)

pub returns-in_err-command : goal.returns-in_err-command
returns-in_err-command c =
    c.from_residual-in_err-command.ensures ∙ sym (worded c.args.words.now c.args.line.now c.extent_of-n.ensures.value c.in_ok-word.ensures ∙ c.in_err-command.ensures.reads)

pub returns : goal.returns
returns c =
    let s = c.args.line.now in
    c.then_some.ensures ∙ chosen (ltb (length s) c.read.new.fields.at) c.in_ok-command.command
    ∙ sym (worded c.args.words.now s c.extent_of-n.ensures.value c.in_ok-word.ensures ∙ c.in_ok-command.ensures.reads)
