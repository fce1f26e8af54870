-- `append_answer` meets its contract: eight numbers, and the last with the line's end.
use Rattle.std.proofs.Common.{sym, arith}
use Rattle.console.proofs.Appending as laws
use Rattle.dialogue.proofs.Lengths.{answer-most}
use Rattle.dialogue.specs.Printing.{answer_line}
use Rattle.dialogue.proofs.answer.append_answer.Goals as goal

pub returns : goal.returns
unfolding answer_line
returns c =
    let a = c.args.a in
    (rw (sym c.from.ensures) (laws.◌⨟◌ c.append_numbers-next.ensures c.append_number.ensures), answer-most a (omega arith) (omega arith) (omega arith) (omega arith) (omega arith) (omega arith) (omega arith) (omega arith) (omega arith))
