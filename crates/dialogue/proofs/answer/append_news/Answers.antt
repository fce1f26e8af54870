-- `append_news` meets its contract: its parts, one behind the other.
use Rattle.std.proofs.Common.{sym, arith}
use Rattle.console.proofs.Appending as laws
use Rattle.dialogue.proofs.Lengths.{news_most}
use Rattle.text.specs.Bytes.{bytes}
use Rattle.dialogue.specs.Printing.{news_line}
use Rattle.dialogue.proofs.answer.append_news.Goals as goal

pub returns : goal.returns
unfolding news_line bytes
returns c =
    let a = c.args.a in
    (rw (sym c.from.ensures, sym c.from-2.ensures, sym c.from-3.ensures) (laws.◌⨟◌ c.append-next.ensures (laws.◌⨟◌ c.append_number-next.ensures (laws.◌⨟◌ c.append_number-next-2.ensures c.append_number.ensures))), news_most a (omega arith) (omega arith) (omega arith))
