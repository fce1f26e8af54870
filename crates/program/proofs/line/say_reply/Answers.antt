-- `say_reply` meets its contract: `?`, the answer, or the answer and its news.
use Rattle.std.proofs.Common.{sym, ◌∙◌, append-nil, arith, length-append}
use Rattle.text.specs.Bytes.{bytes}
use Rattle.console.proofs.Appending as laws
use Rattle.dialogue.specs.Printing.{answer_line, news_line}
use Rattle.program.specs.Steps.{reply_text}
use Rattle.program.proofs.PrintsDue.{written-whole}
use Rattle.program.proofs.line.say_reply.Goals as goal

pub returns-in_default : goal.returns-in_default
unfolding reply_text bytes
returns-in_default c = rw c.in_default.is c.say.ensures

pub returns-then-not-traced : goal.returns-then-not-traced
unfolding reply_text
returns-then-not-traced c =
    let a = c.in-Some.answer in
    rw (c.in-Some.is, c.if-not-traced.true)
    (written-whole c.append_answer-len.ensures.0 (omega (arith, c.append_answer-len.ensures.1, c.requires)) ∙ sym (append-nil (answer_line a)))

pub returns : goal.returns
unfolding reply_text
returns c =
    let a = c.in-Some.answer in
    rw (c.in-Some.is, c.if-not-traced.false)
    (written-whole (laws.◌⨟◌ c.append_answer-len.ensures.0 c.append_news.ensures.0)
    (omega (arith, length-append (answer_line a) (news_line a), c.append_answer-len.ensures.1, c.append_news.ensures.1, c.requires)))
