-- `calls::on_data` meets its contract: refused by its time or as parse's answer holds no message, or by what the message is.
use mathlib.Core.Path.{◌∙◌, ◌≡◌, ap, sym}
use mathlib.Core.List.{[]}
use Rattle.engine.specs.Arrays.{engine}
use Rattle.engine.specs.Calls.{Datagram}
use Rattle.engine.specs.Engine.{refusal_of}
use Rattle.message.specs.Parse.{ParseAnswer, parsed}
use native.Mathlib.Omega.{arith}
use Rattle.engine.proofs.Hearing as hearing
use Rattle.engine.proofs.Lending as lending
use Rattle.engine.proofs.calls.on_data.Goals as goal

pub returns-then-time-gt-TIME_MAX : goal.returns-then-time-gt-TIME_MAX
unfolding refusal_of
returns-then-time-gt-TIME_MAX c links =
    let a = c.args in
    lending.refused-answers (engine a.head.now links a.searches.now a.numbers.now a.texts.now) (Datagram a.time a.sender a.receiver a.datagram.now) [] _ c.number.result (hearing.late-refusal _ _ a.time a.sender a.receiver a.datagram.now (omega arith) ∙ sym c.number.ensures) (λ z. omega arith)
    (c.refused.ensures links _ _)

pub returns-in_default : goal.returns-in_default
unfolding refusal_of
returns-in_default c links =
    let a = c.args in
    let p = ap (λ (x : ParseAnswer). x.refusal) c.parse-answer.ensures in
    let none : (parsed a.datagram.now).refusal ≡ 0 → ⊥ = λ z. hearing.no_message c.parse-answer.result c.in_default.not-Ok (p ∙ z) in
    let number = c.refusal_of.ensures ∙ p in
    lending.refused-answers (engine a.head.now links a.searches.now a.numbers.now a.texts.now) (Datagram a.time a.sender a.receiver a.datagram.now) [] _ c.refusal_of.result
    (hearing.unread-refusal _ _ a.time a.sender a.receiver a.datagram.now (omega arith) none ∙ sym number) (λ z. none (sym number ∙ z))
    (c.refused-in_default.ensures links _ _)
