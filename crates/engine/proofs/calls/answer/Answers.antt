-- `calls::answer` meets its contract: waiting and poll are those of what the arrays hold.
use mathlib.Core.Path.{◌∙◌, ap}
use Rattle.engine.specs.Outcomes.{counted, notified_by}
use Rattle.engine.specs.Replies.{soonest}
use Rattle.engine.specs.Arrays.{engine, names_in}
use Rattle.engine.specs.declared.refresh_timer.RefreshTimer.{RefreshTimer}
use Rattle.engine.proofs.Lending as lending
use Rattle.engine.proofs.calls.answer.Goals as goal

pub returns : goal.returns
returns c links searches texts =
    let a = c.args in
    lending.answer-of a.refusal _ (counted a.t) (notified_by a.t) (engine _ links searches _ texts) _ _ (c.waits_in-waits.ensures texts).0
    ((c.waits_in-waits.ensures texts).1 ∙ ap (λ (x : RefreshTimer). soonest x.next_salvo (names_in a.head.now a.numbers.now texts)) c.timer_in-timer.ensures)
