-- `calls::reset_refresh_timer` meets its contract: refused, or with the timer begun anew.
use mathlib.Core.Path.{◌∙◌, ◌≡◌, ap, sym}
use mathlib.Core.List.{[]}
use Rattle.engine.proofs.Timer.{timely, late}
use Rattle.engine.specs.Arrays.{head_places, held, engine, timer_in}
use Rattle.engine.specs.Calls.{ResetTimer, acts}
use Rattle.engine.specs.Engine.{notifies, refusal_of}
use Rattle.engine.specs.Links.{context_after}
use Rattle.engine.specs.Records.{records}
use Rattle.engine.specs.Refusals.{number_of}
use Rattle.engine.specs.RefreshTimer.{timer_reset}
use Rattle.engine.specs.Replies.{results}
use Rattle.engine.specs.declared.refresh_timer.RefreshTimer.{RefreshTimer}
use lib.ListN.{length}
use native.Mathlib.Omega.{arith}
use Rattle.engine.proofs.Answering as answering
use Rattle.engine.proofs.Lending as lending
use Rattle.engine.proofs.calls.reset_refresh_timer.Goals as goal

pub returns-in-Err : goal.returns-in-Err
returns-in-Err c links searches texts =
    let a = c.args in
    let t = c.timer_in.result in
    let begun = late a.time t (timer_reset t a.time) c.in-Err.late (sym c.reset.ensures ∙ c.in-Err.is) in
    let number = c.number.ensures ∙ ap number_of c.from.ensures in
    lending.refused-answers (engine a.head.now links searches a.numbers.now texts) (ResetTimer a.time) [] _ c.number.result (answering.late-reset _ a.time begun.0 ∙ sym number) (λ z. omega arith)
    (c.refused.ensures links searches texts)

pub returns-in-Ok : goal.returns-in-Ok
unfolding refusal_of held context_after acts results records notifies
returns-in-Ok c links searches texts =
    let a = c.args in
    let size : length a.head.now ≡ head_places = omega arith in
    let head = a.head.now in
    let numbers = a.numbers.now in
    let t = c.timer_in.result in
    let begun = timely a.time t (timer_reset t a.time) c.in-Ok.timer (sym c.reset.ensures ∙ c.in-Ok.is) in
    let timer : c.in-Ok.timer ≡ timer_reset (timer_in head) a.time = begun.1 ∙ ap (λ (t : RefreshTimer). timer_reset t a.time) c.timer_in.ensures in
    lending.done-answers (engine head links searches numbers texts) _ (ResetTimer a.time) 0 _ _ (answering.timely-reset (held (engine head links searches numbers texts)) a.time begun.0)
    (lending.timer-changed head links searches numbers texts size c.in-Ok.timer (timer_reset (timer_in head) a.time) c.set_timer.ensures timer (lending.reset-keeps head a.time))
    c.nothing.ensures.0 c.nothing.ensures.1 answering.sent-none (c.accepted.ensures links searches texts)
