-- The timer and the number are those of `updated`'s answer.
use Rattle.std.proofs.Common.{◌≡◌, Result, Ok, Err, ap, sym, ◌∙◌}
use Rattle.std.specs.Result.{IsErrAnd}
use Rattle.engine.specs.Refusals.{number_of, refused_as, time_late}
use Rattle.engine.specs.RefreshTimer.{timer_of, timer_step}
use Rattle.engine.specs.declared.refusals.Refusal.{Refusal}
use Rattle.engine.specs.declared.refusals.Refusal.TheVariants.{TimeLate}
use Rattle.engine.proofs.Timer.{timely, late, timely-number, late-number}
use Rattle.engine.proofs.refresh_timer.RefreshTimer.update_refresh.Goals as goal

refused-late : (r : Result (Unit {0}) Refusal) → IsErrAnd r (λ e. e ≡ TimeLate) → refused_as r ≡ time_late
refused-late (Ok x) h = absurd h
refused-late (Err e) h = ap number_of h

pub returns-in_err-self : goal.returns-in_err-self
returns-in_err-self c =
    let a = c.args in
    let answer = sym c.updated.ensures ∙ c.in_err-self.was in
    let l = late a.time a.self.now (timer_step a.self.now a.time) c.in_err-self.field-0.0 answer in
    (sym (ap timer_of answer ∙ l.1), refused-late c.from_residual.result c.from_residual.ensures.1 ∙ sym (late-number a.time l.0))

pub returns : goal.returns
returns c =
    let a = c.args in
    let answer = sym c.updated.ensures ∙ c.in_ok-self.was in
    let t = timely a.time a.self.now (timer_step a.self.now a.time) c.in_ok-self.field-0 answer in
    (sym (ap timer_of answer), sym (timely-number a.time t.0))
