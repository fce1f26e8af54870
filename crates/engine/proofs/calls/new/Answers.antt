-- `calls::new` meets its contract: a refused one leaves an engine at time 0.
use mathlib.Core.Path.{◌∙◌, ap, sym}
use Rattle.engine.proofs.Timer.{timely, late}
use Rattle.engine.specs.Refusals.{number_of}
use Rattle.engine.specs.RefreshTimer.{timer_new}
use native.Mathlib.Omega.{arith}
use Rattle.engine.proofs.Answering as answering
use Rattle.engine.proofs.Lending as lending
use Rattle.engine.proofs.calls.new.Goals as goal

pub returns-in-Ok : goal.returns-in-Ok
returns-in-Ok c links searches texts =
    let a = c.args in
    let seed = a.random_seed in
    let begun = timely a.time (timer_new seed 0) (timer_new seed a.time) c.in-Ok.timer (sym c.new.ensures ∙ c.in-Ok.is) in
    lending.accepted-begins seed a.time _ _ _ _ (answering.timely-new a.time begun.0)
    (lending.begun_fresh links searches a.numbers.now texts c.in-Ok.timer seed a.time c.begin.ensures begun.1 (omega (arith, c.ranges.random_seed)))
    c.nothing.ensures.0 c.nothing.ensures.1 (c.accepted.ensures links searches texts)

pub returns-in-Err : goal.returns-in-Err
returns-in-Err c links searches texts =
    let a = c.args in
    let seed = a.random_seed in
    let begun = late a.time (timer_new seed 0) (timer_new seed a.time) c.in-Err.late (sym c.new.ensures ∙ c.in-Err.is) in
    let number = c.number.ensures ∙ ap number_of c.from.ensures in
    lending.refused-begins seed a.time _ _ c.number.result (number ∙ sym (answering.late-new a.time begun.0)) (λ z. omega arith)
    (lending.begun_fresh links searches a.numbers.now texts c.in-Err.late.timer seed 0 c.begin-in-Err.ensures begun.1 (omega (arith, c.ranges.random_seed))) (c.refused.ensures links searches texts)
