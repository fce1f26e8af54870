-- A salvo that is due has its instant at most at the call's time, so the sum with a period fits.
use mathlib.Core.Path.{sym}
use native.Mathlib.Omega.{arith}
use Rattle.engine.proofs.Timer.{period-max, step-early, stepped_to}
use Rattle.engine.proofs.refresh_timer.stepped.Goals as goal

pub returns-then-time-due : goal.returns-then-time-due
returns-then-time-due c = sym (step-early _ _ c.if-time-due.true)

pub overflow_add-result : goal.overflow_add-result
overflow_add-result c =
    let t = c.args.timer in
    omega (arith, c.period_of.ensures, period-max t.random_seed t.phase)

pub returns : goal.returns
returns c =
    stepped_to c.args.timer _ _ c.period_of.result c.if-time-due.false (omega arith) c.period_of.ensures
