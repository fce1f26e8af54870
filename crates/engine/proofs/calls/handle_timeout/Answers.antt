-- `calls::handle_timeout` meets its contract: refused by a late time, or idle before the instant to be polled at, or refused by a short outbox, or served.
use mathlib.Core.Path.{◌∙◌, ap, sym}
use Prim.Native.Nat.{◌≤◌, ◌<◌}
use Rattle.engine.proofs.NothingDue.{idle_done, idle_counts, idle_sent, idle_accepted}
use Rattle.engine.specs.Arrays.{held, engine}
use Rattle.engine.specs.Calls.{Timeout}
use Rattle.engine.specs.Engine.{need_of, poll, notifies}
use Rattle.engine.specs.Refusals.{refused_as}
use Rattle.engine.specs.declared.answer.Answer.{Answer}
use lib.ListN.{length}
use native.Mathlib.Omega.{arith}
use Rattle.engine.proofs.Answering as answering
use Rattle.engine.proofs.Lending as lending
use Rattle.engine.proofs.calls.handle_timeout.Goals as goal

pub returns-in-Err : goal.returns-in-Err
returns-in-Err c =
    let a = c.args in
    let t = engine a.head.now a.links.now a.searches.now a.numbers.now a.texts.now in
    let room = length a.outbox.now in
    let number = c.of_time.ensures.0 in
    let late = answering.late-timeout (held t) a.time room (λ z. lending.number-not0 c.in-Err.refusal (sym (ap refused_as c.in-Err.is) ∙ number ∙ z)) in
    lending.refused-for t (Timeout a.time room) _ _ c.number.result c.in-Err.refusal (number ∙ sym late) c.in-Err.is c.number.ensures (c.refused.ensures _ _ _)

pub returns-then-time-idle : goal.returns-then-time-idle
unfolding notifies
returns-then-time-idle c =
    let a = c.args in
    let t = engine a.head.now a.links.now a.searches.now a.numbers.now a.texts.now in
    let room = length a.outbox.now in
    let answer = c.accepted-idle.ensures a.links.now a.searches.now a.texts.now in
    let early : a.time < poll (held t) = omega (arith, c.if-time-idle.true, ap (λ (x : Answer). x.poll) answer) in
    let timely = sym c.of_time.ensures.0 ∙ ap refused_as c.in_default.is in
    lending.done-answers t t (Timeout a.time room) 0 _ _ (idle_accepted (held t) a.time room timely early) (idle_done (held t) a.time room early)
    (c.nothing.ensures.0 ∙ idle_counts (held t) a.time room early) c.nothing.ensures.1 (idle_sent (held t) a.time room a.outbox.now early) answer

pub returns-then-outbox-need : goal.returns-then-outbox-need
returns-then-outbox-need c =
    let a = c.args in
    let t = engine a.head.now a.links.now a.searches.now a.numbers.now a.texts.now in
    let room = length a.outbox.now in
    let timely = sym c.of_time.ensures.0 ∙ ap refused_as c.in_default.is in
    let short : room < need_of (held t) (Timeout a.time room) = omega (arith, c.if-outbox-need.true, c.of_timeout-need.ensures a.texts.now room) in
    lending.refused-answers t (Timeout a.time room) _ _ c.number-then-outbox-need.result (answering.short-timeout (held t) a.time room timely short ∙ sym c.number-then-outbox-need.ensures) (λ z. omega arith) (c.refused-then-outbox-need.ensures _ _ _)

pub serve_due-requires : goal.serve_due-requires
serve_due-requires c =
    let a = c.args in
    let t = engine a.head.now a.links.now a.searches.now a.numbers.now a.texts.now in
    let room = length a.outbox.now in
    let timely = sym c.of_time.ensures.0 ∙ ap refused_as c.in_default.is in
    let roomy : need_of (held t) (Timeout a.time room) ≤ room = omega (arith, c.if-outbox-need.false, c.of_timeout-need.ensures a.texts.now room) in
    answering.roomy_timeout (held t) a.time room timely roomy
