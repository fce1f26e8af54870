-- The accepted part of `calls::serve_due`: the refresh records and the due replies sent, the replies ended and the timer rolled.
use mathlib.Core.Path.{◌∙◌, ◌≡◌, ap, sym}
use mathlib.Core.List.{List}
use Rattle.engine.proofs.Bound.{enough}
use Rattle.engine.proofs.Accepted.{cleared}
use Rattle.engine.specs.Arrays.{head_places, held, links_in, names_in, searches_in, seed_in, engine, timer_in}
use Rattle.engine.specs.Calls.{Timeout, acts}
use Rattle.engine.specs.Engine.{names_of, notifies, refusal_of}
use Rattle.engine.specs.Held.{Advertisement, holding}
use Rattle.engine.specs.Links.{context_after}
use Rattle.engine.specs.Records.{records, refresh_records, timeout_on}
use Rattle.engine.specs.RefreshTimer.{timer_step}
use Rattle.engine.specs.Refusals.{time_late, outbox_short, checks}
use Rattle.engine.specs.Replies.{alone_at, group_at, result, results, sum_of}
use Rattle.engine.specs.Sizes.{time_max}
use Rattle.engine.specs.Outcomes.{sends}
use Rattle.engine.specs.declared.refresh_timer.RefreshTimer.{RefreshTimer}
use borrow.Author.Tests.{ltb-false}
use lib.Dec.{leb}
use lib.ListN.{length}
use Prim.Native.Nat.{◌≤◌}
use native.Mathlib.Omega.{arith}
use Rattle.engine.proofs.Timer.{in_time}
use Rattle.engine.proofs.Answering as answering
use Rattle.engine.proofs.Sending as sending
use Rattle.engine.proofs.Lending as lending
use Rattle.engine.proofs.calls.serve_due.Goals as goal

pub returns : goal.returns
unfolding refusal_of names_of held context_after acts results records notifies result checks refresh_records
returns c =
    let a = c.args in
    let size : length a.head.now ≡ head_places = omega arith in
    let t = engine a.head.now a.links.now a.searches.now a.numbers.now a.texts.now in
    let call = Timeout a.time (length a.outbox.now) in
    let p = cleared (held t).context (names_of (held t).advertisements) call c.requires in
    let head = a.head.now in
    let names = names_in head a.numbers.now a.texts.now in
    let borne : a.time ≤ time_max = omega (arith, ltb-false time_max a.time (p time_late)) in
    let timer : c.rolled.result ≡ timer_step (timer_in head) a.time = c.rolled.ensures ∙ in_time c.timer_in-timer.result a.time borne ∙ ap (λ (x : RefreshTimer). timer_step x a.time) c.timer_in-timer.ensures in
    let served = c.serve_all-served.ensures a.texts.now in
    lending.done-answers t _ call c.send_timeout-k.result _ _ c.requires
    (lending.timer-changed head a.links.now a.searches.now _ a.texts.now size c.rolled.result (timer_step (timer_in head) a.time) c.set_timer.ensures timer (lending.step_keeps head a.time)
    ∙ ap (λ (l : List Advertisement). holding (seed_in head) (timer_step (timer_in head) a.time) (links_in head a.links.now) (searches_in head a.searches.now) l) served.table)
    (c.sending.ensures.0 ∙ (λ i. sends (served.first i) (served.second i)) ∙ sym (answering.plus-zeros (sends (sum_of (alone_at a.time) names) (sum_of (group_at a.time) names)))) c.sending.ensures.1
    (sending.sent-as c.send_timeout-k.ensures
    (λ i. timeout_on ((c.deref.ensures.0 ∙ c.of_up_links-up.ensures) i) (leb (c.timer_in-timer.ensures i).next_salvo a.time) a.time (searches_in head a.searches.now) names))
    (c.accepted.ensures _ _ _)

pub send_timeout-k-requires : goal.send_timeout-k-requires
unfolding refusal_of checks names_of held records refresh_records
send_timeout-k-requires c =
    let a = c.args in
    let t = engine a.head.now a.links.now a.searches.now a.numbers.now a.texts.now in
    let call = Timeout a.time (length a.outbox.now) in
    let p = cleared (held t).context (names_of (held t).advertisements) call c.requires in
    let up = (c.deref.ensures.0 ∙ c.of_up_links-up.ensures) in
    let room =
    enough t call a.outbox.now (p outbox_short)
    (λ i. timeout_on (up i) (leb (c.timer_in-timer.ensures i).next_salvo a.time) a.time (searches_in a.head.now a.searches.now) (names_in a.head.now a.numbers.now a.texts.now))
    in
    room
