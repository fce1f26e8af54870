-- `calls::subscribe` meets its contract: refused, or with its search sent and one subscription more.
use mathlib.Core.Path.{◌∙◌, ◌≡◌, ap, sym}
use mathlib.Core.List.{List, []}
use Prim.Native.Nat.{ℕ}
use Rattle.engine.proofs.Bound.{enough}
use Rattle.engine.proofs.Accepted.{cleared}
use Rattle.message.specs.Refusals.{text_over_size}
use Rattle.engine.specs.Arrays.{head_places, held, engine}
use Rattle.engine.specs.Calls.{Subscribe, acts}
use Rattle.engine.specs.Engine.{names_of, notifies, refusal_of}
use Rattle.engine.specs.Links.{context_after}
use Rattle.engine.specs.Records.{records, search_on}
use Rattle.engine.specs.Refusals.{refused_as, outbox_short, table_full, checks}
use Rattle.engine.specs.Replies.{results}
use Rattle.message.specs.Build.{type_max}
use borrow.Author.Tests.{ltb-false}
use lib.Dec.{ltb}
use lib.ListN.{length}
use native.Mathlib.Omega.{arith}
use Rattle.engine.proofs.Sending as sending
use Rattle.engine.proofs.Lending as lending
use Rattle.engine.proofs.calls.subscribe.Goals as goal

pub returns-in-Err : goal.returns-in-Err
unfolding refusal_of names_of held
returns-in-Err c texts =
    let a = c.args in
    let short = ap (ltb (length a.outbox.now)) (sym (c.of_announcement-need.ensures a.searches.now a.numbers.now texts [] a.service.now [] (length a.outbox.now)).0) in
    lending.refused-for (engine a.head.now a.links.now a.searches.now a.numbers.now texts) (Subscribe a.service.now (length a.outbox.now)) _ _ c.number.result c.in-Err.refusal (c.of_subscribe.ensures _ _ _ (lending.searches-length a.head.now a.searches.now ∙ sym c.count_of-n.ensures) short) c.in-Err.is c.number.ensures (c.refused.ensures _ _ _)

pub send_search-k-requires : goal.send_search-k-requires
unfolding checks names_of held records
send_search-k-requires c =
    let a = c.args in
    let short = ap (ltb (length a.outbox.now)) (sym (c.of_announcement-need.ensures a.searches.now a.numbers.now [] [] a.service.now [] (length a.outbox.now)).0) in
    let t = engine a.head.now a.links.now a.searches.now a.numbers.now [] in
    let call = Subscribe a.service.now (length a.outbox.now) in
    let p = cleared (held t).context (names_of (held t).advertisements) call (sym (c.of_subscribe.ensures _ _ _ (lending.searches-length a.head.now a.searches.now ∙ sym c.count_of-n.ensures) short) ∙ ap refused_as c.in_default.is) in
    enough t call a.outbox.now (p outbox_short) (ap (λ (l : List ℕ). search_on l a.service.now) (c.deref.ensures.0 ∙ c.of_up_links-up.ensures))

pub returns : goal.returns
unfolding refusal_of names_of held context_after acts results records notifies checks
returns c texts =
    let a = c.args in
    let short = ap (ltb (length a.outbox.now)) (sym (c.of_announcement-need.ensures a.searches.now a.numbers.now texts [] a.service.now [] (length a.outbox.now)).0) in
    let size : length a.head.now ≡ head_places = omega arith in
    let t = engine a.head.now a.links.now a.searches.now a.numbers.now texts in
    let call = Subscribe a.service.now (length a.outbox.now) in
    let number = sym (c.of_subscribe.ensures _ _ _ (lending.searches-length a.head.now a.searches.now ∙ sym c.count_of-n.ensures) short) ∙ ap refused_as c.in_default.is in
    let p = cleared (held t).context (names_of (held t).advertisements) call number in
    let free = lending.searches-free a.head.now a.searches.now c.count_of-n.result c.count_of-n.ensures (p table_full) in
    lending.done-answers t _ call c.send_search-k.result _ _ number
    (lending.searches-pushed a.head.now a.links.now a.searches.now a.numbers.now texts size _ c.count_of-n.result a.service.now c.set_count.ensures c.count_of-n.ensures free c.push.ensures)
    c.nothing.ensures.0 c.nothing.ensures.1
    (sending.sent-as c.send_search-k.ensures (ap (λ (l : List ℕ). search_on l a.service.now) (c.deref.ensures.0 ∙ c.of_up_links-up.ensures)))
    (c.accepted.ensures _ _ _)

pub push-requires : goal.push-requires
unfolding checks names_of held
push-requires c =
    let a = c.args in
    let short = ap (ltb (length a.outbox.now)) (sym (c.of_announcement-need.ensures a.searches.now a.numbers.now [] [] a.service.now [] (length a.outbox.now)).0) in
    let t = engine a.head.now a.links.now a.searches.now a.numbers.now [] in
    let call = Subscribe a.service.now (length a.outbox.now) in
    let p = cleared (held t).context (names_of (held t).advertisements) call (sym (c.of_subscribe.ensures _ _ _ (lending.searches-length a.head.now a.searches.now ∙ sym c.count_of-n.ensures) short) ∙ ap refused_as c.in_default.is) in (
      lending.searches-free a.head.now a.searches.now c.count_of-n.result c.count_of-n.ensures (p table_full),
      ltb-false type_max (length a.service.now) (p text_over_size),
    )
