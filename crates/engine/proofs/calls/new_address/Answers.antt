-- `calls::new_address` meets its contract: refused, or with the links after the news, and an address that was stored on an up link sent from.
use mathlib.Core.Path.{◌∙◌, ◌≡◌, ap, sym}
use mathlib.Core.Bool.{◌&&◌, cond}
use mathlib.Core.List.{[]}
use Rattle.engine.proofs.Bound.{enough}
use Rattle.engine.proofs.Accepted.{cleared}
use Rattle.engine.specs.Arrays.{head_places, held, links_in, names_in, searches_in, engine}
use Rattle.engine.specs.Calls.{NewAddress, acts}
use Rattle.engine.specs.Engine.{names_of, notifies, refusal_of}
use Rattle.engine.specs.Links.{context_after}
use Rattle.engine.specs.Records.{address_records, all_from, records}
use Rattle.engine.specs.Refusals.{refused_as, outbox_short, links_full, checks}
use Rattle.engine.specs.Replies.{results}
use lib.ListN.{length}
use native.Mathlib.Omega.{arith}
use Rattle.engine.proofs.Sending as sending
use Rattle.engine.proofs.Lending as lending
use Rattle.engine.proofs.calls.new_address.Goals as goal

pub returns-in-Err : goal.returns-in-Err
unfolding refusal_of names_of held
returns-in-Err c =
    let a = c.args in
    let short = sym (c.is_short_of_address-short.ensures a.numbers.now a.texts.now (c.is_stored-storing.ensures a.index (links_in a.head.now a.links.now) c.lookup-held.ensures)) in
    lending.refused-for (engine a.head.now a.links.now a.searches.now a.numbers.now a.texts.now) (NewAddress a.index a.address.now (length a.outbox.now)) _ _ c.number.result c.in-Err.refusal (c.of_new_address.ensures _ _ _ (sym (c.is_stored-storing.ensures a.index (links_in a.head.now a.links.now) c.lookup-held.ensures)) (sym (ap length (c.addresses_of-count.ensures a.index (links_in a.head.now a.links.now) c.lookup-held.ensures))) short) c.in-Err.is c.number.ensures (c.refused.ensures _ _ _)

pub returns : goal.returns
unfolding refusal_of names_of held context_after acts results records notifies checks address_records
returns c =
    let a = c.args in
    let short = sym (c.is_short_of_address-short.ensures a.numbers.now a.texts.now (c.is_stored-storing.ensures a.index (links_in a.head.now a.links.now) c.lookup-held.ensures)) in
    let size : length a.head.now ≡ head_places = omega arith in
    let t = engine a.head.now a.links.now a.searches.now a.numbers.now a.texts.now in
    let call = NewAddress a.index a.address.now (length a.outbox.now) in
    let number = sym (c.of_new_address.ensures _ _ _ (sym (c.is_stored-storing.ensures a.index (links_in a.head.now a.links.now) c.lookup-held.ensures)) (sym (ap length (c.addresses_of-count.ensures a.index (links_in a.head.now a.links.now) c.lookup-held.ensures))) short) ∙ ap refused_as c.in_default.is in
    let p = cleared (held t).context (names_of (held t).advertisements) call number in
    let links = links_in a.head.now a.links.now in
    let sends = all_from (searches_in a.head.now a.searches.now) (names_in a.head.now a.numbers.now a.texts.now) in
    lending.done-answers t _ call c.send_if_stored-k.result _ _ number
    (lending.links-changed a.head.now a.links.now a.searches.now a.numbers.now a.texts.now size c.address_stored-known.result _ c.set_count.ensures (c.address_stored-known.ensures a.index c.lookup-held.ensures (p links_full)))
    c.nothing.ensures.0 c.nothing.ensures.1
    (sending.sent-as c.send_if_stored-k.ensures
    (λ i. cond (c.is_stored-storing.ensures a.index links c.lookup-held.ensures i && c.is_up.ensures a.index (links_in a.head.now a.links.now) c.lookup-held.ensures i) (sends (c.number_of-source.ensures i)) []))
    (c.accepted.ensures _ _ _)

pub send_if_stored-k-requires : goal.send_if_stored-k-requires
unfolding checks names_of held records address_records
send_if_stored-k-requires c =
    let a = c.args in
    let short = sym (c.is_short_of_address-short.ensures a.numbers.now a.texts.now (c.is_stored-storing.ensures a.index (links_in a.head.now a.links.now) c.lookup-held.ensures)) in
    let t = engine a.head.now a.links.now a.searches.now a.numbers.now a.texts.now in
    let call = NewAddress a.index a.address.now (length a.outbox.now) in
    let p = cleared (held t).context (names_of (held t).advertisements) call (sym (c.of_new_address.ensures _ _ _ (sym (c.is_stored-storing.ensures a.index (links_in a.head.now a.links.now) c.lookup-held.ensures)) (sym (ap length (c.addresses_of-count.ensures a.index (links_in a.head.now a.links.now) c.lookup-held.ensures))) short) ∙ ap refused_as c.in_default.is) in
    let sends = all_from (searches_in a.head.now a.searches.now) (names_in a.head.now a.numbers.now a.texts.now) in
    let room =
    enough t call a.outbox.now (p outbox_short)
    (λ i. cond (c.is_stored-storing.ensures a.index (links_in a.head.now a.links.now) c.lookup-held.ensures i && c.is_up.ensures a.index (links_in a.head.now a.links.now) c.lookup-held.ensures i) (sends (c.number_of-source.ensures i)) [])
    in
    room
