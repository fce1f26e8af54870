-- `calls::new_link` meets its contract: refused, or with the links after the news, and a link that turned up sent from.
use mathlib.Core.Path.{◌∙◌, ◌≡◌, ap, sym}
use mathlib.Core.Bool.{Bool, cond}
use mathlib.Core.List.{List, []}
use Prim.Native.Nat.{ℕ}
use Rattle.engine.proofs.Bound.{enough}
use Rattle.engine.proofs.Accepted.{cleared}
use Rattle.engine.specs.Arrays.{head_places, held, links_in, names_in, searches_in, engine}
use Rattle.engine.specs.Calls.{NewLink, acts}
use Rattle.engine.specs.Engine.{names_of, notifies, refusal_of}
use Rattle.engine.specs.Links.{context_after}
use Rattle.engine.specs.Records.{address_records, all_from, flat, records, turns_up}
use Rattle.engine.specs.Refusals.{refused_as, outbox_short, links_full, checks}
use Rattle.engine.specs.Replies.{results}
use lib.ListN.{length}
use native.Mathlib.Omega.{arith}
use Rattle.engine.proofs.Sending as sending
use Rattle.engine.proofs.Lending as lending
use Rattle.engine.proofs.calls.new_link.Goals as goal

pub returns-in-Err : goal.returns-in-Err
unfolding refusal_of names_of held
returns-in-Err c =
    let a = c.args in
    let short = sym (c.is_short_of_link-short.ensures a.numbers.now a.texts.now a.outcome (c.turns_up-turns.ensures a.index (links_in a.head.now a.links.now) c.lookup-held.ensures)) in
    lending.refused-for (engine a.head.now a.links.now a.searches.now a.numbers.now a.texts.now) (NewLink a.index a.flags a.outcome (length a.outbox.now)) _ _ c.number.result c.in-Err.refusal (c.of_new_link.ensures _ _ _ a.flags (sym c.is_multicast-multicast.ensures) (sym (c.is_some.ensures ∙ c.lookup-held.ensures.known)) (lending.links-length a.head.now a.links.now ∙ sym c.count_of-count.ensures) short) c.in-Err.is c.number.ensures (c.refused.ensures _ _ _)

pub returns : goal.returns
unfolding refusal_of names_of held context_after acts results records notifies checks address_records
returns c =
    let a = c.args in
    let short = sym (c.is_short_of_link-short.ensures a.numbers.now a.texts.now a.outcome (c.turns_up-turns.ensures a.index (links_in a.head.now a.links.now) c.lookup-held.ensures)) in
    let size : length a.head.now ≡ head_places = omega arith in
    let t = engine a.head.now a.links.now a.searches.now a.numbers.now a.texts.now in
    let call = NewLink a.index a.flags a.outcome (length a.outbox.now) in
    let number = sym (c.of_new_link.ensures _ _ _ a.flags (sym c.is_multicast-multicast.ensures) (sym (c.is_some.ensures ∙ c.lookup-held.ensures.known)) (lending.links-length a.head.now a.links.now ∙ sym c.count_of-count.ensures) short) ∙ ap refused_as c.in_default.is in
    let p = cleared (held t).context (names_of (held t).advertisements) call number in
    let links = links_in a.head.now a.links.now in
    let sends = flat (all_from (searches_in a.head.now a.searches.now) (names_in a.head.now a.numbers.now a.texts.now)) in
    lending.done-answers t _ call c.send_if_up-k.result _ _ number
    (lending.links-changed a.head.now a.links.now a.searches.now a.numbers.now a.texts.now size c.link_stored-n.result _ c.set_count.ensures (c.link_stored-n.ensures c.lookup-held.ensures (p links_full)))
    c.nothing.ensures.0 c.nothing.ensures.1
    (sending.sent-as c.send_if_up-k.ensures
    (ap (λ (b : Bool). cond b (sends c.addresses_of.result.now) []) (c.turns_up-turns.ensures a.index links c.lookup-held.ensures)
    ∙ ap (λ (l : List ℕ). cond (turns_up a.index a.flags links) (sends l) []) (c.addresses_of.ensures a.index links c.lookup-held.ensures)))
    (c.accepted.ensures _ _ _)

pub send_if_up-k-requires : goal.send_if_up-k-requires
unfolding checks names_of held records address_records
send_if_up-k-requires c =
    let a = c.args in
    let short = sym (c.is_short_of_link-short.ensures a.numbers.now a.texts.now a.outcome (c.turns_up-turns.ensures a.index (links_in a.head.now a.links.now) c.lookup-held.ensures)) in
    let t = engine a.head.now a.links.now a.searches.now a.numbers.now a.texts.now in
    let call = NewLink a.index a.flags a.outcome (length a.outbox.now) in
    let p = cleared (held t).context (names_of (held t).advertisements) call (sym (c.of_new_link.ensures _ _ _ a.flags (sym c.is_multicast-multicast.ensures) (sym (c.is_some.ensures ∙ c.lookup-held.ensures.known)) (lending.links-length a.head.now a.links.now ∙ sym c.count_of-count.ensures) short) ∙ ap refused_as c.in_default.is) in
    let links = links_in a.head.now a.links.now in
    let sends = flat (all_from (searches_in a.head.now a.searches.now) (names_in a.head.now a.numbers.now a.texts.now)) in
    let room =
    enough t call a.outbox.now (p outbox_short)
    (ap (λ (b : Bool). cond b (sends c.addresses_of.result.now) []) (c.turns_up-turns.ensures a.index links c.lookup-held.ensures)
    ∙ ap (λ (l : List ℕ). cond (turns_up a.index a.flags links) (sends l) []) (c.addresses_of.ensures a.index links c.lookup-held.ensures))
    in
    room
