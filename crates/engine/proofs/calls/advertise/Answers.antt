-- `calls::advertise` meets its contract: refused, or with the notify sent and the name entered.
use mathlib.Core.Path.{◌∙◌, ◌≡◌, ap, sym, subst}
use mathlib.Core.Bool.{◌||◌}
use mathlib.Core.List.{List, [], map}
use Prim.Native.Nat.{ℕ}
use Rattle.engine.proofs.Bound.{enough}
use Rattle.engine.proofs.Accepted.{or_false, cleared}
use Rattle.engine.proofs.NameRows.{names-length}
use Rattle.message.specs.Refusals.{text_over_size}
use Rattle.engine.specs.Arrays.{head_places, names_in, held, engine}
use Rattle.engine.specs.Changes.{NamesAfter}
use Rattle.engine.specs.Held.{advertised}
use Rattle.engine.specs.Table.{enter}
use Rattle.engine.specs.Calls.{Advertise, acts}
use Rattle.engine.specs.Engine.{names_of, notifies, refusal_of}
use Rattle.engine.specs.Links.{context_after}
use Rattle.engine.specs.Records.{NotifyFrom, records}
use Rattle.engine.specs.Refusals.{refused_as, outbox_short, table_full, checks, over}
use Rattle.engine.specs.Replies.{drops, newcomer, result, results}
use Rattle.engine.specs.Sizes.{location_max}
use Rattle.message.specs.Build.{name_max, type_max}
use borrow.Author.Tests.{ltb-false}
use lib.Dec.{ltb}
use lib.ListN.{length}
use native.Mathlib.Omega.{arith}
use Rattle.engine.proofs.Answering as answering
use Rattle.engine.proofs.Sending as sending
use Rattle.engine.proofs.Lending as lending
use Rattle.engine.proofs.calls.advertise.Goals as goal

pub returns-in-Err : goal.returns-in-Err
unfolding refusal_of names_of held
returns-in-Err c searches =
    let a = c.args in
    let short = ap (ltb (length a.outbox.now)) (sym (c.of_announcement.ensures searches a.numbers.now a.texts.now a.name.now a.service.now a.location.now (length a.outbox.now)).1) in
    lending.refused-for (engine a.head.now a.links.now searches a.numbers.now a.texts.now) (Advertise a.name.now a.service.now a.location.now (length a.outbox.now)) _ _ c.number.result c.in-Err.refusal (c.of_advertise.ensures _ _ _ (sym (c.is_ok.ensures.value ∙ c.spot_of-spot.ensures.known)) (names-length a.head.now a.numbers.now a.texts.now ∙ sym c.count_of-count.ensures) short) c.in-Err.is c.number.ensures (c.refused.ensures _ searches _)

pub invariant_of-location : goal.invariant_of-location
unfolding checks names_of held
invariant_of-location c =
    let a = c.args in
    let short = ap (ltb (length a.outbox.now)) (sym (c.of_announcement.ensures [] a.numbers.now a.texts.now a.name.now a.service.now a.location.now (length a.outbox.now)).1) in
    let t = engine a.head.now a.links.now [] a.numbers.now a.texts.now in
    let call = Advertise a.name.now a.service.now a.location.now (length a.outbox.now) in
    let p = cleared (held t).context (names_of (held t).advertisements) call (sym (c.of_advertise.ensures _ _ _ (sym (c.is_ok.ensures.value ∙ c.spot_of-spot.ensures.known)) (names-length a.head.now a.numbers.now a.texts.now ∙ sym c.count_of-count.ensures) short) ∙ ap refused_as c.in_default.is) in
    let over₂ = or_false (over name_max a.name.now || over type_max a.service.now) (over location_max a.location.now) (p text_over_size) in
    record { fits = omega (arith, ltb-false location_max (length a.location.now) over₂.1) }

pub send_alive-k-requires : goal.send_alive-k-requires
unfolding checks names_of held records
send_alive-k-requires c =
    let a = c.args in
    let short = ap (ltb (length a.outbox.now)) (sym (c.of_announcement.ensures [] a.numbers.now a.texts.now a.name.now a.service.now a.location.now (length a.outbox.now)).1) in
    let t = engine a.head.now a.links.now [] a.numbers.now a.texts.now in
    let call = Advertise a.name.now a.service.now a.location.now (length a.outbox.now) in
    let p = cleared (held t).context (names_of (held t).advertisements) call (sym (c.of_advertise.ensures _ _ _ (sym (c.is_ok.ensures.value ∙ c.spot_of-spot.ensures.known)) (names-length a.head.now a.numbers.now a.texts.now ∙ sym c.count_of-count.ensures) short) ∙ ap refused_as c.in_default.is) in
    enough t call a.outbox.now (p outbox_short)
    (ap (λ (l : List ℕ). map (λ source. NotifyFrom source a.service.now a.name.now a.location.now) l) (c.deref.ensures.0 ∙ c.of_up_links-up.ensures))

pub returns : goal.returns
unfolding refusal_of names_of held context_after acts results records notifies result checks
returns c searches =
    let a = c.args in
    let short = ap (ltb (length a.outbox.now)) (sym (c.of_announcement.ensures searches a.numbers.now a.texts.now a.name.now a.service.now a.location.now (length a.outbox.now)).1) in
    let size : length a.head.now ≡ head_places = omega arith in
    let e = c.new-offered.ensures in
    lending.done-answers (engine a.head.now a.links.now searches a.numbers.now a.texts.now) _ (Advertise a.name.now a.service.now a.location.now (length a.outbox.now)) c.send_alive-k.result _ _ (sym (c.of_advertise.ensures _ _ _ (sym (c.is_ok.ensures.value ∙ c.spot_of-spot.ensures.known)) (names-length a.head.now a.numbers.now a.texts.now ∙ sym c.count_of-count.ensures) short) ∙ ap refused_as c.in_default.is)
    (lending.names-changed a.head.now a.links.now searches a.numbers.now a.texts.now size c.enter-n.result _ c.set_count.ensures (subst (NamesAfter c.enter-n.result c.enter-n.new.numbers c.enter-n.new.texts) (λ j. enter advertised (newcomer (e.0 j) (e.1 j) (e.2 j)) (names_in a.head.now a.numbers.now a.texts.now)) c.enter-n.ensures))
    (c.dropping.ensures.0 ∙ ap drops (c.dropped_at-dropped.ensures ∙ lending.dropped-is a.head.now a.numbers.now a.texts.now a.name.now c.spot_of-spot.result c.spot_of-spot.ensures) ∙ sym (answering.plus-zeros (drops _))) c.dropping.ensures.1
    (sending.sent-as c.send_alive-k.ensures (ap (λ (l : List ℕ). map (λ source. NotifyFrom source a.service.now a.name.now a.location.now) l) (c.deref.ensures.0 ∙ c.of_up_links-up.ensures)))
    (c.accepted.ensures _ searches _)

pub dropped_at-dropped-requires : goal.dropped_at-dropped-requires
dropped_at-dropped-requires c =
    let a = c.args in
    let at = lending.spot_lt a.head.now a.numbers.now a.texts.now a.name.now c.spot_of-spot.result c.spot_of-spot.ensures in
    λ k. let b = at k in omega arith

pub new-offered-requires : goal.new-offered-requires
unfolding checks names_of held
new-offered-requires c =
    let a = c.args in
    let short = ap (ltb (length a.outbox.now)) (sym (c.of_announcement.ensures [] a.numbers.now a.texts.now a.name.now a.service.now a.location.now (length a.outbox.now)).1) in
    let t = engine a.head.now a.links.now [] a.numbers.now a.texts.now in
    let call = Advertise a.name.now a.service.now a.location.now (length a.outbox.now) in
    let p = cleared (held t).context (names_of (held t).advertisements) call (sym (c.of_advertise.ensures _ _ _ (sym (c.is_ok.ensures.value ∙ c.spot_of-spot.ensures.known)) (names-length a.head.now a.numbers.now a.texts.now ∙ sym c.count_of-count.ensures) short) ∙ ap refused_as c.in_default.is) in
    let over₂ = or_false (over name_max a.name.now || over type_max a.service.now) (over location_max a.location.now) (p text_over_size) in
    let over₁ = or_false (over name_max a.name.now) (over type_max a.service.now) over₂.0 in
    (omega (arith, ltb-false name_max (length a.name.now) over₁.0), omega (arith, ltb-false type_max (length a.service.now) over₁.1))

pub enter-n-requires : goal.enter-n-requires
unfolding checks names_of held
enter-n-requires c =
    let a = c.args in
    let short = ap (ltb (length a.outbox.now)) (sym (c.of_announcement.ensures [] a.numbers.now a.texts.now a.name.now a.service.now a.location.now (length a.outbox.now)).1) in
    let t = engine a.head.now a.links.now [] a.numbers.now a.texts.now in
    let call = Advertise a.name.now a.service.now a.location.now (length a.outbox.now) in
    let p = cleared (held t).context (names_of (held t).advertisements) call (sym (c.of_advertise.ensures _ _ _ (sym (c.is_ok.ensures.value ∙ c.spot_of-spot.ensures.known)) (names-length a.head.now a.numbers.now a.texts.now ∙ sym c.count_of-count.ensures) short) ∙ ap refused_as c.in_default.is) in
    rw c.new-offered.ensures.0 (c.spot_of-spot.ensures, p table_full)
