-- `calls::deadvertise` meets its contract: refused, or with the byebyes of a held name sent and the name gone.
use mathlib.Core.Path.{◌∙◌, ◌≡◌, ap, sym}
use mathlib.Core.List.{[]}
use Rattle.engine.proofs.Bound.{enough}
use Rattle.engine.proofs.Accepted.{cleared}
use Rattle.engine.specs.Arrays.{head_places, held, links_in, engine}
use Rattle.engine.specs.Calls.{Deadvertise, acts}
use Rattle.engine.specs.Engine.{names_of, notifies, refusal_of}
use Rattle.engine.specs.Links.{context_after, up_addresses}
use Rattle.engine.specs.Records.{records}
use Rattle.engine.specs.Refusals.{refused_as, outbox_short, checks}
use Rattle.engine.specs.Replies.{drops, result, results}
use lib.Dec.{ltb}
use lib.ListN.{length}
use native.Mathlib.Omega.{arith}
use Rattle.engine.proofs.Answering as answering
use Rattle.engine.proofs.Sending as sending
use Rattle.engine.proofs.Lending as lending
use Rattle.engine.proofs.calls.deadvertise.Goals as goal

pub returns-in-Err : goal.returns-in-Err
unfolding refusal_of names_of
returns-in-Err c searches =
    let a = c.args in
    let short = ap (ltb (length a.outbox.now)) (sym (c.of_byebye-need.ensures searches a.numbers.now a.texts.now a.name.now (length a.outbox.now) (c.is_ok.ensures.value ∙ c.spot_of-spot.ensures.known))) in
    lending.refused-for (engine a.head.now a.links.now searches a.numbers.now a.texts.now) (Deadvertise a.name.now (length a.outbox.now)) _ _ c.number.result c.in-Err.refusal ((c.of_room.ensures _ _ _).1 a.name.now short) c.in-Err.is c.number.ensures (c.refused.ensures _ searches _)

pub returns : goal.returns
unfolding refusal_of names_of held context_after acts results records notifies result checks
returns c searches =
    let a = c.args in
    let short = ap (ltb (length a.outbox.now)) (sym (c.of_byebye-need.ensures searches a.numbers.now a.texts.now a.name.now (length a.outbox.now) (c.is_ok.ensures.value ∙ c.spot_of-spot.ensures.known))) in
    let size : length a.head.now ≡ head_places = omega arith in
    lending.done-answers (engine a.head.now a.links.now searches a.numbers.now a.texts.now) _ (Deadvertise a.name.now (length a.outbox.now)) c.byebye_if-k.result _ _ (sym ((c.of_room.ensures _ _ _).1 a.name.now short) ∙ ap refused_as c.in_default.is)
    (lending.names-changed a.head.now a.links.now searches a.numbers.now a.texts.now size c.leave-n.result _ c.set_count.ensures (c.leave-n.ensures a.name.now c.spot_of-spot.ensures))
    (c.dropping.ensures.0 ∙ ap drops (c.dropped_at-dropped.ensures ∙ lending.dropped-is a.head.now a.numbers.now a.texts.now a.name.now c.spot_of-spot.result c.spot_of-spot.ensures) ∙ sym (answering.plus-zeros (drops _))) c.dropping.ensures.1
    (sending.sent-as c.byebye_if-k.ensures (lending.byebyes_are a.head.now a.numbers.now a.texts.now a.name.now c.spot_of-spot.result c.spot_of-spot.ensures (up_addresses (links_in a.head.now a.links.now))))
    (c.accepted.ensures _ searches _)

pub byebye_if-k-requires : goal.byebye_if-k-requires
unfolding checks names_of held records
byebye_if-k-requires c =
    let a = c.args in
    let short = ap (ltb (length a.outbox.now)) (sym (c.of_byebye-need.ensures [] a.numbers.now a.texts.now a.name.now (length a.outbox.now) (c.is_ok.ensures.value ∙ c.spot_of-spot.ensures.known))) in
    let t = engine a.head.now a.links.now [] a.numbers.now a.texts.now in
    let call = Deadvertise a.name.now (length a.outbox.now) in
    let p = cleared (held t).context (names_of (held t).advertisements) call (sym ((c.of_room.ensures _ _ _).1 a.name.now short) ∙ ap refused_as c.in_default.is) in
    let at = lending.spot_lt a.head.now a.numbers.now a.texts.now a.name.now c.spot_of-spot.result c.spot_of-spot.ensures in (
      λ k. let b = at k in omega arith,
      enough t call a.outbox.now (p outbox_short)
          (lending.byebyes_are a.head.now a.numbers.now a.texts.now a.name.now c.spot_of-spot.result c.spot_of-spot.ensures (up_addresses (links_in a.head.now a.links.now))),
    )

pub dropped_at-dropped-requires : goal.dropped_at-dropped-requires
dropped_at-dropped-requires c =
    let a = c.args in
    let at = lending.spot_lt a.head.now a.numbers.now a.texts.now a.name.now c.spot_of-spot.result c.spot_of-spot.ensures in
    λ k. let b = at k in omega arith

pub leave-n-requires : goal.leave-n-requires
leave-n-requires c =
    let a = c.args in
    lending.spot_lt a.head.now a.numbers.now a.texts.now a.name.now c.spot_of-spot.result c.spot_of-spot.ensures
