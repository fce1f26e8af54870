-- `calls::refresh` meets its contract: refused, or with all announcements sent.
use mathlib.Core.Path.{◌∙◌, ap, refl, sym}
use mathlib.Core.List.{List}
use Prim.Native.Nat.{ℕ}
use Rattle.engine.proofs.Bound.{enough}
use Rattle.engine.proofs.Accepted.{cleared}
use Rattle.engine.specs.Arrays.{held, names_in, searches_in, engine}
use Rattle.engine.specs.Calls.{Refresh, acts}
use Rattle.engine.specs.Engine.{names_of, notifies, refusal_of}
use Rattle.engine.specs.Links.{context_after}
use Rattle.engine.specs.Records.{records, refresh_on, refresh_records}
use Rattle.engine.specs.Refusals.{refused_as, outbox_short, checks}
use Rattle.engine.specs.Replies.{results}
use borrow.Author.Rules.{rules}
use lib.Dec.{ltb}
use lib.ListN.{length}
use Rattle.engine.proofs.Sending as sending
use Rattle.engine.proofs.Lending as lending
use Rattle.engine.proofs.calls.refresh.Goals as goal

pub returns-in-Err : goal.returns-in-Err
unfolding refusal_of names_of
returns-in-Err c =
    let a = c.args in
    let short = ap (ltb (length a.outbox.now)) (sym (c.of_refresh-need.ensures a.numbers.now a.texts.now (length a.outbox.now))) in
    lending.refused-for (engine a.head.now a.links.now a.searches.now a.numbers.now a.texts.now) (Refresh (length a.outbox.now)) _ _ c.number.result c.in-Err.refusal ((c.of_room.ensures _ _ _).0 short) c.in-Err.is c.number.ensures (c.refused.ensures _ _ _)

pub refresh_on_all-k-requires : goal.refresh_on_all-k-requires
unfolding checks names_of held records refresh_records
refresh_on_all-k-requires c =
    let a = c.args in
    let short = ap (ltb (length a.outbox.now)) (sym (c.of_refresh-need.ensures a.numbers.now a.texts.now (length a.outbox.now))) in
    let t = engine a.head.now a.links.now a.searches.now a.numbers.now a.texts.now in
    let call = Refresh (length a.outbox.now) in
    let p = cleared (held t).context (names_of (held t).advertisements) call (sym ((c.of_room.ensures _ _ _).0 short) ∙ ap refused_as c.in_default.is) in
    let room =
    enough t call a.outbox.now (p outbox_short)
    (ap (λ (l : List ℕ). refresh_on l (searches_in a.head.now a.searches.now) (names_in a.head.now a.numbers.now a.texts.now)) (c.deref.ensures.0 ∙ c.of_up_links-up.ensures))
    in
    search rules

pub returns : goal.returns
unfolding refusal_of names_of held context_after acts results records notifies refresh_records
returns c =
    let a = c.args in
    let short = ap (ltb (length a.outbox.now)) (sym (c.of_refresh-need.ensures a.numbers.now a.texts.now (length a.outbox.now))) in
    let t = engine a.head.now a.links.now a.searches.now a.numbers.now a.texts.now in
    lending.done-answers t t (Refresh (length a.outbox.now)) c.refresh_on_all-k.result _ _ (sym ((c.of_room.ensures _ _ _).0 short) ∙ ap refused_as c.in_default.is) refl c.nothing.ensures.0 c.nothing.ensures.1
    (sending.sent-as c.refresh_on_all-k.ensures
    (ap (λ (l : List ℕ). refresh_on l (searches_in a.head.now a.searches.now) (names_in a.head.now a.numbers.now a.texts.now)) (c.deref.ensures.0 ∙ c.of_up_links-up.ensures)))
    (c.accepted.ensures _ _ _)
