-- `calls::on_notice` meets its contract: nothing changes, and the subscriptions that match are told.
use mathlib.Core.Path.{◌∙◌, ap, subst, sym}
use mathlib.Core.List.{List}
use Prim.Native.Nat.{ℕ}
use Rattle.engine.specs.Arrays.{held, links_in, names_in, searches_in, seed_in, engine, timer_in}
use Rattle.engine.specs.Calls.{Act, Datagram, acts}
use Rattle.engine.specs.Engine.{notifies, notifies_about, refusal_of}
use Rattle.engine.specs.Held.{holding}
use Rattle.engine.specs.Links.{context_after}
use Rattle.engine.specs.Reading.{type_of}
use Rattle.engine.specs.Records.{records}
use Rattle.engine.specs.Replies.{results}
use Rattle.engine.specs.Outcomes.{notifies_mask}
use Rattle.message.specs.Parse.{field_at}
use Rattle.engine.proofs.Answering as answering
use Rattle.engine.proofs.Hearing as hearing
use Rattle.engine.proofs.Lending as lending
use Rattle.engine.proofs.calls.on_notice.Goals as goal

pub returns : goal.returns
unfolding refusal_of held context_after acts results records notifies
returns c links texts time receiver sender early =
    let a = c.args in
    let head = a.head.now in
    let names = names_in head a.numbers.now texts in
    let subs = searches_in head a.searches.now in
    let m = subst (hearing.Noticed a.datagram.now (type_of a.said)) (sym c.requires.0) (hearing.notice_read a.datagram.now a.said c.requires.1) in
    let none = sym (m.asking time sender receiver) in
    lending.done-answers (engine a.head.now links a.searches.now a.numbers.now texts) (engine a.head.now links a.searches.now a.numbers.now texts) (Datagram time sender receiver a.datagram.now) 0 _ _ (hearing.notice_refusal _ _ time sender receiver a.datagram.now (type_of a.said) early m)
    (ap (λ (l : List Act). holding (seed_in head) (timer_in head) (links_in head links) subs (results (seed_in head) names l).advertisements) none)
    (c.notifying.ensures.0 ∙ ap (λ (l : List Act). (results (seed_in head) names l).counts) none)
    (c.notifying.ensures.1 ∙ ap (λ (x : ℕ). notifies_mask x c.told_of-told.result.told) c.told_of-told.ensures.mask ∙ ap (notifies_mask _) c.told_of-told.ensures.told
    ∙ ap (notifies_about subs) (c.field.ensures ∙ ap (field_at a.datagram.now) c.type_of.ensures) ∙ sym (m.notifying subs))
    answering.sent-none (c.accepted.ensures links _ texts)
