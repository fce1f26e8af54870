-- `calls::on_search` meets its contract: refused, or with the search put to every name.
use mathlib.Core.Path.{◌∙◌, ◌≡◌, ap, subst, sym}
use mathlib.Core.List.{List, [], ◌∷◌}
use Rattle.engine.proofs.Accepted.{Passed, passed}
use Rattle.engine.specs.Arrays.{held, links_in, names_in, searches_in, seed_in, engine, timer_in}
use Rattle.engine.specs.Calls.{Act, Asks, Datagram, Query, acts, asks as asked_by_lem}
use Rattle.engine.specs.Engine.{names_of, notifies, notifies_of, refusal_of}
use Rattle.engine.specs.Held.{Advertisement, Text, holding}
use Rattle.engine.specs.Links.{context_after}
use Rattle.engine.specs.Records.{records}
use Rattle.engine.specs.Refusals.{refused_as, checks, search_checks}
use Rattle.engine.specs.Replies.{result, results}
use Rattle.engine.specs.Outcomes.{asks}
use Rattle.message.specs.Build.{type_max}
use Rattle.message.specs.Parse.{ParseAnswer, field_at, parsed}
use borrow.Author.Tests.{ltb-false}
use lib.ListN.{length}
use native.Mathlib.Omega.{arith}
use Rattle.engine.proofs.Answering as answering
use Rattle.engine.proofs.Lending as lending
use Rattle.engine.proofs.calls.on_search.Goals as goal

pub returns-in-Err : goal.returns-in-Err
unfolding refusal_of
returns-in-Err c links searches =
    let a = c.args in
    lending.refused-for (engine a.head.now links searches a.numbers.now a.texts.now) (Datagram a.time a.sender a.receiver a.datagram.now) [] _ c.number.result c.in-Err.refusal (c.of_search.ensures _ _ a.sender a.receiver a.datagram.now a.place c.requires.1 (sym (ap length c.field-target.ensures))) c.in-Err.is c.number.ensures (c.refused.ensures links searches _)

pub returns : goal.returns
unfolding refusal_of held context_after acts result results records notifies
returns c links searches =
    let a = c.args in
    let head = a.head.now in
    let names = names_in head a.numbers.now a.texts.now in
    let seed = seed_in head in
    let query : Text → Query = λ t. record { target = t; mx = a.mx; sender = a.sender; receiver = a.receiver; time = a.time } in
    let q = query (field_at a.datagram.now a.place) in
    let does : asked_by_lem a.time a.sender a.receiver a.datagram.now (parsed a.datagram.now).message ≡ Asks q ∷ [] =
    ap (λ (p : ParseAnswer). asked_by_lem a.time a.sender a.receiver a.datagram.now p.message) c.requires.1
    in
    let at = c.seed_in.ensures in
    let f = c.field-target.ensures in
    let r = c.searched-asked.ensures in
    lending.done-answers (engine a.head.now links searches a.numbers.now a.texts.now) _ (Datagram a.time a.sender a.receiver a.datagram.now) 0 _ _ (sym (c.of_search.ensures _ _ a.sender a.receiver a.datagram.now a.place c.requires.1 (sym (ap length c.field-target.ensures))) ∙ ap refused_as c.in_default.is)
    (ap (λ (l : List Advertisement). holding seed (timer_in head) (links_in head links) (searches_in head searches) l)
    (r.table ∙ (λ i. (result (at i) names (Asks (query (f i)))).advertisements) ∙ ap (λ (l : List Act). (results seed names l).advertisements) (sym does)))
    (c.asking.ensures.0 ∙ (λ i. asks (r.matched i) (r.joined i))
    ∙ (λ i. asks (result (at i) names (Asks (query (f i)))).counts.matched (result (at i) names (Asks (query (f i)))).counts.joined)
    ∙ sym (answering.plus-zeros (result seed names (Asks q)).counts) ∙ ap (λ (l : List Act). (results seed names l).counts) (sym does))
    (c.asking.ensures.1 ∙ sym (ap (λ (p : ParseAnswer). notifies_of (searches_in head searches) a.datagram.now p.message) c.requires.1))
    answering.sent-none (c.accepted.ensures links searches _)

pub searched-asked-requires : goal.searched-asked-requires
unfolding checks
searched-asked-requires c =
    let a = c.args in
    let t = engine a.head.now [] [] a.numbers.now a.texts.now in
    let call = Datagram a.time a.sender a.receiver a.datagram.now in
    let p = passed (held t).context (names_of (held t).advertisements) call (sym (c.of_search.ensures _ _ a.sender a.receiver a.datagram.now a.place c.requires.1 (sym (ap length c.field-target.ensures))) ∙ ap refused_as c.in_default.is) in
    let q = subst (λ (p : ParseAnswer). Passed (search_checks a.datagram.now p.message)) c.requires.1 p.1.1 in
    (omega (arith, ltb-false type_max (length (field_at a.datagram.now a.place)) q.1.0, ap length c.field-target.ensures), c.requires.0)
