-- `calls::deleted_address` meets its contract: refused, or with the links after the news.
use mathlib.Core.Path.{◌∙◌, ◌≡◌, sym, ap}
use mathlib.Core.List.{[]}
use Rattle.engine.specs.Arrays.{head_places, held, engine}
use Rattle.engine.specs.Calls.{DeletedAddress, acts}
use Rattle.engine.specs.Engine.{names_of, notifies, refusal_of}
use Rattle.engine.specs.Links.{context_after}
use Rattle.engine.specs.Records.{records}
use Rattle.engine.specs.Replies.{results}
use lib.ListN.{length}
use native.Mathlib.Omega.{arith}
use Rattle.engine.specs.Refusals.{refused_as}
use Rattle.engine.proofs.Answering as answering
use Rattle.engine.proofs.Lending as lending
use Rattle.engine.proofs.calls.deleted_address.Goals as goal

pub returns-in-Err : goal.returns-in-Err
unfolding refusal_of
returns-in-Err c searches texts =
    let a = c.args in
    lending.refused-for (engine a.head.now a.links.now searches a.numbers.now texts) (DeletedAddress a.index a.address.now) [] _ c.number.result c.in-Err.refusal (c.of_deleted_address.ensures _ _) c.in-Err.is c.number.ensures (c.refused.ensures _ searches texts)

pub returns : goal.returns
unfolding refusal_of names_of held context_after acts results records notifies
returns c searches texts =
    let a = c.args in
    let size : length a.head.now ≡ head_places = omega arith in
    lending.done-answers (engine a.head.now a.links.now searches a.numbers.now texts) _ (DeletedAddress a.index a.address.now) 0 _ _ (sym (c.of_deleted_address.ensures _ _) ∙ ap refused_as c.in_default.is)
    (lending.links-changed a.head.now a.links.now searches a.numbers.now texts size c.address_gone-remaining.result _ c.set_count.ensures (c.address_gone-remaining.ensures a.index c.lookup-held.ensures))
    c.nothing.ensures.0 c.nothing.ensures.1 answering.sent-none (c.accepted.ensures _ searches texts)
