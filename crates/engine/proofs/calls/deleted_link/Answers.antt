-- `calls::deleted_link` meets its contract: refused, or without the link and with its leave outcome.
use mathlib.Core.Path.{◌∙◌, ◌≡◌, ap, sym, refl}
use mathlib.Core.Bool.{Bool, true, false, cond}
use Prim.Native.Nat.{ℕ}
use Rattle.std.specs.Prelude.{Option}
use Rattle.std.specs.Option.{unwrap_or}
use Rattle.std.specs.Bool.{then_some}
use mathlib.Core.List.{[]}
use Rattle.engine.specs.Arrays.{head_places, held, engine}
use Rattle.engine.specs.Calls.{DeletedLink, acts}
use Rattle.engine.specs.Engine.{names_of, notifies, refusal_of}
use Rattle.engine.specs.Links.{context_after}
use Rattle.engine.specs.Records.{records}
use Rattle.engine.specs.Replies.{results}
use Rattle.engine.specs.Outcomes.{leaves}
use lib.ListN.{length}
use native.Mathlib.Omega.{arith}
use Rattle.engine.specs.Refusals.{refused_as}
use Rattle.engine.proofs.Answering as answering
use Rattle.engine.proofs.Lending as lending
use Rattle.engine.proofs.calls.deleted_link.Goals as goal

pub returns-in-Err : goal.returns-in-Err
unfolding refusal_of
returns-in-Err c searches texts =
    let a = c.args in
    lending.refused-for (engine a.head.now a.links.now searches a.numbers.now texts) (DeletedLink a.index a.outcome) [] _ c.number.result c.in-Err.refusal (c.of_deleted_link.ensures _ _ _) c.in-Err.is c.number.ensures (c.refused.ensures _ searches texts)

-- an outcome that is there for a held link alone
left_is : (b : Bool) (outcome : ℕ) → unwrap_or (then_some b outcome) 0 ≡ cond b outcome 0
left_is true outcome = refl
left_is false outcome = refl

pub returns : goal.returns
unfolding refusal_of names_of held context_after acts results records notifies
returns c searches texts =
    let a = c.args in
    let size : length a.head.now ≡ head_places = omega arith in
    lending.done-answers (engine a.head.now a.links.now searches a.numbers.now texts) _ (DeletedLink a.index a.outcome) 0 _ _ (sym (c.of_deleted_link.ensures _ _ _) ∙ ap refused_as c.in_default.is)
    (lending.links-changed a.head.now a.links.now searches a.numbers.now texts size c.removed-n.result _ c.set_count.ensures c.removed-n.ensures)
    c.leaving.ensures.0 (c.leaving.ensures.1 ∙ ap (λ (o : Option ℕ). leaves (unwrap_or o 0)) c.then_some.ensures ∙ ap leaves (left_is _ a.outcome) ∙ ap (λ (b : Bool). leaves (cond b a.outcome 0)) (c.is_ok.ensures.value ∙ c.spot_of-spot.ensures.known)) answering.sent-none (c.accepted.ensures _ searches texts)
