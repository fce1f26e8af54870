-- By whether the reply is due.
use mathlib.Core.Path.{refl, sym, ◌∙◌, ap}
use lib.ListN.{length}
use Rattle.engine.specs.Row.{entry}
use Rattle.engine.proofs.Sending.{sent-nothing, sent-as}
use Rattle.engine.proofs.TableRuns.{due-now, due-later}
use native.Mathlib.Omega.{arith}
use Rattle.engine.proofs.due.reply_if_due.Goals as goal

pub returns-then-is_due : goal.returns-then-is_due
returns-then-is_due c = let a = c.args in sent-as c.reply.ensures (due-now a.time a.up.now (entry a.a.now) refl (sym c.is_due.ensures ∙ c.if-is_due.true))

pub returns : goal.returns
returns c = let a = c.args in sent-as (sent-nothing a.outbox.now) (due-later a.time a.up.now (entry a.a.now) refl (sym c.is_due.ensures ∙ c.if-is_due.false))

pub reply-requires : goal.reply-requires
reply-requires c =
    let a = c.args in
    let all = due-now a.time a.up.now (entry a.a.now) refl (sym c.is_due.ensures ∙ c.if-is_due.true) in
    omega (arith, c.requires, ap length all)
