use Rattle.std.proofs.Common.{◌∙◌}
use Rattle.program.proofs.Handing as laws
use Rattle.terminal.proofs.on_chunk.Goals as goal

pub loop-rest-preserved : goal.loop-rest-preserved
loop-rest-preserved c =
    let i = c.loop-rest.invariant in
    let t = c.take_in-step in
    let u = c.print_due-state in (
      laws.ready_printed t.result.state _ c.loop-rest.outbox c.loop-rest.out (t.ensures i.0).under u.ensures.0 u.ensures.1 i.0.lent t.auto.outbox i.0.room (u.auto.out ∙ t.auto.out),
      rw c.tail-rest.ensures (laws.◌⨟◌ i.1 (laws.◌⨟◌ (laws.took (t.ensures i.0)) (u.ensures.2 _ _ _))),
      t.auto.line ∙ i.2,
      t.auto.outbox ∙ i.3,
      u.auto.out ∙ t.auto.out ∙ i.4,
    )
