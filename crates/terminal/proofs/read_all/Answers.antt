use Rattle.std.proofs.Common.{refl, ◌∙◌}
use Rattle.program.proofs.Handing as laws
use Rattle.terminal.proofs.read_all.Goals as goal

pub loop-init : goal.loop-init
loop-init c = (c.requires, laws.reads_none _ _ _ _, refl, refl, refl)

pub loop-preserved : goal.loop-preserved
loop-preserved c =
    let i = c.loop.invariant in
    let t = c.on_chunk-state in
    (t.ensures.0, laws.reads-chunk i.1 t.ensures.1, t.auto.line ∙ i.2, t.auto.outbox ∙ i.3, t.auto.out ∙ i.4)
