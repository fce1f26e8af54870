-- `finish` meets its contract: nothing is under way, or the last line.
use Rattle.std.proofs.Common.{take}
use Rattle.program.proofs.Taking.{finishes}
use Rattle.program.proofs.step.finish.Goals as goal

pub returns : goal.returns
returns c =
    λ ready.
    let a = c.args in
    finishes a.s ready.under ready.printed (c.finish-event.ensures (take a.s.held a.line.now) ready.under) c.on_event-said.ensures
