-- `on_event` meets its contract where a line is too long.
use Rattle.engine.specs.Owned.{engine_in}
use Rattle.program.proofs.Replying.{given-too_long}
use Rattle.program.proofs.Taking.{replies-too_long}
use Rattle.program.proofs.step.on_event.Goals as goal

pub returns-in-TooLong : goal.returns-in-TooLong
returns-in-TooLong c =
    let a = c.args in
    let e = engine_in a.arrays.now in
    replies-too_long a.s e a.line.now a.outbox.now c.in-TooLong.is (given-too_long a.s e (c.unheard.ensures e a.outbox.now))
