-- `on_line` meets its contract: a line that is not read, an `outbox` line, or any other.
use Rattle.engine.specs.Owned.{engine_in}
use Rattle.program.proofs.Replying.{given-none, given-line, given-lent, lends-not}
use Rattle.program.specs.Program.{lent_in}
use Rattle.program.specs.Steps.{session_in}
use Rattle.program.proofs.line.on_line.Goals as goal

pub returns-in_default : goal.returns-in_default
returns-in_default c =
    let a = c.args in
    given-none a.s a.line.now (engine_in a.arrays.now) c.in_default.ensures (c.unheard.ensures (engine_in a.arrays.now) a.outbox.now)

pub returns-in_default-command : goal.returns-in_default-command
returns-in_default-command c =
    let a = c.args in
    given-line a.s a.line.now (engine_in a.arrays.now) c.in-Some.ensures
    (c.obey.ensures (lends-not c.in-Some.command c.in_default-command.not-Lend a.line.now (lent_in (session_in a.s (engine_in a.arrays.now)))))

pub returns : goal.returns
returns c =
    let a = c.args in
    given-lent a.s a.line.now (engine_in a.arrays.now) c.in-Some.ensures c.in-Lend.is (c.lend.ensures (engine_in a.arrays.now) a.outbox.now)
