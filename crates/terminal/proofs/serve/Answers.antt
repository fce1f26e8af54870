-- Nothing of a line is held, and nothing is due.
use Rattle.std.proofs.Common.{rules}
use Rattle.program.proofs.Handing as laws
use Rattle.terminal.proofs.serve.Goals as goal

pub read_all-last-requires : goal.read_all-last-requires
read_all-last-requires c =
    laws.ready_first _ _ _ _ c.start-start.ensures.2 c.start-start.ensures.3 (search rules) (search rules) (search rules)
