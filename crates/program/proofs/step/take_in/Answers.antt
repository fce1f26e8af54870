-- `take_in` meets its contract: the line ends in the chunk, or goes on.
use Rattle.program.proofs.Taking.{takes}
use Rattle.program.proofs.step.take_in.Goals as goal

pub returns : goal.returns
returns c = λ ready. takes c.args.s ready.under ready.printed c.gather-event.ensures c.on_event-said.ensures c.used_by.ensures
