-- As Lists has it of the functions and of the exports.
use Rattle.claims.proofs.Lists.{functions-in-time, exports-in-time}
use Rattle.claims.proofs.due_inside_the_window.Goals as goal

pub returns : goal.returns
returns c = (functions-in-time, exports-in-time)
