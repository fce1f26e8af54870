-- The log of every list of the functions, as Lists has it.
use Rattle.claims.proofs.Lists.{functions-logged}
use Rattle.claims.proofs.each_has_a_log.Goals as goal

pub returns : goal.returns
returns c seed time = functions-logged seed time
