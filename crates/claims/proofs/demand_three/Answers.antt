-- The claim of every log of the functions, as Lists has it.
use Rattle.claims.proofs.Lists.{functions-claim}
use Rattle.claims.proofs.demand_three.Goals as goal

pub returns : goal.returns
returns c seed time calls answers last log = functions-claim log
