-- The claim of every log of the exported functions, as Lists has it.
use Rattle.claims.proofs.Lists.{exports-claim}
use Rattle.claims.proofs.demand_three_exported.Goals as goal

pub returns : goal.returns
returns c seed time calls answers last log = exports-claim log
