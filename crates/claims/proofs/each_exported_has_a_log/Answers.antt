-- The log of every list of the exported functions, as Lists has it.
use Rattle.claims.proofs.Lists.{exports-logged}
use Rattle.claims.proofs.each_exported_has_a_log.Goals as goal

pub returns : goal.returns
returns c seed time = exports-logged seed time
