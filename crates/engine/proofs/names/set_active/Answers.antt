-- The reply as it is set, and one store more.
use native.Mathlib.Omega.{arith}
use Rattle.engine.proofs.NameRows as names
use Rattle.engine.proofs.names.set_active.Goals as goal

pub returns : goal.returns
returns c = names.with_length c.args.len (omega arith) c.set_reply.ensures
