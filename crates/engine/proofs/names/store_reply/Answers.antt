-- The part that comes back is row i with another reply.
use native.Mathlib.Omega.{arith}
use Rattle.engine.proofs.NameRows as names
use Rattle.engine.proofs.names.store_reply.Goals as goal

pub returns : goal.returns
returns c =
    let s = c.args in
    λ n texts h g. names.reply-stored s.i s.numbers.now texts c.set_reply.new.row n s.reply h (omega arith) (omega arith) c.set_reply.ensures
