-- Row i is filled.
use native.Mathlib.Omega.{arith}
use Rattle.engine.proofs.NameRows as names
use Rattle.engine.proofs.names.put_over.Goals as goal

pub returns : goal.returns
returns c =
    names.put-over c.args.n c.args.i c.args.numbers.now c.args.texts.now (omega arith) (omega arith) _ (omega arith) (omega arith) c.filled.ensures
