-- The rows were moved up, and the free one is filled.
use native.Mathlib.Omega.{arith}
use Rattle.engine.proofs.NameRows as names
use Rattle.engine.proofs.names.put_in.Goals as goal

pub returns : goal.returns
returns c =
    names.put_in c.args.n c.args.i c.args.numbers.now c.args.texts.now (omega arith) (omega arith) _ (omega arith) (omega arith) c.up.ensures c.up-2.ensures c.filled.ensures
