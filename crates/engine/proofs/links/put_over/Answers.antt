-- A row is replaced.
use Rattle.engine.proofs.LinkRows as links
use native.Mathlib.Omega.{arith}
use Rattle.engine.proofs.links.put_over.Goals as goal

pub returns : goal.returns
returns c =
    links.put-over c.args.n c.args.i c.args.links.now (omega arith) (omega arith) (omega arith) c.filled.ensures
