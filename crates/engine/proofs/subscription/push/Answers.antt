-- The row behind the first n is filled.
use Prim.Native.Nat.{◌+◌, ◌*◌, ◌-◌}
use native.Mathlib.Omega.{arith}
use Rattle.engine.specs.Arrays.{search_width}
use Rattle.engine.proofs.SearchRows.{type-pushed}
use Rattle.engine.proofs.subscription.push.Goals as goal

pub returns : goal.returns
returns c =
    type-pushed c.args.searches.now c.set_service.new.row c.args.n (search_width * c.args.n + search_width - search_width * c.args.n) c.requires.0 (omega arith) (omega arith) (omega arith) c.set_service.ensures
