-- The names before the one looked at are all below the name.
use Prim.Native.Nat.{◌≤◌}
use lib.ListN.{drop}
use Rattle.engine.specs.Sizes.{advertisements_max}
use Rattle.engine.specs.Held.{advertised}
use Rattle.engine.specs.Arrays.{names_in}
use Rattle.engine.proofs.Tables as tables
use Rattle.engine.proofs.names.spot_of.Given as goal

abbrev pub invariant-loop-i : goal.invariant-loop-i
invariant-loop-i l = (l.n ≤ advertisements_max) × tables.Looking advertised l.name (names_in l.head l.numbers l.texts) l.i (drop l.i (names_in l.head l.numbers l.texts))
