-- The parts of the row.
use mathlib.Core.Bool.{not}
use lib.Dec.{eqb}
use lib.ListN.{get_or}
use Rattle.engine.specs.Held.{link_of}
use Rattle.engine.specs.Arrays.{link_in}
use Rattle.engine.proofs.links.link_in.Goals as goal

pub returns : goal.returns
unfolding link_of link_in
returns c = λ j. record { index = c.low_32.ensures j; up = not (eqb (get_or c.args.row.now 1 0) 0); addresses = c.addresses_in.ensures j }
