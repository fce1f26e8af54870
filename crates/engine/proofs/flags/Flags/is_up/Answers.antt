-- What `contains` says of the two flags.
use Rattle.engine.specs.Flags.{is_up}
use Rattle.engine.proofs.flags.Flags.is_up.Goals as goal

pub returns : goal.returns
unfolding is_up
returns c = cc (c.contains.ensures, c.contains-2.ensures)
